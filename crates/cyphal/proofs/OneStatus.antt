-- What is asked for has one status, where all that decides it is told: by each way in which a command ends.
use Rattle.std.proofs.Common.{◌≡◌, ◌∙◌, inl, inr, ℕ, true, ◌&&◌, ◌||◌, List, Option, Some, None, is_some, refl, sym, ap, subst}
use Rattle.clap.proofs.WalkLemmas.{both}
use Rattle.cy_outside.specs.Files.{Files}
use Rattle.dsdl_resolve.specs.Laws.{HaveOneAnswer}
use Rattle.dsdl_types.specs.Definitions.{IsNamespace}
use Rattle.dsdl_types.specs.declared.namespace.Namespace.{Namespace}
use Rattle.node_plan.specs.Laws.{OnePlan}
use Rattle.node_reach.specs.Buses.{bus_names}
use Rattle.node_run.specs.Compared.{compared, ended}
use Rattle.node_run.specs.Loaded.{is_none}
use Rattle.node_run.specs.NamedTypes.{message_named}
use Rattle.node_run.specs.Ran.{names_of}
use Rattle.node_run.specs.ValueLines.{Answering, Ends, HasOneStatus}
use Rattle.node_run.specs.declared.status.Status.{Status}
use Rattle.node_run.specs.declared.status.Status.TheVariants as status
use Rattle.type_changes.proofs.Whole as changes
use Rattle.type_versions.proofs.One.{one_answer}
use Rattle.value_lines.specs.Decoded.{Decodes}
use Rattle.value_lines.specs.Encoded.{Encodes}
use Rattle.cyphal.specs.Words.{Command, Compile, Compat, Versions, Changes, Encode, Decode, Run, Gen, Order, Survey, Nodes}
use Rattle.cyphal.specs.Job.{Told, Job}
use Rattle.cyphal.specs.LogEnds.{EndsAsLog}
use Rattle.cyphal.specs.Plans.{EndsAt}
use Rattle.cyphal.specs.jobs.{job_of}
use Rattle.cyphal.specs.jobs.Bound.{bounded}
use Rattle.cyphal.specs.jobs.Changes.{ChangesEnd, TellsChanges}
use Rattle.cyphal.specs.jobs.Compat.{Compares}
use Rattle.cyphal.specs.jobs.Compile.{Compiles}
use Rattle.cyphal.specs.jobs.Order.{EndsAsLines}
use Rattle.cyphal.specs.jobs.Run.{over}
use Rattle.cyphal.specs.jobs.Values.{AnswersLines}
use Rattle.cyphal.specs.jobs.Versions.{VersionsEnd, ComparesVersions}
use Rattle.cyphal.specs.Expected.{job_asked}
use Rattle.cyphal.proofs.Loaded.{Comes, loaded, Found, found_told, not_loaded, one}
use Rattle.cyphal.proofs.LogEnds.{one_log_end}
use Rattle.cyphal.proofs.Plans.{one_end}
use Rattle.cyphal.proofs.statuses.Order.{one_order}

-- a command has one status, where all that decides it is told
abbrev pub IsSingle : Job → Type 0
IsSingle job = (told : Told) (s t : Status) → job.is_told told ≡ true → job.expects told s → job.expects told t → s ≡ t

-- every namespace has layouts
abbrev laid_out : Namespace → Status → Type 0
laid_out names stat = stat ≡ status.Ok

-- a comparison ends so
abbrev compares : List ℕ → List ℕ → Namespace → Status → Type 0
compares new old names stat = stat ≡ compared names new old

-- and so do lines of values
abbrev answers_in : Answering → List ℕ → Told → Namespace → Status → Type 0
answers_in answers name told names stat = IsNamespace names × Ends answers (message_named names name) name told.input stat

-- a namespace's versions have one end
one_end_of_versions : (names : Namespace) (s t : Status) → VersionsEnd names s → VersionsEnd names t → s ≡ t
one_end_of_versions names s t a b = a.ends ∙ ap ended (one_answer names a.lines b.lines a.first b.first a.are b.are).1 ∙ sym b.ends

-- so has the comparison of two namespaces
one_end_of_changes : (olds news : Namespace) (s t : Status) → ChangesEnd olds news s → ChangesEnd olds news t → s ≡ t
one_end_of_changes olds news s t a b = a.ends ∙ ap ended (changes.one_answer olds news a.lines b.lines a.first b.first a.are b.are).1 ∙ sym b.ends

module _ (root : List ℕ) (told : Option Files) (f : Found root told) where
  comes_compiled : (stat : Status) → Compiles root told stat → Comes root laid_out f.found stat
  comes_compiled status.Ok c = loaded c.1.files c.0 (f.are c.1.files c.1.are) c.1.compiled refl
  comes_compiled (status.Dsdl path n w) c = not_loaded root laid_out told f (status.Dsdl path n w) refl c
  comes_compiled (status.NoFile path) c = not_loaded root laid_out told f (status.NoFile path) refl c
  comes_compiled other c = absurd c

  comes_compared : (new old : List ℕ) (stat : Status) → Compares root new old told stat → Comes root (compares new old) f.found stat
  comes_compared new old stat (h, inl n) = not_loaded root (compares new old) told f stat h n
  comes_compared new old stat (h, inr c) = loaded c.is.files c.names (f.are c.is.files c.is.are) c.is.compiled c.ends

  comes_to_versions : (stat : Status) → ComparesVersions root told stat → Comes root VersionsEnd f.found stat
  comes_to_versions stat (h, inl n) = not_loaded root VersionsEnd told f stat h n
  comes_to_versions stat (h, inr c) = loaded c.is.files c.names (f.are c.is.files c.is.are) c.is.compiled c.compared

module _ (old new : List ℕ) (told : Option Files) (f : Found old told) (g : Found new told) where
  -- what it comes to behind the old folder's namespace
  abbrev comes_behind : Namespace → Status → Type 0
  comes_behind olds stat = Comes new (ChangesEnd olds) g.found stat

  comes_to_changes : (stat : Status) → TellsChanges old new told stat → Comes old comes_behind f.found stat
  comes_to_changes stat (h, inl n) = not_loaded old comes_behind told f stat h n
  comes_to_changes stat (h, inr (inl n)) =
      loaded n.is_old.files n.olds (f.are n.is_old.files n.is_old.are) n.is_old.compiled (not_loaded new (ChangesEnd n.olds) told g stat h n.refused)
  comes_to_changes stat (h, inr (inr c)) = loaded c.is_old.files c.olds (f.are c.is_old.files c.is_old.are) c.is_old.compiled
      (loaded c.is_new.files c.news (g.are c.is_new.files c.is_new.are) c.is_new.compiled c.compared)

module _ (answers : Answering) (root name : List ℕ) (told : Told) where
  comes_answered : (f : Found root told.files) (stat : Status) → AnswersLines answers root name told stat → Comes root (answers_in answers name told) f.found stat
  comes_answered f stat (h, inl n) = not_loaded root (answers_in answers name told) told.files f stat h n
  comes_answered f stat (h, inr a) = loaded a.is.files a.names (f.are a.is.files a.is.are) a.is.compiled (a.rules, a.ends)

  one_answered : HasOneStatus answers → (bytes : List ℕ) → told.input ≡ Some bytes → (names : Namespace) (s t : Status)
      → answers_in answers name told names s → answers_in answers name told names t → s ≡ t
  one_answered law bytes e names s t x y =
      let at = λ (stat : Status) (r : answers_in answers name told names stat). subst (λ (o : Option (List ℕ)). Ends answers (message_named names name) name o stat) e r.1 in
      law names x.0 name bytes s t (at s x) (at t y)

told_bytes : (o : Option (List ℕ)) → is_some o ≡ true → (bytes : List ℕ) × (o ≡ Some bytes)
told_bytes None h = absurd cc
told_bytes (Some bytes) h = (bytes, refl)

module _ (laws : HaveOneAnswer × OnePlan) (encodes : HasOneStatus Encodes) (decodes : HasOneStatus Decodes) where
  -- by a root's namespace
  by_compiling : (root : List ℕ) (files : Option Files) (s t : Status) → (is_none root || is_some files) ≡ true → Compiles root files s → Compiles root files t → s ≡ t
  by_compiling root files s t h a b =
      let f = found_told (is_none root) root files refl h in
      one laws.0 root laid_out (λ names a b x y. x ∙ sym y) f.found s t (comes_compiled root files f s a) (comes_compiled root files f t b)

  by_comparing : (root new old : List ℕ) (files : Option Files) (s t : Status) → (is_none root || is_some files) ≡ true → Compares root new old files s → Compares root new old files t → s ≡ t
  by_comparing root new old files s t h a b =
      let f = found_told (is_none root) root files refl h in
      one laws.0 root (compares new old) (λ names a b x y. x ∙ sym y) f.found s t (comes_compared root files f new old s a) (comes_compared root files f new old t b)

  by_versions : (root : List ℕ) (files : Option Files) (s t : Status) → (is_none root || is_some files) ≡ true → ComparesVersions root files s → ComparesVersions root files t → s ≡ t
  by_versions root files s t h a b =
      let f = found_told (is_none root) root files refl h in
      one laws.0 root VersionsEnd one_end_of_versions f.found s t (comes_to_versions root files f s a) (comes_to_versions root files f t b)

  -- by the namespaces of two folders
  by_changes : (old new : List ℕ) (files : Option Files) (s t : Status) → ((is_none old || is_some files) && (is_none new || is_some files)) ≡ true
      → TellsChanges old new files s → TellsChanges old new files t → s ≡ t
  by_changes old new files s t h a b =
      let all = both (is_none old || is_some files) (is_none new || is_some files) h in
      let f = found_told (is_none old) old files refl all.0 in
      let g = found_told (is_none new) new files refl all.1 in
      one laws.0 old (comes_behind old new files f g) (λ olds. one laws.0 new (ChangesEnd olds) (one_end_of_changes olds) g.found) f.found s t
      (comes_to_changes old new files f g s a) (comes_to_changes old new files f g t b)

  -- by the lines of the input in it
  by_lines : (answers : Answering) → HasOneStatus answers → (root name : List ℕ) (told : Told) (s t : Status)
      → ((is_none root || is_some told.files) && is_some told.input) ≡ true → AnswersLines answers root name told s → AnswersLines answers root name told t → s ≡ t
  by_lines answers law root name told s t h a b =
      let all = both (is_none root || is_some told.files) (is_some told.input) h in
      let f = found_told (is_none root) root told.files refl all.0 in
      let input = told_bytes told.input all.1 in
      one laws.0 root (answers_in answers name told) (one_answered answers root name told law input.0 input.1) f.found s t
      (comes_answered answers root name told f s a) (comes_answered answers root name told f t b)

  -- by a plan
  by_plan : (root path : List ℕ) (files : Option Files) (s t : Status) → is_some files ≡ true → EndsAt bounded root path files s → EndsAt bounded root path files t → s ≡ t
  by_plan root path files s t h a b = one_end laws root path bounded (λ plan s t x y. x ∙ sym y) files h s t a b

  -- by a plan, and the log of the input
  by_running : (root path : List ℕ) (told : Told) (s t : Status) → (is_some told.files && is_some told.input) ≡ true
      → EndsAt (over told.input) root path told.files s → EndsAt (over told.input) root path told.files t → s ≡ t
  by_running root path told s t h a b =
      let all = both (is_some told.files) (is_some told.input) h in
      one_end laws root path (over told.input) (λ plan. one_log_end (names_of plan) told.input all.1) told.files all.0 s t a b

  -- by the log of the input, of these buses
  by_log : (names : List (List ℕ)) (input : Option (List ℕ)) (s t : Status) → is_some input ≡ true → EndsAsLog names input s → EndsAsLog names input t → s ≡ t
  by_log names input s t h a b = one_log_end names input h s t a b

  -- by the lines of the input
  by_order : (window : ℕ) (input : Option (List ℕ)) (s t : Status) → is_some input ≡ true → EndsAsLines window input s → EndsAsLines window input t → s ≡ t
  by_order window input s t h a b = one_order window input h s t a b

  -- a command whose status is decided as that of another needs no case of its own
  single : (command : Command) → IsSingle (job_of command)
  single (Compile root) told s t h a b = by_compiling root told.files s t h a b
  single (Compat root new old) told s t h a b = by_comparing root new old told.files s t h a b
  single (Versions root) told s t h a b = by_versions root told.files s t h a b
  single (Changes old new) told s t h a b = by_changes old new told.files s t h a b
  single (Encode root name) told s t h a b = by_lines Encodes encodes root name told s t h a b
  single (Decode root name) told s t h a b = by_lines Decodes decodes root name told s t h a b
  single (Run form root path) told s t h a b = by_running root path told s t h a b
  single (Gen number) told s t h a b = a ∙ sym b
  single (Order window) told s t h a b = by_order window told.input s t h a b
  single (Survey names) told s t h a b = by_log names told.input s t h a b
  single (Nodes names) told s t h a b = by_log names told.input s t h a b
  single other told s t h a b = search (by_log bus_names, by_plan, by_running, by_compiling)

  pub one_status : (command : Option Command) → IsSingle (job_asked command)
  one_status None told s t h a b = a ∙ sym b
  one_status (Some command) told s t h a b = single command told s t h a b
