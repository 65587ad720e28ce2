-- What a run over a generated log came to.
use Rattle.std.proofs.Common.{◌≡◌, ℕ, ◌⊎◌, List, Option, Some, None, true, false, map, reverse, [], ◌∷◌, ◌++◌, append_assoc, refl, sym, ap, ◌∙◌, subst, inl, inr, arith}
use Rattle.std.proofs.lemmas.List.{nil_from_length, reverse-reverse}
use Rattle.std.specs.Prelude.{MatchOption, IsSome}
use Rattle.std.specs.List.{list_any}
use Rattle.std.specs.Ordering.{nat_cmp}
use Rattle.std.specs.Cmp.Lexicographic.{slice_cmp}
use Rattle.std.specs.FinMap.{empty, entries, len-empty, len-entries}
use Rattle.cy_outside.specs.Files.{Files, has_clash, is_folder}
use Rattle.cy_outside.specs.Memory.{files_of}
use Rattle.cy_outside.specs.declared.file.File.{File}
use Rattle.cy_outside.specs.declared.never_tree.NeverTree.{NeverTree}
use Rattle.cy_outside.specs.Outside.{Rose}
use Rattle.frame_log.specs.Log.{Log, log_of}
use Rattle.frame_log.specs.declared.error.LogError.{LogError}
use Rattle.log_gen.specs.Rules.{log_text, plan_text}
use Rattle.log_gen.specs.Laws.{records_by, IsRead}
use Rattle.dsdl_types.specs.declared.namespace.Namespace.{Namespace}
use Rattle.node_plan.specs.Limit.{begins_two}
use Rattle.node_plan.specs.Laws.{OnePlan}
use Rattle.node_plan.specs.PlainPlan.{plan_of}
use Rattle.node_plan.specs.Plan.{Bad, Good, IsPlanOf, PlanIs}
use Rattle.node_plan.specs.declared.plan.Plan.{Plan}
use Rattle.node_plan.specs.declared.plan.PlanWhy.{PlanWhy}
use Rattle.node_core.specs.Laws.{NothingServed}
use Rattle.node_core.specs.Steps.{Met, end_numbers, numbers, steps, without_files}
use Rattle.node_core.proofs.Silence.{mute_keep_nothing}
use Rattle.node_core.proofs.Waits.{nothing_emptied}
use Rattle.node_run.specs.Generated.{GeneratedPlanIsRead, generated_plan, generated_numbers}
use Rattle.node_run.specs.Failures.{Failures}
use Rattle.node_run.specs.Forms.{Text}
use Rattle.node_run.specs.HasRun.{HasRun}
use Rattle.node_run.specs.Ran.{Reported, Ran, names_of, newest_first}
use Rattle.node_run.specs.ValueLines.{flow}
use Rattle.node_run.specs.declared.status.Status.{Status}
use Rattle.node_run.specs.declared.status.Status.TheVariants as status

-- in every namespace the plan's text is the plan's
pub is_plan : (names : Namespace) → plan_of names plan_text ≡ Good generated_plan
unfolding begins_two
is_plan names = refl

pub good_is : (p q : Plan) → Good p ≡ Good q → p ≡ q
good_is p q e = cc

-- so its text has no other meaning
pub only_plan : OnePlan → GeneratedPlanIsRead → (names : Namespace) (is : PlanIs) → IsPlanOf names plan_text is → is ≡ Good generated_plan
only_plan one read names is h = one names plan_text is (Good generated_plan) h (read names)

pub not_refused : (n : ℕ) (why : PlanWhy) → Bad n why ≡ Good generated_plan → ⊥
not_refused n why e = cc

-- its node sends nothing, so its numbers are those of the steps
same_numbers : (past : List Met) → end_numbers generated_plan (steps generated_plan past) ≡ numbers generated_plan (steps generated_plan past)
same_numbers past = (nothing_emptied generated_plan (steps generated_plan past) (mute_keep_nothing generated_plan past (record { silent = refl; no_service = refl })).1).1

-- a count that is always 0 doesn't rise
pub never : Rose 0 0 → ⊥
never rose = elim rose [ inl l ↦ omega arith | inr e ↦ omega arith ]

no_refusal : (e : LogError) → None ≡ Some e → ⊥
no_refusal e h = cc

-- where a log was read to its end and no fault came, all was run, or memory was wanting
only : (mets : List Met) (stat : Status) (r : Reported) (f : Failures) (before after : Option (List ℕ)) → Ran Text generated_plan mets None stat r f before after → (stat ≡ status.ReadFault → ⊥) → (stat ≡ status.WriteFault → ⊥) → (stat ≡ status.Ok) ⊎ (stat ≡ status.NoMemory)
only mets status.Ok r f before after h read write = inl refl
only mets status.Usage r f before after h read write = absurd h
only mets (status.Dsdl file line why) r f before after h read write = absurd h
only mets (status.Plan line why) r f before after h read write = absurd h
only mets (status.Log line why) r f before after h read write = absurd (no_refusal _ h.0)
only mets (status.Text line) r f before after h read write = absurd h
only mets (status.Unreadable line path why) r f before after h read write = absurd h
only mets (status.NotNewer path why) r f before after h read write = absurd h
only mets status.LogLong r f before after h read write = absurd (no_refusal _ h.0)
only mets (status.NoFile path) r f before after h read write = absurd h
only mets status.ReadFault r f before after h read write = absurd (read refl)
only mets status.WriteFault r f before after h read write = absurd (write refl)
only mets status.NoMemory r f before after h read write = inr refl

module _ (number : ℕ) (reads : IsRead number) (told : Option Files) (bytes : List ℕ) (are : bytes ≡ log_text number) (new before after : Option (List ℕ)) (stat : Status) (r : Reported) (f : Failures) where
  abbrev HasRunBy : Plan → Type 0
  HasRunBy plan = HasRun Text plan told (flow (Some bytes) new before after) stat r f

  abbrev whole : Log
  whole = record { records = reverse (records_by number); refusal = None }

  log_is : (h : HasRunBy generated_plan) → log_of (names_of generated_plan) h.bytes ≡ whole
  log_is h = ap (log_of (names_of generated_plan)) (h.is ∙ are) ∙ reads

  ran_whole : (h : HasRunBy generated_plan) → Ran Text generated_plan h.mets None stat r f before after
  ran_whole h = subst (λ (log : Log). Ran Text generated_plan h.mets log.refusal stat r f before after) (log_is h) h.ran

  -- no file was asked for
  mets_are : NothingServed → (h : HasRunBy generated_plan) → h.mets ≡ without_files (records_by number)
  mets_are nothing h =
      nothing told generated_plan h.mets refl h.served
      ∙ ap without_files (h.of_log ∙ (ap newest_first (log_is h) ∙ reverse-reverse (records_by number)))

  module _ (plan : Plan) (is : plan ≡ generated_plan) (h : HasRunBy plan) where
    there : HasRunBy generated_plan
    there = subst HasRunBy is h

    -- where all was run, the numbers are those of the log
    pub all_run : NothingServed → stat ≡ status.Ok → r.numbers ≡ generated_numbers number
    all_run nothing e =
        let ok : Ran Text generated_plan there.mets None status.Ok r f before after = subst (λ (s : Status). Ran Text generated_plan there.mets None s r f before after) e (ran_whole there) in
        ok.1.at.counted ∙ (same_numbers there.mets ∙ ap (λ (mets : List Met). numbers generated_plan (steps generated_plan mets)) (mets_are nothing there))

    -- and that, or want of memory, is all that can come
    pub either : (stat ≡ status.ReadFault → ⊥) → (stat ≡ status.WriteFault → ⊥) → (stat ≡ status.Ok) ⊎ (stat ≡ status.NoMemory)
    either read write = only there.mets stat r f before after (ran_whole there) read write

no_entries : entries (empty {X = List ℕ} {R = slice_cmp nat_cmp}) ≡ []
no_entries = nil_from_length _ (sym (len-entries _) ∙ len-empty (slice_cmp nat_cmp) (List ℕ))

no_clash : false ≡ true → ⊥
no_clash e = cc

-- a tree of no files has no path that is a folder and a file
pub some_tree : (tree : Option NeverTree) (files : List File) → files ≡ [] → MatchOption tree (has_clash (files_of files) ≡ true) (λ (t : NeverTree). t.files ≡ files) → IsSome tree
some_tree None files e h =
    let none : has_clash (files_of []) ≡ false = ap (λ es. list_any (is_folder (files_of [])) (map (λ e. e.0) es)) no_entries in
    let clash : has_clash (files_of []) ≡ true = subst (λ (fs : List File). has_clash (files_of fs) ≡ true) e h in absurd (no_clash (sym none ∙ clash))
some_tree (Some t) files e h = refl

-- seven pieces and a newline that are put one after the other
pub seven_pieces : (a b c d e f g h : List ℕ) {i : List ℕ} (o p q r s t u : List ℕ) → a ≡ [] → b ≡ a ++ o → c ≡ b ++ p → d ≡ c ++ q → e ≡ d ++ r → f ≡ e ++ s → g ≡ f ++ t → h ≡ g ++ u → i ≡ h ++ 10 ∷ []
    → i ≡ o ++ (p ++ (q ++ (r ++ (s ++ (t ++ (u ++ 10 ∷ []))))))
seven_pieces a b c d e f g h {i} o p q r s t u ea eb ec ed ee ef eg eh ei =
    let all : i ≡ ((((((([] ++ o) ++ p) ++ q) ++ r) ++ s) ++ t) ++ u) ++ 10 ∷ [] = cc in all ∙ simp append_assoc
