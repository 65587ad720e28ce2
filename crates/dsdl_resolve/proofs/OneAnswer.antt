-- Files have one answer
use Rattle.std.proofs.Common.{◌≡◌, ℕ, zero, suc, ◌+◌, ◌-◌, ◌<◌, ◌≤◌, List, [], ◌∷◌, ◌++◌, length, get_or, map, Option, Some, None, Result, Ok, Err, ◌⊎◌, inl, inr, refl, sym, ap, ◌∙◌, subst, arith, zero-add}
use Rattle.std.specs.Prelude.{slice_get}
use Rattle.std.specs.List.{All}
use Rattle.std.proofs.lemmas.Bool.{cases_order, cases_lt}
use Rattle.std.proofs.lemmas.List.{length-map}
use Rattle.std.proofs.lemmas.List.Elements.{All-cons}
use Rattle.std.proofs.lemmas.Option.{slice_get-get_or}
use Rattle.dsdl_clash.specs.Clashes.{Clash, first_clash, versions_clash, ports_clash}
use Rattle.dsdl_clash.proofs.ClashLemmas.{first_within}
use Rattle.dsdl_files.specs.declared.file.DsdlFile.{DsdlFile}
use Rattle.dsdl_links.specs.Laws.{HaveOneMeaning, HaveOneOrder}
use Rattle.dsdl_links.specs.Links.{AreLinks, IsUnresolved}
use Rattle.dsdl_links.proofs.Placing.{links_within}
use Rattle.dsdl_links.specs.Order.{IsOrder, IsCycle}
use Rattle.dsdl_names.specs.Names.{file_name_of}
use Rattle.dsdl_names.specs.declared.FileName.{FileName}
use Rattle.dsdl_names.specs.declared.NameError.{NameError}
use Rattle.dsdl_parse.specs.Ast.{IsParsedOneWay, FirstBad, IsAst}
use Rattle.dsdl_parse.specs.declared.statement.Statement.{Statement}
use Rattle.dsdl_types.specs.declared.definition.Definition.{Definition}
use Rattle.dsdl_types.specs.declared.namespace.Namespace.{Namespace}
use Rattle.dsdl_types.specs.declared.namespace.Print.{Print}
use Rattle.dsdl_resolve.specs.Laws.{HasNamespace, HasRefusal, HaveOneAnswer}
use Rattle.dsdl_resolve.specs.Passes.{first_past_limit, AreWithinLimits, IsTooBig, Pass, NameRefuses, SyntaxRefuses, Passes, IsFirst, path_at, ArePassed, IsUnresolvedAt, AreLinked, IsCycleAt, AreOrdered, StopsAt, AreValued, ClashesAt, definitions_of, FirstRefusal, too_big, name, syntax, unresolved, cycle, valuing, version, port, Compiled}
use Rattle.dsdl_resolve.specs.Reads.{Read, IsRead, AreRead, sources_of}
use Rattle.dsdl_resolve.specs.Valuing.{Done, Stop, valued, valued_behind, with_file, with_outcome, with_done, outcome_behind, prints_of}
use Rattle.dsdl_resolve.specs.declared.outcome.Outcome.{Outcome}
use Rattle.dsdl_resolve.specs.declared.outcome.Refused.{Refused}
use Rattle.dsdl_resolve.specs.declared.why.DsdlWhy.{DsdlWhy}
use Rattle.dsdl_resolve.specs.declared.why.DsdlWhy.TheVariants as cause
use Rattle.dsdl_resolve.proofs.Clear.{name_clear, read_clear}
use Rattle.dsdl_resolve.proofs.Lists.{all_at, zip_all}
use Rattle.dsdl_resolve.proofs.Rereading.{source_count}
use Rattle.dsdl_resolve.proofs.Resolving.{one_reads, unresolved_within, link_count, definition_count, all_within}

-- ---- the first file that a pass refuses
record Stands {X : Type 0} (xs before : List X) (at : X) : Type 0 where
  behind : List X
  parts : xs ≡ before ++ at ∷ behind

-- of two elements of a list one stands before the other, or they are one
between : {X : Type 0} (a b c d : List X) (x y : X) → a ++ x ∷ c ≡ b ++ y ∷ d → ((a ≡ b) × (x ≡ y)) ⊎ (Stands b a x ⊎ Stands a b y)
between [] [] c d x y e = inl (refl, cc)
between [] (z ∷ b) c d x y e = let same : x ≡ z = cc in inr (inl (record { behind = b; parts = ap (λ w. w ∷ b) (sym same) }))
between (z ∷ a) [] c d x y e = let same : y ≡ z = cc in inr (inr (record { behind = a; parts = ap (λ w. w ∷ a) (sym same) }))
between (u ∷ a) (v ∷ b) c d x y e =
    let head : u ≡ v = cc in
    let tail : a ++ x ∷ c ≡ b ++ y ∷ d = cc in
    elim (between a b c d x y tail) [
      | inl (p, q) ↦ inl ((cc), q)
      | inr (inl s) ↦ inr (inl (record { behind = s.behind; parts = ap (λ w. w ∷ b) (sym head) ∙ ap (λ l. u ∷ l) s.parts }))
      | inr (inr s) ↦ inr (inr (record { behind = s.behind; parts = ap (λ w. w ∷ a) head ∙ ap (λ l. v ∷ l) s.parts }))
    ]

stands_clear : {X : Type 0} (P : X → Type 0) (xs before : List X) (at : X) → All P xs → Stands xs before at → P at
stands_clear P xs before at all s = all_at P before at s.behind (subst (All P) s.parts all)

-- a pass refuses a file at one line for one cause
abbrev IsOne : Pass → Type 0
IsOne refuses = (f : DsdlFile) (m n : ℕ) (v w : DsdlWhy) → refuses f m v → refuses f n w → (m ≡ n) × (v ≡ w)

-- a file is refused by a pass, or not
abbrev IsDecided : Pass → Type 0
IsDecided refuses = (f : DsdlFile) → Passes refuses f ⊎ ((line : ℕ) × (why : DsdlWhy) × refuses f line why)

-- a first refusal of files
abbrev Refusal : (List ℕ → ℕ → DsdlWhy → Type 0) → Type 0
Refusal P = (path : List ℕ) × (line : ℕ) × (why : DsdlWhy) × P path line why

none_pass : (refuses : Pass) → All (Passes refuses) []
none_pass refuses k d lt = absurd (omega arith)

module _ (refuses : Pass) where
  first_clear : (files : List DsdlFile) (p : List ℕ) (m : ℕ) (v : DsdlWhy) → All (Passes refuses) files → IsFirst refuses files p m v → ⊥
  first_clear files p m v all h = all_at (Passes refuses) h.before h.file h.behind (subst (All (Passes refuses)) h.parts all) m v h.refused

  one_first : IsOne refuses → (files : List DsdlFile) (p q : List ℕ) (m n : ℕ) (v w : DsdlWhy) → IsFirst refuses files p m v → IsFirst refuses files q n w → (p ≡ q) × (m ≡ n) × (v ≡ w)
  one_first one files p q m n v w h k = elim (between h.before k.before h.behind k.behind h.file k.file (sym h.parts ∙ k.parts)) [
    | inl (_, same) ↦ (
      h.named ∙ ap (λ (f : DsdlFile). f.path) same ∙ sym k.named,
      (one k.file m n v w (subst (λ f. refuses f m v) same h.refused) k.refused).0,
      (one k.file m n v w (subst (λ f. refuses f m v) same h.refused) k.refused).1,
    )
    | inr (inl s) ↦ absurd (stands_clear (Passes refuses) k.before h.before h.file k.earlier s m v h.refused)
    | inr (inr s) ↦ absurd (stands_clear (Passes refuses) h.before k.before k.file h.earlier s n w k.refused)
  ]

  all_or_first : IsDecided refuses → (files : List DsdlFile) → All (Passes refuses) files ⊎ Refusal (IsFirst refuses files)
  all_or_first decided [] = inl (none_pass refuses)
  all_or_first decided (f ∷ files) = at (decided f) (all_or_first decided files)
    where
      at : Passes refuses f ⊎ ((line : ℕ) × (why : DsdlWhy) × refuses f line why) → All (Passes refuses) files ⊎ Refusal (IsFirst refuses files) → All (Passes refuses) (f ∷ files) ⊎ Refusal (IsFirst refuses (f ∷ files))
      at (inr (line, why, r)) rest = inr (f.path, line, why, record { before = []; file = f; behind = files; parts = refl; named = refl; refused = r; earlier = none_pass refuses })
      at (inl passes) (inl all) = inl (All-cons (Passes refuses) f files passes all)
      at (inl passes) (inr (path, line, why, h)) = inr (
        path,
        line,
        why,
        record {
          before = f ∷ h.before;
          file = h.file;
          behind = h.behind;
          parts = ap (λ l. f ∷ l) h.parts;
          named = h.named;
          refused = h.refused;
          earlier = All-cons (Passes refuses) f h.before passes h.earlier;
        },
      )

same_some : {A : Type 0} (o : Option A) (a b : A) → o ≡ Some a → o ≡ Some b → a ≡ b
same_some o a b h k = let e : Some a ≡ Some b = sym h ∙ k in cc

no_some : {A : Type 0} (o : Option A) (a : A) → o ≡ None → o ≡ Some a → ⊥
no_some o a e f = cc

one_error : (a b : NameError) → ◌≡◌ {A = Result FileName NameError} (Err a) (Err b) → a ≡ b
one_error a b e = cc

one_name : IsOne NameRefuses
one_name f m n v w (a, p, q, r) (b, s, t, u) = (r ∙ sym u, q ∙ ap cause.Name (one_error a b (sym p ∙ s)) ∙ sym t)

name_decided : IsDecided NameRefuses
name_decided f = at (file_name_of f.path) refl
  where
    at : (r : Result FileName NameError) → file_name_of f.path ≡ r → Passes NameRefuses f ⊎ ((line : ℕ) × (why : DsdlWhy) × NameRefuses f line why)
    at (Ok n) e = inl (name_clear f n e)
    at (Err error) e = inr (0, cause.Name error, (error, e, refl, refl))

-- ---- numbers and paths
path_within : (files : List DsdlFile) (n : ℕ) → n < length files → (path : List ℕ) × (path_at files n ≡ Some path)
path_within files n lt =
    let paths = map (λ (f : DsdlFile). f.path) files in
    (get_or paths n [], slice_get-get_or paths n [] (omega (arith, length-map files (λ (f : DsdlFile). f.path))))

-- where valuing stops is one of the files that are valued
one_stop : (a b : Stop) → ◌≡◌ {A = Result (List Done) Stop} (Err a) (Err b) → a ≡ b
one_stop a b e = cc

stop_at : (reads : List Read) (order : List ℕ) (stop : Stop) (n k : ℕ) (done : List Done) (r : Result Outcome Refused) → k < n → ((more : List Done) → valued_behind reads more order ≡ Err stop → stop.number < n) →
    with_outcome (λ more. valued_behind reads more order) done k r ≡ Err stop → stop.number < n
stop_at reads order stop n k done (Ok o) lt rest f = rest (with_done done k o) f
stop_at reads order stop n k done (Err refused) lt rest f =
    let here : Stop = record { number = k; refused = refused } in
    subst (λ x. x < n) (ap (λ (x : Stop). x.number) (one_stop here stop f)) lt

stop_read : (reads : List Read) (order : List ℕ) (stop : Stop) (n k : ℕ) (done : List Done) (r : Option Read) → k < n → ((more : List Done) → valued_behind reads more order ≡ Err stop → stop.number < n) →
    with_file (λ more. valued_behind reads more order) (sources_of reads) done k r ≡ Err stop → stop.number < n
stop_read reads order stop n k done None lt rest f = rest done f
stop_read reads order stop n k done (Some r) lt rest f = stop_at reads order stop n k done (outcome_behind (sources_of reads) done r) lt rest f

stop_within : (reads : List Read) (stop : Stop) (n : ℕ) (order : List ℕ) → All (λ k. k < n) order → (done : List Done) → valued_behind reads done order ≡ Err stop → stop.number < n
stop_within reads stop n [] within done e = absurd (cc)
stop_within reads stop n (k ∷ order) within done e =
    stop_read reads order stop n k done (slice_get reads k) (within 0 k (omega arith)) (stop_within reads stop n order (λ i d lt. within (suc i) d (omega arith))) e

-- ---- the passes by their numbers: the first so many refuse nothing
abbrev Clear : ℕ → List DsdlFile → Type 0
Clear zero files = Unit {0}
Clear (suc zero) files = AreWithinLimits files
Clear (suc (suc zero)) files = AreWithinLimits files × All (Passes NameRefuses) files
Clear (suc (suc (suc zero))) files = (reads : List Read) × ArePassed files reads
Clear (suc (suc (suc (suc zero)))) files = (reads : List Read) × (links : List (List ℕ)) × AreLinked files reads links
Clear (suc (suc (suc (suc (suc zero))))) files = (reads : List Read) × (order : List ℕ) × AreOrdered files reads order
Clear (suc (suc (suc (suc (suc (suc zero)))))) files = (done : List Done) × AreValued files done
Clear (suc (suc (suc (suc (suc (suc (suc zero))))))) files = (done : List Done) × AreValued files done × (first_clash versions_clash (definitions_of files done) ≡ None)
Clear (suc (suc (suc (suc (suc (suc (suc (suc n)))))))) files =
    (done : List Done) × AreValued files done × (first_clash versions_clash (definitions_of files done) ≡ None) × (first_clash ports_clash (definitions_of files done) ≡ None)

-- a pass refuses a file, and those before it refuse nothing
abbrev At : ℕ → List DsdlFile → List ℕ → ℕ → DsdlWhy → Type 0
At zero files path line why = IsTooBig files path line why
At (suc zero) files path line why = AreWithinLimits files × IsFirst NameRefuses files path line why
At (suc (suc zero)) files path line why = AreWithinLimits files × All (Passes NameRefuses) files × IsFirst SyntaxRefuses files path line why
At (suc (suc (suc zero))) files path line why = (reads : List Read) × ArePassed files reads × IsUnresolvedAt files (sources_of reads) path line why
At (suc (suc (suc (suc zero)))) files path line why = (reads : List Read) × (links : List (List ℕ)) × AreLinked files reads links × IsCycleAt files links path line why
At (suc (suc (suc (suc (suc zero))))) files path line why = (reads : List Read) × (order : List ℕ) × AreOrdered files reads order × StopsAt files reads order path line why
At (suc (suc (suc (suc (suc (suc zero)))))) files path line why = (done : List Done) × AreValued files done × ClashesAt versions_clash cause.VersionClash files (definitions_of files done) path line why
At (suc (suc (suc (suc (suc (suc (suc zero))))))) files path line why =
    (done : List Done) × AreValued files done × (first_clash versions_clash (definitions_of files done) ≡ None) × ClashesAt ports_clash cause.PortClash files (definitions_of files done) path line why
At (suc (suc (suc (suc (suc (suc (suc (suc n)))))))) files path line why = ⊥

place_of : {files : List DsdlFile} {path : List ℕ} {line : ℕ} {why : DsdlWhy} → FirstRefusal files path line why → (n : ℕ) × At n files path line why
place_of (too_big h) = (0, h)
place_of (name w h) = (1, (w, h))
place_of (syntax w n h) = (2, (w, n, h))
place_of (unresolved reads p h) = (3, (reads, p, h))
place_of (cycle reads links l h) = (4, (reads, links, l, h))
place_of (valuing reads order o h) = (5, (reads, order, o, h))
place_of (version done v h) = (6, (done, v, h))
place_of (port done v n h) = (7, (done, v, n, h))

refusal_of : (n : ℕ) {files : List DsdlFile} {path : List ℕ} {line : ℕ} {why : DsdlWhy} → At n files path line why → FirstRefusal files path line why
refusal_of zero h = too_big h
refusal_of (suc zero) (w, h) = name w h
refusal_of (suc (suc zero)) (w, n, h) = syntax w n h
refusal_of (suc (suc (suc zero))) (reads, p, h) = unresolved reads p h
refusal_of (suc (suc (suc (suc zero)))) (reads, links, l, h) = cycle reads links l h
refusal_of (suc (suc (suc (suc (suc zero))))) (reads, order, o, h) = valuing reads order o h
refusal_of (suc (suc (suc (suc (suc (suc zero)))))) (done, v, h) = version done v h
refusal_of (suc (suc (suc (suc (suc (suc (suc zero))))))) (done, v, n, h) = port done v n h
refusal_of (suc (suc (suc (suc (suc (suc (suc (suc n)))))))) h = absurd h

-- what is refused at a pass has passed those before it
before : (n : ℕ) (files : List DsdlFile) (path : List ℕ) (line : ℕ) (why : DsdlWhy) → At n files path line why → Clear n files
before zero files path line why h = tt
before (suc zero) files path line why (w, h) = w
before (suc (suc zero)) files path line why (w, n, h) = (w, n)
before (suc (suc (suc zero))) files path line why (reads, p, h) = (reads, p)
before (suc (suc (suc (suc zero)))) files path line why (reads, links, l, h) = (reads, links, l)
before (suc (suc (suc (suc (suc zero))))) files path line why (reads, order, o, h) = (reads, order, o)
before (suc (suc (suc (suc (suc (suc zero)))))) files path line why (done, v, h) = (done, v)
before (suc (suc (suc (suc (suc (suc (suc zero))))))) files path line why (done, v, n, h) = (done, v, n)
before (suc (suc (suc (suc (suc (suc (suc (suc n)))))))) files path line why h = absurd h

down : (n : ℕ) (files : List DsdlFile) → Clear (suc n) files → Clear n files
down zero files h = tt
down (suc zero) files h = h.0
down (suc (suc zero)) files (reads, p) = (p.within, zip_all IsRead (Passes NameRefuses) (λ f r h. name_clear f r.name h.named) files reads p.read)
down (suc (suc (suc zero))) files (reads, links, l) = (reads, l.passed)
down (suc (suc (suc (suc zero)))) files (reads, order, o) = (reads, o.links, o.linked)
down (suc (suc (suc (suc (suc zero))))) files (done, v) = (v.reads, v.order, v.ordered)
down (suc (suc (suc (suc (suc (suc zero)))))) files (done, v, n) = (done, v)
down (suc (suc (suc (suc (suc (suc (suc zero))))))) files (done, v, n, m) = (done, v, n)
down (suc (suc (suc (suc (suc (suc (suc (suc n)))))))) files h = h

further_down : (k n : ℕ) (files : List DsdlFile) → Clear (k + n) files → Clear n files
further_down zero n files h = subst (λ m. Clear m files) (zero-add n) h
further_down (suc k) n files h = let e : suc k + n ≡ suc (k + n) = omega arith in further_down k n files (down (k + n) files (subst (λ m. Clear m files) e h))

eight_more : (n : ℕ) → 8 ≤ n → suc (suc (suc (suc (suc (suc (suc (suc (n - 8)))))))) ≡ n
eight_more n le = omega arith

module _ (law : IsParsedOneWay) (meaning : HaveOneMeaning) (ordering : HaveOneOrder) where
  one_syntax : IsOne SyntaxRefuses
  one_syntax f m n v w (a, p) (b, q) = (law.one_place f.text m n a b, p ∙ sym q)

  -- ---- what the passes leave is one
  module _ (files : List DsdlFile) where
    same_linked : (r s : List Read) (a b : List (List ℕ)) → AreLinked files r a → AreLinked files s b → (r ≡ s) × (a ≡ b)
    same_linked r s a b h k =
        let same = one_reads law files r s h.passed.read k.passed.read in
        (same, meaning.one_links (sources_of s) a b (subst (λ l. AreLinks (sources_of l) a) same h.linked) k.linked)

    same_ordered : (r s : List Read) (a b : List ℕ) → AreOrdered files r a → AreOrdered files s b → (r ≡ s) × (a ≡ b)
    same_ordered r s a b h k =
        let same = same_linked r s h.links k.links h.linked k.linked in
        (same.0, ordering.one_order k.links a b (subst (λ l. IsOrder l a) same.1 h.ordered) k.ordered)

    one_done : (a b : List Done) → ◌≡◌ {A = Result (List Done) Stop} (Ok a) (Ok b) → a ≡ b
    one_done a b e = cc

    same_valued : (a b : List Done) → AreValued files a → AreValued files b → a ≡ b
    same_valued a b h k =
        let same = same_ordered h.reads k.reads h.order k.order h.ordered k.ordered in
        one_done a b (sym h.valued_all ∙ ap (λ r. valued r h.order) same.0 ∙ ap (valued k.reads) same.1 ∙ k.valued_all)

    same_path : (m n : ℕ) (p q : List ℕ) → m ≡ n → path_at files m ≡ Some p → path_at files n ≡ Some q → p ≡ q
    same_path m n p q e f g = same_some (path_at files n) p q (ap (path_at files) (sym e) ∙ f) g

    same_clash : (clash : Clash) (because : DsdlWhy) (a b : List Definition) (p q : List ℕ) (m n : ℕ) (v w : DsdlWhy) → a ≡ b → ClashesAt clash because files a p m v → ClashesAt clash because files b q n w → (p ≡ q) × (m ≡ n) × (v ≡ w)
    same_clash clash because a b p q m n v w e h k =
        let same = same_some (first_clash clash b) h.file k.file (ap (first_clash clash) (sym e) ∙ h.first) k.first in
        (same_path h.file k.file p q same h.named k.named, h.no_line ∙ sym k.no_line, h.is ∙ sym k.is)

    -- ---- each pass refuses one file
    one_at : (n : ℕ) (p q : List ℕ) (i j : ℕ) (v w : DsdlWhy) → At n files p i v → At n files q j w → (p ≡ q) × (i ≡ j) × (v ≡ w)
    one_at zero p q i j v w h k = (same_some (first_past_limit files) p q h.first k.first, h.no_line ∙ sym k.no_line, h.is ∙ sym k.is)
    one_at (suc zero) p q i j v w (_, h) (_, k) = one_first NameRefuses one_name files p q i j v w h k
    one_at (suc (suc zero)) p q i j v w (_, _, h) (_, _, k) = one_first SyntaxRefuses one_syntax files p q i j v w h k
    one_at (suc (suc (suc zero))) p q i j v w (r, a, h) (s, b, k) =
        let same = one_reads law files r s a.read b.read in
        let one = meaning.one_unresolved (sources_of s) h.file k.file i j h.id k.id (subst (λ l. IsUnresolved (sources_of l) h.file i h.id) same h.first) k.first in
        (same_path h.file k.file p q one.0 h.named k.named, one.1, h.is ∙ ap cause.Unresolved one.2 ∙ sym k.is)
    one_at (suc (suc (suc (suc zero)))) p q i j v w (r, a, x, h) (s, b, y, k) =
        let same = (same_linked r s a b x y).1 in
        let one = ordering.one_cycle b h.file k.file (subst (λ l. IsCycle l h.file) same h.first) k.first in
        (same_path h.file k.file p q one h.named k.named, h.no_line ∙ sym k.no_line, h.is ∙ sym k.is)
    one_at (suc (suc (suc (suc (suc zero))))) p q i j v w (r, a, x, h) (s, b, y, k) =
        let same = same_ordered r s a b x y in
        let here : Stop = record { number = h.file; refused = record { line = i; why = v } } in
        let there : Stop = record { number = k.file; refused = record { line = j; why = w } } in
        let one : here ≡ there = one_stop here there (sym h.stopped ∙ ap (λ l. valued l a) same.0 ∙ ap (valued s) same.1 ∙ k.stopped) in
        (same_path h.file k.file p q (ap (λ (z : Stop). z.number) one) h.named k.named, ap (λ (z : Stop). z.refused.line) one, ap (λ (z : Stop). z.refused.why) one)
    one_at (suc (suc (suc (suc (suc (suc zero)))))) p q i j v w (a, x, h) (b, y, k) =
        same_clash versions_clash cause.VersionClash (definitions_of files a) (definitions_of files b) p q i j v w (ap (definitions_of files) (same_valued a b x y)) h k
    one_at (suc (suc (suc (suc (suc (suc (suc zero))))))) p q i j v w (a, x, _, h) (b, y, _, k) =
        same_clash ports_clash cause.PortClash (definitions_of files a) (definitions_of files b) p q i j v w (ap (definitions_of files) (same_valued a b x y)) h k
    one_at (suc (suc (suc (suc (suc (suc (suc (suc n)))))))) p q i j v w h k = absurd h

    -- ---- a pass that refuses nothing refuses no file
    no_result : (a : List Done) (b : Stop) (r : Result (List Done) Stop) → r ≡ Ok a → r ≡ Err b → ⊥
    no_result a b r e f = cc

    not_at : (n : ℕ) (path : List ℕ) (line : ℕ) (why : DsdlWhy) → Clear (suc n) files → At n files path line why → ⊥
    not_at zero path line why h k = no_some (first_past_limit files) path h k.first
    not_at (suc zero) path line why (_, h) (_, k) = first_clear NameRefuses files path line why h k
    not_at (suc (suc zero)) path line why (reads, p) (_, _, k) = first_clear SyntaxRefuses files path line why (zip_all IsRead (Passes SyntaxRefuses) (read_clear law) files reads p.read) k
    not_at (suc (suc (suc zero))) path line why (r, links, l) (s, p, k) =
        let same = one_reads law files r s l.passed.read p.read in
        meaning.not_both (sources_of s) links (subst (λ x. AreLinks (sources_of x) links) same l.linked) (k.file, line, k.id, k.first)
    not_at (suc (suc (suc (suc zero)))) path line why (r, order, o) (s, links, l, k) =
        ordering.not_both links (order, subst (λ x. IsOrder x order) (same_linked r s o.links links o.linked l).1 o.ordered) (k.file, k.first)
    not_at (suc (suc (suc (suc (suc zero))))) path line why (done, v) (s, order, o, k) =
        let same = same_ordered v.reads s v.order order v.ordered o in
        no_result done (record { number = k.file; refused = record { line = line; why = why } }) (valued s order) (ap (λ l. valued l order) (sym same.0) ∙ ap (valued v.reads) (sym same.1) ∙ v.valued_all) k.stopped
    not_at (suc (suc (suc (suc (suc (suc zero)))))) path line why (a, v, none) (b, u, k) =
        no_some (first_clash versions_clash (definitions_of files b)) k.file (ap (λ d. first_clash versions_clash (definitions_of files d)) (sym (same_valued a b v u)) ∙ none) k.first
    not_at (suc (suc (suc (suc (suc (suc (suc zero))))))) path line why (a, v, _, none) (b, u, _, k) =
        no_some (first_clash ports_clash (definitions_of files b)) k.file (ap (λ d. first_clash ports_clash (definitions_of files d)) (sym (same_valued a b v u)) ∙ none) k.first
    not_at (suc (suc (suc (suc (suc (suc (suc (suc n)))))))) path line why h k = k

    later : (m n : ℕ) (path : List ℕ) (line : ℕ) (why : DsdlWhy) → m < n → Clear n files → At m files path line why → ⊥
    later m n path line why lt h k =
        let e : n ≡ (n - suc m) + suc m = omega arith in not_at m path line why (further_down (n - suc m) (suc m) files (subst (λ x. Clear x files) e h)) k

    one_refusal : (p q : List ℕ) (i j : ℕ) (v w : DsdlWhy) → FirstRefusal files p i v → FirstRefusal files q j w → (p ≡ q) × (i ≡ j) × (v ≡ w)
    one_refusal p q i j v w h k =
        let (m, a) = place_of h in
        let (n, b) = place_of k in
        elim (cases_order m n) [
          | inl e ↦ one_at n p q i j v w (subst (λ x. At x files p i v) e a) b
          | inr (inl lt) ↦ absurd (later m n p i v lt (before n files q j w b) a)
          | inr (inr lt) ↦ absurd (later n m q j w lt (before m files p i v a) b)
        ]

    compiled_clear : (names : Namespace) → Compiled files names → Clear 8 files
    compiled_clear names c = (c.done, c.valued_all, ap (first_clash versions_clash) (sym c.definitions) ∙ c.versions, ap (first_clash ports_clash) (sym c.definitions) ∙ c.ports)

    not_refused : (path : List ℕ) (line : ℕ) (why : DsdlWhy) (n : ℕ) → At n files path line why → Clear 8 files → ⊥
    not_refused path line why n a c = elim (cases_lt n 8) [
      | inl lt ↦ later n 8 path line why lt c a
      | inr le ↦ subst (λ x. At x files path line why → ⊥) (eight_more n le) (λ k. k) a
    ]

    never_both : HasNamespace files → HasRefusal files → ⊥
    never_both (names, c) (path, line, why, h) =
        not_refused path line why (place_of h).0 (place_of h).1 (compiled_clear names c)

    one_namespace : (a b : Namespace) → Compiled files a → Compiled files b → a ≡ b
    one_namespace a b h k =
        let same = same_valued h.done k.done h.valued_all k.valued_all in
        let of : List Definition → List Print → Namespace = λ ds prints. record { definitions = ds; prints = prints } in
        ap (λ l. of l a.prints) (h.definitions ∙ ap (definitions_of files) same ∙ sym k.definitions) ∙ ap (of b.definitions) (h.prints ∙ ap prints_of same ∙ sym k.prints)

    -- ---- one pass more
    abbrev Next : ℕ → Type 0
    Next n = Clear (suc n) files ⊎ Refusal (At n files)

    sizes_next : (o : Option (List ℕ)) → first_past_limit files ≡ o → Next 0
    sizes_next None e = inl e
    sizes_next (Some path) e = inr (path, 0, cause.TooBig, record { first = e; no_line = refl; is = refl })

    names_next : Clear 1 files → Next 1
    names_next w = elim (all_or_first NameRefuses name_decided files) [ inl all ↦ inl (w, all) | inr (path, line, why, h) ↦ inr (path, line, why, (w, h)) ]

    syntax_decided : IsDecided SyntaxRefuses
    syntax_decided f = elim (law.either f.text) [
      | inl (ss, ast) ↦ inl (λ line why r. law.not_both f.text line ss r.0 ast)
      | inr (line, bad) ↦ inr (line, cause.Syntax, (bad, refl))
    ]

    read_file : (f : DsdlFile) → Passes NameRefuses f → Passes SyntaxRefuses f → (r : Read) × IsRead f r
    read_file f named lines = at (file_name_of f.path) refl (law.either f.text)
      where
        at : (r : Result FileName NameError) → file_name_of f.path ≡ r → ((ss : List Statement) × IsAst f.text ss) ⊎ ((n : ℕ) × FirstBad f.text n) → (r : Read) × IsRead f r
        at (Ok n) e (inl (ss, ast)) = (record { path = f.path; name = n; lines = ss }, record { same = refl; named = e; text = ast })
        at (Ok n) e (inr (line, bad)) = absurd (lines line cause.Syntax (bad, refl))
        at (Err error) e other = absurd (named 0 (cause.Name error) (error, e, refl, refl))

    read_all : (fs : List DsdlFile) → All (Passes NameRefuses) fs → All (Passes SyntaxRefuses) fs → (reads : List Read) × AreRead fs reads
    read_all [] named lines = ([], tt)
    read_all (f ∷ fs) named lines =
        let one = read_file f (named 0 f (omega arith)) (lines 0 f (omega arith)) in
        let rest = read_all fs (λ k d lt. named (suc k) d (omega arith)) (λ k d lt. lines (suc k) d (omega arith)) in
        (one.0 ∷ rest.0, (one.1, rest.1))

    syntax_next : Clear 2 files → Next 2
    syntax_next (w, named) = elim (all_or_first SyntaxRefuses syntax_decided files) [
      | inl lines ↦ let r = read_all files named lines in inl (r.0, record { within = w; read = r.1 })
      | inr (path, line, why, h) ↦ inr (path, line, why, (w, named, h))
    ]

    links_next : Clear 3 files → Next 3
    links_next (reads, p) = elim (meaning.either (sources_of reads)) [
      | inl (links, linked, within) ↦ inl (reads, links, record { passed = p; linked = linked })
      | inr (file, line, id, u) ↦
          let q = path_within files file (omega (arith, unresolved_within (sources_of reads) file line id u, source_count files reads p.read)) in
          inr (q.0, line, cause.Unresolved id, (reads, p, record { file = file; id = id; first = u; named = q.1; is = refl }))
    ]

    order_next : Clear 4 files → Next 4
    order_next (reads, links, l) = elim (ordering.either links (links_within (sources_of reads) links l.linked)) [
      | inl (order, o) ↦ inl (reads, order, record { links = links; linked = l; ordered = o })
      | inr (file, c) ↦
          let q = path_within files file (omega (arith, c.within, link_count (sources_of reads) links l.linked, source_count files reads l.passed.read)) in
          inr (q.0, 0, cause.Cycle, (reads, links, l, record { file = file; first = c; named = q.1; no_line = refl; is = refl }))
    ]

    values_next : (reads : List Read) (order : List ℕ) → AreOrdered files reads order → (r : Result (List Done) Stop) → valued reads order ≡ r → Next 5
    values_next reads order o (Ok done) e = inl (done, record { reads = reads; order = order; ordered = o; valued_all = e })
    values_next reads order o (Err stop) e =
        let within = stop_within reads stop (length o.links) order (all_within o.ordered.valued) [] e in
        let q = path_within files stop.number (omega (arith, within, link_count (sources_of reads) o.links o.linked.linked, source_count files reads o.linked.passed.read)) in
        inr (q.0, stop.refused.line, stop.refused.why, (reads, order, o, record { file = stop.number; stopped = e; named = q.1 }))

    clash_path : (clash : Clash) (because : DsdlWhy) (done : List Done) (i : ℕ) → first_clash clash (definitions_of files done) ≡ Some i → Refusal (ClashesAt clash because files (definitions_of files done))
    clash_path clash because done i e =
        let q = path_within files i (omega (arith, first_within clash (definitions_of files done) i e, definition_count files done)) in
        (q.0, 0, because, record { file = i; first = e; named = q.1; no_line = refl; is = refl })

    versions_next : (done : List Done) → AreValued files done → (o : Option ℕ) → first_clash versions_clash (definitions_of files done) ≡ o → Next 6
    versions_next done v None e = inl (done, v, e)
    versions_next done v (Some i) e = let (path, line, why, h) = clash_path versions_clash cause.VersionClash done i e in inr (path, line, why, (done, v, h))

    ports_next : (done : List Done) → AreValued files done → first_clash versions_clash (definitions_of files done) ≡ None → (o : Option ℕ) → first_clash ports_clash (definitions_of files done) ≡ o → Next 7
    ports_next done v n None e = inl (done, v, n, e)
    ports_next done v n (Some i) e = let (path, line, why, h) = clash_path ports_clash cause.PortClash done i e in inr (path, line, why, (done, v, n, h))

    refused_at : (n : ℕ) → Refusal (At n files) → HasNamespace files ⊎ HasRefusal files
    refused_at n (path, line, why, h) = inr (path, line, why, refusal_of n h)

    go_on : (n : ℕ) → Next n → (Clear (suc n) files → HasNamespace files ⊎ HasRefusal files) → HasNamespace files ⊎ HasRefusal files
    go_on n (inl h) rest = rest h
    go_on n (inr h) rest = refused_at n h

    either : HasNamespace files ⊎ HasRefusal files
    either =
        go_on 0 (sizes_next (first_past_limit files) refl) (λ a.
        go_on 1 (names_next a) (λ b.
        go_on 2 (syntax_next b) (λ c.
        go_on 3 (links_next c) (λ d.
        go_on 4 (order_next d) (λ e.
        go_on 5 (values_next e.0 e.1 e.2 (valued e.0 e.1) refl) (λ f.
        go_on 6 (versions_next f.0 f.1 (first_clash versions_clash (definitions_of files f.0)) refl) (λ g.
        go_on 7 (ports_next g.0 g.1 g.2 (first_clash ports_clash (definitions_of files g.0)) refl) (λ h.
        inl (record { definitions = definitions_of files h.0; prints = prints_of h.0 }, record { done = h.0; valued_all = h.1; versions = h.2; ports = h.3; definitions = refl; prints = refl })))))))))

  pub one_answer : HaveOneAnswer
  one_answer = record { either = either; one_namespace = one_namespace; not_both = never_both; one_refusal = one_refusal }
