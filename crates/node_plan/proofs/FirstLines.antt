-- The lines of a text before that of the version, and that.
use Rattle.std.proofs.Common.{◌≡◌, ◌∙◌, ◌+◌, ◌==◌, ◌⊎◌, inl, inr, suc, ℕ, Bool, true, false, List, [], ◌∷◌, ◌++◌, Option, Some, None, length, refl, sym, ap, subst, arith}
use Rattle.std.specs.Prelude.{Ok, codes, if◌then◌else◌}
use Rattle.std.specs.Str.{bytes_eq}
use Rattle.dsdl_types.specs.declared.namespace.Namespace.{Namespace}
use Rattle.node_plan.specs.declared.draft.Draft.{Draft}
use Rattle.node_plan.specs.declared.line.PlanVersion.TheVariants as version
use Rattle.node_plan.specs.declared.line.Said.{Said}
use Rattle.node_plan.specs.declared.line.Said.TheVariants as said
use Rattle.node_plan.specs.Draft.{start, step}
use Rattle.node_plan.specs.Limit.{begins_two}
use Rattle.node_plan.specs.Line.{RegisterText, Says, SaysEither, register_in, said_of_five, said_of_four, said_of_many, said_of_one, said_of_two, said_of_version, said_of_words}
use Rattle.node_plan.specs.Words.{joined, words_of}
use Rattle.node_plan.proofs.JoinedLemmas.{Free}
use Rattle.node_plan.proofs.LimitLemmas.{begins_two-said, begins_two-skip}
use Rattle.node_plan.proofs.MigratedLines.{word_case}
use Rattle.node_plan.proofs.PartsLemmas.{joined-parts}
use Rattle.node_plan.proofs.PlainLines.{AnyShape, Plain, plain, plain_either, plain_four, plain_two}
use Rattle.node_plan.proofs.SaidTables as tables

-- the draft behind `plan 1`
abbrev pub begun : Draft
begun = record start { version = Some version.One }

-- a line that is skipped
abbrev pub IsSkipped : List ℕ → Type 0
IsSkipped [] = Unit {0}
IsSkipped (b ∷ s) = (b == 35) ≡ true

-- what may stand first
abbrev pub Begins : Draft → List ℕ → Type 0
Begins new line = (IsSkipped line × (new ≡ start)) ⊎ (((line ≡ codes "plan 1") × (new ≡ begun)) ⊎ ((line ≡ codes "plan 2") × (new.node ≡ None)))

-- nothing else may
late : (s : Said) (new : Draft) → Plain true s → step start s ≡ Ok new → ⊥
late said.Nothing new p h = p
late (said.Version v) new p h = p
late other new p h = cc

-- a line of these words is this
whole : (line : List ℕ) (words : List (List ℕ)) → words_of line ≡ words → line ≡ joined 32 words
whole line words e = sym (joined-parts 32 line) ∙ ap (joined 32) e

module _ (names : Namespace) (new : Draft) (b : ℕ) (s : List ℕ) where
  abbrev Goes : List ℕ → List ℕ → Type 0
  Goes word value = words_of (b ∷ s) ≡ word ∷ value ∷ [] → step start (said_of_two false word value) ≡ Ok new → Begins new (b ∷ s)

  -- nothing else may stand first, a register neither
  late_either : (o : Option RegisterText) (p s : Said) → Plain true p → SaysEither o p s → step start s ≡ Ok new → ⊥
  late_either o p s h e g = late s new (plain_either true o p s h e) g

  of_one : Goes (codes "plan") (codes "1")
  of_one e h = inr (inl (whole (b ∷ s) (codes "plan" ∷ codes "1" ∷ []) e, let same : begun ≡ new = cc in sym same))

  of_second : Goes (codes "plan") (codes "2")
  of_second e h = inr (inr (whole (b ∷ s) (codes "plan" ∷ codes "2" ∷ []) e, let same : record start { version = Some version.Two } ≡ new = cc in ap (λ (d : Draft). d.node) (sym same)))

  of_plan : (value : List ℕ) → Goes (codes "plan") value
  of_plan value = elim (word_case value (codes "1")) [
    | inl e ↦ subst (Goes (codes "plan")) (sym e) of_one
    | inr not_one ↦
        elim (word_case value (codes "2")) [ inl e ↦ subst (Goes (codes "plan")) (sym e) of_second | inr not_two ↦ λ e h. absurd (none not_one not_two h) ]
  ]
    where
      none : bytes_eq value (codes "1") ≡ false → bytes_eq value (codes "2") ≡ false → step start (said_of_version value) ≡ Ok new → ⊥
      none o t h = of_tests (bytes_eq value (codes "1")) (bytes_eq value (codes "2")) o t h
        where
          of_tests : (t u : Bool) → t ≡ false → u ≡ false → step start (if t then said.Version version.One else (if u then said.Version version.Two else said.NoForm)) ≡ Ok new → ⊥
          of_tests true u e f h = cc
          of_tests false true e f h = cc
          of_tests false false e f h = cc

  of_two : (word value : List ℕ) → Goes word value
  of_two word value = elim (word_case word (codes "plan")) [
    | inl e ↦ subst (λ w. Goes w value) (sym e) (of_plan value)
    | inr other ↦
        λ e h. absurd (late (said_of_two false word value) new (plain_two word value other) h)
  ]

  of_words : (words : List (List ℕ)) (says : Said) → words_of (b ∷ s) ≡ words → SaysEither (register_in words) (said_of_words names false words) says → step start says ≡ Ok new → Begins new (b ∷ s)
  of_words [] says e w h = absurd (late_either None said.NoForm says tt w h)
  of_words (a ∷ []) says e w h = absurd (late_either None (said_of_one a) says (tables.of_one (Plain true) AnyShape (plain true) a) w h)
  of_words (a ∷ v ∷ []) says e w h = of_two a v e (ap (step start) (sym w) ∙ h)
  of_words (a ∷ v ∷ c ∷ []) says e w h = absurd (late_either None said.NoForm says tt w h)
  of_words (a ∷ v ∷ c ∷ f ∷ []) says e w h = absurd (late_either (register_in (a ∷ v ∷ c ∷ f ∷ [])) (said_of_four names false a v c f) says (plain_four true names a v c f) w h)
  of_words (a ∷ v ∷ c ∷ f ∷ g ∷ []) says e w h =
      absurd (late_either (register_in (a ∷ v ∷ c ∷ f ∷ g ∷ [])) (said_of_five a v c f g) says (tables.of_five (Plain true) AnyShape (plain true) a v c f g) w h)
  of_words (a ∷ v ∷ c ∷ f ∷ g ∷ i ∷ more) says e w h =
      absurd (late_either (register_in (a ∷ v ∷ c ∷ f ∷ g ∷ i ∷ more)) (said_of_many a v c f g (joined 32 (i ∷ more))) says (tables.of_many (Plain true) AnyShape (plain true) a v c f g (joined 32 (i ∷ more))) w h)

  -- a comment
  of_skip : (o : Option RegisterText) (says : Said) → (b == 35) ≡ true → SaysEither o said.Nothing says → step start says ≡ Ok new → Begins new (b ∷ s)
  of_skip None says e w h = inl (e, let same : start ≡ new = let g : step start said.Nothing ≡ Ok new = ap (step start) (sym w) ∙ h in cc in sym same)
  of_skip (Some t) says e w h = absurd (late_either (Some t) said.NoForm says tt w h)

pub first_line : (names : Namespace) (new : Draft) (line : List ℕ) (says : Said) → Says names false line says → step start says ≡ Ok new → Begins new line
first_line names new [] says w h = inl (tt, let same : start ≡ new = let g : step start said.Nothing ≡ Ok new = ap (step start) (sym w) ∙ h in cc in sym same)
first_line names new (b ∷ s) says w h = of_test (b == 35) refl w
  where
    of_test : (t : Bool) → (b == 35) ≡ t → SaysEither (register_in (words_of (b ∷ s))) (if t then said.Nothing else said_of_words names false (words_of (b ∷ s))) says → Begins new (b ∷ s)
    of_test true e w = of_skip names new b s (register_in (words_of (b ∷ s))) says e w h
    of_test false e w = of_words names new b s (words_of (b ∷ s)) says refl w h

-- ---- the version of a text

-- the rest of a comment
comment_passed : (n : ℕ) (s t : List ℕ) → Free 10 s → begins_two true (length s + suc n) (s ++ 10 ∷ t) ≡ begins_two false n t
comment_passed n [] t h = let e : length {A = ℕ} [] + suc n ≡ suc n = omega arith in ap (λ k. begins_two true k (10 ∷ t)) e ∙ begins_two-skip true false n 10 t refl
comment_passed n (b ∷ s) t h =
    let e : length (b ∷ s) + suc n ≡ suc (length s + suc n) = omega arith in
    ap (λ k. begins_two true k (b ∷ (s ++ 10 ∷ t))) e
    ∙ begins_two-skip true true (length s + suc n) b (s ++ 10 ∷ t) (ap (λ test. if test then Some false else Some true) h.0)
    ∙ comment_passed n s t h.1

-- a line that is skipped
pub line_passed : (n : ℕ) (line t : List ℕ) → IsSkipped line → Free 10 line → begins_two false (length line + suc n) (line ++ 10 ∷ t) ≡ begins_two false n t
line_passed n [] t k h = let e : length {A = ℕ} [] + suc n ≡ suc n = omega arith in ap (λ k. begins_two false k (10 ∷ t)) e ∙ begins_two-skip false false n 10 t refl
line_passed n (b ∷ s) t k h =
    let e : length (b ∷ s) + suc n ≡ suc (length s + suc n) = omega arith in
    ap (λ k. begins_two false k (b ∷ (s ++ 10 ∷ t))) e
    ∙ begins_two-skip false true (length s + suc n) b (s ++ 10 ∷ t)
    (ap (λ test. if test then Some false else (if b == 35 then Some true else None)) h.0 ∙ ap (λ test. if test then Some true else None) k)
    ∙ comment_passed n s t h.1

-- `plan 2`
pub line_two : (n : ℕ) (t : List ℕ) → begins_two false (suc n) (codes "plan 2" ++ 10 ∷ t) ≡ true
line_two n t = begins_two-said false n 112 _ refl
