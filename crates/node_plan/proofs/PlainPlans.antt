-- The plan that is worked out of a text without registers is the text's.
use Rattle.std.proofs.Common.{◌≡◌, ◌∙◌, ◌+◌, ◌==◌, ℕ, Bool, true, false, List, [], ◌∷◌, Some, None, length, refl, sym, ap, subst, take}
use Rattle.std.specs.Prelude.{Result, Ok, Err, codes, if◌then◌else◌, nat_lt}
use Rattle.std.specs.Str.{bytes_eq}
use Rattle.std.proofs.lemmas.Bool.{eqb-true}
use Rattle.std.proofs.lemmas.Slice.Eq.{bytes_eq-Decides}
use Rattle.dsdl_types.specs.declared.namespace.Namespace.{Namespace}
use Rattle.node_plan.specs.declared.draft.Draft.{Draft}
use Rattle.node_plan.specs.declared.line.Said.{Said}
use Rattle.node_plan.specs.declared.line.Said.TheVariants as said
use Rattle.node_plan.specs.declared.plan.Plan.{Plan}
use Rattle.node_plan.specs.declared.plan.PlanWhy.{PlanWhy}
use Rattle.node_plan.specs.Draft.{is_two, start, step}
use Rattle.node_plan.specs.Laws.{PlainPlans}
use Rattle.node_plan.specs.Limit.{limit_of}
use Rattle.node_plan.specs.Line.{RegisterText, SaysEither, register_in, said_of, said_of_five, said_of_four, said_of_many, said_of_words}
use Rattle.node_plan.specs.PlainPlan.{followed, last_line, long_line, plan_of_parts}
use Rattle.node_plan.specs.Plan.{PlanIs, Good, Ends, Follows, Goes, Line, finished}
use Rattle.node_plan.specs.Words.{joined, parts_of, with_first, words_of}

-- a comment says no register
first_word : (ps : List (List ℕ)) → register_in (with_first 35 ps) ≡ None
first_word [] = refl
first_word (p ∷ []) = refl
first_word (p ∷ q ∷ []) = refl
first_word (p ∷ q ∷ r ∷ []) = refl
first_word (p ∷ q ∷ r ∷ t ∷ ps) = refl

comment_none : (b : ℕ) (s : List ℕ) → (b == 35) ≡ true → register_in (words_of (b ∷ s)) ≡ None
comment_none b s e = subst (λ c. register_in (words_of (c ∷ s)) ≡ None) (sym (eqb-true b 35 e)) (first_word (parts_of 32 s))

-- what isn't `register` says no register, and what is says nothing else
four_none : (names : Namespace) (two : Bool) (a v c f : List ℕ) → a ≡ codes "register" → said_of_four names two a v c f ≡ said.NoForm
four_none names two a v c f e = subst (λ w. said_of_four names two w v c f ≡ said.NoForm) (sym e) (of_two two)
  where
    of_two : (t : Bool) → said_of_four names t (codes "register") v c f ≡ said.NoForm
    of_two true = refl
    of_two false = refl

abbrev Plainly : Namespace → Bool → List (List ℕ) → Type 0
Plainly names two words = (d new : Draft) → step d (said_of_words names two words) ≡ Ok new → register_in words ≡ None

of_more : (a v c f : List ℕ) (more : List (List ℕ)) (plain : Said) → (a ≡ codes "register" → plain ≡ said.NoForm) → (d new : Draft) → step d plain ≡ Ok new → register_in (a ∷ v ∷ c ∷ f ∷ more) ≡ None
of_more a v c f more plain never d new h =
    of_test (record { name = v; access = c; text = joined 32 (f ∷ more) }) (bytes_eq a (codes "register")) (λ t. (bytes_eq-Decides a (codes "register")).0 t)
  where
    of_test : (w : RegisterText) (t : Bool) → (t ≡ true → a ≡ codes "register") → (if t then Some w else None) ≡ None
    of_test w true is = absurd (let g : step d said.NoForm ≡ Ok new = ap (step d) (sym (never (is refl))) ∙ h in cc)
    of_test w false is = refl

of_words : (names : Namespace) (two : Bool) (words : List (List ℕ)) → Plainly names two words
of_words names two [] d new h = refl
of_words names two (a ∷ []) d new h = refl
of_words names two (a ∷ v ∷ []) d new h = refl
of_words names two (a ∷ v ∷ c ∷ []) d new h = refl
of_words names two (a ∷ v ∷ c ∷ f ∷ []) d new h = of_more a v c f [] (said_of_four names two a v c f) (four_none names two a v c f) d new h
of_words names two (a ∷ v ∷ c ∷ f ∷ g ∷ []) d new h =
    of_more a v c f (g ∷ []) (said_of_five a v c f g) (λ e. subst (λ w. said_of_five w v c f g ≡ said.NoForm) (sym e) refl) d new h
of_words names two (a ∷ v ∷ c ∷ f ∷ g ∷ i ∷ more) d new h =
    of_more a v c f (g ∷ i ∷ more) (said_of_many a v c f g (joined 32 (i ∷ more))) (λ e. subst (λ w. said_of_many w v c f g (joined 32 (i ∷ more)) ≡ said.NoForm) (sym e) refl) d new h

no_register : (names : Namespace) (two : Bool) (line : List ℕ) (d new : Draft) → step d (said_of names two line) ≡ Ok new → register_in (words_of line) ≡ None
no_register names two [] d new h = refl
no_register names two (b ∷ s) d new h = of_test (b == 35) refl h
  where
    of_test : (t : Bool) → (b == 35) ≡ t → step d (if t then said.Nothing else said_of_words names two (words_of (b ∷ s))) ≡ Ok new → register_in (words_of (b ∷ s)) ≡ None
    of_test true e h = comment_none b s e
    of_test false e h = of_words names two (words_of (b ∷ s)) d new h

-- a line that the draft takes
line_goes : (names : Namespace) (d : Draft) (n : ℕ) (line : List ℕ) (others : Draft → PlanIs) (Others : Draft → PlanIs → Type 0) (p : Plan) → ((new : Draft) → others new ≡ Good p → Others new (Good p))
    → followed (step d (said_of names (is_two d.version) line)) n others ≡ Good p → Line names d n line Others (Good p)
line_goes names d n line others Others p f h = of_result (step d (said_of names (is_two d.version) line)) refl h
  where
    of_result : (r : Result Draft PlanWhy) → step d (said_of names (is_two d.version) line) ≡ r → followed r n others ≡ Good p → Line names d n line Others (Good p)
    of_result (Err e) k g = absurd cc
    of_result (Ok new) k g = (
      said_of names (is_two d.version) line,
      subst (λ o. SaysEither o (said_of names (is_two d.version) line) (said_of names (is_two d.version) line)) (sym (no_register names (is_two d.version) line d new k)) refl,
      subst (λ r. Follows r n Others (Good p)) (sym k) (f new g),
    )

ends : (names : Namespace) (is_long : Bool) (d : Draft) (n : ℕ) (part : List ℕ) (p : Plan) → (if is_long then long_line else last_line names) d n part ≡ Good p → Ends names is_long d n part (Good p)
ends names true d n part p h = sym h
ends names false d n [] p h = sym h
ends names false d n (b ∷ s) p h = line_goes names d n (b ∷ s) (λ new. finished new (n + 1)) (λ new is. is ≡ finished new (n + 1)) p (λ new g. sym g) h

goes : (names : Namespace) (is_long : Bool) (d : Draft) (n : ℕ) (parts : List (List ℕ)) (p : Plan) → plan_of_parts names (if is_long then long_line else last_line names) d n parts ≡ Good p → Goes names is_long d n parts (Good p)
goes names is_long d n [] p h = ends names is_long d n [] p h
goes names is_long d n (part ∷ []) p h = ends names is_long d n part p h
goes names is_long d n (line ∷ part ∷ parts) p h =
    line_goes names d n line (λ new. plan_of_parts names (if is_long then long_line else last_line names) new (n + 1) (part ∷ parts)) (λ new is. Goes names is_long new (n + 1) (part ∷ parts) is) p
    (λ new g. goes names is_long new (n + 1) (part ∷ parts) p g) h

pub plain_plans : PlainPlans
plain_plans names text plan h = goes names (nat_lt (limit_of text) (length text)) start 1 (parts_of 10 (take (limit_of text) text)) plan h
