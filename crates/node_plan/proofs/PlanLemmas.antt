-- Lemmas on the lines of a plan.
use Rattle.std.proofs.Common.{◌≡◌, ◌==◌, ◌+◌, ◌<◌, ◌^◌, ℕ, Bool, true, false, List, [], ◌∷◌, refl, sym, subst, arith, length, take, min}
use Rattle.std.specs.Prelude.{◌↔◌, Result, Ok, Err, IfOk, IsErrAnd, nat_lt}
use Rattle.std.proofs.lemmas.Bool.{eqb-true}
use Rattle.std.proofs.lemmas.Bool.Decides.{nat_tests}
use Rattle.std.proofs.lemmas.Grind.{common_steps}
use Rattle.dsdl_types.specs.declared.namespace.Namespace.{Namespace}
use Rattle.node_plan.specs.declared.draft.Draft.{Draft}
use Rattle.node_plan.specs.declared.line.Said.{Said}
use Rattle.node_plan.specs.declared.plan.Plan.{Plan}
use Rattle.node_plan.specs.declared.plan.PlanError.{PlanError}
use Rattle.node_plan.specs.declared.plan.PlanError.TheVariants as error
use Rattle.node_plan.specs.declared.plan.PlanWhy.{PlanWhy}
use Rattle.node_plan.specs.declared.plan.PlanWhy.TheVariants as why
use Rattle.node_plan.specs.Answers.{IsStep, IsPlanAnswer}
use Rattle.node_plan.specs.Words.{parts_of}
use Rattle.node_plan.specs.Line.{Says}
use Rattle.node_plan.specs.Draft.{is_two, start, step}
use Rattle.node_plan.specs.Limit.{limit_of}
use Rattle.node_plan.specs.Plan.{PlanIs, Good, Bad, Ends, Follows, Goes, IsPlanOf, IsPlanWithin, Line, finished}
use Rattle.node_plan.proofs.LimitLemmas.{limit_of-low, limit_of-take}
use Rattle.node_plan.proofs.PartsLemmas.{with_front, with_front-none}

-- a line and then others
goes-line : (names : Namespace) (is_long : Bool) (d : Draft) (n : ℕ) (line s : List ℕ) (is : PlanIs) → Line names d n line (λ new is. Goes names is_long new (n + 1) (parts_of 10 s) is) is
    → Goes names is_long d n (line ∷ parts_of 10 s) is
goes-line names is_long d n line s is h = of_parts (parts_of 10 s) (with_front-none 10 s) h
  where
    of_parts : (ps : List (List ℕ)) → ps ≡ with_front [] ps → Line names d n line (λ new is. Goes names is_long new (n + 1) ps is) is → Goes names is_long d n (line ∷ ps) is
    of_parts [] e h = absurd cc
    of_parts (p ∷ ps) e h = h

-- a line that the draft takes
pub goes-next : (names : Namespace) (is_long : Bool) (d new : Draft) (n : ℕ) (line s : List ℕ) (said : Said) → Says names (is_two d.version) line said → step d said ≡ Ok new
    → (is : PlanIs) → Goes names is_long new (n + 1) (parts_of 10 s) is → Goes names is_long d n (line ∷ parts_of 10 s) is
goes-next names is_long d new n line s said w h is g =
    goes-line names is_long d n line s is (said, w, subst (λ r. Follows r n (λ new is. Goes names is_long new (n + 1) (parts_of 10 s) is) is) (sym h) g)

-- a line that is refused
pub goes-refused : (names : Namespace) (is_long : Bool) (d : Draft) (n : ℕ) (cause : PlanWhy) (line s : List ℕ) (said : Said) → Says names (is_two d.version) line said → step d said ≡ Err cause
    → Goes names is_long d n (line ∷ parts_of 10 s) (Bad n cause)
goes-refused names is_long d n cause line s said w h =
    goes-line names is_long d n line s (Bad n cause) (said, w, subst (λ r. Follows r n (λ new is. Goes names is_long new (n + 1) (parts_of 10 s) is) (Bad n cause)) (sym h) refl)

-- ---- what stands behind the last newline

pub ends-long : (names : Namespace) (is_long : Bool) (d : Draft) (n : ℕ) (line : List ℕ) → is_long ≡ true → Ends names is_long d n line (Bad n why.Line)
ends-long names is_long d n line e = subst (λ t. Ends names t d n line (Bad n why.Line)) (sym e) refl

pub ends-none : (names : Namespace) (is_long : Bool) (d : Draft) (n : ℕ) (line : List ℕ) → is_long ≡ false → (length line == 0) ≡ true → (is : PlanIs) → is ≡ finished d n → Ends names is_long d n line is
ends-none names is_long d n line e none is h = subst (λ t. Ends names t d n line is) (sym e) (of_line line none)
  where
    of_line : (line : List ℕ) → (length line == 0) ≡ true → Ends names false d n line is
    of_line [] none = h
    of_line (b ∷ s) none = let empty : length (b ∷ s) ≡ 0 = eqb-true (length (b ∷ s)) 0 none in absurd (omega (arith, empty))

ends-line : (names : Namespace) (is_long : Bool) (d : Draft) (n : ℕ) (line : List ℕ) (is : PlanIs) → is_long ≡ false → (length line == 0) ≡ false → Line names d n line (λ new is. is ≡ finished new (n + 1)) is → Ends names is_long d n line is
ends-line names is_long d n line is e some h = subst (λ t. Ends names t d n line is) (sym e) (of_line line some h)
  where
    of_line : (line : List ℕ) → (length line == 0) ≡ false → Line names d n line (λ new is. is ≡ finished new (n + 1)) is → Ends names false d n line is
    of_line [] some h = absurd cc
    of_line (b ∷ s) some h = h

pub ends-next : (names : Namespace) (is_long : Bool) (d new : Draft) (n : ℕ) (line : List ℕ) (said : Said) → is_long ≡ false → (length line == 0) ≡ false → Says names (is_two d.version) line said → step d said ≡ Ok new
    → (is : PlanIs) → is ≡ finished new (n + 1) → Ends names is_long d n line is
ends-next names is_long d new n line said e some w h is g = ends-line names is_long d n line is e some (said, w, subst (λ r. Follows r n (λ new is. is ≡ finished new (n + 1)) is) (sym h) g)

pub ends-refused : (names : Namespace) (is_long : Bool) (d : Draft) (n : ℕ) (cause : PlanWhy) (line : List ℕ) (said : Said) → is_long ≡ false → (length line == 0) ≡ false → Says names (is_two d.version) line said → step d said ≡ Err cause
    → Ends names is_long d n line (Bad n cause)
ends-refused names is_long d n cause line said e some w h =
    ends-line names is_long d n line (Bad n cause) e some (said, w, subst (λ r. Follows r n (λ new is. is ≡ finished new (n + 1)) (Bad n cause)) (sym h) refl)

-- one part alone
pub goes-last : (names : Namespace) (is_long : Bool) (d : Draft) (n : ℕ) (part : List ℕ) (parts : List (List ℕ)) → parts ≡ part ∷ [] → (is : PlanIs) → Ends names is_long d n part is → Goes names is_long d n parts is
goes-last names is_long d n part parts e is h = subst (λ ps. Goes names is_long d n ps is) (sym e) h

-- the answer where a line wasn't taken
pub answer_of_error : (Is : PlanIs → Type 0) (next : Result Draft PlanWhy) (n : ℕ) (new : Draft) (r : Result (Unit {0}) PlanError) (e : PlanError) → IsStep next n new r → r ≡ Err e
    → ((cause : PlanWhy) → next ≡ Err cause → Is (Bad n cause)) → IsPlanAnswer Is (Err e)
answer_of_error Is next n new r e h was f = of_error e (subst (IsStep next n new) was h)
  where
    of_error : (e : PlanError) → IsStep next n new (Err e) → IsPlanAnswer Is (Err e)
    of_error (error.Refused k cause) g = subst (λ m. Is (Bad m cause)) (sym g.0) (f cause g.1)
    of_error error.NoMemory g = tt

pub answer_of_residual : (Is : PlanIs → Type 0) (r : Result Plan PlanError) (P : PlanError → Type 0) → IsErrAnd r P → ((e : PlanError) → P e → IsPlanAnswer Is (Err e)) → IsPlanAnswer Is r
answer_of_residual Is (Ok p) P h f = absurd h
answer_of_residual Is (Err e) P h f = f e h

-- an answer to one question that answers another
pub answer_of_answer : (Is Also : PlanIs → Type 0) → ((is : PlanIs) → Is is → Also is) → (r : Result Plan PlanError) → IsPlanAnswer Is r → IsPlanAnswer Also r
answer_of_answer Is Also f (Ok p) h = f (Good p) h
answer_of_answer Is Also f (Err (error.Refused n cause)) h = f (Bad n cause) h
answer_of_answer Is Also f (Err error.NoMemory) h = tt

pub plan_of_answer : (Is : PlanIs → Type 0) (r : Result Plan PlanError) → IsPlanAnswer Is r → IfOk r (λ p. Is (Good p))
plan_of_answer Is (Ok p) h = h
plan_of_answer Is (Err e) h = tt

pub refusal_of_answer : (Is : PlanIs → Type 0) (r : Result Plan PlanError) → IsPlanAnswer Is r → (n : ℕ) (cause : PlanWhy) → r ≡ Err (error.Refused n cause) → Is (Bad n cause)
refusal_of_answer Is r h n cause e = subst (IsPlanAnswer Is) e h

take-min : (most k : ℕ) (s : List ℕ) → k ≡ min (length s) most → take k s ≡ take most s
take-min most k s h = grind (arith, common_steps)

take-take-more : (most k : ℕ) (s : List ℕ) → most < k → take most (take k s) ≡ take most s
take-take-more most k s h = grind (arith, common_steps)

length-take-more : (most k : ℕ) (s : List ℕ) → most < k → nat_lt most (length (take k s)) ≡ nat_lt most (length s)
length-take-more most k s h = grind (arith, common_steps, nat_tests)

-- a byte more than count says that there are more
within-take : (names : Namespace) (most k : ℕ) (s : List ℕ) (is : PlanIs) → most < k → IsPlanWithin names most (take k s) is ↔ IsPlanWithin names most s is
within-take names most k s is h =
    let long = length-take-more most k s h in
    let first = take-take-more most k s h in (
      λ g. subst (λ t. Goes names t start 1 (parts_of 10 (take most s)) is) long (subst (λ l. Goes names (nat_lt most (length (take k s))) start 1 (parts_of 10 l) is) first g),
      λ g. subst (λ l. Goes names (nat_lt most (length (take k s))) start 1 (parts_of 10 l) is) (sym first) (subst (λ t. Goes names t start 1 (parts_of 10 (take most s)) is) (sym long) g),
    )

-- the first bytes decide
pub plan_of-take : (names : Namespace) (s : List ℕ) (is : PlanIs) → IsPlanOf names (take (2 ^ 20 + 33) s) is ↔ IsPlanOf names s is
plan_of-take names s is =
    let same = within-take names (limit_of s) (2 ^ 20 + 33) s is (limit_of-low s) in (
      λ g. same.0 (subst (λ most. IsPlanWithin names most (take (2 ^ 20 + 33) s) is) (limit_of-take s) g),
      λ g. subst (λ most. IsPlanWithin names most (take (2 ^ 20 + 33) s) is) (sym (limit_of-take s)) (same.1 g),
    )

-- the answer of the bytes that count is that of the text
pub plan_of-answer : (names : Namespace) (most k : ℕ) (s : List ℕ) (r : Result Plan PlanError) → most ≡ limit_of s → k ≡ min (length s) most
    → IsPlanAnswer (Goes names (nat_lt most (length s)) start 1 (parts_of 10 (take k s))) r → IsPlanAnswer (IsPlanOf names s) r
plan_of-answer names most k s r e h a =
    subst (λ m. IsPlanAnswer (IsPlanWithin names m s) r) e
    (subst (λ t. IsPlanAnswer (Goes names (nat_lt most (length s)) start 1 (parts_of 10 t)) r) (take-min most k s h) a)
