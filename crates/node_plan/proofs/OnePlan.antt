-- A text has one meaning.
use Rattle.std.proofs.Common.{◌≡◌, ◌∙◌, ◌+◌, ℕ, Bool, true, false, List, [], ◌∷◌, Option, Some, None, sym, ap, subst}
use Rattle.std.specs.Prelude.{Result, Ok, Err}
use Rattle.dsdl_types.specs.declared.namespace.Namespace.{Namespace}
use Rattle.node_plan.specs.declared.draft.Draft.{Draft}
use Rattle.node_plan.specs.declared.line.Said.{Said}
use Rattle.node_plan.specs.declared.plan.PlanWhy.{PlanWhy}
use Rattle.node_plan.specs.Draft.{is_two, start, step}
use Rattle.node_plan.specs.Laws.{OnePlan}
use Rattle.node_plan.specs.Limit.{limit_of}
use Rattle.node_plan.specs.Line.{RegisterText, SaysEither, register_in, said_of, said_of_register}
use Rattle.node_plan.specs.Plan.{PlanIs, Ends, Follows, Goes, Line, finished}
use Rattle.node_plan.specs.Words.{parts_of, words_of}
use Rattle.node_plan.proofs.ValueTexts.{one_reading}
use Rattle.std.specs.Prelude.{length, nat_lt, take}

-- a line says one thing
either_once : (o : Option RegisterText) (p s t : Said) → SaysEither o p s → SaysEither o p t → s ≡ t
either_once None p s t h k = h ∙ sym k
either_once (Some w) p s t h k = h.2 ∙ ap (said_of_register w.name w.access w.text) (one_reading w.text h.0 k.0 h.1 k.1) ∙ sym k.2

follows_once : (r : Result Draft PlanWhy) (n : ℕ) (Others : Draft → PlanIs → Type 0) (is also : PlanIs) → ((new : Draft) → Others new is → Others new also → is ≡ also)
    → Follows r n Others is → Follows r n Others also → is ≡ also
follows_once (Err e) n Others is also f h k = h ∙ sym k
follows_once (Ok d) n Others is also f h k = f d h k

line_once : (names : Namespace) (d : Draft) (n : ℕ) (line : List ℕ) (Others : Draft → PlanIs → Type 0) (is also : PlanIs) → ((new : Draft) → Others new is → Others new also → is ≡ also)
    → Line names d n line Others is → Line names d n line Others also → is ≡ also
line_once names d n line Others is also f h k =
    let same : h.0 ≡ k.0 = either_once (register_in (words_of line)) (said_of names (is_two d.version) line) h.0 k.0 h.1 k.1 in
    follows_once (step d h.0) n Others is also f h.2 (subst (λ s. Follows (step d s) n Others also) (sym same) k.2)

ends_once : (names : Namespace) (is_long : Bool) (d : Draft) (n : ℕ) (part : List ℕ) (is also : PlanIs) → Ends names is_long d n part is → Ends names is_long d n part also → is ≡ also
ends_once names true d n part is also h k = h ∙ sym k
ends_once names false d n [] is also h k = h ∙ sym k
ends_once names false d n (b ∷ s) is also h k = line_once names d n (b ∷ s) (λ new is. is ≡ finished new (n + 1)) is also (λ new g l. g ∙ sym l) h k

goes_once : (names : Namespace) (is_long : Bool) (d : Draft) (n : ℕ) (parts : List (List ℕ)) (is also : PlanIs) → Goes names is_long d n parts is → Goes names is_long d n parts also → is ≡ also
goes_once names is_long d n [] is also h k = ends_once names is_long d n [] is also h k
goes_once names is_long d n (part ∷ []) is also h k = ends_once names is_long d n part is also h k
goes_once names is_long d n (line ∷ part ∷ parts) is also h k =
    line_once names d n line (λ new is. Goes names is_long new (n + 1) (part ∷ parts) is) is also (λ new g l. goes_once names is_long new (n + 1) (part ∷ parts) is also g l) h k

pub one_plan : OnePlan
one_plan names text is also h k = goes_once names (nat_lt (limit_of text) (length text)) start 1 (parts_of 10 (take (limit_of text) text)) is also h k
