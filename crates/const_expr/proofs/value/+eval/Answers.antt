use Rattle.std.proofs.Common.{◌≡◌, ◌++◌, [], ◌∷◌, Ok, Err, ap, sym, ◌∙◌, subst, rules, le_refl, map, ◌≤◌, IfOk, Result}
use Rattle.std.proofs.lemmas.Result.{err_from_is_err_and}
use Rattle.dsdl_parse.specs.declared.expr.Expr.{out-Expr, size-Expr}
use Rattle.const_expr.specs.Constants.{IsConst}
use Rattle.const_expr.specs.Operands.{constant_of}
use Rattle.const_expr.specs.Refusals.{at}
use Rattle.const_expr.specs.Literal.{literal}
use Rattle.const_expr.specs.Member.{named}
use Rattle.const_expr.specs.declared.constant.Const.{Const}
use Rattle.const_expr.specs.declared.why.Why.{Why}
use Rattle.const_expr.specs.Unary.{unary, set_of}
use Rattle.const_expr.specs.Value.{value_of, all_values, with_value}
use Rattle.const_expr.specs.declared.constant.Const.TheVariants as k
use Rattle.const_expr.specs.Spine.{IsLeftOf, onto}
use Rattle.const_expr.proofs.EvalWalk as walk
use Rattle.const_expr.proofs.EvalSpine as spine
use Rattle.const_expr.proofs.EvalSpine.{Waits}
use Rattle.const_expr.proofs.value.+eval.Goals as goal
use Rattle.const_expr.proofs.value.+eval.Goals.{without_left-in-Number, without_left-in-Name, without_left-in-Reference, without_left-in-Set+in_ok-eval_all-in-Set, without_left-in-Unary+in_ok-eval-in-Unary}

pub eval-loop-left-init : goal.eval-loop-left-init
eval-loop-left-init t c = record { waits = spine.waits_start c.args.scope.now c.args.expr.now _ c.new-waiting.ensures.items; no_deeper = le_refl _ }

pub eval-loop-left-preserved : goal.eval-loop-left-preserved
eval-loop-left-preserved t c =
    let pushed : c.push.new.self.items ≡ c.loop-left.waiting.items ++ c.loop-left.inner ∷ [] = search rules in
    let left : IsLeftOf c.in-Some.left.now c.loop-left.inner.now = search rules in
    record {
      waits = subst (λ w. Waits c.args.scope.now c.args.expr.now w (value_of c.args.scope.now c.in-Some.left.now)) (sym pushed)
          (spine.waits_push _ _ c.loop-left.waiting.items c.loop-left.inner c.in-Some.left.now c.loop-left.invariant.waits c.loop-left.invariant.no_deeper left);
      no_deeper = spine.left_no_deeper c.args.expr.now c.loop-left.inner.now c.in-Some.left.now c.loop-left.invariant.no_deeper left;
    }

pub eval-returns-in_err-without_left-clause-value : goal.eval-returns-in_err-without_left-clause-value
eval-returns-in_err-without_left-clause-value t c =
    let p = err_from_is_err_and c.from_residual-in_err-without_left.result c.from_residual-in_err-without_left.ensures.1 in
    let why = c.in_err-without_left.field-0.0 in
    walk.passed (value_of c.args.scope.now c.args.expr.now) c.from_residual-in_err-without_left.result p.0 why p.1 p.2
    (λ ne.
    let inner : Err why ≡ value_of c.args.scope.now c.loop-left.inner.now = walk.refused _ why c.in_err-without_left.ensures.value ne in
    spine.waits_refused _ _ c.loop-left.waiting.items why (subst (Waits c.args.scope.now c.args.expr.now c.loop-left.waiting.items) (sym inner) c.loop-left.invariant.waits))

pub eval-with_left-requires : goal.eval-with_left-requires
eval-with_left-requires t c =
    let w = subst (λ z. Waits c.args.scope.now c.args.expr.now z (Ok (constant_of c.loop-outer.value))) c.in-Some-pop.ensures.items c.loop-outer.invariant.waits in
    let small : size-Expr c.in-Some-pop.outer.now ≤ size-Expr c.args.expr.now = spine.outer_no_deeper _ _ _ c.in-Some-pop.outer _ w in
    (search (rules, small), (c.requires.scope, (c.requires.places, (c.loop-outer.invariant.kept, spine.outer_has_left _ _ _ c.in-Some-pop.outer _ w))))

pub eval-returns-in_err-value-clause-value : goal.eval-returns-in_err-value-clause-value
eval-returns-in_err-value-clause-value t c =
    let w = subst (λ z. Waits c.args.scope.now c.args.expr.now z (Ok (constant_of c.loop-outer.value))) c.in-Some-pop.ensures.items c.loop-outer.invariant.waits in
    let p = err_from_is_err_and c.from_residual-in_err-value.result c.from_residual-in_err-value.ensures.1 in
    let why = c.in_err-value.field-0.0 in
    walk.passed (value_of c.args.scope.now c.args.expr.now) c.from_residual-in_err-value.result p.0 why p.1 p.2
    (λ ne.
    let outer : Err why ≡ onto c.args.scope.now c.in-Some-pop.outer.now (constant_of c.loop-outer.value) = walk.refused _ why c.in_err-value.ensures.value ne in
    spine.waits_refused _ _ c.pop.new.self.items why
    (subst (Waits c.args.scope.now c.args.expr.now c.pop.new.self.items) (sym outer) (spine.waits_pop _ _ c.pop.new.self.items c.in-Some-pop.outer (Ok (constant_of c.loop-outer.value)) w)))

pub eval-loop-outer-preserved : goal.eval-loop-outer-preserved
eval-loop-outer-preserved t c =
    let w = subst (λ z. Waits c.args.scope.now c.args.expr.now z (Ok (constant_of c.loop-outer.value))) c.in-Some-pop.ensures.items c.loop-outer.invariant.waits in
    let outer : Ok (constant_of c.in_ok-value.value) ≡ onto c.args.scope.now c.in-Some-pop.outer.now (constant_of c.loop-outer.value) = walk.not_refused _ _ c.in_ok-value.ensures.value in
    record {
      waits = subst (Waits c.args.scope.now c.args.expr.now c.pop.new.self.items) (sym outer) (spine.waits_pop _ _ c.pop.new.self.items c.in-Some-pop.outer (Ok (constant_of c.loop-outer.value)) w);
      kept = c.in_ok-value.ensures.kept;
    }

pub eval-returns-clause-value : goal.eval-returns-clause-value
eval-returns-clause-value t c n =
    let e : c.loop-outer.waiting.items ≡ [] = search rules in
    ap (λ (z : Const). Ok z) c.in_ok-into_const.ensures.value ∙ spine.waits_end _ _ _ _ e c.loop-outer.invariant.waits

pub without_left-returns-in-Str-clause-value : goal.without_left-returns-in-Str-clause-value
without_left-returns-in-Str-clause-value t c n =
    let copied : c.in_ok-copy-in-Str.field-0 ≡ c.in-Str.text = search rules in
    ap (λ s. Ok (k.Str s)) copied ∙ sym (walk.text_value c.args.scope.now c.args.expr.now c.in-Str.text c.in-Str.is)

pub without_left-returns-in-Truth-clause-value : goal.without_left-returns-in-Truth-clause-value
without_left-returns-in-Truth-clause-value t c n = sym (walk.truth_value c.args.scope.now c.args.expr.now c.in-Truth.truth c.in-Truth.is)

pub without_left-returns-in_err-eval_all-in-Set-clause-value :
    goal.without_left-returns-in_err-eval_all-in-Set-clause-value
without_left-returns-in_err-eval_all-in-Set-clause-value t c =
    let scope = c.args.scope.now in let why = c.in_err-eval_all-in-Set.field-0.0 in
    let p = err_from_is_err_and c.from_residual-in_err-eval_all-in-Set.result c.from_residual-in_err-eval_all-in-Set.ensures.1 in
    walk.passed (value_of scope c.args.expr.now) c.from_residual-in_err-eval_all-in-Set.result p.0 why p.1 p.2
    (λ ne.
    let inner : Err why ≡ all_values (map (value_of scope) c.as_slice.result.now) = walk.refused _ why c.in_err-eval_all-in-Set.ensures ne in
    let members = inner ∙ ap (λ xs. all_values (map (value_of scope) xs)) c.as_slice.ensures in
    ap (λ r. with_value r (λ us. at (out-Expr c.args.expr.now).span (set_of us))) members ∙ sym (walk.set_value scope c.args.expr.now c.in-Set.members c.in-Set.is))

pub without_left-returns-in_err-eval-in-Unary-clause-value :
    goal.without_left-returns-in_err-eval-in-Unary-clause-value
without_left-returns-in_err-eval-in-Unary-clause-value t c =
    let scope = c.args.scope.now in let why = c.in_err-eval-in-Unary.field-0.0 in
    let p = err_from_is_err_and c.from_residual-in_err-eval-in-Unary.result c.from_residual-in_err-eval-in-Unary.ensures.1 in
    walk.passed (value_of scope c.args.expr.now) c.from_residual-in_err-eval-in-Unary.result p.0 why p.1 p.2
    (λ ne.
    let inner : Err why ≡ value_of scope c.get.result.now = walk.refused _ why c.in_err-eval-in-Unary.ensures.value ne in
    let operand = inner ∙ ap (value_of scope) c.get.ensures in
    ap (λ r. with_value r (λ u. at (out-Expr c.args.expr.now).span (unary c.in-Unary.op u))) operand ∙ sym (walk.unary_value scope c.args.expr.now c.in-Unary.op c.in-Unary.operand c.in-Unary.is))

pub without_left-returns-clause-value : goal.without_left-returns-clause-value
without_left-returns-clause-value t c n =
    let scope = c.args.scope.now in let x = c.args.expr.now in let s = (out-Expr x).span in
    elim c.match-expr.branch [
      | without_left-in-Number w ↦
          c.placed.ensures ∙ ap (at s) (w.answer-is ∙ w.literal-answer.ensures.value)
          ∙ ap (λ text. at s (literal text)) w.as_str.ensures ∙ sym (walk.number_value scope x w.in-Number.text w.in-Number.is)
      | without_left-in-Name w ↦
          walk.answered _ _ _ s _ c.placed.ensures w.answer-is w.named-answer.ensures.value n
          ∙ ap (λ name. at s (named scope name)) w.as_str-in-Name.ensures ∙ sym (walk.name_value scope x w.in-Name.name w.in-Name.is)
      | without_left-in-Reference w ↦
          walk.answered _ _ _ s _ c.placed.ensures w.answer-is w.referred-answer.ensures.value n ∙ sym (walk.reference_value scope x w.in-Reference.reference w.in-Reference.is)
      | without_left-in-Set+in_ok-eval_all-in-Set w ↦
          walk.answered _ _ _ s _ c.placed.ensures w.answer-is w.set_of-answer.ensures.value n
          ∙ ap (λ r. with_value r (λ us. at s (set_of us))) (walk.not_refused _ _ w.in_ok-eval_all-in-Set.ensures ∙ ap (λ xs. all_values (map (value_of scope) xs)) w.as_slice.ensures)
          ∙ sym (walk.set_value scope x w.in-Set.members w.in-Set.is)
      | without_left-in-Unary+in_ok-eval-in-Unary w ↦
          walk.answered _ _ _ s _ c.placed.ensures w.answer-is w.unary-answer.ensures.value n
          ∙ ap (λ op. at s (unary op w.in_ok-eval-in-Unary.field-0)) w.as_str-in-Unary.ensures
          ∙ ap (λ r. with_value r (λ u. at s (unary w.in-Unary.op u))) (walk.not_refused _ _ w.in_ok-eval-in-Unary.ensures.value ∙ ap (value_of scope) w.get.ensures)
          ∙ sym (walk.unary_value scope x w.in-Unary.op w.in-Unary.operand w.in-Unary.is)
    ]

pub without_left-returns-clause-kept : goal.without_left-returns-clause-kept
without_left-returns-clause-kept t c =
    let s = (out-Expr c.args.expr.now).span in
    let of : (answer : Result Const Why) → c.match-expr.answer ≡ answer → IfOk answer IsConst → IfOk c.placed.result IsConst =
    λ answer e k. subst (λ r. IfOk r IsConst) (sym (c.placed.ensures ∙ ap (at s) e)) (walk.placed_kept answer s k)
    in
    elim c.match-expr.branch [
      | without_left-in-Number w ↦ of _ w.answer-is w.literal-answer.ensures.kept
      | without_left-in-Name w ↦ of _ w.answer-is w.named-answer.ensures.kept
      | without_left-in-Reference w ↦ of _ w.answer-is w.referred-answer.ensures.kept
      | without_left-in-Set+in_ok-eval_all-in-Set w ↦ of _ w.answer-is w.set_of-answer.ensures.kept
      | without_left-in-Unary+in_ok-eval-in-Unary w ↦ of _ w.answer-is w.unary-answer.ensures.kept
    ]
