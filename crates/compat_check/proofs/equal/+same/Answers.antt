use Rattle.std.proofs.Common.{◌≡◌, length, sym, ap, ◌∙◌, rules, inl, inr}
use Rattle.std.specs.Slice.Iter.{iter_rest}
use Rattle.std.proofs.lemmas.Grind.{common_steps}
use Rattle.dsdl_types.specs.declared.schema.Body.{out-Body}
use Rattle.compat_check.proofs.Fields.{unlike_counts, same_of, same_end}
use Rattle.compat_check.proofs.equal.+same.Goals as goal

pub same_fields-returns-then-len : goal.same_fields-returns-then-len
same_fields-returns-then-len t c =
    unlike_counts c.args.a.now c.args.b.now (λ e. c.if-len.true (c.len.ensures ∙ e ∙ sym c.len-2.ensures))

pub same_fields-loop-field-init : goal.same_fields-loop-field-init
same_fields-loop-field-init t c =
    let a_is : iter_rest c.into_iter-field-iterator.result.a ≡ (out-Body c.args.a.now).fields = search (rules, common_steps) in
    let b_is : iter_rest c.into_iter-field-iterator.result.b ≡ (out-Body c.args.b.now).fields = search (rules, common_steps) in
    (ap length a_is ∙ sym c.len.ensures ∙ c.if-len.false ∙ c.len-2.ensures ∙ sym (ap length b_is), same_of c.args.a.now c.args.b.now _ _ a_is b_is)

pub same_fields-returns : goal.same_fields-returns
same_fields-returns t c =
    sym (same_end _ _ c.loop-field.invariant.0 (elim c.in-None.ensures.steps [ inl (x, e) ↦ inl e.0 | inr (x, e) ↦ inr e.0 ])) ∙ c.loop-field.invariant.1
