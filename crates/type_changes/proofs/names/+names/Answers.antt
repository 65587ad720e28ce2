use Rattle.std.proofs.Common.{◌≡◌, sym, ◌∙◌, rules, inl, inr}
use Rattle.std.specs.Slice.Iter.{iter_rest}
use Rattle.std.proofs.lemmas.Grind.{common_steps}
use Rattle.dsdl_types.specs.declared.schema.Body.{out-Body}
use Rattle.type_changes.proofs.Fields.{names_of, names_end}
use Rattle.type_changes.proofs.names.+names.Goals as goal

pub same_field_names-loop-field-init : goal.same_field_names-loop-field-init
same_field_names-loop-field-init t c =
    let new_is : iter_rest c.into_iter-field-iterator.result.a ≡ (out-Body c.args.new.now).fields = search (rules, common_steps) in
    let old_is : iter_rest c.into_iter-field-iterator.result.b ≡ (out-Body c.args.old.now).fields = search (rules, common_steps) in
    names_of c.args.new.now c.args.old.now _ _ new_is old_is

pub same_field_names-returns : goal.same_field_names-returns
same_field_names-returns t c =
    sym (names_end _ _ (elim c.in-None.ensures.steps [ inl (x, e) ↦ inl e.0 | inr (x, e) ↦ inr e.0 ])) ∙ c.loop-field.invariant
