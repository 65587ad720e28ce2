use Rattle.std.proofs.Common.{◌≡◌, ◌≢◌, IfOk, OnErr, None, sym, ◌∙◌, subst, rules, inl, inr}
use Rattle.std.specs.Slice.Iter.{iter_rest}
use Rattle.std.proofs.lemmas.Grind.{common_steps}
use Rattle.dsdl_types.specs.declared.schema.Body.{out-Body}
use Rattle.compat_check.specs.Verdicts.{found_of}
use Rattle.compat_check.proofs.Fields.{below_some, item_some, difference_of, difference_end}
use Rattle.compat_check.proofs.Verdicts.{at_error}
use Rattle.compat_check.proofs.Composites.{structs, unions}
use Rattle.compat_check.proofs.compare.+difference.Goals as goal

pub difference-returns-in-Struct-old-clause-found : goal.difference-returns-in-Struct-old-clause-found
difference-returns-in-Struct-old-clause-found t c =
    let e = structs _ _ _ _ _ _ c.in-Struct.is c.in-Struct-old.is c.len.ensures c.len-in-Struct-old.ensures in
    subst (λ d. IfOk c.body_difference.result (λ found. found_of found ≡ d)) e c.body_difference.ensures.found

pub difference-returns-in-Struct-old-clause-memory : goal.difference-returns-in-Struct-old-clause-memory
difference-returns-in-Struct-old-clause-memory t c =
    let e = structs _ _ _ _ _ _ c.in-Struct.is c.in-Struct-old.is c.len.ensures c.len-in-Struct-old.ensures in
    subst (λ d. OnErr c.body_difference.result (d ≢ None)) e c.body_difference.ensures.memory

pub difference-returns-in-Union-old-clause-found : goal.difference-returns-in-Union-old-clause-found
difference-returns-in-Union-old-clause-found t c =
    let e = unions _ _ _ _ _ _ c.in-Union.is c.in-Union-old.is c.len-in-Union-old.ensures c.len-in-Union-old-2.ensures in
    subst (λ d. IfOk c.body_difference-in-Union-old.result (λ found. found_of found ≡ d)) e c.body_difference-in-Union-old.ensures.found

pub difference-returns-in-Union-old-clause-memory : goal.difference-returns-in-Union-old-clause-memory
difference-returns-in-Union-old-clause-memory t c =
    let e = unions _ _ _ _ _ _ c.in-Union.is c.in-Union-old.is c.len-in-Union-old.ensures c.len-in-Union-old-2.ensures in
    subst (λ d. OnErr c.body_difference-in-Union-old.result (d ≢ None)) e c.body_difference-in-Union-old.ensures.memory

pub fields_difference-loop-field-init : goal.fields_difference-loop-field-init
fields_difference-loop-field-init t c =
    let new_is : iter_rest c.into_iter-field-iterator.result.a ≡ (out-Body c.args.new.now).fields = search (rules, common_steps) in
    let old_is : iter_rest c.into_iter-field-iterator.result.b ≡ (out-Body c.args.old.now).fields = search (rules, common_steps) in
    difference_of c.args.new.now c.args.old.now _ _ new_is old_is

pub fields_difference-returns-clause-found : goal.fields_difference-returns-clause-found
fields_difference-returns-clause-found t c =
    sym (difference_end _ _ (elim c.in-None.ensures.steps [ inl (x, e) ↦ inl e.0 | inr (x, e) ↦ inr e.0 ])) ∙ c.loop-field.invariant

pub item_difference-returns-in_err-difference-clause-memory : goal.item_difference-returns-in_err-difference-clause-memory
item_difference-returns-in_err-difference-clause-memory t c = at_error _ (item_some _ _ c.in_err-difference.ensures.memory)

pub field_difference-returns-in_err-kind_difference-clause-memory : goal.field_difference-returns-in_err-kind_difference-clause-memory
field_difference-returns-in_err-kind_difference-clause-memory t c = at_error _ (below_some _ _ c.in_err-kind_difference.ensures.memory)
