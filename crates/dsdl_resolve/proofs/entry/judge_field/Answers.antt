use Rattle.std.proofs.Common.{◌∙◌, sym, ap}
use Rattle.dsdl_types.specs.Views.{is_padding}
use Rattle.dsdl_resolve.specs.Forms.{type_of}
use Rattle.dsdl_resolve.proofs.FieldJudged.{at_bound, made, made_typed, made_measure, named_refused, message_refused, type_found, type_messaged, type_missing, type_none, sized, field_judged}
use Rattle.dsdl_resolve.proofs.FormTypes.{type_fine, type_counts}
use Rattle.dsdl_resolve.proofs.entry.judge_field.Goals as goal

pub returns-in-Some-clause-refused : goal.returns-in-Some-clause-refused
returns-in-Some-clause-refused c = λ vs same p said at h.
    named_refused c.args.scope.now p said vs c.args.form.now c.args.name.now at c.in-Some.number (at_bound p c.args.form.now c.args.name.now same (c.in-Some.ensures.rule p said h))

pub returns-in_default-2-clause-refused : goal.returns-in_default-2-clause-refused
returns-in_default-2-clause-refused c = λ vs same p said at h.
    message_refused c.args.scope.now p said vs c.args.form.now c.args.name.now at (at_bound p c.args.form.now c.args.name.now same (c.in_default.ensures.rule p said h))
    (type_missing c.args.scope.now c.args.form.now c.args.bound.now c.in_default.ensures.clear.0 c.in_default.ensures.clear.1
    (type_none c.args.scope.now c.args.form.now c.args.bound.now _ c.in_ok-found.ensures c.in_default-2.not-Some))

pub measure_of-requires-clause-part : goal.measure_of-requires-clause-part
measure_of-requires-clause-part c = (type_fine c.args.scope.now c.requires.scope.types c.args.form.now c.args.bound.now c.in-Some-2.found.typed (type_found c.args.scope.now c.args.form.now c.args.bound.now _ c.in-Some-2.found c.in_ok-found.ensures c.in-Some-2.is).0).part

pub measure_of-requires-clause-typed : goal.measure_of-requires-clause-typed
measure_of-requires-clause-typed c = ap is_padding (type_fine c.args.scope.now c.requires.scope.types c.args.form.now c.args.bound.now c.in-Some-2.found.typed (type_found c.args.scope.now c.args.form.now c.args.bound.now _ c.in-Some-2.found c.in_ok-found.ensures c.in-Some-2.is).0).typed

pub measure_of-requires-clause-counts : goal.measure_of-requires-clause-counts
measure_of-requires-clause-counts c =
    type_counts c.args.scope.now c.requires.scope.types c.in-Some-2.found.counts c.args.form.now c.args.bound.now c.in-Some-2.found.typed (type_found c.args.scope.now c.args.form.now c.args.bound.now _ c.in-Some-2.found c.in_ok-found.ensures c.in-Some-2.is).0 (type_found c.args.scope.now c.args.form.now c.args.bound.now _ c.in-Some-2.found c.in_ok-found.ensures c.in-Some-2.is).1

pub returns-in-Some-size_refusal-clause-refused : goal.returns-in-Some-size_refusal-clause-refused
returns-in-Some-size_refusal-clause-refused c = λ vs same p said at h.
    let typed = c.in-Some-2.found.typed in
    let is = (type_found c.args.scope.now c.args.form.now c.args.bound.now _ c.in-Some-2.found c.in_ok-found.ensures c.in-Some-2.is).0 in
    let fine = type_fine c.args.scope.now c.requires.scope.types c.args.form.now c.args.bound.now typed is in
    let totals = c.with_field-totals.ensures.totals said.union said.fields (made c.args.name.now typed.schema) h.totals
    (made_typed said.fields c.args.name.now typed.schema fine.typed)
    (made_measure said.fields c.args.name.now typed.schema fine.typed c.measure_of.result c.measure_of.ensures.measure)
    in
    sized c.args.scope.now p said vs c.args.form.now c.args.name.now at (at_bound p c.args.form.now c.args.name.now same (c.in_default.ensures.rule p said h))
    (type_messaged c.args.scope.now c.args.form.now c.args.bound.now typed is) typed (ap (type_of c.args.scope.now c.args.form.now) same ∙ is) fine
    ∙ sym (c.in-Some-size_refusal.ensures.refusal said.union _ totals)

pub returns-in-None-clause-judged : goal.returns-in-None-clause-judged
returns-in-None-clause-judged c = λ vs same p said at h.
    let typed = c.in-Some-2.found.typed in
    let is = (type_found c.args.scope.now c.args.form.now c.args.bound.now _ c.in-Some-2.found c.in_ok-found.ensures c.in-Some-2.is).0 in
    let fine = type_fine c.args.scope.now c.requires.scope.types c.args.form.now c.args.bound.now typed is in
    let totals = c.with_field-totals.ensures.totals said.union said.fields (made c.args.name.now typed.schema) h.totals
    (made_typed said.fields c.args.name.now typed.schema fine.typed)
    (made_measure said.fields c.args.name.now typed.schema fine.typed c.measure_of.result c.measure_of.ensures.measure)
    in
    field_judged c.args.scope.now p said vs c.args.form.now c.args.name.now at (at_bound p c.args.form.now c.args.name.now same (c.in_default.ensures.rule p said h))
    (type_messaged c.args.scope.now c.args.form.now c.args.bound.now typed is) typed (ap (type_of c.args.scope.now c.args.form.now) same ∙ is) fine
    c.with_field-totals.result (sym (c.in-None.ensures.refusal said.union _ totals)) totals (c.in-None.ensures.within said.union _ totals)
