use Rattle.std.proofs.Common.{rules, ◌≡◌, ◌++◌, ◌∷◌, [], sym, subst, ◌+◌, drop}
use Rattle.bit_length.specs.Lengths.{Has}
use Rattle.dsdl_types.specs.Schemas.{Struct}
use Rattle.dsdl_types.specs.Views.{body_of, flds}
use Rattle.layout.specs.Layouts.{IsLayout}
use Rattle.layout.specs.Sets.{Leads, IsShort}
use Rattle.layout.proofs.Walks.{Walks}
use Rattle.layout.proofs.Sets as sets
use Rattle.layout.proofs.Types as types
use Rattle.layout.proofs.Fields as fields
use Rattle.layout.proofs.composite.struct_rows.Goals as goal

pub loop-field-init : goal.loop-field-init
loop-field-init c =
    let b = c.args.body.now in
    fields.walks_start (body_of b).0 (body_of b).1 _ _ _ c.requires.formed c.requires.short c.in_ok-ends.ensures (types.body_fields b _ c.as_slice-field-items.ensures) c.new-rows.ensures.items

pub sum-requires : goal.sum-requires
sum-requires c =
    let w = fields.at_pad _ _ _ _ c.as_slice-field-items.result.now c.loop-field.field-index c.field-item.result _ c.loop-field.invariant c.loop-field-test.true c.field-item.is c.in-Some.ensures in
    fields.pad_short _ _ _ _ _ _ _ w c.in_ok-only.ensures

pub loop-field-preserved-in-Some : goal.loop-field-preserved-in-Some
loop-field-preserved-in-Some c =
    let w = fields.at_pad _ _ _ _ c.as_slice-field-items.result.now c.loop-field.field-index c.field-item.result _ c.loop-field.invariant c.loop-field-test.true c.field-item.is c.in-Some.ensures in
    fields.walks_pad _ _ _ _ _ _ _ _ w c.in_ok-only.ensures c.in_ok-ends-2.ensures

pub leads-requires : goal.leads-requires
leads-requires c =
    let w = fields.at_field _ _ _ _ c.as_slice-field-items.result.now c.loop-field.field-index c.field-item.result c.loop-field.invariant c.loop-field-test.true c.field-item.is c.in_default.ensures in
    subst (λ d. IsShort (Leads d (Has c.loop-field.ends))) (sym c.is_aligned.ensures) (fields.lead_short _ _ _ _ _ _ _ w)

pub row_of-requires : goal.row_of-requires
row_of-requires c =
    let w = fields.at_field _ _ _ _ c.as_slice-field-items.result.now c.loop-field.field-index c.field-item.result c.loop-field.invariant c.loop-field-test.true c.field-item.is c.in_default.ensures in
    let f = fields.field_formed _ _ _ _ _ _ _ w in
    record { formed = f.0; short = f.1 }

pub sum-requires-in-loop-field : goal.sum-requires-in-loop-field
sum-requires-in-loop-field c =
    let w = fields.at_field _ _ _ _ c.as_slice-field-items.result.now c.loop-field.field-index c.field-item.result c.loop-field.invariant c.loop-field-test.true c.field-item.is c.in_default.ensures in
    fields.field_short _ _ _ _ _ _ _ _ _ w
    (sets.leads_along _ _ _ _ _ c.in_ok-row.ensures.offsets c.is_aligned.ensures c.in_ok-offsets.ensures) c.in_ok-row.ensures.lengths

pub loop-field-preserved : goal.loop-field-preserved
loop-field-preserved c =
    let w = fields.at_field _ _ _ _ c.as_slice-field-items.result.now c.loop-field.field-index c.field-item.result c.loop-field.invariant c.loop-field-test.true c.field-item.is c.in_default.ensures in
    let lead = sets.leads_along _ _ _ _ _ c.in_ok-row.ensures.offsets c.is_aligned.ensures c.in_ok-offsets.ensures in
    let row = c.in_ok-row.ensures in
    let pushed : c.push.new.self.items ≡ c.loop-field.rows.items ++ c.in_ok-row.row ∷ [] = search rules in
    subst (λ r. Walks (body_of c.args.body.now).0 (body_of c.args.body.now).1 (flds (drop (c.loop-field.field-index + 1) c.as_slice-field-items.result.now)) r c.in_ok-ends-3.ends) (sym pushed)
    (fields.walks_field _ _ _ _ _ _ _ c.in_ok-row.row _ w row.name row.cast lead row.lengths c.in_ok-ends-3.ensures)

pub pad-requires : goal.pad-requires
pad-requires c =
    fields.end_short _ _ _ _ (fields.at_end _ _ _ _ c.as_slice-field-items.result.now c.loop-field.field-index c.loop-field.invariant c.loop-field-test.false)

pub returns : goal.returns
returns c =
    let w = fields.at_end _ _ _ _ c.as_slice-field-items.result.now c.loop-field.field-index c.loop-field.invariant c.loop-field-test.false in
    subst (λ r. IsLayout (Struct (body_of c.args.body.now).0 (body_of c.args.body.now).1) r c.in_ok-pad.field-0) (sym c.new.ensures)
    (fields.walks_layout _ _ _ _ c.in_ok-pad.field-0 w c.in_ok-pad.ensures)
