use Rattle.std.proofs.Common.{rules, ◌≡◌, ◌++◌, ◌∷◌, [], sym, ◌∙◌, subst, Some, ◌+◌, ◌-◌, drop}
use Rattle.bit_length.specs.Lengths.{Has, Same, Only}
use Rattle.dsdl_types.specs.Schemas.{Union, tag_bits, variants}
use Rattle.dsdl_types.specs.Views.{body_of, flds}
use Rattle.layout.specs.Layouts.{IsLayout}
use Rattle.layout.proofs.Walks.{Joins}
use Rattle.layout.proofs.Types as types
use Rattle.layout.proofs.Variants as variant
use Rattle.layout.proofs.composite.union_rows.Goals as goal

pub loop-field-init : goal.loop-field-init
loop-field-init c =
    let b = c.args.body.now in
    variant.joins_start (body_of b).0 (body_of b).1 _ _ c.requires.formed c.requires.short (types.body_fields b _ c.as_slice-field-items.ensures) c.new-rows.ensures.items

pub loop-field-preserved : goal.loop-field-preserved
loop-field-preserved c =
    let b = c.args.body.now in
    let j = variant.at_variant _ _ _ _ c.as_slice-field-items.result.now c.loop-field.field-index c.field-item.result c.loop-field.invariant c.loop-field-test.true c.field-item.is in
    let tag = variant.tag_of_body b c.in_ok-tag.tag _ _ c.in_ok-tag.ensures c.tag_bits.ensures c.len.ensures c.requires.formed in
    let row = c.in_ok-row.ensures in
    let offsets = subst (λ l. Same (Has l) (Only (tag_bits (variants (body_of b).0)))) (sym (row.offsets ∙ c.in_ok-copy.ensures)) tag in
    let pushed : c.push.new.self.items ≡ c.loop-field.rows.items ++ c.in_ok-row.row ∷ [] = search rules in
    subst (λ r. Joins (body_of b).0 (body_of b).1 (flds (drop (c.loop-field.field-index + 1) c.as_slice-field-items.result.now)) r (Some c.in_ok-join.field-0)) (sym pushed)
    (variant.joins_field _ _ _ _ _ _ _ c.in_ok-row.row _ j row.name row.cast offsets row.lengths c.in_ok-join.ensures)

pub sum-requires : goal.sum-requires
sum-requires c =
    let b = c.args.body.now in
    let tag = variant.tag_of_body b c.in_ok-tag.tag _ _ c.in_ok-tag.ensures c.tag_bits.ensures c.len.ensures c.requires.formed in
    let j = variant.at_end (body_of b).0 (body_of b).1 c.loop-field.rows.items _ c.as_slice-field-items.result.now c.loop-field.field-index
    (subst (λ l. Joins (body_of b).0 (body_of b).1 (flds (drop c.loop-field.field-index c.as_slice-field-items.result.now)) c.loop-field.rows.items l) c.in-Some.is c.loop-field.invariant) c.loop-field-test.false
    in
    variant.union_short _ _ _ c.in_ok-tag.tag c.in-Some.lengths j tag c.requires.short

pub pad-requires : goal.pad-requires
pad-requires c =
    let b = c.args.body.now in
    let tag = variant.tag_of_body b c.in_ok-tag.tag _ _ c.in_ok-tag.ensures c.tag_bits.ensures c.len.ensures c.requires.formed in
    let j = variant.at_end (body_of b).0 (body_of b).1 c.loop-field.rows.items _ c.as_slice-field-items.result.now c.loop-field.field-index
    (subst (λ l. Joins (body_of b).0 (body_of b).1 (flds (drop c.loop-field.field-index c.as_slice-field-items.result.now)) c.loop-field.rows.items l) c.in-Some.is c.loop-field.invariant) c.loop-field-test.false
    in
    variant.union_pad_short _ _ _ c.in_ok-tag.tag c.in-Some.lengths c.in_ok-sum-in-Some.field-0 j tag c.in_ok-sum-in-Some.ensures c.requires.short

pub unreachable-requires : goal.unreachable-requires
unreachable-requires c =
    let b = c.args.body.now in
    let j = variant.at_end (body_of b).0 (body_of b).1 c.loop-field.rows.items _ c.as_slice-field-items.result.now c.loop-field.field-index
    (subst (λ l. Joins (body_of b).0 (body_of b).1 (flds (drop c.loop-field.field-index c.as_slice-field-items.result.now)) c.loop-field.rows.items l) c.in-None.is c.loop-field.invariant) c.loop-field-test.false
    in
    variant.some_lengths _ _ _ j c.requires.formed

pub returns : goal.returns
returns c =
    let b = c.args.body.now in
    let tag = variant.tag_of_body b c.in_ok-tag.tag _ _ c.in_ok-tag.ensures c.tag_bits.ensures c.len.ensures c.requires.formed in
    let j = variant.at_end (body_of b).0 (body_of b).1 c.loop-field.rows.items _ c.as_slice-field-items.result.now c.loop-field.field-index
    (subst (λ l. Joins (body_of b).0 (body_of b).1 (flds (drop c.loop-field.field-index c.as_slice-field-items.result.now)) c.loop-field.rows.items l) c.in-Some.is c.loop-field.invariant) c.loop-field-test.false
    in
    subst (λ r. IsLayout (Union (body_of b).0 (body_of b).1) r c.in_ok-pad-in-Some.field-0) (sym c.new.ensures)
    (variant.joins_layout _ _ _ c.in_ok-tag.tag c.in-Some.lengths c.in_ok-sum-in-Some.field-0 c.in_ok-pad-in-Some.field-0 j tag c.in_ok-sum-in-Some.ensures c.in_ok-pad-in-Some.ensures)
