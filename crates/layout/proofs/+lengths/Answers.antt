use Rattle.std.proofs.Common.{refl, inl, inr, rules, ◌∷◌, ◌++◌, [], sym, ap, ◌∙◌, subst, true, false, ◌+◌, drop}
use Rattle.std.proofs.lemmas.Result.{IfOk-weaker}
use Rattle.bit_length.specs.Lengths.{Has, Same, Only, Delimited, Sums, Repeats, Pads}
use Rattle.dsdl_types.specs.Schemas.{Struct, Simple, PBool, length_field_bits}
use Rattle.dsdl_types.specs.Lengths.{Length}
use Rattle.dsdl_types.specs.Views.{body_of, named, type_of, sch, flds}
use Rattle.dsdl_types.specs.declared.schema.Schema.TheFolds.{the_lemmas}
use Rattle.layout.specs.declared.row.Row.{Row}
use Rattle.layout.specs.Layouts.{cast_of}
use Rattle.layout.proofs.Walks.{Joins, PassesBehind}
use Rattle.layout.proofs.OneMore as one
use Rattle.layout.proofs.Sets as sets
use Rattle.layout.proofs.Types as types
use Rattle.layout.proofs.Passing as passing
use Rattle.layout.proofs.Behind as behind
use Rattle.layout.proofs.Variants as variant
use Rattle.layout.proofs.+lengths.Goals as goal
use Rattle.layout.proofs.+lengths.Goals.{bodies::lengths_of_struct-in-Some, bodies::lengths_of_struct-in-None+in_ok-moved-in-None+in_ok-places-in-None}

-- ---- a type by itself

pub lengths::own_lengths-repeat-requires : goal.lengths::own_lengths-repeat-requires
lengths::own_lengths-repeat-requires t c =
    let e = types.fixed_is c.args.schema.now c.in-Fixed.item c.get.result.now c.in-Fixed.len c.in-Fixed.is c.get.ensures in
    sets.fixed_short (sch c.get.result.now) c.in-Fixed.len (Has c.in_ok-part_lengths-in-Fixed.field-0) c.in_ok-part_lengths-in-Fixed.ensures (sets.short_along _ _ e c.requires.short)

pub lengths::own_lengths-returns-in_ok-part_lengths-in-Fixed :
    goal.lengths::own_lengths-returns-in_ok-part_lengths-in-Fixed
lengths::own_lengths-returns-in_ok-part_lengths-in-Fixed t c =
    let e = types.fixed_is c.args.schema.now c.in-Fixed.item c.get.result.now c.in-Fixed.len c.in-Fixed.is c.get.ensures in
    sets.lengths_are c.repeat-in-Fixed.result (Repeats (Has c.in_ok-part_lengths-in-Fixed.field-0) c.in-Fixed.len) _ _ c.repeat-in-Fixed.ensures
    (sets.fixed_lengths (sch c.get.result.now) c.in-Fixed.len (Has c.in_ok-part_lengths-in-Fixed.field-0) c.in_ok-part_lengths-in-Fixed.ensures) e

pub lengths::own_lengths-up_to-requires : goal.lengths::own_lengths-up_to-requires
lengths::own_lengths-up_to-requires t c =
    let e = types.var_is c.args.schema.now c.in-Var.item c.get-in-Var.result.now c.in-Var.cap c.in-Var.is c.get-in-Var.ensures in
    sets.items_short (sch c.get-in-Var.result.now) c.in-Var.cap (Has c.in_ok-part_lengths-in-Var.field-0) c.in_ok-part_lengths-in-Var.ensures (sets.short_along _ _ e c.requires.short)

pub lengths::own_lengths-sum-requires : goal.lengths::own_lengths-sum-requires
lengths::own_lengths-sum-requires t c =
    let e = types.var_is c.args.schema.now c.in-Var.item c.get-in-Var.result.now c.in-Var.cap c.in-Var.is c.get-in-Var.ensures in
    let item = sch c.get-in-Var.result.now in
    let length_field : Same (Has c.in_ok-only-in-Var.field-0) (Only (length_field_bits c.in-Var.cap)) =
    subst (λ p. Same (Has c.in_ok-only-in-Var.field-0) (Only p)) (c.length_field_bits.ensures ∙ ap length_field_bits c.from.ensures) c.in_ok-only-in-Var.ensures
    in
    sets.var_short item c.in-Var.cap (Has c.in_ok-part_lengths-in-Var.field-0) (Has c.in_ok-only-in-Var.field-0) (Has c.in_ok-items-in-Var.items) c.in_ok-part_lengths-in-Var.ensures length_field c.in_ok-items-in-Var.ensures (sets.short_along _ _ e c.requires.short)

pub lengths::own_lengths-returns-in_ok-only-in-Var : goal.lengths::own_lengths-returns-in_ok-only-in-Var
lengths::own_lengths-returns-in_ok-only-in-Var t c =
    let e = types.var_is c.args.schema.now c.in-Var.item c.get-in-Var.result.now c.in-Var.cap c.in-Var.is c.get-in-Var.ensures in
    let item = sch c.get-in-Var.result.now in
    let length_field : Same (Has c.in_ok-only-in-Var.field-0) (Only (length_field_bits c.in-Var.cap)) =
    subst (λ p. Same (Has c.in_ok-only-in-Var.field-0) (Only p)) (c.length_field_bits.ensures ∙ ap length_field_bits c.from.ensures) c.in_ok-only-in-Var.ensures
    in
    sets.lengths_are c.sum-in-Var.result (Sums (Has c.in_ok-only-in-Var.field-0) (Has c.in_ok-items-in-Var.items)) _ _ c.sum-in-Var.ensures
    (sets.var_lengths item c.in-Var.cap (Has c.in_ok-part_lengths-in-Var.field-0) (Has c.in_ok-only-in-Var.field-0) (Has c.in_ok-items-in-Var.items) c.in_ok-part_lengths-in-Var.ensures length_field c.in_ok-items-in-Var.ensures) e

pub lengths::own_lengths-returns-in-Bool : goal.lengths::own_lengths-returns-in-Bool
lengths::own_lengths-returns-in-Bool t c =
    sets.lengths_are c.only.result (Only 1) (Simple PBool) (sch c.args.schema.now) c.only.ensures (λ n. (λ e. e, λ e. e)) (types.bool_is c.args.schema.now c.in-Bool.is)

pub lengths::own_lengths-returns-in-Uint : goal.lengths::own_lengths-returns-in-Uint
lengths::own_lengths-returns-in-Uint t c =
    let bits = c.from-in-Uint.ensures in
    let same : Same (Only c.from-in-Uint.result) (Only c.in-Uint.bits) = λ n. (λ e. e ∙ bits, λ e. e ∙ sym bits) in
    let whole : Same (Only c.in-Uint.bits) (Length (sch c.args.schema.now)) = elim c.in-Uint.is [
      | inl (cast, e) ↦ sets.only_along _ _ (types.uint_is c.args.schema.now c.in-Uint.bits cast e)
      | inr k ↦ elim k [
        | inl e ↦ sets.only_along _ _ (types.int_is c.args.schema.now c.in-Uint.bits e)
        | inr (cast, e) ↦ sets.only_along _ _ (types.float_is c.args.schema.now c.in-Uint.bits cast e)
      ]
    ]
    in
    sets.lengths_are c.only-in-Uint.result (Only c.from-in-Uint.result) (sch c.args.schema.now) (sch c.args.schema.now) c.only-in-Uint.ensures (sets.same_trans same whole) refl

pub lengths::own_lengths-returns-in-Struct : goal.lengths::own_lengths-returns-in-Struct
lengths::own_lengths-returns-in-Struct t c =
    let e = types.struct_is c.args.schema.now c.in-Struct.body c.in-Struct.is in
    sets.lengths_are c.lengths_of_struct.result _ _ _ c.lengths_of_struct.ensures (λ n. (λ h. h, λ h. h)) e

pub lengths::own_lengths-returns-in-Union : goal.lengths::own_lengths-returns-in-Union
lengths::own_lengths-returns-in-Union t c =
    let e = types.union_is c.args.schema.now c.in-Union.body c.in-Union.is in
    sets.lengths_are c.lengths_of_union.result _ _ _ c.lengths_of_union.ensures (λ n. (λ h. h, λ h. h)) e

-- ---- a type as a part

pub lengths::part_lengths-returns-in-Some : goal.lengths::part_lengths-returns-in-Some
lengths::part_lengths-returns-in-Some t c =
    sets.sizes_are c.delimited.result (Delimited c.in-Some.extent) (sch c.args.schema.now) c.delimited.ensures
    (sets.delimited_sizes (sch c.args.schema.now) c.in-Some.extent c.in-Some.ensures.0 c.in-Some.ensures.1)

-- ---- one field more

pub ends::ends_after-sum-requires : goal.ends::ends_after-sum-requires
ends::ends_after-sum-requires t c =
    let f = named c.args.field.now in
    one.pad_short f.0 f.1 c.in-Some.bits c.in-Some.ensures (Has c.args.places.now) (Has c.in_ok-only-in-Some.field-0) c.in_ok-only-in-Some.ensures c.requires.short

pub ends::ends_after-returns-in-Some : goal.ends::ends_after-returns-in-Some
ends::ends_after-returns-in-Some t c =
    let f = named c.args.field.now in
    IfOk-weaker c.sum-in-Some.result _ _
    (λ s sum. one.pad_ends f.0 f.1 c.in-Some.bits c.in-Some.ensures (Has c.args.places.now) (Has c.in_ok-only-in-Some.field-0) (Has s) c.in_ok-only-in-Some.ensures sum)
    c.sum-in-Some.ensures

pub ends::ends_after-pad-requires : goal.ends::ends_after-pad-requires
ends::ends_after-pad-requires t c = λ n h.
    let f = named c.args.field.now in
    let places = Has c.args.places.now in
    one.typed_leads f.0 f.1 c.in-None.ensures places true (sym c.if-is_aligned.true ∙ c.is_aligned.ensures) c.requires.short n ((sets.pads_lead places n).0 h)

pub ends::ends_after-sum-requires-then-is_aligned :
    goal.ends::ends_after-sum-requires-then-is_aligned
ends::ends_after-sum-requires-then-is_aligned t c =
    let f = named c.args.field.now in
    let places = Has c.args.places.now in
    let lead = sets.same_trans c.in_ok-pad-in-None.ensures (sets.pads_lead places) in
    one.typed_sums f.0 f.1 c.in-None.ensures places (Has c.in_ok-pad-in-None.field-0) (Has c.in_ok-lengths-in-None.lengths) true (sym c.if-is_aligned.true ∙ c.is_aligned.ensures) lead c.in_ok-lengths-in-None.ensures c.requires.short

pub ends::ends_after-returns-then-is_aligned : goal.ends::ends_after-returns-then-is_aligned
ends::ends_after-returns-then-is_aligned t c =
    let f = named c.args.field.now in
    let places = Has c.args.places.now in
    let lead = sets.same_trans c.in_ok-pad-in-None.ensures (sets.pads_lead places) in
    IfOk-weaker c.sum-then-is_aligned-2.result _ _
    (λ s sum.
    one.typed_ends f.0 f.1 c.in-None.ensures places (Has c.in_ok-pad-in-None.field-0) (Has c.in_ok-lengths-in-None.lengths) (Has s) true (sym c.if-is_aligned.true ∙ c.is_aligned.ensures) lead c.in_ok-lengths-in-None.ensures sum)
    c.sum-then-is_aligned-2.ensures

pub ends::ends_after-sum-requires-else-is_aligned :
    goal.ends::ends_after-sum-requires-else-is_aligned
ends::ends_after-sum-requires-else-is_aligned t c =
    let f = named c.args.field.now in
    let places = Has c.args.places.now in
    one.typed_sums f.0 f.1 c.in-None.ensures places places (Has c.in_ok-lengths-in-None.lengths) false (sym c.if-is_aligned.false ∙ c.is_aligned.ensures)
    (sets.stays_lead places) c.in_ok-lengths-in-None.ensures c.requires.short

pub ends::ends_after-returns : goal.ends::ends_after-returns
ends::ends_after-returns t c =
    let f = named c.args.field.now in
    let places = Has c.args.places.now in
    IfOk-weaker c.sum-else-is_aligned.result _ _
    (λ s sum.
    one.typed_ends f.0 f.1 c.in-None.ensures places places (Has c.in_ok-lengths-in-None.lengths) (Has s) false (sym c.if-is_aligned.false ∙ c.is_aligned.ensures) (sets.stays_lead places) c.in_ok-lengths-in-None.ensures sum)
    c.sum-else-is_aligned.ensures

-- ---- a structure

pub bodies::lengths_of_struct-loop-field-init : goal.bodies::lengths_of_struct-loop-field-init
bodies::lengths_of_struct-loop-field-init t c =
    let b = c.args.body.now in
    behind.behind_start _ _ _ (passing.passes_start (body_of b).0 (body_of b).1 _ _ c.requires.formed c.requires.short c.in_ok-places.ensures (types.body_fields b _ c.as_slice-field-items.ensures))

pub bodies::lengths_of_struct-moved-requires-clause-short : goal.bodies::lengths_of_struct-moved-requires-clause-short
bodies::lengths_of_struct-moved-requires-clause-short t c = behind.behind_short _ _ _ _ c.loop-field.invariant

pub bodies::lengths_of_struct-ends_after-requires : goal.bodies::lengths_of_struct-ends_after-requires
bodies::lengths_of_struct-ends_after-requires t c =
    let items = c.as_slice-field-items.result.now in
    let i = c.loop-field.field-index in
    let f = named c.field-item.result in
    let before = behind.behind_passes _ _ _ _ c.loop-field.invariant c.in_ok-moved-in-None.field-0 c.in_ok-moved-in-None.ensures in
    let w = passing.at_field _ _ items i c.field-item.result before c.loop-field-test.true c.field-item.is in
    let rest = flds (drop (i + 1) items) in (
      search (rules, the_lemmas),
      (
        passing.alone_formed _ f.0 f.1 rest _ w,
        (passing.alone_small _ f.0 f.1 rest _ w, passing.alone_short _ f.0 f.1 rest _ w),
      ),
    )

pub bodies::lengths_of_struct-loop-field-preserved :
    goal.bodies::lengths_of_struct-loop-field-preserved
bodies::lengths_of_struct-loop-field-preserved t c =
    let items = c.as_slice-field-items.result.now in
    let i = c.loop-field.field-index in
    let f = named c.field-item.result in
    let fs = (body_of c.args.body.now).0 in
    let rest = flds (drop (i + 1) items) in
    let is_next = types.flds_next items i c.field-item.result c.loop-field-test.true c.field-item.is in
    elim c.match-bits_with.branch [
      | bodies::lengths_of_struct-in-Some w ↦
          let (k, e, is) = w.in-Some.ensures.one in
          let here = subst (λ r. PassesBehind fs r c.loop-field.places c.loop-field.behind) is_next c.loop-field.invariant in
          let more = behind.behind_more fs f.0 f.1 rest c.loop-field.places c.loop-field.behind k w.in-Some.bits here is e w.in-Some.ensures.short in
          subst (λ b. PassesBehind fs rest c.match-bits_with.places b) (sym w.behind-is)
          (subst (λ p. PassesBehind fs rest p w.in-Some.bits) (sym w.places-is) more)
      | bodies::lengths_of_struct-in-None+in_ok-moved-in-None+in_ok-places-in-None w ↦
          let before = behind.behind_passes _ _ _ _ c.loop-field.invariant w.in_ok-moved-in-None.field-0 w.in_ok-moved-in-None.ensures in
          let at = passing.at_field _ _ items i c.field-item.result before c.loop-field-test.true c.field-item.is in
          let next = passing.passes_field _ f.0 f.1 rest _ at _ w.in_ok-places-in-None.ensures in
          subst (λ b. PassesBehind fs rest c.match-bits_with.places b) (sym w.behind-is)
          (subst (λ p. PassesBehind fs rest p 0) (sym w.places-is) (behind.behind_start fs rest w.in_ok-places-in-None.places next))
    ]

pub bodies::lengths_of_struct-moved-requires-2-clause-short : goal.bodies::lengths_of_struct-moved-requires-2-clause-short
bodies::lengths_of_struct-moved-requires-2-clause-short t c = behind.behind_short _ _ _ _ c.loop-field.invariant

pub bodies::lengths_of_struct-pad-requires : goal.bodies::lengths_of_struct-pad-requires
bodies::lengths_of_struct-pad-requires t c =
    let last = behind.behind_passes _ _ _ _ c.loop-field.invariant c.in_ok-moved.field-0 c.in_ok-moved.ensures in
    passing.end_short _ _ (passing.at_end _ _ c.as_slice-field-items.result.now c.loop-field.field-index last c.loop-field-test.false)

pub bodies::lengths_of_struct-returns : goal.bodies::lengths_of_struct-returns
bodies::lengths_of_struct-returns t c =
    let b = c.args.body.now in
    let last = behind.behind_passes _ _ _ _ c.loop-field.invariant c.in_ok-moved.field-0 c.in_ok-moved.ensures in
    let w = passing.at_end _ _ c.as_slice-field-items.result.now c.loop-field.field-index last c.loop-field-test.false in
    let s = Struct (body_of b).0 (body_of b).1 in
    sets.lengths_are c.pad-2.result (Pads (Has c.in_ok-moved.field-0) 8) s s c.pad-2.ensures (passing.end_lengths (body_of b).0 (body_of b).1 _ w) refl

-- ---- a union

pub bodies::lengths_of_union-loop-field-init : goal.bodies::lengths_of_union-loop-field-init
bodies::lengths_of_union-loop-field-init t c =
    let b = c.args.body.now in
    ([], variant.joins_start (body_of b).0 (body_of b).1 _ _ c.requires.formed c.requires.short (types.body_fields b _ c.as_slice-field-items.ensures) refl)

pub bodies::lengths_of_union-loop-field-preserved :
    goal.bodies::lengths_of_union-loop-field-preserved
bodies::lengths_of_union-loop-field-preserved t c =
    let f = named c.field-item.result in
    let (rows, joins) = c.loop-field.invariant in
    let j = variant.at_variant _ _ rows _ c.as_slice-field-items.result.now c.loop-field.field-index c.field-item.result joins c.loop-field-test.true c.field-item.is in
    let tag = variant.tag_of_body c.args.body.now c.in_ok-tag.tag _ _ c.in_ok-tag.ensures c.tag_bits.ensures c.len.ensures c.requires.formed in
    let row : Row = record {
      name = f.0;
      offsets = c.in_ok-tag.tag;
      lengths = c.in_ok-variant.variant;
      cast = cast_of (type_of f.1);
    } in
    (rows ++ row ∷ [], variant.joins_field _ _ _ _ _ _ _ row _ j refl refl tag c.in_ok-variant.ensures c.in_ok-join.ensures)

pub bodies::lengths_of_union-sum-requires : goal.bodies::lengths_of_union-sum-requires
bodies::lengths_of_union-sum-requires t c =
    let b = c.args.body.now in
    let items = c.as_slice-field-items.result.now in
    let (rows, joins) = c.loop-field.invariant in
    let tag = variant.tag_of_body b c.in_ok-tag.tag _ _ c.in_ok-tag.ensures c.tag_bits.ensures c.len.ensures c.requires.formed in
    let j = variant.at_end (body_of b).0 (body_of b).1 rows _ items c.loop-field.field-index
    (subst (λ l. Joins (body_of b).0 (body_of b).1 (flds (drop c.loop-field.field-index items)) rows l) c.in-Some.is joins) c.loop-field-test.false
    in
    variant.union_short _ _ _ c.in_ok-tag.tag c.in-Some.lengths j tag c.requires.short

pub bodies::lengths_of_union-pad-requires : goal.bodies::lengths_of_union-pad-requires
bodies::lengths_of_union-pad-requires t c =
    let b = c.args.body.now in
    let items = c.as_slice-field-items.result.now in
    let (rows, joins) = c.loop-field.invariant in
    let tag = variant.tag_of_body b c.in_ok-tag.tag _ _ c.in_ok-tag.ensures c.tag_bits.ensures c.len.ensures c.requires.formed in
    let j = variant.at_end (body_of b).0 (body_of b).1 rows _ items c.loop-field.field-index
    (subst (λ l. Joins (body_of b).0 (body_of b).1 (flds (drop c.loop-field.field-index items)) rows l) c.in-Some.is joins) c.loop-field-test.false
    in
    variant.union_pad_short _ _ _ c.in_ok-tag.tag c.in-Some.lengths c.in_ok-sum-in-Some.field-0 j tag c.in_ok-sum-in-Some.ensures c.requires.short

pub bodies::lengths_of_union-unreachable-requires :
    goal.bodies::lengths_of_union-unreachable-requires
bodies::lengths_of_union-unreachable-requires t c =
    let b = c.args.body.now in
    let items = c.as_slice-field-items.result.now in
    let (rows, joins) = c.loop-field.invariant in
    let j = variant.at_end (body_of b).0 (body_of b).1 rows _ items c.loop-field.field-index
    (subst (λ l. Joins (body_of b).0 (body_of b).1 (flds (drop c.loop-field.field-index items)) rows l) c.in-None.is joins) c.loop-field-test.false
    in
    variant.some_lengths _ _ _ j c.requires.formed

pub bodies::lengths_of_union-returns : goal.bodies::lengths_of_union-returns
bodies::lengths_of_union-returns t c =
    let b = c.args.body.now in
    let items = c.as_slice-field-items.result.now in
    let (rows, joins) = c.loop-field.invariant in
    let tag = variant.tag_of_body b c.in_ok-tag.tag _ _ c.in_ok-tag.ensures c.tag_bits.ensures c.len.ensures c.requires.formed in
    let j = variant.at_end (body_of b).0 (body_of b).1 rows _ items c.loop-field.field-index
    (subst (λ l. Joins (body_of b).0 (body_of b).1 (flds (drop c.loop-field.field-index items)) rows l) c.in-Some.is joins) c.loop-field-test.false
    in
    IfOk-weaker c.pad-in-Some.result _ _
    (λ s pad. (variant.joins_layout _ (body_of b).1 _ c.in_ok-tag.tag c.in-Some.lengths c.in_ok-sum-in-Some.field-0 s j tag c.in_ok-sum-in-Some.ensures pad).whole)
    c.pad-in-Some.ensures
