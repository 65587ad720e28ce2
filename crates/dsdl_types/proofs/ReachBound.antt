-- How far past the end of its bits reading goes at most, by the rules of a schema
use Rattle.std.proofs.Common.{◌≡◌, ℕ, zero, suc, ◌+◌, ◌*◌, ◌^◌, ◌≤◌, Bool, true, false, arith}
use Rattle.dsdl_types.specs.Schemas.{Prim, Sch, Flds, Simple, Fixed, Var, Struct, Union, End, Pad, Field, is_composite, is_delimited, is_aligned, extent_of}
use Rattle.dsdl_types.specs.Greatest.{from_lead, longest, longest_fields, longest_variant, as_part}
use Rattle.dsdl_types.specs.Reach.{header_or, reach, reach_fields, reach_variant}
use Rattle.dsdl_types.specs.Rules.{nodes, nodes_of, IsSchema}
use Rattle.dsdl_types.proofs.SchemaRules.{nodes_some, schema_sound}
use Rattle.dsdl_types.proofs.Evolving.{composite_bounds}

header_most : (d : Bool) (e r l n : ℕ) → r + 7 ≤ l + 14 * n → 1 ≤ n → header_or d r + 7 ≤ as_part d e l + 14 * n
header_most false e r l n h one = h
header_most true e r l n h one = omega arith

row_most : (n a b m : ℕ) → a + 7 ≤ b + 14 * m → n * a ≤ n * b + 14 * (n * m)
row_most zero a b m h = omega arith
row_most (suc n) a b m h =
    let x : suc n * a ≡ a + n * a = grind arith in
    let y : suc n * b ≡ b + n * b = grind arith in
    let z : suc n * m ≡ m + n * m = grind arith in
    omega (arith, h, row_most n a b m h)

lead_least : (d : Bool) (p : ℕ) → p ≤ from_lead d p
lead_least false p = omega arith
lead_least true p = omega arith

mutual
  pub reach_most : (s : Sch) → reach s + 7 ≤ longest s + 14 * nodes s
  reach_most (Simple t) = omega arith
  reach_most (Fixed s n) =
      let h = header_most (is_delimited s) (extent_of s) (reach s) (longest s) (nodes s) (reach_most s) (nodes_some s) in
      omega (arith, row_most n (header_or (is_delimited s) (reach s)) (as_part (is_delimited s) (extent_of s) (longest s)) (nodes s) h)
  reach_most (Var s n) =
      let h = header_most (is_delimited s) (extent_of s) (reach s) (longest s) (nodes s) (reach_most s) (nodes_some s) in
      omega (arith, row_most n (header_or (is_delimited s) (reach s)) (as_part (is_delimited s) (extent_of s) (longest s)) (nodes s) h)
  reach_most (Struct fs o) = omega (arith, fields_reach fs 0)
  reach_most (Union fs o) = omega (arith, variant_reach fs)

  fields_reach : (fs : Flds) (p : ℕ) → p + reach_fields fs ≤ longest_fields fs p + 14 * nodes_of fs
  fields_reach End p = omega arith
  fields_reach (Pad n fs) p = omega (arith, fields_reach fs (p + n))
  fields_reach (Field name s fs) p =
      let m = as_part (is_delimited s) (extent_of s) (longest s) in
      omega (
        arith,
        header_most (is_delimited s) (extent_of s) (reach s) (longest s) (nodes s) (reach_most s) (nodes_some s),
        lead_least (is_aligned s) p,
        fields_reach fs (from_lead (is_aligned s) p + m),
      )

  variant_reach : (fs : Flds) → reach_variant fs ≤ longest_variant fs + 14 * nodes_of fs
  variant_reach End = omega arith
  variant_reach (Pad n fs) = variant_reach fs
  variant_reach (Field name s fs) =
      omega (
        arith,
        header_most (is_delimited s) (extent_of s) (reach s) (longest s) (nodes s) (reach_most s) (nodes_some s),
        variant_reach fs,
      )

extent_most : (s : Sch) → IsSchema s → is_composite s ≡ true → extent_of s ≤ 2 ^ 32
extent_most (Simple t) h c = cc
extent_most (Fixed s n) h c = cc
extent_most (Var s n) h c = cc
extent_most (Struct fs o) h c = h.0.0.1
extent_most (Union fs o) h c = h.0.0.1

pub reach_within : (s : Sch) → IsSchema s → is_composite s ≡ true → reach s ≤ 2 ^ 33
reach_within s h c = omega (arith, reach_most s, h.2, (composite_bounds s (schema_sound s h) c).0, extent_most s h c)
