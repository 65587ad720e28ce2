-- What reading and writing rest on: the part of the rules of a schema that the laws need.
use Rattle.std.specs.Prelude.{ℕ, ◌+◌, ◌-◌, ◌^◌, ◌≤◌}
use Rattle.dsdl_types.specs.Schemas.{Prim, Sch, Flds, Outline, PBool, PUint, PInt, PFloat, Simple}
use Rattle.dsdl_types.specs.Schemas.{Fixed, Var, Struct, Union, End, Pad, Field, tag_bits, variants}
use Rattle.dsdl_types.specs.Greatest.{up, longest_fields, longest_variant}

-- the extent is at least the greatest length
abbrev pub IsSoundOutline : ℕ → Outline → Type 0
IsSoundOutline greatest o = (greatest ≤ o.extent) × (o.extent ≤ 2 ^ 32)

abbrev pub IsSoundPrim : Prim → Type 0
IsSoundPrim PBool = Unit {0}
IsSoundPrim (PUint w c) = (1 ≤ w) × (w ≤ 64)
IsSoundPrim (PInt w) = (2 ≤ w) × (w ≤ 64)
IsSoundPrim (PFloat w c) = (1 ≤ w) × (w ≤ 64)

abbrev mutual
  pub IsSound : Sch → Type 0
  IsSound (Simple t) = IsSoundPrim t
  IsSound (Fixed s n) = IsSound s
  IsSound (Var s cap) = (cap ≤ 2 ^ 20) × IsSound s
  IsSound (Struct fs o) = IsSoundOutline (up (longest_fields fs 0)) o × AreSound fs
  IsSound (Union fs o) = IsSoundOutline (up (tag_bits (variants fs) + longest_variant fs)) o × ((2 ≤ variants fs) × (variants fs ≤ 2 ^ 20)) × AreSound fs

  pub AreSound : Flds → Type 0
  AreSound End = Unit {0}
  AreSound (Pad n fs) = AreSound fs
  AreSound (Field name s fs) = IsSound s × AreSound fs
