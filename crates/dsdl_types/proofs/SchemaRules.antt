-- A schema that keeps the rules is one that the laws of reading and writing hold of
use Rattle.std.proofs.Common.{◌==◌, ◌||◌, ◌⊎◌, ◌≡◌, ◌+◌, ◌-◌, ◌%◌, refl, ℕ, zero, suc, ◌*◌, ◌^◌, ◌≤◌, Bool, true, false, inl, inr, arith}
use Rattle.std.proofs.lemmas.Bool.{eqb-true}
use Rattle.dsdl_types.specs.Schemas.{Prim, Sch, Flds, Outline, PBool, PUint, PInt, PFloat, Simple, Fixed, Var, Struct, Union, End, Pad, Field, variants, tag_bits, extent_of}
use Rattle.dsdl_types.specs.Greatest.{up, longest_fields, longest_variant}
use Rattle.dsdl_types.proofs.Lengths.{up_whole}
use Rattle.dsdl_types.specs.Sound.{IsSoundPrim, IsSoundOutline, IsSound, AreSound}
use Rattle.dsdl_types.specs.Rules.{is_float_width, IsPrim, IsExtent, IsOutline, IsFormed, AreFormed, nodes, nodes_of, IsSchema}

either_true : (a b : Bool) → (a || b) ≡ true → (a ≡ true) ⊎ (b ≡ true)
either_true true b h = inl refl
either_true false b h = inr h

float_sound : (w : ℕ) → is_float_width w ≡ true → (1 ≤ w) × (w ≤ 64)
float_sound w h = elim (either_true (w == 16) _ h) [
  | inl e ↦ let s : w ≡ 16 = eqb-true w 16 e in (omega arith, omega arith)
  | inr k ↦ elim (either_true (w == 32) _ k) [
    | inl e ↦ let s : w ≡ 32 = eqb-true w 32 e in (omega arith, omega arith)
    | inr e ↦ let s : w ≡ 64 = eqb-true w 64 e in (omega arith, omega arith)
  ]
]

prim_sound : (t : Prim) → IsPrim t → IsSoundPrim t
prim_sound PBool h = tt
prim_sound (PUint w c) h = h
prim_sound (PInt w) h = h
prim_sound (PFloat w c) h = float_sound w h

extent_sound : (sealed : Bool) (greatest extent : ℕ) → IsExtent sealed greatest extent → greatest ≤ extent
extent_sound true greatest extent h = omega arith
extent_sound false greatest extent h = h.0

outline_sound : (greatest : ℕ) (o : Outline) → IsOutline greatest o → IsSoundOutline greatest o
outline_sound greatest o h = (extent_sound o.sealed greatest o.extent h.0, h.1)

-- one of several items has at most the nodes of all
item_nodes : (n k : ℕ) → 1 ≤ n → k ≤ n * k
item_nodes zero k h = absurd (omega arith)
item_nodes (suc n) k h = omega arith

pub nodes_some : (s : Sch) → 1 ≤ nodes s
nodes_some (Simple t) = omega arith
nodes_some (Fixed s n) = omega arith
nodes_some (Var s cap) = omega arith
nodes_some (Struct fs o) = omega arith
nodes_some (Union fs o) = omega arith

variants_nodes : (fs : Flds) → variants fs ≤ nodes_of fs
variants_nodes End = omega arith
variants_nodes (Pad n fs) = variants_nodes fs
variants_nodes (Field name s fs) = omega (arith, variants_nodes fs, nodes_some s)

mutual
  formed_sound : (s : Sch) → IsFormed s → nodes s ≤ 2 ^ 20 → IsSound s
  formed_sound (Simple t) h m = prim_sound t h
  formed_sound (Fixed s n) (one, most, item, h) m = formed_sound s h (omega (arith, item_nodes n (nodes s) one))
  formed_sound (Var s cap) (one, most, item, h) m = (most, formed_sound s h (omega (arith, item_nodes cap (nodes s) one)))
  formed_sound (Struct fs o) (outline, h) m = (outline_sound _ o outline, fields_sound fs h (omega arith))
  formed_sound (Union fs o) (outline, two, none, h) m =
      (outline_sound _ o outline, (two, omega (arith, variants_nodes fs)), fields_sound fs h (omega arith))

  fields_sound : (fs : Flds) → AreFormed fs → nodes_of fs ≤ 2 ^ 20 → AreSound fs
  fields_sound End h m = tt
  fields_sound (Pad n fs) (one, most, h) m = fields_sound fs h m
  fields_sound (Field name s fs) (k, h) m = (formed_sound s k (omega (arith, nodes_some s)), fields_sound fs h (omega arith))

pub schema_sound : (s : Sch) → IsSchema s → IsSound s
schema_sound s (formed, nested, few, names) = formed_sound s formed few

whole_extent : (sealed : Bool) (n extent : ℕ) → IsExtent sealed (up n) extent → extent % 8 ≡ 0
whole_extent true n extent h = omega (arith, up_whole n)
whole_extent false n extent h = h.1

pub extent_whole : (s : Sch) → IsSchema s → extent_of s % 8 ≡ 0
extent_whole (Simple t) h = refl
extent_whole (Fixed s n) h = refl
extent_whole (Var s cap) h = refl
extent_whole (Struct fs o) h = whole_extent o.sealed (longest_fields fs 0) o.extent h.0.0.0
extent_whole (Union fs o) h = whole_extent o.sealed (tag_bits (variants fs) + longest_variant fs) o.extent h.0.0.0
