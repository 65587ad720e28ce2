-- The rules of a schema as a test, so that of a given schema `refl` shows them
use Rattle.std.proofs.Common.{◌≡◌, ◌≢◌, ℕ, suc, ◌+◌, ◌-◌, ◌%◌, ◌≤◌, ◌==◌, Bool, true, false, ◌&&◌, List, refl, sym, ◌∙◌, arith}
use Rattle.std.specs.Prelude.{nat_lt, not}
use Rattle.std.specs.Str.{bytes_eq}
use Rattle.std.proofs.lemmas.Slice.Eq.{bytes_eq-Decides}
use Rattle.dsdl_names.specs.Words.{is_name}
use Rattle.dsdl_types.specs.Names.{IsNew, AreNamed, HasNames, HaveNames}
use Rattle.std.proofs.lemmas.Bool.{ltb-true, and_parts, eqb-true}
use Rattle.dsdl_types.specs.Schemas.{Prim, Sch, Flds, Outline, PBool, PUint, PInt, PFloat, Simple, Fixed, Var, Struct, Union, End, Pad, Field, tag_bits, variants}
use Rattle.dsdl_types.specs.Greatest.{up, longest_fields, longest_variant}
use Rattle.dsdl_types.specs.Rules.{is_float_width, IsPrim, IsExtent, IsOutline, IsItem, NoPadding, IsFormed, AreFormed, nesting, nodes, IsSchema}

-- from a to b
abbrev pub is_from_to : ℕ → ℕ → ℕ → Bool
is_from_to a b n = nat_lt n (suc b) && nat_lt a (suc n)

abbrev pub is_prim : Prim → Bool
is_prim PBool = true
is_prim (PUint w c) = is_from_to 1 64 w
is_prim (PInt w) = is_from_to 2 64 w
is_prim (PFloat w c) = is_float_width w

abbrev pub is_extent : Bool → ℕ → ℕ → Bool
is_extent true greatest extent = extent == greatest
is_extent false greatest extent = nat_lt greatest (suc extent) && (extent % 8 == 0)

abbrev pub is_outline : ℕ → Outline → Bool
is_outline greatest o = is_extent o.sealed greatest o.extent && nat_lt o.extent 4294967297

abbrev pub is_item : Sch → Bool
is_item (Fixed s n) = false
is_item (Var s cap) = false
is_item _ = true

abbrev pub no_padding : Flds → Bool
no_padding End = true
no_padding (Pad n fs) = false
no_padding (Field name s fs) = no_padding fs

abbrev mutual
  pub is_formed : Sch → Bool
  is_formed (Simple t) = is_prim t
  is_formed (Fixed s n) = is_from_to 1 1048576 n && (is_item s && is_formed s)
  is_formed (Var s cap) = is_from_to 1 1048576 cap && (is_item s && is_formed s)
  is_formed (Struct fs o) = is_outline (up (longest_fields fs 0)) o && are_formed fs
  is_formed (Union fs o) = is_outline (up (tag_bits (variants fs) + longest_variant fs)) o && (nat_lt 1 (variants fs) && (no_padding fs && are_formed fs))

  pub are_formed : Flds → Bool
  are_formed End = true
  are_formed (Pad n fs) = is_from_to 1 64 n && are_formed fs
  are_formed (Field name s fs) = is_formed s && are_formed fs

abbrev pub is_new : List ℕ → Flds → Bool
is_new name End = true
is_new name (Pad n fs) = is_new name fs
is_new name (Field other s fs) = not (bytes_eq name other) && is_new name fs

abbrev pub are_named : Flds → Bool
are_named End = true
are_named (Pad n fs) = are_named fs
are_named (Field name s fs) = is_name name && (is_new name fs && are_named fs)

abbrev mutual
  pub has_names : Sch → Bool
  has_names (Simple t) = true
  has_names (Fixed s n) = has_names s
  has_names (Var s cap) = has_names s
  has_names (Struct fs o) = are_named fs && have_names fs
  has_names (Union fs o) = are_named fs && have_names fs

  pub have_names : Flds → Bool
  have_names End = true
  have_names (Pad n fs) = have_names fs
  have_names (Field name s fs) = has_names s && have_names fs

abbrev pub is_schema : Sch → Bool
is_schema s = is_formed s && (nat_lt (nesting s) 33 && (nat_lt (nodes s) 1048577 && has_names s))

from_to : (a b n : ℕ) → is_from_to a b n ≡ true → (a ≤ n) × (n ≤ b)
from_to a b n h =
    let p = and_parts (nat_lt n (suc b)) (nat_lt a (suc n)) h in
    (omega (arith, ltb-true a (suc n) p.1), omega (arith, ltb-true n (suc b) p.0))

prim_kept : (t : Prim) → is_prim t ≡ true → IsPrim t
prim_kept PBool h = tt
prim_kept (PUint w c) h = from_to 1 64 w h
prim_kept (PInt w) h = from_to 2 64 w h
prim_kept (PFloat w c) h = h

extent_kept : (sealed : Bool) (greatest extent : ℕ) → is_extent sealed greatest extent ≡ true → IsExtent sealed greatest extent
extent_kept true greatest extent h = eqb-true _ _ h
extent_kept false greatest extent h =
    let p = and_parts (nat_lt greatest (suc extent)) (extent % 8 == 0) h in
    (omega (arith, ltb-true greatest (suc extent) p.0), eqb-true (extent % 8) 0 p.1)

outline_kept : (greatest : ℕ) (o : Outline) → is_outline greatest o ≡ true → IsOutline greatest o
outline_kept greatest o h =
    let p = and_parts (is_extent o.sealed greatest o.extent) (nat_lt o.extent 4294967297) h in
    (extent_kept o.sealed greatest o.extent p.0, omega (arith, ltb-true o.extent 4294967297 p.1))

item_kept : (s : Sch) → is_item s ≡ true → IsItem s
item_kept (Simple t) h = tt
item_kept (Fixed s n) h = absurd (let e : false ≡ true = h in cc)
item_kept (Var s n) h = absurd (let e : false ≡ true = h in cc)
item_kept (Struct fs o) h = tt
item_kept (Union fs o) h = tt

padding_kept : (fs : Flds) → no_padding fs ≡ true → NoPadding fs
padding_kept End h = tt
padding_kept (Pad n fs) h = absurd (let e : false ≡ true = h in cc)
padding_kept (Field name s fs) h = padding_kept fs h

mutual
  formed_kept : (s : Sch) → is_formed s ≡ true → IsFormed s
  formed_kept (Simple t) h = prim_kept t h
  formed_kept (Fixed s n) h =
      let p = and_parts _ _ h in
      let q = and_parts _ _ p.1 in
      let r = from_to 1 1048576 n p.0 in
      (r.0, r.1, item_kept s q.0, formed_kept s q.1)
  formed_kept (Var s n) h =
      let p = and_parts _ _ h in
      let q = and_parts _ _ p.1 in
      let r = from_to 1 1048576 n p.0 in
      (r.0, r.1, item_kept s q.0, formed_kept s q.1)
  formed_kept (Struct fs o) h = let p = and_parts _ _ h in (outline_kept _ o p.0, fields_kept fs p.1)
  formed_kept (Union fs o) h =
      let p = and_parts (is_outline (up (tag_bits (variants fs) + longest_variant fs)) o) (nat_lt 1 (variants fs) && (no_padding fs && are_formed fs)) h in
      let q = and_parts (nat_lt 1 (variants fs)) (no_padding fs && are_formed fs) p.1 in
      let r = and_parts (no_padding fs) (are_formed fs) q.1 in
      (outline_kept _ o p.0, omega (arith, ltb-true 1 (variants fs) q.0), padding_kept fs r.0, fields_kept fs r.1)

  fields_kept : (fs : Flds) → are_formed fs ≡ true → AreFormed fs
  fields_kept End h = tt
  fields_kept (Pad n fs) h =
      let p = and_parts _ _ h in
      let r = from_to 1 64 n p.0 in
      (r.0, r.1, fields_kept fs p.1)
  fields_kept (Field name s fs) h = let p = and_parts _ _ h in (formed_kept s p.0, fields_kept fs p.1)

other_name : (a b : List ℕ) (d : Bool) → bytes_eq a b ≡ d → not d ≡ true → a ≢ b
other_name a b true e h same = absurd (let f : false ≡ true = h in cc)
other_name a b false e h same = absurd (let f : false ≡ true = sym e ∙ (bytes_eq-Decides a b).1 same in cc)

new_kept : (name : List ℕ) (fs : Flds) → is_new name fs ≡ true → IsNew name fs
new_kept name End h = tt
new_kept name (Pad n fs) h = new_kept name fs h
new_kept name (Field other s fs) h =
    let p = and_parts (not (bytes_eq name other)) (is_new name fs) h in
    (other_name name other (bytes_eq name other) refl p.0, new_kept name fs p.1)

named_kept : (fs : Flds) → are_named fs ≡ true → AreNamed fs
named_kept End h = tt
named_kept (Pad n fs) h = named_kept fs h
named_kept (Field name s fs) h =
    let p = and_parts (is_name name) (is_new name fs && are_named fs) h in
    let q = and_parts (is_new name fs) (are_named fs) p.1 in
    (p.0, new_kept name fs q.0, named_kept fs q.1)

mutual
  names_kept : (s : Sch) → has_names s ≡ true → HasNames s
  names_kept (Simple t) h = tt
  names_kept (Fixed s n) h = names_kept s h
  names_kept (Var s cap) h = names_kept s h
  names_kept (Struct fs o) h = let p = and_parts (are_named fs) (have_names fs) h in (named_kept fs p.0, all_names_kept fs p.1)
  names_kept (Union fs o) h = let p = and_parts (are_named fs) (have_names fs) h in (named_kept fs p.0, all_names_kept fs p.1)

  all_names_kept : (fs : Flds) → have_names fs ≡ true → HaveNames fs
  all_names_kept End h = tt
  all_names_kept (Pad n fs) h = all_names_kept fs h
  all_names_kept (Field name s fs) h = let p = and_parts (has_names s) (have_names fs) h in (names_kept s p.0, all_names_kept fs p.1)

pub rules_kept : (s : Sch) → is_schema s ≡ true → IsSchema s
rules_kept s h =
    let p = and_parts (is_formed s) (nat_lt (nesting s) 33 && (nat_lt (nodes s) 1048577 && has_names s)) h in
    let q = and_parts (nat_lt (nesting s) 33) (nat_lt (nodes s) 1048577 && has_names s) p.1 in
    let r = and_parts (nat_lt (nodes s) 1048577) (has_names s) q.1 in
    (formed_kept s p.0, omega (arith, ltb-true (nesting s) 33 q.0), omega (arith, ltb-true (nodes s) 1048577 r.0), names_kept s r.1)
