-- The rules of a schema can be kept in one way alone, so that a struct may keep them in a ghost
-- field.
use Rattle.std.specs.Prelude.{ℕ, Bool, true, false, List}
use Rattle.std.specs.Coded.{×_prop, Unit-prop, le_prop}
use Rattle.std.proofs.Math.Nat.{ℕ_set}
use Rattle.std.proofs.Math.Bool.{Bool-set}
use Rattle.dsdl_types.specs.Schemas.{Prim, Sch, Flds, PBool, PUint, PInt, PFloat, Simple, Fixed}
use Rattle.dsdl_types.specs.Schemas.{Var, Struct, Union, End, Pad, Field}
use Rattle.dsdl_types.specs.Names.{IsNew, AreNamed, HasNames, HaveNames}
use Rattle.dsdl_types.specs.Rules.{IsPrim, IsExtent, IsItem, NoPadding, IsFormed, AreFormed}
use Rattle.dsdl_types.specs.Rules.{IsSchema}

none_prop : IsProp ⊥
none_prop a b = absurd a

not_prop : {A : Type 0} → IsProp (A → ⊥)
not_prop h k = λ i x. none_prop (h x) (k x) i

prim_prop : (t : Prim) → IsProp (IsPrim t)
prim_prop PBool = Unit-prop
prim_prop (PUint w c) = ×_prop le_prop le_prop
prim_prop (PInt w) = ×_prop le_prop le_prop
prim_prop (PFloat w c) = Bool-set _ _

extent_prop : (sealed : Bool) (greatest extent : ℕ) → IsProp (IsExtent sealed greatest extent)
extent_prop true greatest extent = ℕ_set _ _
extent_prop false greatest extent = ×_prop le_prop (ℕ_set _ _)

item_prop : (s : Sch) → IsProp (IsItem s)
item_prop (Simple t) = Unit-prop
item_prop (Fixed s n) = none_prop
item_prop (Var s n) = none_prop
item_prop (Struct fs o) = Unit-prop
item_prop (Union fs o) = Unit-prop

padding_prop : (fs : Flds) → IsProp (NoPadding fs)
padding_prop End = Unit-prop
padding_prop (Pad n fs) = none_prop
padding_prop (Field name s fs) = padding_prop fs

mutual
  formed_prop : (s : Sch) → IsProp (IsFormed s)
  formed_prop (Simple t) h k = prim_prop t h k
  formed_prop (Fixed s n) h k = λ i. (le_prop h.0 k.0 i, le_prop h.1 k.1 i, item_prop s h.2 k.2 i, formed_prop s h.3 k.3 i)
  formed_prop (Var s n) h k = λ i. (le_prop h.0 k.0 i, le_prop h.1 k.1 i, item_prop s h.2 k.2 i, formed_prop s h.3 k.3 i)
  formed_prop (Struct fs o) h k = λ i. ((extent_prop o.sealed _ o.extent h.0.0 k.0.0 i, le_prop h.0.1 k.0.1 i), fields_prop fs h.1 k.1 i)
  formed_prop (Union fs o) h k = λ i.
      ((extent_prop o.sealed _ o.extent h.0.0 k.0.0 i, le_prop h.0.1 k.0.1 i), le_prop h.1 k.1 i, padding_prop fs h.2 k.2 i, fields_prop fs h.3 k.3 i)

  fields_prop : (fs : Flds) → IsProp (AreFormed fs)
  fields_prop End h k = Unit-prop h k
  fields_prop (Pad n fs) h k = λ i. (le_prop h.0 k.0 i, le_prop h.1 k.1 i, fields_prop fs h.2 k.2 i)
  fields_prop (Field name s fs) h k = λ i. (formed_prop s h.0 k.0 i, fields_prop fs h.1 k.1 i)

new_prop : (name : List ℕ) (fs : Flds) → IsProp (IsNew name fs)
new_prop name End h k = Unit-prop h k
new_prop name (Pad n fs) h k = new_prop name fs h k
new_prop name (Field other s fs) h k = λ i. (not_prop h.0 k.0 i, new_prop name fs h.1 k.1 i)

named_prop : (fs : Flds) → IsProp (AreNamed fs)
named_prop End h k = Unit-prop h k
named_prop (Pad n fs) h k = named_prop fs h k
named_prop (Field name s fs) h k = λ i. (Bool-set _ _ h.0 k.0 i, new_prop name fs h.1 k.1 i, named_prop fs h.2 k.2 i)

mutual
  names_prop : (s : Sch) → IsProp (HasNames s)
  names_prop (Simple t) h k = Unit-prop h k
  names_prop (Fixed s n) h k = names_prop s h k
  names_prop (Var s n) h k = names_prop s h k
  names_prop (Struct fs o) h k = λ i. (named_prop fs h.0 k.0 i, all_names_prop fs h.1 k.1 i)
  names_prop (Union fs o) h k = λ i. (named_prop fs h.0 k.0 i, all_names_prop fs h.1 k.1 i)

  all_names_prop : (fs : Flds) → IsProp (HaveNames fs)
  all_names_prop End h k = Unit-prop h k
  all_names_prop (Pad n fs) h k = all_names_prop fs h k
  all_names_prop (Field name s fs) h k = λ i. (names_prop s h.0 k.0 i, all_names_prop fs h.1 k.1 i)

pub schema_prop : (s : Sch) → IsProp (IsSchema s)
schema_prop s h k = λ i. (formed_prop s h.0 k.0 i, le_prop h.1 k.1 i, le_prop h.2 k.2 i, names_prop s h.3 k.3 i)
