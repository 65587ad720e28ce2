-- Newer versions of a type, and values of one version as values of the other (Cyphal Specification,
-- section 3.8).
use Rattle.std.specs.Prelude.{◌≡◌, ℕ, zero, suc, true, false, List, []}
use Rattle.dsdl_types.specs.Schemas.{Prim, Sch, Flds, Outline, Simple, Fixed, Var, Struct, Union}
use Rattle.dsdl_types.specs.Schemas.{End, Pad, Field, field_count}
use Rattle.dsdl_types.specs.Values.{Val, Vals, Items, Parts, Tagged, More, items_of, parts_of}
use Rattle.dsdl_types.specs.Values.{tag_of, inner_of, first, others, on_items}
use Rattle.dsdl_types.specs.Zero.{zero_fields}

-- a schema without the names of its fields
abbrev mutual
  pub bare : Sch → Sch
  bare (Simple t) = Simple t
  bare (Fixed s n) = Fixed (bare s) n
  bare (Var s n) = Var (bare s) n
  bare (Struct fs o) = Struct (bare_fields fs) o
  bare (Union fs o) = Union (bare_fields fs) o

  pub bare_fields : Flds → Flds
  bare_fields End = End
  bare_fields (Pad n fs) = Pad n (bare_fields fs)
  bare_fields (Field name s fs) = Field [] (bare s) (bare_fields fs)

-- The first schema is newer than the second. Primitives and padding are equal. Arrays have the same
-- kind and length, and their items are newer. Composites have the same kind, sealing and extent.
-- Sealed ones are equal, names aside. A delimited structure has at least the fields of the second,
-- and the first of them are pairwise newer. A delimited union has as many variants, pairwise newer.
mutual
  pub data Newer : Sch → Sch → Type 0 where
    newer_simple : {t : Prim} → Newer (Simple t) (Simple t)
    newer_fixed : {a b : Sch} {n : ℕ} → Newer a b → Newer (Fixed a n) (Fixed b n)
    newer_var : {a b : Sch} {n : ℕ} → Newer a b → Newer (Var a n) (Var b n)
    sealed_struct : {fs gs : Flds} {o : Outline} → o.sealed ≡ true → bare_fields fs ≡ bare_fields gs
        → Newer (Struct fs o) (Struct gs o)
    sealed_union : {fs gs : Flds} {o : Outline} → o.sealed ≡ true → bare_fields fs ≡ bare_fields gs
        → Newer (Union fs o) (Union gs o)
    newer_struct : {fs gs : Flds} {o : Outline} → o.sealed ≡ false → NewerFields fs gs
        → Newer (Struct fs o) (Struct gs o)
    newer_union : {fs gs : Flds} {o : Outline} → o.sealed ≡ false → field_count fs ≡ field_count gs
        → NewerFields fs gs → Newer (Union fs o) (Union gs o)

  -- at least the fields of the second, and these are newer
  pub data NewerFields : Flds → Flds → Type 0 where
    added : {fs : Flds} → NewerFields fs End
    newer_pad : {fs gs : Flds} {n : ℕ} → NewerFields fs gs → NewerFields (Pad n fs) (Pad n gs)
    newer_field : {name name' : List ℕ} {a b : Sch} {fs gs : Flds} → Newer a b → NewerFields fs gs
        → NewerFields (Field name a fs) (Field name' b gs)

-- A value of the first type as one of the second: of fields that only the first has it is dropped,
-- and those that only the second has are filled with zero.
abbrev mutual
  pub convert : Sch → Sch → Val → Val
  convert (Fixed a n) (Fixed b m) v = Items (on_items (λ x. convert a b x) (items_of v))
  convert (Var a n) (Var b m) v = Items (on_items (λ x. convert a b x) (items_of v))
  convert (Struct fs o) (Struct gs p) v = Parts (convert_fields fs gs (parts_of v))
  convert (Union fs o) (Union gs p) v = Tagged (tag_of v) (convert_variant fs gs (tag_of v) (inner_of v))
  convert _ _ v = v

  pub convert_fields : Flds → Flds → Vals → Vals
  convert_fields (Pad n fs) (Pad m gs) vs = convert_fields fs gs vs
  convert_fields (Field name a fs) (Field name' b gs) vs = More (convert a b (first vs)) (convert_fields fs gs (others vs))
  convert_fields _ gs vs = zero_fields gs

  pub convert_variant : Flds → Flds → ℕ → Val → Val
  convert_variant (Pad n fs) (Pad m gs) k v = convert_variant fs gs k v
  convert_variant (Field name a fs) (Field name' b gs) zero v = convert a b v
  convert_variant (Field name a fs) (Field name' b gs) (suc k) v = convert_variant fs gs k v
  convert_variant _ _ k v = v

abbrev pub as_old : Sch → Sch → Val → Val
as_old new old v = convert new old v

abbrev pub as_new : Sch → Sch → Val → Val
as_new new old w = convert old new w
