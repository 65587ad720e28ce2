-- Where and why a type first fails to be newer than another.
use Rattle.std.specs.Prelude.{◌≡◌, ℕ, ◌==◌, ◌&&◌, nat_lt, if◌then◌else◌, Bool, true, false, List}
use Rattle.std.specs.Prelude.{[], ◌∷◌, Option, Some}
use Rattle.std.specs.Prelude.{None, ◌↔◌}
use Rattle.dsdl_types.specs.Schemas.{Prim, Sch, Flds, Outline, PBool, PUint, PInt, PFloat, Simple}
use Rattle.dsdl_types.specs.Schemas.{Fixed, Var, Struct, Union, End, Pad, Field, field_count}
use Rattle.dsdl_types.specs.Newer.{Newer}

-- Kind: the kinds, widths, casts or array lengths differ. Sealing: one alone is sealed. Extent: the
-- extents differ. Sealed: both are sealed and differ, names aside. Count: a structure has fewer
-- fields than the old one, or a union another number of variants.
pub data Cause : Type 0 where
  Kind : Cause
  Sealing : Cause
  Extent : Cause
  Sealed : Cause
  Count : Cause

-- A step of the path: a field by its name in the new type (padding has the empty name), or the
-- items of an array.
pub data Turn : Type 0 where
  Named : List ℕ → Turn
  Item : Turn

abbrev pub same_bool : Bool → Bool → Bool
same_bool true true = true
same_bool false false = true
same_bool _ _ = false

abbrev pub same_prim : Prim → Prim → Bool
same_prim PBool PBool = true
same_prim (PUint w c) (PUint v d) = (w == v) && same_bool c d
same_prim (PInt w) (PInt v) = w == v
same_prim (PFloat w c) (PFloat v d) = (w == v) && same_bool c d
same_prim _ _ = false

abbrev pub same_outline : Outline → Outline → Bool
same_outline o p = (o.extent == p.extent) && same_bool o.sealed p.sealed

-- equal, names aside
abbrev mutual
  pub same : Sch → Sch → Bool
  same (Simple t) (Simple u) = same_prim t u
  same (Fixed a n) (Fixed b m) = (n == m) && same a b
  same (Var a n) (Var b m) = (n == m) && same a b
  same (Struct fs o) (Struct gs p) = same_outline o p && same_fields fs gs
  same (Union fs o) (Union gs p) = same_outline o p && same_fields fs gs
  same _ _ = false

  pub same_fields : Flds → Flds → Bool
  same_fields End End = true
  same_fields (Pad n fs) (Pad m gs) = (n == m) && same_fields fs gs
  same_fields (Field name a fs) (Field name' b gs) = same a b && same_fields fs gs
  same_fields _ _ = false

pub record Difference : Type 0 where
  pub path : List Turn
  pub cause : Cause

abbrev pub here : Cause → Option Difference
here c = Some (record { path = []; cause = c })

-- no difference where the test holds
abbrev pub unless : Bool → Cause → Option Difference → Option Difference
unless true c d = d
unless false c d = here c

-- at a part
abbrev pub below : Turn → Option Difference → Option Difference
below t None = None
below t (Some d) = Some (record { path = t ∷ d.path; cause = d.cause })

abbrev pub or_else : Option Difference → Option Difference → Option Difference
or_else None d = d
or_else (Some c) d = Some c

-- Of two composites of one kind: their sealing, their extents, and then of sealed ones whether they
-- are equal, of delimited ones their fields.
abbrev pub outlined : Outline → Outline → Bool → Option Difference → Option Difference
outlined o p equal d = unless (same_bool o.sealed p.sealed) Sealing (unless (o.extent == p.extent) Extent (if o.sealed then unless equal Sealed None else d))

-- the first difference of a new and an old schema
abbrev mutual
  pub difference : Sch → Sch → Option Difference
  difference (Simple t) (Simple u) = unless (same_prim t u) Kind None
  difference (Fixed a n) (Fixed b m) = unless (n == m) Kind (below Item (difference a b))
  difference (Var a n) (Var b m) = unless (n == m) Kind (below Item (difference a b))
  difference (Struct fs o) (Struct gs p) = outlined o p (same_fields fs gs) (if nat_lt (field_count fs) (field_count gs) then here Count else difference_fields fs gs)
  difference (Union fs o) (Union gs p) = outlined o p (same_fields fs gs) (unless (field_count fs == field_count gs) Count (difference_fields fs gs))
  difference _ _ = here Kind

  -- Fields go in order. Further fields of the new structure are no difference.
  pub difference_fields : Flds → Flds → Option Difference
  difference_fields End _ = None
  difference_fields (Pad n fs) End = None
  difference_fields (Pad n fs) (Pad m gs) = or_else (below (Named []) (unless (n == m) Kind None)) (difference_fields fs gs)
  difference_fields (Pad n fs) (Field name' b gs) = below (Named []) (here Kind)
  difference_fields (Field name a fs) End = None
  difference_fields (Field name a fs) (Pad m gs) = below (Named name) (here Kind)
  difference_fields (Field name a fs) (Field name' b gs) = or_else (below (Named name) (difference a b)) (difference_fields fs gs)

-- there is none exactly where the first is newer
abbrev pub Compares : Sch → Sch → Type 0
Compares new old = (difference new old ≡ None) ↔ Newer new old
