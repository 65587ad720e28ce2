-- The names of fields and variants (Cyphal Specification, sections 3.1 and 3.2).
use Rattle.std.specs.Prelude.{◌≡◌, ℕ, ◌≢◌, true, List}
use Rattle.dsdl_names.specs.Words.{is_name}
use Rattle.dsdl_types.specs.Schemas.{Sch, Flds, Simple, Fixed, Var, Struct, Union, End, Pad, Field}

-- no field of these has the name
abbrev pub IsNew : List ℕ → Flds → Type 0
IsNew name End = Unit {0}
IsNew name (Pad n fs) = IsNew name fs
IsNew name (Field other s fs) = (name ≢ other) × IsNew name fs

-- each field has a name of the grammar, and no two have the same
abbrev pub AreNamed : Flds → Type 0
AreNamed End = Unit {0}
AreNamed (Pad n fs) = AreNamed fs
AreNamed (Field name s fs) = (is_name name ≡ true) × IsNew name fs × AreNamed fs

-- the fields of each composite in a schema are so named
abbrev mutual
  pub HasNames : Sch → Type 0
  HasNames (Simple t) = Unit {0}
  HasNames (Fixed s n) = HasNames s
  HasNames (Var s cap) = HasNames s
  HasNames (Struct fs o) = AreNamed fs × HaveNames fs
  HasNames (Union fs o) = AreNamed fs × HaveNames fs

  pub HaveNames : Flds → Type 0
  HaveNames End = Unit {0}
  HaveNames (Pad n fs) = HaveNames fs
  HaveNames (Field name s fs) = HasNames s × HaveNames fs
