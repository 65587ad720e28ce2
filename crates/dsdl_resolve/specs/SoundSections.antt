-- What the sections of a file keep whose statements are not refused.
use Rattle.std.specs.Prelude.{◌≡◌, ℕ, ◌^◌, ◌≤◌, ◌%◌, true, false, Bool, List, [], length, Some}
use Rattle.std.specs.Prelude.{None}
use Rattle.std.specs.List.{list_any, filter_map, count_by, before_first}
use Rattle.dsdl_parse.specs.declared.statement.Statement.{Statement}
use Rattle.dsdl_types.specs.Definitions.{IsType, typed_count}
use Rattle.dsdl_types.specs.Names.{IsNew, AreNamed, HaveNames}
use Rattle.dsdl_types.specs.Rules.{AreFormed, NoPadding}
use Rattle.dsdl_types.specs.Schemas.{variants}
use Rattle.dsdl_types.specs.Views.{flds, sch}
use Rattle.dsdl_types.specs.declared.schema.Field.{Field}
use Rattle.const_expr.specs.declared.scope.Scope.{Scope}
use Rattle.dsdl_resolve.specs.Judged.{composite_of}
use Rattle.dsdl_resolve.specs.Place.{is_union_section, last_section}
use Rattle.dsdl_resolve.specs.Rules.{is_used}
use Rattle.dsdl_resolve.specs.Said.{Said, greatest, node_count, depth}
use Rattle.dsdl_resolve.specs.Says.{is_split, is_union, is_extent, is_field, is_entry, attribute_of}
use Rattle.dsdl_resolve.specs.Values.{said_by}

-- fields of a structure or a union keep the rules so far
pub record AreFine (union : Bool) (fields : List Field) : Type 0 where
  pub formed : AreFormed (flds fields)
  pub named : AreNamed (flds fields)
  pub inner : HaveNames (flds fields)
  pub packed : union ≡ true → NoPadding (flds fields)
  pub few : node_count fields ≤ 2 ^ 20
  pub flat : depth fields ≤ 32
  pub short : greatest union fields ≤ 2 ^ 32

-- an extent that holds these fields
abbrev pub Holds : Bool → List Field → ℕ → Type 0
Holds union fields n = (greatest union fields ≤ n) × (n % 8 ≡ 0) × (n ≤ 2 ^ 32)

-- what statements of a section say is sound
pub record IsSound (ss : List Statement) (said : Said) : Type 0 where
  pub fine : AreFine said.union said.fields
  pub texts : length said.types ≡ variants (flds said.fields)
  pub union : said.union ≡ list_any is_union ss
  pub counted : variants (flds said.fields) ≡ count_by is_field ss
  pub none : list_any is_entry ss ≡ false → said.fields ≡ []
  pub open_end : list_any is_extent ss ≡ false → said.extent ≡ None
  pub extent : (n : ℕ) → said.extent ≡ Some n → Holds said.union said.fields n
  pub first : list_any is_union ss ≡ true → is_union_section ss ≡ true
  pub used : (name : List ℕ) → is_used (filter_map attribute_of ss) name ≡ false → IsNew name (flds said.fields)

-- a composite of what a section says, with the texts of its fields' types
abbrev pub IsFinished : Said → Type 0
IsFinished said = IsType (composite_of said) × (length said.types ≡ typed_count (sch (composite_of said)))

-- the sections of a file so far are sound
pub record KeepsRules (scope : Scope) (front : List Statement) : Type 0 where
  pub last : IsSound (last_section front) (said_by scope (last_section front))
  pub whole : list_any is_split front ≡ false → last_section front ≡ front
  pub half : list_any is_split front ≡ true
      → IsFinished (said_by scope (before_first is_split front))
