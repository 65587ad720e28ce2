-- What a section says, and how large it is.
use Rattle.std.specs.Prelude.{ℕ, zero, suc, ◌+◌, ◌-◌, ◌^◌, ◌==◌, ◌&&◌, Bool, true, false, List}
use Rattle.std.specs.Prelude.{Option}
use Rattle.bit_length.specs.Runs.{numbers_below}
use Rattle.const_expr.specs.Sizes.{some_to, ends_at, is_variant}
use Rattle.const_expr.specs.declared.scope.NamedConst.{NamedConst}
use Rattle.dsdl_types.specs.Greatest.{up, longest_fields, longest_variant}
use Rattle.dsdl_types.specs.Rules.{nodes_of, nesting_of}
use Rattle.dsdl_types.specs.Schemas.{Flds, tag_bits, variants}
use Rattle.dsdl_types.specs.Views.{flds}
use Rattle.dsdl_types.specs.declared.schema.Field.{Field}

-- What the statements of a section say: whether it is a union; its fields or variants, padding
-- among them; the texts of the types of those that aren't padding; its constants; the extent, where
-- `@extent` stands.
pub record Said : Type 0 where
  pub union : Bool
  pub fields : List Field
  pub types : List (List ℕ)
  pub constants : List NamedConst
  pub extent : Option ℕ

-- the greatest length of a union: of one without variants 0
abbrev pub greatest_union : ℕ → Flds → ℕ
greatest_union zero fs = 0
greatest_union (suc k) fs = up (tag_bits (suc k) + longest_variant fs)

-- the greatest length of a section with these fields
abbrev pub greatest_in : Bool → Flds → ℕ
greatest_in true fs = greatest_union (variants fs) fs
greatest_in false fs = up (longest_fields fs 0)

abbrev pub greatest : Bool → List Field → ℕ
greatest union fields = greatest_in union (flds fields)

-- whether n is one of the lengths, before padding: of a union the tag and a variant
abbrev pub is_offset : Bool → Flds → ℕ → Bool
is_offset true fs n = some_to n (λ m. is_variant fs m && (n == tag_bits (variants fs) + m))
is_offset false fs n = ends_at fs 0 n

-- the lengths that a section with these fields can have, before padding, ascending
abbrev pub offsets : Bool → List Field → List ℕ
offsets union fields = numbers_below (2 ^ 32 + 1) (is_offset union (flds fields))

-- the nodes of a composite of these fields, and how deep its types nest
abbrev pub node_count : List Field → ℕ
node_count fields = suc (nodes_of (flds fields))

abbrev pub depth : List Field → ℕ
depth fields = suc (nesting_of (flds fields))
