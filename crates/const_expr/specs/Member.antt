-- What names mean, alone and behind a point.
use Rattle.std.specs.Prelude.{ℕ, ◌-◌, ◌^◌, ◌==◌, ◌||◌, ◌++◌, nat_lt, Bool, List, [], ◌∷◌, length}
use Rattle.std.specs.Prelude.{slice_get, Option, Some, None, Result, Ok, Err, if◌then◌else◌, codes}
use Rattle.std.specs.Prelude.{All}
use Rattle.std.specs.Str.{bytes_eq}
use Rattle.dsdl_names.specs.declared.TypeId.{TypeId}
use Rattle.dsdl_names.specs.Beside.{beside}
use Rattle.dsdl_parse.specs.declared.expr.Reference.{Reference}
use Rattle.dsdl_types.specs.Schemas.{Sch, is_delimited, extent_of}
use Rattle.dsdl_types.specs.Greatest.{longest, as_part}
use Rattle.dsdl_types.specs.Views.{sch}
use Rattle.dsdl_types.specs.Finding.{same_id, definition_of}
use Rattle.dsdl_types.specs.Definitions.{IsNamespace}
use Rattle.dsdl_types.specs.declared.definition.Definition.{Definition}
use Rattle.dsdl_types.specs.declared.definition.Parts.{Parts}
use Rattle.dsdl_types.specs.declared.definition.Parts.TheVariants as parts
use Rattle.const_expr.specs.declared.constant.Const.{Const, out-Const}
use Rattle.const_expr.specs.declared.constant.Const.TheVariants as c
use Rattle.const_expr.specs.declared.constant.Const.TheOpen as o
use Rattle.const_expr.specs.declared.scope.Scope.{Scope}
use Rattle.const_expr.specs.declared.scope.NamedConst.{NamedConst}
use Rattle.const_expr.specs.declared.scope.TypeConsts.{TypeConsts}
use Rattle.const_expr.specs.declared.why.Why.{Why}
use Rattle.const_expr.specs.declared.why.Why.TheVariants as why
use Rattle.const_expr.specs.Constants.{Layer, natural, naturals, kind, IsConst}
use Rattle.const_expr.specs.Sizes.{sizes}

-- the first constant of that name
abbrev pub named_in : List NamedConst → List ℕ → Result Const Why
named_in [] name = Err (why.Unknown name)
named_in (k ∷ ks) name = if bytes_eq k.name name then Ok k.value else named_in ks name

-- `_offset_`, where it means lengths
abbrev pub offset_of : Option (List ℕ) → List ℕ → Result Const Why
offset_of (Some ns) name = Ok (c.Lengths ns)
offset_of None name = Err (why.Unknown name)

-- a name that stands alone
abbrev pub named : Scope → List ℕ → Result Const Why
named scope name = if bytes_eq name (codes "_offset_") then offset_of scope.offset name else named_in scope.constants name

-- the type of this name and of a reference's version; no name is unknown
abbrev pub of_version : Reference → Option (List ℕ) → Result Const Why
of_version r None = Err (why.Unknown [])
of_version r (Some name) = Ok (c.Named (record { name = name; major = r.major; minor = r.minor }))

-- a reference
abbrev pub referred : Scope → Reference → Result Const Why
referred scope r = of_version r (beside scope.own r.names)

-- a number that is a member of a set
abbrev pub if_number : Const → ℕ → Result Const Why
if_number x k = if k == 0 then Ok x else Err why.Kind

abbrev pub a_number : Option Const → Result Const Why
a_number None = Err why.Kind
a_number (Some x) = if_number x (kind (out-Const x))

-- the least member, the greatest one or the number of members of an ascending set
abbrev pub of_set : List Const → List ℕ → Result Const Why
of_set xs name =
    if bytes_eq name (codes "min") then a_number (slice_get xs 0)
    else if bytes_eq name (codes "max") then a_number (slice_get xs (length xs - 1))
    else if bytes_eq name (codes "count") then Ok (natural (length xs))
    else Err (why.Unknown name)

-- the constants of the first entry of a type
abbrev pub constants_of : List TypeConsts → TypeId → List NamedConst
constants_of [] id = []
constants_of (t ∷ ts) id = if same_id t.id id then t.constants else constants_of ts id

-- the lengths of a type as a part of another, where none is above 2^32 bits
abbrev pub lengths_of : Sch → Result Const Why
lengths_of s = if nat_lt (2 ^ 32) (as_part (is_delimited s) (extent_of s) (longest s)) then Err why.Kind else Ok (c.Lengths (sizes s))

-- a member of a message with these constants
abbrev pub of_message : Sch → List NamedConst → List ℕ → Result Const Why
of_message s ks name =
    if bytes_eq name (codes "_bit_length_") then lengths_of s
    else if bytes_eq name (codes "_extent_") then Ok (natural (extent_of s))
    else named_in ks name

-- a service has no members
abbrev pub of_parts : Scope → TypeId → Parts → List ℕ → Result Const Why
of_parts scope id (parts.Message s) name = of_message (sch s) (constants_of scope.members id) name
of_parts scope id (parts.Service request response) name = Err why.Kind

-- a member of a type that the scope may have
abbrev pub of_definition : Scope → TypeId → Option Definition → List ℕ → Result Const Why
of_definition scope id (Some d) name = of_parts scope id d.parts name
of_definition scope id None name = Err (why.Unknown name)

-- the members that a set alone has
abbrev pub is_of_sets : List ℕ → Bool
is_of_sets name = bytes_eq name (codes "min") || (bytes_eq name (codes "max") || bytes_eq name (codes "count"))

abbrev pub of_other : List ℕ → Result Const Why
of_other name = if is_of_sets name then Err why.Kind else Err (why.Unknown name)

abbrev pub of_layer : Scope → Layer → List ℕ → Result Const Why
of_layer scope (o.Number x) name = of_other name
of_layer scope (o.Truth b) name = of_other name
of_layer scope (o.Str s) name = of_other name
of_layer scope (o.Set xs) name = of_set xs name
of_layer scope (o.Lengths ns) name = of_set (naturals ns) name
of_layer scope (o.Named id) name = of_definition scope id (definition_of scope.namespace.definitions id) name

-- the member of that name
unfoldable pub member : Scope → Const → List ℕ → Result Const Why
member scope u name = of_layer scope (out-Const u) name

-- the members of sets among named constants ascend
abbrev pub AreConstants : List NamedConst → Type 0
AreConstants ks = All (λ k. IsConst k.value) ks

-- what a scope keeps: the types keep the rules of the language, and the members of sets ascend
pub record IsScope (scope : Scope) : Type 0 where
  pub types : IsNamespace scope.namespace
  pub constants : AreConstants scope.constants
  pub members : All (λ t. AreConstants t.constants) scope.members
