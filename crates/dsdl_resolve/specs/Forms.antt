-- Which types are written.
use Rattle.std.specs.Prelude.{◌≡◌, ◌≤◌, ℕ, ◌-◌, ◌^◌, ◌++◌, ◌&&◌, nat_lt, nat_le, nat_eq, Bool, true}
use Rattle.std.specs.Prelude.{false, ℤ, pos, negsuc, List, drop, Option, Some, None, if◌then◌else◌}
use Rattle.std.specs.Prelude.{codes, decimal}
use Rattle.std.specs.List.{starts_with}
use Rattle.std.specs.Option.{option_map, option_and_then}
use Rattle.std.specs.Str.{bytes_eq}
use Rattle.dsdl_names.specs.Words.{number_to}
use Rattle.dsdl_names.specs.declared.TypeId.{TypeId}
use Rattle.dsdl_parse.specs.declared.expr.Reference.{Reference}
use Rattle.dsdl_parse.specs.declared.statement.Bound.{Bound}
use Rattle.dsdl_parse.specs.declared.statement.BoundSign.{BoundSign}
use Rattle.dsdl_parse.specs.declared.statement.BoundSign.TheVariants.{Exact, AtMost, Below}
use Rattle.dsdl_parse.specs.declared.statement.Form.{Form}
use Rattle.dsdl_parse.specs.declared.statement.Prefix.{Prefix}
use Rattle.dsdl_parse.specs.declared.statement.Prefix.TheVariants as prefix
use Rattle.dsdl_parse.specs.declared.statement.Scalar.{Scalar}
use Rattle.dsdl_parse.specs.declared.statement.Scalar.TheVariants as scalar
use Rattle.dsdl_links.specs.Mentions as Mentions
use Rattle.dsdl_types.specs.Finding.{definition_of}
use Rattle.dsdl_types.specs.Rules.{is_float_width}
use Rattle.dsdl_types.specs.declared.definition.Definition.{Definition}
use Rattle.dsdl_types.specs.declared.definition.Parts.{Parts}
use Rattle.dsdl_types.specs.declared.definition.Parts.TheVariants as parts
use Rattle.dsdl_types.specs.declared.schema.Cast.{Cast}
use Rattle.dsdl_types.specs.declared.schema.Cast.TheVariants.{Saturated, Truncated}
use Rattle.dsdl_types.specs.declared.schema.Schema.{Schema}
use Rattle.dsdl_types.specs.declared.schema.Schema.TheVariants as schema
use Rattle.const_expr.specs.declared.constant.Const.{Const, out-Const}
use Rattle.const_expr.specs.declared.constant.Const.TheOpen as o
use Rattle.const_expr.specs.declared.scope.Scope.{Scope}
use Rattle.const_expr.specs.Constants.{Layer, whole_of}
use Rattle.const_expr.specs.Text.{id_text}
use Rattle.dsdl_resolve.specs.declared.primitive.Primitive.{Primitive}
use Rattle.dsdl_resolve.specs.declared.typed.Typed.{Typed}
use Rattle.dsdl_resolve.specs.declared.primitive.Primitive.TheVariants as primitive

-- a number that isn't below the least one
abbrev pub at_least : ℕ → Option ℕ → Option ℕ
at_least least None = None
at_least least (Some n) = if nat_lt n least then None else Some n

-- the width that digits are: a number without leading zeros within limits
abbrev pub width_in : ℕ → ℕ → List ℕ → Option ℕ
width_in least most digits = at_least least (number_to most digits)

abbrev pub float_width : Option ℕ → Option ℕ
float_width None = None
float_width (Some w) = if is_float_width w then Some w else None

-- without a word a type is saturated
abbrev pub cast_of : Option Prefix → Cast
cast_of None = Saturated
cast_of (Some prefix.Saturated) = Saturated
cast_of (Some prefix.Truncated) = Truncated

abbrev pub is_truncated : Option Prefix → Bool
is_truncated None = false
is_truncated (Some prefix.Saturated) = false
is_truncated (Some prefix.Truncated) = true

-- the primitive type of a name, where its digits are a width of its kind
abbrev pub primitive_of : Option Prefix → List ℕ → Option Primitive
primitive_of word name =
    if bytes_eq name (codes "bool") then Some primitive.Bool
    else if starts_with nat_eq name (codes "uint") then option_map (λ w. primitive.Uint w (cast_of word)) (width_in 1 64 (drop 4 name))
    else if starts_with nat_eq name (codes "int") then option_map (λ w. primitive.Int w) (width_in 2 64 (drop 3 name))
    else if starts_with nat_eq name (codes "float") then option_map (λ w. primitive.Float w (cast_of word)) (float_width (number_to 64 (drop 5 name)))
    else None

-- a type of a width of its kind
abbrev pub IsPrimitive : Primitive → Type 0
IsPrimitive primitive.Bool = Unit {0}
IsPrimitive (primitive.Uint w cast) = (1 ≤ w) × (w ≤ 64)
IsPrimitive (primitive.Int w) = (2 ≤ w) × (w ≤ 64)
IsPrimitive (primitive.Float w cast) = is_float_width w ≡ true

abbrev pub schema_of : Primitive → Schema
schema_of primitive.Bool = schema.Bool
schema_of (primitive.Uint w cast) = schema.Uint w cast
schema_of (primitive.Int w) = schema.Int w
schema_of (primitive.Float w cast) = schema.Float w cast

abbrev pub cast_text : Cast → List ℕ
cast_text Saturated = codes "saturated "
cast_text Truncated = codes "truncated "

-- the text of a primitive type: its name, with its cast where it has one
abbrev pub primitive_text : Primitive → List ℕ
primitive_text primitive.Bool = codes "bool"
primitive_text (primitive.Uint w cast) = cast_text cast ++ codes "uint" ++ decimal w
primitive_text (primitive.Int w) = codes "int" ++ decimal w
primitive_text (primitive.Float w cast) = cast_text cast ++ codes "float" ++ decimal w

abbrev pub of_primitive : Primitive → Typed
of_primitive p = record { schema = schema_of p; text = primitive_text p }

-- the schema of a message
abbrev pub message_in : Parts → Option Schema
message_in (parts.Message s) = Some s
message_in (parts.Service request response) = None

-- the message of a type
abbrev pub message : Scope → TypeId → Option Schema
message scope id = option_and_then (λ (d : Definition). message_in d.parts) (definition_of scope.namespace.definitions id)

abbrev pub of_message : Scope → TypeId → Option Typed
of_message scope id = option_map (λ s. record { schema = s; text = id_text id }) (message scope id)

-- the message that a reference means
abbrev pub referred : Scope → Reference → Option Typed
referred scope r = option_and_then (of_message scope) (Mentions.type_of scope.own r)

-- the type of an item, or of a value alone
abbrev pub item_of : Scope → Scalar → Option Typed
item_of scope (scalar.Primitive word name) = option_map of_primitive (primitive_of word name)
item_of scope (scalar.Reference r) = referred scope r
item_of scope (scalar.Void digits) = None

-- a number of items, from 1 to 2^20
abbrev pub within : ℕ → Option ℕ
within n = if nat_le 1 n && nat_le n (2 ^ 20) then Some n else None

-- the greatest number of items: of `[<n]` it is n - 1
abbrev pub most_items : BoundSign → ℕ → Option ℕ
most_items Exact n = within n
most_items AtMost n = within n
most_items Below n = within (n - 1)

abbrev pub items_of : BoundSign → Option ℤ → Option ℕ
items_of sign (Some (pos n)) = most_items sign n
items_of sign (Some (negsuc n)) = None
items_of sign None = None

abbrev pub count_of : BoundSign → Layer → Option ℕ
count_of sign (o.Number x) = items_of sign (whole_of x)
count_of sign _ = None

-- the length or the capacity of an array
abbrev pub capacity : BoundSign → Const → Option ℕ
capacity sign u = count_of sign (out-Const u)

abbrev pub bound_text : BoundSign → ℕ → List ℕ
bound_text Exact n = codes "[" ++ decimal n ++ codes "]"
bound_text AtMost n = codes "[<=" ++ decimal n ++ codes "]"
bound_text Below n = codes "[<=" ++ decimal n ++ codes "]"

abbrev pub array_schema : BoundSign → Schema → ℕ → Schema
array_schema Exact item n = schema.Fixed item n
array_schema AtMost item n = schema.Var item n
array_schema Below item n = schema.Var item n

-- an array of so many items
abbrev pub array_of : BoundSign → Typed → ℕ → Typed
array_of sign item n = record { schema = array_schema sign item.schema n; text = item.text ++ bound_text sign n }

-- the number of items that a bound with a value is
abbrev pub bounded : BoundSign → Option Const → Option ℕ
bounded sign None = None
bounded sign (Some u) = capacity sign u

abbrev pub in_bound : Option Bound → Option Const → Typed → Option Typed
in_bound None u item = Some item
in_bound (Some b) u item = option_map (array_of b.sign item) (bounded b.sign u)

-- the type of a form whose bound is worth a constant; none where the form breaks a rule
abbrev pub type_of : Scope → Form → Option Const → Option Typed
type_of scope form bound = option_and_then (in_bound form.array bound) (item_of scope form.scalar)
