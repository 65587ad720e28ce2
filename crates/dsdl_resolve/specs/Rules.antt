-- The rules of the language as tests of a statement at its place. Each kind of statement has those
-- that it can break.
use Rattle.std.specs.Prelude.{ℕ, ◌-◌, ◌*◌, ◌^◌, ◌==◌, ◌&&◌, ◌||◌, ◌%◌, nat_lt, nat_le, nat_eq, Bool}
use Rattle.std.specs.Prelude.{true, false, not, ℤ, pos, negsuc, List, [], ◌∷◌, length, Option, Some}
use Rattle.std.specs.Prelude.{None, is_some, is_none, if◌then◌else◌, codes}
use Rattle.std.specs.List.{list_any, filter_map, count_by, starts_with}
use Rattle.std.specs.Str.{bytes_eq}
use Rattle.dsdl_names.specs.Words.{is_reserved}
use Rattle.dsdl_parse.specs.declared.statement.Bound.{Bound}
use Rattle.dsdl_parse.specs.declared.statement.Form.{Form}
use Rattle.dsdl_parse.specs.declared.statement.Scalar.{Scalar}
use Rattle.dsdl_parse.specs.declared.statement.Scalar.TheVariants as scalar
use Rattle.dsdl_parse.specs.declared.statement.Statement.{Statement}
use Rattle.dsdl_parse.specs.declared.statement.Statement.TheVariants as statement
use Rattle.const_expr.specs.declared.constant.Const.{Const, out-Const}
use Rattle.const_expr.specs.declared.constant.Const.TheOpen as o
use Rattle.const_expr.specs.declared.scope.Scope.{Scope}
use Rattle.const_expr.specs.Constants.{Layer, whole_of}
use Rattle.dsdl_resolve.specs.declared.typed.Typed.{Typed}
use Rattle.dsdl_resolve.specs.declared.values.Values.{Values}
use Rattle.dsdl_resolve.specs.Forms.{referred, primitive_of, width_in, is_truncated, bounded}
use Rattle.dsdl_resolve.specs.Forms.{type_of}
use Rattle.dsdl_resolve.specs.Place.{Place, is_union_at}
use Rattle.dsdl_resolve.specs.RuleNumbers.{second_split, no_ending, second_ending, extent_too_small}
use Rattle.dsdl_resolve.specs.RuleNumbers.{behind_extent, late_union, too_few_variants}
use Rattle.dsdl_resolve.specs.RuleNumbers.{padding_in_union, name_taken, name_reserved, wrong_width}
use Rattle.dsdl_resolve.specs.RuleNumbers.{wrong_cast_mode, wrong_capacity, not_a_message}
use Rattle.dsdl_resolve.specs.RuleNumbers.{constant_not_primitive, constant_out_of_range}
use Rattle.dsdl_resolve.specs.RuleNumbers.{unknown_directive, misplaced_expression, late_deprecated}
use Rattle.dsdl_resolve.specs.RuleNumbers.{assert_not_truth, service_port_too_great}
use Rattle.dsdl_resolve.specs.RuleNumbers.{nested_too_deep, too_many_nodes}
use Rattle.dsdl_resolve.specs.Said.{Said, greatest, node_count, depth}
use Rattle.dsdl_resolve.specs.Says.{is_split, is_union, is_deprecated, is_extent, is_sealing}
use Rattle.dsdl_resolve.specs.Says.{is_field, is_entry, attribute_of, names_offset}
use Rattle.dsdl_resolve.specs.Values.{with_field, natural_of}
use Rattle.dsdl_resolve.specs.declared.primitive.Primitive.{Primitive}
use Rattle.dsdl_resolve.specs.declared.primitive.Primitive.TheVariants as primitive

-- A second `---`.
abbrev pub is_second_split : Place → Bool
is_second_split p = list_any is_split p.file

-- The section has neither `@sealed` nor `@extent`.
abbrev pub has_no_ending : List Statement → Bool
has_no_ending section = not (list_any is_sealing section)

-- A second of `@sealed` and `@extent`.
abbrev pub is_second_ending : Place → Bool
is_second_ending p = list_any is_sealing p.before

-- a multiple of 8 that isn't below a length
abbrev pub is_extent_for : ℕ → Option ℕ → Bool
is_extent_for longest None = false
is_extent_for longest (Some n) = (n % 8 == 0) && nat_le longest n

-- An extent that is no whole multiple of 8, or is below the greatest length.
abbrev pub is_extent_too_small : Said → Option Const → Bool
is_extent_too_small said value =
    is_some value && not (is_extent_for (greatest said.union said.fields) (natural_of value))

-- A field, a padding or a constant behind `@extent`.
abbrev pub is_behind_extent : Place → Bool
is_behind_extent p = list_any is_extent p.before

-- A second `@union`, or one behind a field, a padding or a constant.
abbrev pub is_late_union : Place → Bool
is_late_union p = list_any is_union p.before || list_any is_entry p.before

-- A union with fewer than two variants.
abbrev pub has_too_few_variants : List Statement → Bool
has_too_few_variants section = list_any is_union section && nat_lt (count_by is_field section) 2

-- A padding in a union.
abbrev pub is_padding_in_union : Place → Bool
is_padding_in_union p = list_any is_union p.before

-- a name is one of these
abbrev pub is_used : List (List ℕ) → List ℕ → Bool
is_used names name = list_any (λ other. bytes_eq other name) names

-- A name that an attribute before it has.
abbrev pub is_name_taken : Place → List ℕ → Bool
is_name_taken p name = is_used (filter_map attribute_of p.before) name

-- A width that no type of its kind has, or one with a leading zero.
abbrev pub has_wrong_width : Scalar → Bool
has_wrong_width (scalar.Primitive word name) = is_none (primitive_of word name)
has_wrong_width (scalar.Reference r) = false
has_wrong_width (scalar.Void digits) = is_none (width_in 1 64 digits)

-- a type that is saturated alone: `bool`, or a signed integer
abbrev pub has_no_cast : List ℕ → Bool
has_no_cast name = bytes_eq name (codes "bool") || starts_with nat_eq name (codes "int")

-- `truncated` on `bool` or on a signed integer.
abbrev pub has_wrong_cast_mode : Scalar → Bool
has_wrong_cast_mode (scalar.Primitive word name) = is_truncated word && has_no_cast name
has_wrong_cast_mode _ = false

-- An array length or a capacity that isn't whole from 1 to 2^20.
abbrev pub has_wrong_capacity : Option Bound → Option Const → Bool
has_wrong_capacity None u = false
has_wrong_capacity (Some b) u = is_none (bounded b.sign u)

-- A type that is no message, as a service; `void`, which has a name or is an item here. Without an
-- array a constant of another type breaks `constant_not_primitive` alone.
abbrev pub is_no_message : Scope → Bool → Scalar → Bool
is_no_message scope typed (scalar.Primitive word name) = false
is_no_message scope typed (scalar.Reference r) = typed && is_none (referred scope r)
is_no_message scope typed (scalar.Void digits) = true

abbrev pub is_primitive : Scalar → Bool
is_primitive (scalar.Primitive word name) = true
is_primitive _ = false

-- A constant that is an array, or is of no primitive type.
abbrev pub is_not_primitive : Form → Bool
is_not_primitive form = is_some form.array || not (is_primitive form.scalar)

abbrev pub unsigned_fits : ℕ → Option ℤ → Bool
unsigned_fits w (Some (pos n)) = nat_lt n (2 ^ w)
unsigned_fits w _ = false

abbrev pub signed_fits : ℕ → Option ℤ → Bool
signed_fits w (Some (pos n)) = nat_lt n (2 ^ (w - 1))
signed_fits w (Some (negsuc n)) = nat_lt n (2 ^ (w - 1))
signed_fits w None = false

-- from -65504 to 65504
abbrev pub is_half : ℤ → ℕ → Bool
is_half (pos n) den = nat_le n (65504 * den)
is_half (negsuc n) den = nat_lt n (65504 * den)

-- a value that a type holds: a truth value; a whole number in range, or for uint8 a string of one
-- character; a number, of which float16 alone doesn't hold all
abbrev pub fits : Primitive → Layer → Bool
fits primitive.Bool (o.Truth b) = true
fits (primitive.Uint w cast) (o.Number x) = unsigned_fits w (whole_of x)
fits (primitive.Uint w cast) (o.Str t) = (w == 8) && (length t == 1)
fits (primitive.Int w) (o.Number x) = signed_fits w (whole_of x)
fits (primitive.Float w cast) (o.Number x) = not (w == 16) || is_half x.num x.den
fits _ _ = false

abbrev pub holds : Option Primitive → Option Const → Bool
holds None value = false
holds (Some p) None = false
holds (Some p) (Some u) = fits p (out-Const u)

-- A value of a constant that its type doesn't hold.
abbrev pub is_out_of_range : Scalar → Option Const → Bool
is_out_of_range (scalar.Primitive word name) value = not (holds (primitive_of word name) value)
is_out_of_range _ value = false

-- A second `@deprecated`, or one behind a field, a padding, a constant or `---`.
abbrev pub is_late_deprecated : Place → Bool
is_late_deprecated p =
    list_any is_deprecated p.file || (list_any is_entry p.file || list_any is_split p.file)

abbrev pub is_truth : Layer → Bool
is_truth (o.Truth b) = true
is_truth _ = false

-- An `@assert` of what is no truth value.
abbrev pub is_no_truth : Option Const → Bool
is_no_truth None = false
is_no_truth (Some u) = not (is_truth (out-Const u))

-- A port above 511 on a service.
abbrev pub is_port_too_great : Option ℕ → List Statement → Bool
is_port_too_great None file = false
is_port_too_great (Some port) file = nat_lt 511 port && list_any is_split file

-- `_offset_` in a union that has fewer than two variants so far, or has one at or behind this
-- place.
abbrev pub is_offset_too_early : Place → Bool
is_offset_too_early p =
    names_offset p.at
    && (is_union_at p
    && (nat_lt (count_by is_field p.before) 2 || list_any is_field (p.at ∷ p.behind)))

-- With this field types nest above 32 deep.
abbrev pub is_nested_too_deep : Said → Option Typed → Bool
is_nested_too_deep said None = false
is_nested_too_deep said (Some t) = nat_lt 32 (depth (with_field said [] (Some t)).fields)

-- With this field a value has more than 2^20 nodes.
abbrev pub has_too_many_nodes : Said → Option Typed → Bool
has_too_many_nodes said None = false
has_too_many_nodes said (Some t) = nat_lt (2 ^ 20) (node_count (with_field said [] (Some t)).fields)

-- rules by their numbers, each with whether it is broken
abbrev pub Tests : Type 0
Tests = List (ℕ × Bool)

-- the rules on the name and the form of a field or a constant, before others
abbrev pub named_rules : Place → Option Const → Form → List ℕ → Tests → Tests
named_rules p bound form name others =
    (behind_extent, is_behind_extent p)
    ∷ (name_taken, is_name_taken p name)
    ∷ (name_reserved, is_reserved name)
    ∷ (wrong_width, has_wrong_width form.scalar)
    ∷ (wrong_cast_mode, has_wrong_cast_mode form.scalar)
    ∷ (wrong_capacity, has_wrong_capacity form.array bound)
    ∷ others

abbrev pub field_rules : Scope → Place → Said → Values → Form → List ℕ → Tests
field_rules scope p said vs form name = named_rules p vs.bound form name (
    (not_a_message, is_no_message scope true form.scalar)
    ∷ (nested_too_deep, is_nested_too_deep said (type_of scope form vs.bound))
    ∷ (too_many_nodes, has_too_many_nodes said (type_of scope form vs.bound))
    ∷ [])

abbrev pub constant_rules : Scope → Place → Values → Form → List ℕ → Tests
constant_rules scope p vs form name = named_rules p vs.bound form name (
    (not_a_message, is_no_message scope (is_some form.array) form.scalar)
    ∷ (constant_not_primitive, is_not_primitive form)
    ∷ (constant_out_of_range, is_out_of_range form.scalar vs.value)
    ∷ [])

abbrev pub padding_rules : Place → List ℕ → Tests
padding_rules p digits =
    (behind_extent, is_behind_extent p)
    ∷ (padding_in_union, is_padding_in_union p)
    ∷ (wrong_width, is_none (width_in 1 64 digits))
    ∷ []

abbrev pub split_rules : Place → Tests
split_rules p =
    (second_split, is_second_split p)
    ∷ (no_ending, has_no_ending p.before)
    ∷ (too_few_variants, has_too_few_variants p.before)
    ∷ []

-- of a directive with an expression or without one
abbrev pub directive_rules : Place → Said → Values → List ℕ → Bool → Tests
directive_rules p said vs name some =
    if bytes_eq name (codes "assert")
    then (misplaced_expression, not some) ∷ (assert_not_truth, is_no_truth vs.value) ∷ []
    else if bytes_eq name (codes "print") then []
    else if bytes_eq name (codes "union")
    then (late_union, is_late_union p) ∷ (misplaced_expression, some) ∷ []
    else if bytes_eq name (codes "sealed")
    then (second_ending, is_second_ending p) ∷ (misplaced_expression, some) ∷ []
    else if bytes_eq name (codes "extent")
    then (second_ending, is_second_ending p) ∷ (extent_too_small, is_extent_too_small said vs.value)
    ∷ (misplaced_expression, not some) ∷ []
    else if bytes_eq name (codes "deprecated")
    then (misplaced_expression, some) ∷ (late_deprecated, is_late_deprecated p) ∷ []
    else (unknown_directive, true) ∷ []

-- the rules that a statement can break, least first
abbrev pub rules_of : Scope → Place → Said → Values → Statement → Tests
rules_of scope p said vs statement.Empty = []
rules_of scope p said vs statement.Split = split_rules p
rules_of scope p said vs (statement.Directive name x) = directive_rules p said vs name (is_some x)
rules_of scope p said vs (statement.Constant form name x) = constant_rules scope p vs form name
rules_of scope p said vs (statement.Field form name) = field_rules scope p said vs form name
rules_of scope p said vs (statement.Padding digits) = padding_rules p digits

abbrev pub rules_at : Scope → Place → Said → Values → Tests
rules_at scope p said vs = rules_of scope p said vs p.at

-- the rules at the end of a file with a port: of its last section, and of the whole
abbrev pub rules_at_end : Option ℕ → List Statement → List Statement → Tests
rules_at_end port file section =
    (no_ending, has_no_ending section)
    ∷ (too_few_variants, has_too_few_variants section)
    ∷ (service_port_too_great, is_port_too_great port file)
    ∷ []

-- the first rule that is broken
abbrev pub least : Tests → Option ℕ
least [] = None
least (t ∷ ts) = if t.1 then Some t.0 else least ts
