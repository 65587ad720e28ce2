-- Comparing constants.
use Rattle.std.specs.Prelude.{ℕ, ◌==◌, Bool, true, false, not, ◌&&◌, List, Option, Some, None}
use Rattle.std.specs.Prelude.{Result, Ok, Err, if◌then◌else◌}
use Rattle.std.specs.Str.{bytes_eq}
use Rattle.std.specs.Ordering.{is_eq, bool_cmp}
use Rattle.std.specs.declared.cmp.Ordering.{Ordering}
use Rattle.std.specs.declared.cmp.Ordering.TheVariants.{Less, Greater}
use Rattle.cy_ratio.specs.Fraction.{order_of}
use Rattle.const_expr.specs.declared.constant.Const.{Const}
use Rattle.const_expr.specs.declared.constant.Const.TheVariants as c
use Rattle.const_expr.specs.declared.constant.Const.TheOpen as o
use Rattle.const_expr.specs.declared.operator.Relation.{Relation}
use Rattle.const_expr.specs.declared.operator.Relation.TheVariants as relation
use Rattle.const_expr.specs.declared.why.Why.{Why}
use Rattle.const_expr.specs.declared.why.Why.TheVariants as why
use Rattle.const_expr.specs.Constants.{Layer, naturals, is_within, kind_in}

abbrev pub is_below : Ordering → Bool
is_below Less = true
is_below _ = false

abbrev pub is_above : Ordering → Bool
is_above Greater = true
is_above _ = false

-- of two numbers that compare so
abbrev pub of_order : Relation → Ordering → Bool
of_order relation.Equal r = is_eq r
of_order relation.Unequal r = not (is_eq r)
of_order relation.AtMost r = not (is_above r)
of_order relation.AtLeast r = not (is_below r)
of_order relation.Below r = is_below r
of_order relation.Above r = is_above r

-- of two sets, where each member of the left one is a member of the right one, or the converse
abbrev pub of_inclusion : Relation → Bool → Bool → Bool
of_inclusion relation.Equal left right = left && right
of_inclusion relation.Unequal left right = not (left && right)
of_inclusion relation.AtMost left right = left
of_inclusion relation.AtLeast left right = right
of_inclusion relation.Below left right = left && not right
of_inclusion relation.Above left right = right && not left

-- of truth values or strings, which have no order
abbrev pub of_equality : Relation → Bool → Result Const Why
of_equality relation.Equal same = Ok (c.Truth same)
of_equality relation.Unequal same = Ok (c.Truth (not same))
of_equality _ same = Err why.Kind

-- the members of a set, however many
abbrev pub members : Layer → Option (List Const)
members (o.Set xs) = Some xs
members (o.Lengths ns) = Some (naturals ns)
members _ = None

-- the kind of the members of a set
abbrev pub member_kind : Layer → ℕ
member_kind (o.Set xs) = kind_in xs
member_kind (o.Lengths ns) = 0
member_kind _ = 3

-- of two sets, whose members are of one kind or not
abbrev pub of_sets : Relation → Bool → Option (List Const) → Option (List Const) → Result Const Why
of_sets r same (Some xs) (Some ys) = if same then Ok (c.Truth (of_inclusion r (is_within xs ys) (is_within ys xs))) else Err why.Kind
of_sets r same (Some xs) None = Err why.Kind
of_sets r same None ys = Err why.Kind

-- Two numbers, truth values, strings or sets of one kind; a set of lengths counts as a set of
-- numbers. Truth values and strings have no order, sets are ordered by inclusion.
abbrev pub compared : Relation → Layer → Layer → Result Const Why
compared r (o.Number x) (o.Number y) = Ok (c.Truth (of_order r (order_of x y)))
compared r (o.Truth a) (o.Truth b) = of_equality r (is_eq (bool_cmp a b))
compared r (o.Str s) (o.Str t) = of_equality r (bytes_eq s t)
compared r u v = of_sets r (member_kind u == member_kind v) (members u) (members v)
