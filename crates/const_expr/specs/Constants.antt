-- Constants as what they are made of, and the ascending sets of them.
use Rattle.std.specs.Prelude.{◌≡◌, ℕ, ◌==◌, ◌≤◌, length, ℤ, pos, Bool, true, false, List, [], ◌∷◌}
use Rattle.std.specs.Prelude.{map, AllPairs, Option, Some, None, Result, Ok, Err, if◌then◌else◌}
use Rattle.std.specs.List.{list_any, list_all, insert}
use Rattle.std.specs.declared.cmp.Ordering.{Ordering}
use Rattle.std.specs.declared.cmp.Ordering.TheVariants.{Less, Equal, Greater}
use Rattle.std.specs.Ordering.{nat_cmp, bool_cmp, is_eq}
use Rattle.std.specs.Cmp.Lexicographic.{slice_cmp}
use Rattle.cy_ratio.specs.Fraction.{Fraction, order_of}
use Rattle.cy_ratio.specs.declared.RatioError.{RatioError}
use Rattle.const_expr.specs.declared.constant.Const.{Const, out-Const}
use Rattle.const_expr.specs.declared.constant.Const.TheVariants as c
use Rattle.const_expr.specs.declared.constant.Const.TheOpen as o
use Rattle.const_expr.specs.declared.why.Why.{Why}
use Rattle.const_expr.specs.Refusals.{of_error}

-- a constant as what it is made of: a number, a truth value, a string, the members of a set,
-- lengths, or a type
abbrev pub Layer : Type 0
Layer = o.Const-F Const

abbrev pub whole : ℤ → Fraction
whole z = record { num = z; den = 1 }

-- the whole number that a fraction is
abbrev pub whole_of : Fraction → Option ℤ
whole_of x = if x.den == 1 then Some x.num else None

-- whole numbers as constants
abbrev pub natural : ℕ → Const
natural n = c.Number (whole (pos n))

abbrev pub naturals : List ℕ → List Const
naturals ns = map natural ns

-- the answer of an operation on fractions
abbrev pub number_of : Result Fraction RatioError → Result Const Why
number_of (Ok x) = Ok (c.Number x)
number_of (Err e) = Err (of_error e)

-- the kind of a member of a set: a number 0, a truth value 1, a string 2; of what is no member 3
abbrev pub kind : Layer → ℕ
kind (o.Number x) = 0
kind (o.Truth b) = 1
kind (o.Str s) = 2
kind (o.Set xs) = 3
kind (o.Lengths ns) = 3
kind (o.Named id) = 3

-- numbers by their values, false before true, strings by their bytes; one kind before the next
abbrev pub layer_order : Layer → Layer → Ordering
layer_order (o.Number x) (o.Number y) = order_of x y
layer_order (o.Truth a) (o.Truth b) = bool_cmp a b
layer_order (o.Str s) (o.Str t) = slice_cmp nat_cmp s t
layer_order u v = nat_cmp (kind u) (kind v)

-- the order of the members of a set
unfoldable pub const_order : Const → Const → Ordering
const_order u v = layer_order (out-Const u) (out-Const v)

-- a constant in front of a member y, in place of y or behind y, by how it compares with y
abbrev pub placed : Ordering → Const → Const → List Const → List Const → List Const
placed Less x y ys inserted = x ∷ y ∷ ys
placed Equal x y ys inserted = y ∷ ys
placed Greater x y ys inserted = y ∷ inserted

-- a set with one constant more, unless it is a member
unfoldable pub with_one : Const → List Const → List Const
with_one x [] = x ∷ []
with_one x (y ∷ ys) = placed (const_order x y) x y ys (with_one x ys)

-- a set with more constants
abbrev pub with_all : List Const → List Const → List Const
with_all set [] = set
with_all set (x ∷ xs) = with_all (with_one x set) xs

-- constants ascending, each once
abbrev pub gathered : List Const → List Const
gathered xs = with_all [] xs

-- each member stands before the next ones
abbrev pub IsAscending : List Const → Type 0
IsAscending xs = AllPairs (λ x y. const_order x y ≡ Less) xs

abbrev pub IsConstLayer : Layer → Type 0
IsConstLayer (o.Set xs) = IsAscending xs
IsConstLayer _ = Unit {0}

-- what every constant keeps: the members of a set ascend
abbrev pub IsConst : Const → Type 0
IsConst u = IsConstLayer (out-Const u)

-- whether a set has a member
abbrev pub has : List Const → Const → Bool
has xs x = list_any (λ y. is_eq (const_order x y)) xs

-- whether each member of one set is a member of the other
abbrev pub is_within : List Const → List Const → Bool
is_within xs ys = list_all (λ x. has ys x) xs

-- the kind of a set's members, which is that of the first
abbrev pub kind_in : List Const → ℕ
kind_in [] = 3
kind_in (x ∷ xs) = kind (out-Const x)

abbrev pub are_of_one_kind : List Const → List Const → Bool
are_of_one_kind xs ys = kind_in xs == kind_in ys

-- the place at which a constant goes into a set, or none where it is a member
abbrev pub IsPlace : List Const → Const → Option ℕ → Type 0
IsPlace xs x None = (with_one x xs ≡ xs) × (has xs x ≡ true)
IsPlace xs x (Some i) = (i ≤ length xs) × (with_one x xs ≡ insert xs i x) × (has xs x ≡ false)
