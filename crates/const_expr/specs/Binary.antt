-- What a binary operator makes of two constants.
use Rattle.std.specs.Prelude.{ℕ, ◌&&◌, ◌||◌, ◌++◌, nat_lt, ℤ, pos, negsuc, Bool, not, List, [], ◌∷◌}
use Rattle.std.specs.Prelude.{length, filter, Option, Some, None, Result, Ok, Err, if◌then◌else◌}
use Rattle.std.specs.Int.{w128, int_bit_and, int_bit_or, int_bit_xor}
use Rattle.bit_length.specs.Residues.{residues_of}
use Rattle.cy_ratio.specs.Fraction.{Fraction, sum_of, difference_of, product_of, quotient_of}
use Rattle.cy_ratio.specs.Fraction.{remainder_of, power_of}
use Rattle.cy_ratio.specs.declared.RatioError.{RatioError}
use Rattle.const_expr.specs.declared.constant.Const.{Const, out-Const}
use Rattle.const_expr.specs.declared.constant.Const.TheVariants as c
use Rattle.const_expr.specs.declared.constant.Const.TheOpen as o
use Rattle.const_expr.specs.declared.operator.Operator.{Operator}
use Rattle.const_expr.specs.declared.operator.Operator.TheVariants.{Logic, Compare, Bits}
use Rattle.const_expr.specs.declared.operator.Operator.TheVariants.{Arithmetic, Power}
use Rattle.const_expr.specs.declared.operator.Logic.{Logic as LogicSign}
use Rattle.const_expr.specs.declared.operator.Logic.TheVariants as logic
use Rattle.const_expr.specs.declared.operator.Bits.{Bits as BitsSign}
use Rattle.const_expr.specs.declared.operator.Bits.TheVariants as bits
use Rattle.const_expr.specs.declared.operator.Arithmetic.{Arithmetic as ArithmeticSign}
use Rattle.const_expr.specs.declared.operator.Arithmetic.TheVariants as arithmetic
use Rattle.const_expr.specs.declared.why.Why.{Why}
use Rattle.const_expr.specs.declared.why.Why.TheVariants as why
use Rattle.const_expr.specs.Refusals.{and_then}
use Rattle.const_expr.specs.Constants.{Layer, whole, whole_of, naturals, number_of, has, with_all}
use Rattle.const_expr.specs.Constants.{gathered, are_of_one_kind}
use Rattle.const_expr.specs.Operators.{operator_of}
use Rattle.const_expr.specs.Compare.{compared}

-- the most members of a set of lengths that is listed
abbrev pub most_listed : ℕ
most_listed = 4096

-- a set of lengths as a set of numbers
abbrev pub listed_layer : Const → Layer → Result Const Why
listed_layer u (o.Lengths ns) = if nat_lt most_listed (length ns) then Err (why.Large (length ns)) else Ok (c.Set (naturals ns))
listed_layer u _ = Ok u

abbrev pub listed : Const → Result Const Why
listed u = listed_layer u (out-Const u)

-- `||` and `&&` on truth values
abbrev pub truth_of : LogicSign → Bool → Bool → Bool
truth_of logic.Or a b = a || b
truth_of logic.And a b = a && b

abbrev pub on_truths : LogicSign → Layer → Layer → Result Const Why
on_truths l (o.Truth a) (o.Truth b) = Ok (c.Truth (truth_of l a b))
on_truths l u v = Err why.Kind

-- two numbers
abbrev pub calculated : ArithmeticSign → Fraction → Fraction → Result Fraction RatioError
calculated arithmetic.Add x y = sum_of x y
calculated arithmetic.Sub x y = difference_of x y
calculated arithmetic.Mul x y = product_of x y
calculated arithmetic.Div x y = quotient_of x y
calculated arithmetic.Rem x y = remainder_of x y

-- an operation on a member, which is a number
abbrev pub on_number : (Fraction → Result Fraction RatioError) → Layer → Result Const Why
on_number f (o.Number x) = number_of (f x)
on_number f _ = Err why.Kind

-- the results of the members in order; the first refusal
abbrev pub on_each : (Fraction → Result Fraction RatioError) → List Const → Result (List Const) Why
on_each f [] = Ok []
on_each f (x ∷ xs) = and_then (on_number f (out-Const x)) (λ y. and_then (on_each f xs) (λ ys. Ok (y ∷ ys)))

-- the set of the results of all members
abbrev pub on_members : (Fraction → Result Fraction RatioError) → List Const → Result Const Why
on_members f xs = and_then (on_each f xs) (λ ys. Ok (c.Set (gathered ys)))

-- strings are joined
abbrev pub joined : ArithmeticSign → List ℕ → List ℕ → Result Const Why
joined arithmetic.Add s t = Ok (c.Str (s ++ t))
joined _ s t = Err why.Kind

-- numbers; a set and a number, member by member; the sum of strings
abbrev pub on_numbers : ArithmeticSign → Layer → Layer → Result Const Why
on_numbers a (o.Number x) (o.Number y) = number_of (calculated a x y)
on_numbers a (o.Set xs) (o.Number y) = on_members (λ x. calculated a x y) xs
on_numbers a (o.Number x) (o.Set ys) = on_members (λ y. calculated a x y) ys
on_numbers a (o.Str s) (o.Str t) = joined a s t
on_numbers a u v = Err why.Kind

-- whole numbers by their bits in two's complement
abbrev pub bits_of : BitsSign → ℤ → ℤ → ℤ
bits_of bits.Or m n = int_bit_or w128 m n
bits_of bits.Xor m n = int_bit_xor w128 m n
bits_of bits.And m n = int_bit_and w128 m n

abbrev pub on_wholes : BitsSign → Option ℤ → Option ℤ → Result Const Why
on_wholes b (Some m) (Some n) = Ok (c.Number (whole (bits_of b m n)))
on_wholes b (Some m) None = Err why.Kind
on_wholes b None n = Err why.Kind

-- the members that aren't in another set
abbrev pub without : List Const → List Const → List Const
without xs ys = filter (λ x. not (has ys x)) xs

-- the members of either set, of one of them alone, or of both
abbrev pub combined : BitsSign → List Const → List Const → List Const
combined bits.Or xs ys = with_all xs ys
combined bits.Xor xs ys = with_all (without xs ys) (without ys xs)
combined bits.And xs ys = filter (λ x. has ys x) xs

-- a set has some member
abbrev pub some_members : List Const → Result Const Why
some_members [] = Err why.Kind
some_members (x ∷ xs) = Ok (c.Set (x ∷ xs))

abbrev pub on_sets : BitsSign → List Const → List Const → Result Const Why
on_sets b xs ys = if are_of_one_kind xs ys then some_members (combined b xs ys) else Err why.Kind

-- whole numbers; sets of one kind
abbrev pub on_bits : BitsSign → Layer → Layer → Result Const Why
on_bits b (o.Number x) (o.Number y) = on_wholes b (whole_of x) (whole_of y)
on_bits b (o.Set xs) (o.Set ys) = on_sets b xs ys
on_bits b u v = Err why.Kind

-- a power with a whole exponent
abbrev pub to_whole : Fraction → Option ℤ → Result Const Why
to_whole x (Some e) = number_of (power_of x e)
to_whole x None = Err why.Kind

abbrev pub on_power : Layer → Layer → Result Const Why
on_power (o.Number x) (o.Number e) = to_whole x (whole_of e)
on_power u v = Err why.Kind

-- what an operator makes of constants that are listed
abbrev pub by_kinds : Operator → Layer → Layer → Result Const Why
by_kinds (Logic l) u v = on_truths l u v
by_kinds (Compare r) u v = compared r u v
by_kinds (Bits b) u v = on_bits b u v
by_kinds (Arithmetic a) u v = on_numbers a u v
by_kinds Power u v = on_power u v

-- both operands are listed, the left one first
abbrev pub on_listed : Operator → Const → Const → Result Const Why
on_listed op u v = and_then (listed u) (λ x. and_then (listed v) (λ y. by_kinds op (out-Const x) (out-Const y)))

-- the remainders of lengths modulo k, ascending
abbrev pub residues : List ℕ → ℕ → List Const
residues ns k = naturals (residues_of ns k)

-- a whole number from 1 to 65,536
abbrev pub divisor_in : ℤ → Option ℕ
divisor_in (pos k) = if nat_lt 0 k && nat_lt k 65537 then Some k else None
divisor_in (negsuc k) = None

abbrev pub divisor_at : Option ℤ → Option ℕ
divisor_at (Some z) = divisor_in z
divisor_at None = None

-- such a number
abbrev pub small_divisor : Layer → Option ℕ
small_divisor (o.Number x) = divisor_at (whole_of x)
small_divisor _ = None

-- the remainders of a set of lengths of any size, where the divisor is such a number
abbrev pub residues_in : Layer → Option ℕ → Option (List Const)
residues_in (o.Lengths ns) (Some k) = Some (residues ns k)
residues_in _ _ = None

abbrev pub unless_found : Option (List Const) → Result Const Why → Result Const Why
unless_found (Some xs) other = Ok (c.Set xs)
unless_found None other = other

-- Comparisons and remainders of lengths by small divisors work at any size. For all else a set of
-- lengths is listed.
abbrev pub applied : Operator → Const → Const → Result Const Why
applied (Compare r) u v = compared r (out-Const u) (out-Const v)
applied (Arithmetic arithmetic.Rem) u v = unless_found (residues_in (out-Const u) (small_divisor (out-Const v))) (on_listed (Arithmetic arithmetic.Rem) u v)
applied op u v = on_listed op u v

abbrev pub by_operator : Option Operator → Const → Const → Result Const Why
by_operator None u v = Err why.Kind
by_operator (Some op) u v = applied op u v

-- the operator of a text on two constants
unfoldable pub binary : List ℕ → Const → Const → Result Const Why
binary op u v = by_operator (operator_of op) u v
