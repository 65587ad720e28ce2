-- What a struct's field holds of a value, and the value of what it holds. A value of another kind
-- is seen as 0, false, or no items.
use Rattle.std.specs.Prelude.{ℕ, zero, suc, ◌-◌, ◌^◌, ◌<◌, ◌≤◌, min, Bool, true, false, ℤ, pos}
use Rattle.std.specs.Prelude.{List, [], ◌∷◌, length, replicate, ◌≡◌}
use Rattle.std.specs.List.{All}
use Rattle.cy_bits.specs.Put.{put_at}
use Rattle.dsdl_types.specs.Values.{Val, Vals, Truth, Num, Raw, Items, Parts, Empty, More, items_of}
use Rattle.dsdl_types.specs.Values.{parts_of}
use Rattle.dsdl_types.specs.Stored.{IsSigned}
use Rattle.dsdl_types.specs.Views.{in_row}
use Rattle.dsdl_types.specs.Cast.{cast_uint, cast_int}

abbrev pub number_of : Val → ℤ
number_of (Num z) = z
number_of _ = pos 0

abbrev pub raw_of : Val → ℕ
raw_of (Raw n) = n
raw_of _ = 0

abbrev pub truth_of : Val → Bool
truth_of (Truth b) = b
truth_of _ = false

abbrev pub natural_value : ℕ → Val
natural_value n = Num (pos n)

-- a number, kept within an unsigned integer of so many bits, and within a signed one
abbrev pub natural : ℕ → Val → ℕ
natural bits v = cast_uint bits true (number_of v)

abbrev pub integer : ℕ → Val → ℤ
integer bits v = cast_int bits (number_of v)

-- the raw bits of a float of so many bits
abbrev pub float_bits : ℕ → Val → ℕ
float_bits bits v = min (raw_of v) (2 ^ bits - 1)

-- the value of a structure's field by its number among those that aren't padding, or what there is
-- in its place
abbrev pub part_or : Val → Vals → ℕ → Val
part_or v Empty k = v
part_or v (More w ws) zero = w
part_or v (More w ws) (suc k) = part_or v ws k

abbrev pub part : ℕ → Val → Val
part k v = part_or v (parts_of v) k

-- values in a row, of what is held, and what is held of them
abbrev pub row_of : {A : Type 0} → (A → Val) → List A → Vals
row_of f [] = Empty
row_of f (x ∷ xs) = More (f x) (row_of f xs)

abbrev pub list_of : {A : Type 0} → (Val → A) → Vals → List A
list_of g Empty = []
list_of g (More v vs) = g v ∷ list_of g vs

-- an array of unsigned integers, of bytes, of signed integers, of raw bits of floats, of truth
-- values
abbrev pub naturals_value : List ℕ → Val
naturals_value xs = Items (row_of natural_value xs)

abbrev pub naturals_of : ℕ → Val → List ℕ
naturals_of bits v = list_of (natural bits) (items_of v)

abbrev pub integers_value : List ℤ → Val
integers_value xs = Items (row_of Num xs)

abbrev pub integers_of : ℕ → Val → List ℤ
integers_of bits v = list_of (integer bits) (items_of v)

abbrev pub floats_value : List ℕ → Val
floats_value xs = Items (row_of Raw xs)

abbrev pub floats_of : ℕ → Val → List ℕ
floats_of bits v = list_of (float_bits bits) (items_of v)

abbrev pub truths_value : List Bool → Val
truths_value xs = Items (row_of Truth xs)

abbrev pub truths_of : Val → List Bool
truths_of v = list_of truth_of (items_of v)

-- at most so many numbers, each in the range of its bits
abbrev pub HoldsNaturals : ℕ → ℕ → List ℕ → Type 0
HoldsNaturals bits cap xs = (length xs ≤ cap) × All (λ n. n < 2 ^ bits) xs

abbrev pub HoldsIntegers : ℕ → ℕ → List ℤ → Type 0
HoldsIntegers bits cap xs = (length xs ≤ cap) × All (λ z. IsSigned bits z) xs

abbrev pub HoldsBytes : ℕ → List ℕ → Type 0
HoldsBytes cap = HoldsNaturals 8 cap

-- a structure of one field
abbrev pub alone : Val → Val
alone v = Parts (in_row (v ∷ []))

-- exactly 16 bytes: those of an array, cut or with zeros behind
abbrev pub unique_id_of : Val → List ℕ
unique_id_of v = put_at (replicate 16 0) 0 (naturals_of 8 v)

abbrev pub IsUniqueId : List ℕ → Type 0
IsUniqueId xs = (length xs ≡ 16) × All (λ n. n < 2 ^ 8) xs
