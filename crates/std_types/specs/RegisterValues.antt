-- The value of a register, of one of 15 variants, each the value of a structure of one array; the
-- first has nothing.
use Rattle.std.specs.Prelude.{ℕ, zero, suc, List, [], ◌∷◌, ◌≤◌, length}
use Rattle.dsdl_types.specs.Values.{Val, Parts, Tagged, Empty, tag_of, inner_of}
use Rattle.std_types.specs.Held.{HoldsBytes, HoldsIntegers, HoldsNaturals, alone, floats_of}
use Rattle.std_types.specs.Held.{floats_value, integers_of, integers_value, naturals_of}
use Rattle.std_types.specs.Held.{naturals_value, part, truths_of, truths_value}
use Rattle.std_types.specs.declared.register_value.RegisterValue.{RegisterValue}
use Rattle.std_types.specs.declared.register_value.RegisterValue.TheVariants as V

abbrev pub variant_value : RegisterValue → Val
variant_value V.Empty = Tagged 0 (Parts Empty)
variant_value (V.String xs) = Tagged 1 (alone (naturals_value xs))
variant_value (V.Unstructured xs) = Tagged 2 (alone (naturals_value xs))
variant_value (V.Bit xs) = Tagged 3 (alone (truths_value xs))
variant_value (V.Integer64 xs) = Tagged 4 (alone (integers_value xs))
variant_value (V.Integer32 xs) = Tagged 5 (alone (integers_value xs))
variant_value (V.Integer16 xs) = Tagged 6 (alone (integers_value xs))
variant_value (V.Integer8 xs) = Tagged 7 (alone (integers_value xs))
variant_value (V.Natural64 xs) = Tagged 8 (alone (naturals_value xs))
variant_value (V.Natural32 xs) = Tagged 9 (alone (naturals_value xs))
variant_value (V.Natural16 xs) = Tagged 10 (alone (naturals_value xs))
variant_value (V.Natural8 xs) = Tagged 11 (alone (naturals_value xs))
variant_value (V.Real64 xs) = Tagged 12 (alone (floats_value xs))
variant_value (V.Real32 xs) = Tagged 13 (alone (floats_value xs))
variant_value (V.Real16 xs) = Tagged 14 (alone (floats_value xs))

-- what each variant is of its value, by its tag
abbrev pub makers : List (Val → RegisterValue)
makers =
    (λ v. V.Empty)
    ∷ (λ v. V.String (naturals_of 8 (part 0 v)))
    ∷ (λ v. V.Unstructured (naturals_of 8 (part 0 v)))
    ∷ (λ v. V.Bit (truths_of (part 0 v)))
    ∷ (λ v. V.Integer64 (integers_of 64 (part 0 v)))
    ∷ (λ v. V.Integer32 (integers_of 32 (part 0 v)))
    ∷ (λ v. V.Integer16 (integers_of 16 (part 0 v)))
    ∷ (λ v. V.Integer8 (integers_of 8 (part 0 v)))
    ∷ (λ v. V.Natural64 (naturals_of 64 (part 0 v)))
    ∷ (λ v. V.Natural32 (naturals_of 32 (part 0 v)))
    ∷ (λ v. V.Natural16 (naturals_of 16 (part 0 v)))
    ∷ (λ v. V.Natural8 (naturals_of 8 (part 0 v)))
    ∷ (λ v. V.Real64 (floats_of 64 (part 0 v)))
    ∷ (λ v. V.Real32 (floats_of 32 (part 0 v)))
    ∷ (λ v. V.Real16 (floats_of 16 (part 0 v)))
    ∷ []

abbrev pub made_at : List (Val → RegisterValue) → ℕ → Val → RegisterValue
made_at [] tag v = V.Empty
made_at (make ∷ more) zero v = make v
made_at (make ∷ more) (suc tag) v = made_at more tag v

abbrev pub variant_of : Val → RegisterValue
variant_of v = made_at makers (tag_of v) (inner_of v)

-- an array is within its capacity, and its numbers are in their ranges
abbrev pub FitsRegisterValue : RegisterValue → Type 0
FitsRegisterValue V.Empty = Unit {0}
FitsRegisterValue (V.String xs) = HoldsBytes 256 xs
FitsRegisterValue (V.Unstructured xs) = HoldsBytes 256 xs
FitsRegisterValue (V.Bit xs) = length xs ≤ 2048
FitsRegisterValue (V.Integer64 xs) = HoldsIntegers 64 32 xs
FitsRegisterValue (V.Integer32 xs) = HoldsIntegers 32 64 xs
FitsRegisterValue (V.Integer16 xs) = HoldsIntegers 16 128 xs
FitsRegisterValue (V.Integer8 xs) = HoldsIntegers 8 256 xs
FitsRegisterValue (V.Natural64 xs) = HoldsNaturals 64 32 xs
FitsRegisterValue (V.Natural32 xs) = HoldsNaturals 32 64 xs
FitsRegisterValue (V.Natural16 xs) = HoldsNaturals 16 128 xs
FitsRegisterValue (V.Natural8 xs) = HoldsNaturals 8 256 xs
FitsRegisterValue (V.Real64 xs) = HoldsNaturals 64 32 xs
FitsRegisterValue (V.Real32 xs) = HoldsNaturals 32 64 xs
FitsRegisterValue (V.Real16 xs) = HoldsNaturals 16 128 xs
