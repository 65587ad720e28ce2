-- The values of the standard types of primitives and arrays, and what the structs hold of values.
use Rattle.std.specs.Prelude.{◌≤◌, [], ◌∷◌, length}
use Rattle.dsdl_types.specs.Values.{Parts, Val}
use Rattle.dsdl_types.specs.Views.{in_row}
use Rattle.std_types.specs.Held.{HoldsBytes, HoldsIntegers, HoldsNaturals, floats_of, floats_value}
use Rattle.std_types.specs.Held.{integers_of, integers_value, naturals_of, naturals_value, part}
use Rattle.std_types.specs.Held.{truths_of, truths_value}
use Rattle.std_types.specs.declared.array.Empty.{Empty}
use Rattle.std_types.specs.declared.array.PrimitiveString.{PrimitiveString}
use Rattle.std_types.specs.declared.array.Unstructured.{Unstructured}
use Rattle.std_types.specs.declared.array.Bit.{Bit}
use Rattle.std_types.specs.declared.array.Integer64.{Integer64}
use Rattle.std_types.specs.declared.array.Integer32.{Integer32}
use Rattle.std_types.specs.declared.array.Integer16.{Integer16}
use Rattle.std_types.specs.declared.array.Integer8.{Integer8}
use Rattle.std_types.specs.declared.array.Natural64.{Natural64}
use Rattle.std_types.specs.declared.array.Natural32.{Natural32}
use Rattle.std_types.specs.declared.array.Natural16.{Natural16}
use Rattle.std_types.specs.declared.array.Natural8.{Natural8}
use Rattle.std_types.specs.declared.array.Real64.{Real64}
use Rattle.std_types.specs.declared.array.Real32.{Real32}
use Rattle.std_types.specs.declared.array.Real16.{Real16}

-- primitive.Empty.1.0
abbrev pub empty_value : Empty → Val
empty_value x = Parts (in_row ([]))

abbrev pub empty_of : Val → Empty
empty_of v = record {}

abbrev pub FitsEmpty : Empty → Type 0
FitsEmpty x = Unit {0}

-- primitive.String.1.0
abbrev pub string_value : PrimitiveString → Val
string_value x = Parts (in_row (naturals_value x.value ∷ []))

abbrev pub string_of : Val → PrimitiveString
string_of v = record { value = naturals_of 8 (part 0 v) }

abbrev pub FitsPrimitiveString : PrimitiveString → Type 0
FitsPrimitiveString x = HoldsBytes 256 x.value

-- primitive.Unstructured.1.0
abbrev pub unstructured_value : Unstructured → Val
unstructured_value x = Parts (in_row (naturals_value x.value ∷ []))

abbrev pub unstructured_of : Val → Unstructured
unstructured_of v = record { value = naturals_of 8 (part 0 v) }

abbrev pub FitsUnstructured : Unstructured → Type 0
FitsUnstructured x = HoldsBytes 256 x.value

-- primitive.array.Bit.1.0
abbrev pub bit_value : Bit → Val
bit_value x = Parts (in_row (truths_value x.value ∷ []))

abbrev pub bit_of : Val → Bit
bit_of v = record { value = truths_of (part 0 v) }

abbrev pub FitsBit : Bit → Type 0
FitsBit x = length x.value ≤ 2048

-- primitive.array.Integer64.1.0
abbrev pub integer64_value : Integer64 → Val
integer64_value x = Parts (in_row (integers_value x.value ∷ []))

abbrev pub integer64_of : Val → Integer64
integer64_of v = record { value = integers_of 64 (part 0 v) }

abbrev pub FitsInteger64 : Integer64 → Type 0
FitsInteger64 x = HoldsIntegers 64 32 x.value

-- primitive.array.Integer32.1.0
abbrev pub integer32_value : Integer32 → Val
integer32_value x = Parts (in_row (integers_value x.value ∷ []))

abbrev pub integer32_of : Val → Integer32
integer32_of v = record { value = integers_of 32 (part 0 v) }

abbrev pub FitsInteger32 : Integer32 → Type 0
FitsInteger32 x = HoldsIntegers 32 64 x.value

-- primitive.array.Integer16.1.0
abbrev pub integer16_value : Integer16 → Val
integer16_value x = Parts (in_row (integers_value x.value ∷ []))

abbrev pub integer16_of : Val → Integer16
integer16_of v = record { value = integers_of 16 (part 0 v) }

abbrev pub FitsInteger16 : Integer16 → Type 0
FitsInteger16 x = HoldsIntegers 16 128 x.value

-- primitive.array.Integer8.1.0
abbrev pub integer8_value : Integer8 → Val
integer8_value x = Parts (in_row (integers_value x.value ∷ []))

abbrev pub integer8_of : Val → Integer8
integer8_of v = record { value = integers_of 8 (part 0 v) }

abbrev pub FitsInteger8 : Integer8 → Type 0
FitsInteger8 x = HoldsIntegers 8 256 x.value

-- primitive.array.Natural64.1.0
abbrev pub natural64_value : Natural64 → Val
natural64_value x = Parts (in_row (naturals_value x.value ∷ []))

abbrev pub natural64_of : Val → Natural64
natural64_of v = record { value = naturals_of 64 (part 0 v) }

abbrev pub FitsNatural64 : Natural64 → Type 0
FitsNatural64 x = HoldsNaturals 64 32 x.value

-- primitive.array.Natural32.1.0
abbrev pub natural32_value : Natural32 → Val
natural32_value x = Parts (in_row (naturals_value x.value ∷ []))

abbrev pub natural32_of : Val → Natural32
natural32_of v = record { value = naturals_of 32 (part 0 v) }

abbrev pub FitsNatural32 : Natural32 → Type 0
FitsNatural32 x = HoldsNaturals 32 64 x.value

-- primitive.array.Natural16.1.0
abbrev pub natural16_value : Natural16 → Val
natural16_value x = Parts (in_row (naturals_value x.value ∷ []))

abbrev pub natural16_of : Val → Natural16
natural16_of v = record { value = naturals_of 16 (part 0 v) }

abbrev pub FitsNatural16 : Natural16 → Type 0
FitsNatural16 x = HoldsNaturals 16 128 x.value

-- primitive.array.Natural8.1.0
abbrev pub natural8_value : Natural8 → Val
natural8_value x = Parts (in_row (naturals_value x.value ∷ []))

abbrev pub natural8_of : Val → Natural8
natural8_of v = record { value = naturals_of 8 (part 0 v) }

abbrev pub FitsNatural8 : Natural8 → Type 0
FitsNatural8 x = HoldsNaturals 8 256 x.value

-- primitive.array.Real64.1.0
abbrev pub real64_value : Real64 → Val
real64_value x = Parts (in_row (floats_value x.value ∷ []))

abbrev pub real64_of : Val → Real64
real64_of v = record { value = floats_of 64 (part 0 v) }

abbrev pub FitsReal64 : Real64 → Type 0
FitsReal64 x = HoldsNaturals 64 32 x.value

-- primitive.array.Real32.1.0
abbrev pub real32_value : Real32 → Val
real32_value x = Parts (in_row (floats_value x.value ∷ []))

abbrev pub real32_of : Val → Real32
real32_of v = record { value = floats_of 32 (part 0 v) }

abbrev pub FitsReal32 : Real32 → Type 0
FitsReal32 x = HoldsNaturals 32 64 x.value

-- primitive.array.Real16.1.0
abbrev pub real16_value : Real16 → Val
real16_value x = Parts (in_row (floats_value x.value ∷ []))

abbrev pub real16_of : Val → Real16
real16_of v = record { value = floats_of 16 (part 0 v) }

abbrev pub FitsReal16 : Real16 → Type 0
FitsReal16 x = HoldsNaturals 16 128 x.value
