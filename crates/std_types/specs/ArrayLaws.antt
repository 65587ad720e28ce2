-- The structs and the values of the standard types of primitives and arrays determine each other.
use Rattle.std.specs.Prelude.{◌≡◌, [], ◌∷◌, refl}
use Rattle.std.proofs.Common.{sym, ◌∙◌}
use Rattle.dsdl_types.specs.Stored.{IsStored}
use Rattle.dsdl_types.specs.Values.{Val, Parts}
use Rattle.dsdl_types.specs.Views.{in_row}
use Rattle.std_types.specs.Fields.{floats_back, floats_forth, integers_back, integers_forth}
use Rattle.std_types.specs.Fields.{naturals_back, naturals_forth, parts_are, truths_back}
use Rattle.std_types.specs.Fields.{truths_forth}
use Rattle.std_types.specs.Held.{part}
use Rattle.std_types.specs.Arrays.{empty_value, empty_of, FitsEmpty, string_value, string_of}
use Rattle.std_types.specs.Arrays.{FitsPrimitiveString, unstructured_value, unstructured_of}
use Rattle.std_types.specs.Arrays.{FitsUnstructured, bit_value, bit_of, FitsBit, integer64_value}
use Rattle.std_types.specs.Arrays.{integer64_of, FitsInteger64, integer32_value, integer32_of}
use Rattle.std_types.specs.Arrays.{FitsInteger32, integer16_value, integer16_of, FitsInteger16}
use Rattle.std_types.specs.Arrays.{integer8_value, integer8_of, FitsInteger8, natural64_value}
use Rattle.std_types.specs.Arrays.{natural64_of, FitsNatural64, natural32_value, natural32_of}
use Rattle.std_types.specs.Arrays.{FitsNatural32, natural16_value, natural16_of, FitsNatural16}
use Rattle.std_types.specs.Arrays.{natural8_value, natural8_of, FitsNatural8, real64_value}
use Rattle.std_types.specs.Arrays.{real64_of, FitsReal64, real32_value, real32_of, FitsReal32}
use Rattle.std_types.specs.Arrays.{real16_value, real16_of, FitsReal16}
use Rattle.std_types.specs.Schemas.{empty, string, unstructured, bit, integer64, integer32}
use Rattle.std_types.specs.Schemas.{integer16, integer8, natural64, natural32, natural16, natural8}
use Rattle.std_types.specs.Schemas.{real64, real32, real16}
use Rattle.std_types.specs.declared.array.Empty.{Empty}
use Rattle.std_types.specs.declared.array.PrimitiveString.{PrimitiveString}
use Rattle.std_types.specs.declared.array.Unstructured.{Unstructured}
use Rattle.std_types.specs.declared.array.Bit.{Bit}
use Rattle.std_types.specs.declared.array.Integer64.{Integer64}
use Rattle.std_types.specs.declared.array.Integer32.{Integer32}
use Rattle.std_types.specs.declared.array.Integer16.{Integer16}
use Rattle.std_types.specs.declared.array.Integer8.{Integer8}
use Rattle.std_types.specs.declared.array.Natural64.{Natural64}
use Rattle.std_types.specs.declared.array.Natural32.{Natural32}
use Rattle.std_types.specs.declared.array.Natural16.{Natural16}
use Rattle.std_types.specs.declared.array.Natural8.{Natural8}
use Rattle.std_types.specs.declared.array.Real64.{Real64}
use Rattle.std_types.specs.declared.array.Real32.{Real32}
use Rattle.std_types.specs.declared.array.Real16.{Real16}

pub empty_back : (x : Empty) → FitsEmpty x
    → IsStored empty (empty_value x) × (empty_of (empty_value x) ≡ x)
empty_back x f = (tt, λ i. x)

pub empty_forth : (v : Val) → IsStored empty v
    → FitsEmpty (empty_of v) × (empty_value (empty_of v) ≡ v)
empty_forth v h =
    let fields = parts_are empty refl v h in
    (tt, (λ i. Parts (in_row ([]))) ∙ sym fields.0)

pub string_back : (x : PrimitiveString) → FitsPrimitiveString x
    → IsStored string (string_value x) × (string_of (string_value x) ≡ x)
string_back x f =
    let value_kept = naturals_back 8 refl 256 x.value f in
    ((value_kept.0, tt), λ i. record { value = value_kept.1 i })

pub string_forth : (v : Val) → IsStored string v
    → FitsPrimitiveString (string_of v) × (string_value (string_of v) ≡ v)
string_forth v h =
    let fields = parts_are string refl v h in
    let value_held = naturals_forth 8 refl 256 (part 0 v) fields.1.0 in
    (value_held.0, (λ i. Parts (in_row (value_held.1 i ∷ []))) ∙ sym fields.0)

pub unstructured_back : (x : Unstructured) → FitsUnstructured x
    → IsStored unstructured (unstructured_value x) × (unstructured_of (unstructured_value x) ≡ x)
unstructured_back x f =
    let value_kept = naturals_back 8 refl 256 x.value f in
    ((value_kept.0, tt), λ i. record { value = value_kept.1 i })

pub unstructured_forth : (v : Val) → IsStored unstructured v
    → FitsUnstructured (unstructured_of v) × (unstructured_value (unstructured_of v) ≡ v)
unstructured_forth v h =
    let fields = parts_are unstructured refl v h in
    let value_held = naturals_forth 8 refl 256 (part 0 v) fields.1.0 in
    (value_held.0, (λ i. Parts (in_row (value_held.1 i ∷ []))) ∙ sym fields.0)

pub bit_back : (x : Bit) → FitsBit x → IsStored bit (bit_value x) × (bit_of (bit_value x) ≡ x)
bit_back x f =
    let value_kept = truths_back 2048 x.value f in
    ((value_kept.0, tt), λ i. record { value = value_kept.1 i })

pub bit_forth : (v : Val) → IsStored bit v → FitsBit (bit_of v) × (bit_value (bit_of v) ≡ v)
bit_forth v h =
    let fields = parts_are bit refl v h in
    let value_held = truths_forth 2048 (part 0 v) fields.1.0 in
    (value_held.0, (λ i. Parts (in_row (value_held.1 i ∷ []))) ∙ sym fields.0)

pub integer64_back : (x : Integer64) → FitsInteger64 x
    → IsStored integer64 (integer64_value x) × (integer64_of (integer64_value x) ≡ x)
integer64_back x f =
    let value_kept = integers_back 64 refl 32 x.value f in
    ((value_kept.0, tt), λ i. record { value = value_kept.1 i })

pub integer64_forth : (v : Val) → IsStored integer64 v
    → FitsInteger64 (integer64_of v) × (integer64_value (integer64_of v) ≡ v)
integer64_forth v h =
    let fields = parts_are integer64 refl v h in
    let value_held = integers_forth 64 refl 32 (part 0 v) fields.1.0 in
    (value_held.0, (λ i. Parts (in_row (value_held.1 i ∷ []))) ∙ sym fields.0)

pub integer32_back : (x : Integer32) → FitsInteger32 x
    → IsStored integer32 (integer32_value x) × (integer32_of (integer32_value x) ≡ x)
integer32_back x f =
    let value_kept = integers_back 32 refl 64 x.value f in
    ((value_kept.0, tt), λ i. record { value = value_kept.1 i })

pub integer32_forth : (v : Val) → IsStored integer32 v
    → FitsInteger32 (integer32_of v) × (integer32_value (integer32_of v) ≡ v)
integer32_forth v h =
    let fields = parts_are integer32 refl v h in
    let value_held = integers_forth 32 refl 64 (part 0 v) fields.1.0 in
    (value_held.0, (λ i. Parts (in_row (value_held.1 i ∷ []))) ∙ sym fields.0)

pub integer16_back : (x : Integer16) → FitsInteger16 x
    → IsStored integer16 (integer16_value x) × (integer16_of (integer16_value x) ≡ x)
integer16_back x f =
    let value_kept = integers_back 16 refl 128 x.value f in
    ((value_kept.0, tt), λ i. record { value = value_kept.1 i })

pub integer16_forth : (v : Val) → IsStored integer16 v
    → FitsInteger16 (integer16_of v) × (integer16_value (integer16_of v) ≡ v)
integer16_forth v h =
    let fields = parts_are integer16 refl v h in
    let value_held = integers_forth 16 refl 128 (part 0 v) fields.1.0 in
    (value_held.0, (λ i. Parts (in_row (value_held.1 i ∷ []))) ∙ sym fields.0)

pub integer8_back : (x : Integer8) → FitsInteger8 x
    → IsStored integer8 (integer8_value x) × (integer8_of (integer8_value x) ≡ x)
integer8_back x f =
    let value_kept = integers_back 8 refl 256 x.value f in
    ((value_kept.0, tt), λ i. record { value = value_kept.1 i })

pub integer8_forth : (v : Val) → IsStored integer8 v
    → FitsInteger8 (integer8_of v) × (integer8_value (integer8_of v) ≡ v)
integer8_forth v h =
    let fields = parts_are integer8 refl v h in
    let value_held = integers_forth 8 refl 256 (part 0 v) fields.1.0 in
    (value_held.0, (λ i. Parts (in_row (value_held.1 i ∷ []))) ∙ sym fields.0)

pub natural64_back : (x : Natural64) → FitsNatural64 x
    → IsStored natural64 (natural64_value x) × (natural64_of (natural64_value x) ≡ x)
natural64_back x f =
    let value_kept = naturals_back 64 refl 32 x.value f in
    ((value_kept.0, tt), λ i. record { value = value_kept.1 i })

pub natural64_forth : (v : Val) → IsStored natural64 v
    → FitsNatural64 (natural64_of v) × (natural64_value (natural64_of v) ≡ v)
natural64_forth v h =
    let fields = parts_are natural64 refl v h in
    let value_held = naturals_forth 64 refl 32 (part 0 v) fields.1.0 in
    (value_held.0, (λ i. Parts (in_row (value_held.1 i ∷ []))) ∙ sym fields.0)

pub natural32_back : (x : Natural32) → FitsNatural32 x
    → IsStored natural32 (natural32_value x) × (natural32_of (natural32_value x) ≡ x)
natural32_back x f =
    let value_kept = naturals_back 32 refl 64 x.value f in
    ((value_kept.0, tt), λ i. record { value = value_kept.1 i })

pub natural32_forth : (v : Val) → IsStored natural32 v
    → FitsNatural32 (natural32_of v) × (natural32_value (natural32_of v) ≡ v)
natural32_forth v h =
    let fields = parts_are natural32 refl v h in
    let value_held = naturals_forth 32 refl 64 (part 0 v) fields.1.0 in
    (value_held.0, (λ i. Parts (in_row (value_held.1 i ∷ []))) ∙ sym fields.0)

pub natural16_back : (x : Natural16) → FitsNatural16 x
    → IsStored natural16 (natural16_value x) × (natural16_of (natural16_value x) ≡ x)
natural16_back x f =
    let value_kept = naturals_back 16 refl 128 x.value f in
    ((value_kept.0, tt), λ i. record { value = value_kept.1 i })

pub natural16_forth : (v : Val) → IsStored natural16 v
    → FitsNatural16 (natural16_of v) × (natural16_value (natural16_of v) ≡ v)
natural16_forth v h =
    let fields = parts_are natural16 refl v h in
    let value_held = naturals_forth 16 refl 128 (part 0 v) fields.1.0 in
    (value_held.0, (λ i. Parts (in_row (value_held.1 i ∷ []))) ∙ sym fields.0)

pub natural8_back : (x : Natural8) → FitsNatural8 x
    → IsStored natural8 (natural8_value x) × (natural8_of (natural8_value x) ≡ x)
natural8_back x f =
    let value_kept = naturals_back 8 refl 256 x.value f in
    ((value_kept.0, tt), λ i. record { value = value_kept.1 i })

pub natural8_forth : (v : Val) → IsStored natural8 v
    → FitsNatural8 (natural8_of v) × (natural8_value (natural8_of v) ≡ v)
natural8_forth v h =
    let fields = parts_are natural8 refl v h in
    let value_held = naturals_forth 8 refl 256 (part 0 v) fields.1.0 in
    (value_held.0, (λ i. Parts (in_row (value_held.1 i ∷ []))) ∙ sym fields.0)

pub real64_back : (x : Real64) → FitsReal64 x
    → IsStored real64 (real64_value x) × (real64_of (real64_value x) ≡ x)
real64_back x f =
    let value_kept = floats_back 64 32 x.value f in
    ((value_kept.0, tt), λ i. record { value = value_kept.1 i })

pub real64_forth : (v : Val) → IsStored real64 v
    → FitsReal64 (real64_of v) × (real64_value (real64_of v) ≡ v)
real64_forth v h =
    let fields = parts_are real64 refl v h in
    let value_held = floats_forth 64 32 (part 0 v) fields.1.0 in
    (value_held.0, (λ i. Parts (in_row (value_held.1 i ∷ []))) ∙ sym fields.0)

pub real32_back : (x : Real32) → FitsReal32 x
    → IsStored real32 (real32_value x) × (real32_of (real32_value x) ≡ x)
real32_back x f =
    let value_kept = floats_back 32 64 x.value f in
    ((value_kept.0, tt), λ i. record { value = value_kept.1 i })

pub real32_forth : (v : Val) → IsStored real32 v
    → FitsReal32 (real32_of v) × (real32_value (real32_of v) ≡ v)
real32_forth v h =
    let fields = parts_are real32 refl v h in
    let value_held = floats_forth 32 64 (part 0 v) fields.1.0 in
    (value_held.0, (λ i. Parts (in_row (value_held.1 i ∷ []))) ∙ sym fields.0)

pub real16_back : (x : Real16) → FitsReal16 x
    → IsStored real16 (real16_value x) × (real16_of (real16_value x) ≡ x)
real16_back x f =
    let value_kept = floats_back 16 128 x.value f in
    ((value_kept.0, tt), λ i. record { value = value_kept.1 i })

pub real16_forth : (v : Val) → IsStored real16 v
    → FitsReal16 (real16_of v) × (real16_value (real16_of v) ≡ v)
real16_forth v h =
    let fields = parts_are real16 refl v h in
    let value_held = floats_forth 16 128 (part 0 v) fields.1.0 in
    (value_held.0, (λ i. Parts (in_row (value_held.1 i ∷ []))) ∙ sym fields.0)
