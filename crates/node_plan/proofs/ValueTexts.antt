-- Lemmas on the texts of values of registers.
use Rattle.std.proofs.Common.{◌≡◌, ◌∙◌, ◌-◌, ◌^◌, ◌<◌, ◌≤◌, ℕ, zero, suc, List, Option, Some, None, arith, sym, ap, subst, refl, length, min}
use Rattle.std.specs.Prelude.{Bool, true, ℤ, pos, negsuc, IfOk, IfSome, Result, Ok, Err}
use Rattle.std.specs.List.{All}
use Rattle.std.proofs.Math.Pow.{ones_sub-lt}
use Rattle.std.proofs.lemmas.List.Elements.{All-cons, All-nil}
use Rattle.dsdl_types.specs.Cast.{cast_int, cast_uint}
use Rattle.dsdl_types.specs.Fits.{AreItems, AreParts, Fits, FitsVariant, IsEmpty, IsFirst}
use Rattle.dsdl_types.specs.Rules.{IsSchema}
use Rattle.dsdl_types.specs.Schemas.{Sch, Flds, Union, End, Var}
use Rattle.dsdl_types.specs.Stored.{IsSigned}
use Rattle.dsdl_types.specs.Values.{Val, Vals, Items, Parts, Tagged, Empty, More, count, items_of}
use Rattle.dsdl_types.proofs.StoredReadings.{stored_fits}
use Rattle.std_types.specs.Held.{HoldsIntegers, HoldsNaturals, float_bits, floats_of, integer, integers_of, list_of, natural, naturals_of, number_of, part, raw_of, truth_of, truths_of}
use Rattle.std_types.specs.RegisterValueLaws.{variant_back}
use Rattle.std_types.specs.RegisterValues.{FitsRegisterValue, made_at, makers, variant_of, variant_value}
use Rattle.std_types.specs.Schemas.{bool, float, register_value, sint, uint}
use Rattle.std_types.specs.Types.{schema_of}
use Rattle.std_types.specs.declared.register_value.RegisterValue.{RegisterValue}
use Rattle.std_types.specs.declared.std_name.StdName.TheVariants as N
use Rattle.std_types.proofs.SchemaRules.{schema_rules}
use Rattle.value_text.proofs.OneValue.{one_value}
use Rattle.value_text.specs.Texts.{value_text}
use Rattle.dsdl_types.specs.declared.namespace.Namespace.{Namespace}
use Rattle.node_plan.specs.declared.line.Said.{Said}
use Rattle.node_plan.specs.Line.{RegisterText, Says, SaysEither, SaysRegister, register_in, said_of, said_of_register}
use Rattle.node_plan.specs.Registers.{IsTextOf, Reads}
use Rattle.node_plan.specs.Words.{words_of}

pub register_rules : IsSchema register_value
unfolding schema_of
register_rules = schema_rules N.RegisterValue

pub register_schema : schema_of N.RegisterValue ≡ register_value
unfolding schema_of
register_schema = refl

-- the value of a register is one of the schema
pub value_fits : (r : RegisterValue) → FitsRegisterValue r → Fits register_value (variant_value r)
value_fits r h = stored_fits register_value (variant_value r) (variant_back r h).0

-- no two values of registers have one text
text_once : (r q : RegisterValue) (text : List ℕ) → IsTextOf r text → IsTextOf q text → r ≡ q
text_once r q text h k =
    let same : variant_value r ≡ variant_value q = one_value register_value register_rules (variant_value r) (variant_value q) (value_fits r h.0) (value_fits q k.0) (h.1 ∙ sym k.1) in
    sym (variant_back r h.0).1 ∙ ap variant_of same ∙ (variant_back q k.0).1

pub one_reading : (text : List ℕ) (v w : Option RegisterValue) → Reads text v → Reads text w → v ≡ w
one_reading text (Some r) (Some q) h k = ap Some (text_once r q text h k)
one_reading text (Some r) None h k = absurd (k r h)
one_reading text None (Some q) h k = absurd (h q k)
one_reading text None None h k = refl

-- ---- a value that was read, with its numbers brought into the ranges of their types

below_ones : (w n : ℕ) → min n (2 ^ w - 1) < 2 ^ w
below_ones w n = let low = ones_sub-lt w 0 in omega (arith, low)

natural_low : (w : ℕ) (v : Val) → natural w v < 2 ^ w
natural_low w v = of_number (number_of v)
  where
    of_number : (z : ℤ) → cast_uint w true z < 2 ^ w
    of_number (pos n) = below_ones w n
    of_number (negsuc n) = let low = ones_sub-lt w 0 in omega (arith, low)

integer_low : (w : ℕ) (v : Val) → IsSigned w (integer w v)
integer_low w v = of_number (number_of v)
  where
    of_number : (z : ℤ) → IsSigned w (cast_int w z)
    of_number (pos n) = below_ones (w - 1) n
    of_number (negsuc n) = below_ones (w - 1) n

all_list : {A : Type 0} (P : A → Type 0) (g : Val → A) → ((v : Val) → P (g v)) → (vs : Vals) → All P (list_of g vs)
all_list P g each Empty = All-nil P
all_list P g each (More v vs) = All-cons P (g v) (list_of g vs) (each v) (all_list P g each vs)

length_list : {A : Type 0} (g : Val → A) (vs : Vals) → length (list_of g vs) ≡ count vs
length_list g Empty = refl
length_list g (More v vs) = ap suc (length_list g vs)

-- so many items at most, of which each is as said
in_array : {A : Type 0} (P : A → Type 0) (g : Val → A) → ((v : Val) → P (g v)) → (cap : ℕ) (Q : Val → Type 0) (v : Val) → AreItems (λ k. k ≤ cap) Q v
    → (length (list_of g (items_of v)) ≤ cap) × All P (list_of g (items_of v))
in_array P g each cap Q (Items vs) h = (subst (λ n. n ≤ cap) (sym (length_list g vs)) h.0, all_list P g each vs)
in_array P g each cap Q _ h = absurd h

naturals_in : (w cap : ℕ) (v : Val) → Fits (Var (uint w) cap) v → HoldsNaturals w cap (naturals_of w v)
naturals_in w cap v h = in_array (λ n. n < 2 ^ w) (natural w) (natural_low w) cap (λ x. Fits (uint w) x) v h

integers_in : (w cap : ℕ) (v : Val) → Fits (Var (sint w) cap) v → HoldsIntegers w cap (integers_of w v)
integers_in w cap v h = in_array (λ z. IsSigned w z) (integer w) (integer_low w) cap (λ x. Fits (sint w) x) v h

floats_in : (w cap : ℕ) (v : Val) → Fits (Var (float w) cap) v → HoldsNaturals w cap (floats_of w v)
floats_in w cap v h = in_array (λ n. n < 2 ^ w) (float_bits w) (λ x. below_ones w (raw_of x)) cap (λ x. Fits (float w) x) v h

truths_in : (cap : ℕ) (v : Val) → Fits (Var bool cap) v → length (truths_of v) ≤ cap
truths_in cap v h = (in_array (λ b. Unit {0}) truth_of (λ x. tt) cap (λ x. Fits bool x) v h).0

-- the one field of a structure
alone_in : (s : Sch) (P : Val → Type 0) → ((v : Val) → Fits s v → P v) → (v : Val) → AreParts (λ vs. IsFirst (λ x. Fits s x) (λ ws. IsEmpty ws) vs) v → P (part 0 v)
alone_in s P f (Parts Empty) h = absurd h
alone_in s P f (Parts (More x vs)) h = f x h.0
alone_in s P f _ h = absurd h

abbrev variants_of : Sch → Flds
variants_of (Union fs o) = fs
variants_of _ = End

tagged_in : (tag : ℕ) (v : Val) → FitsVariant (variants_of register_value) tag v → FitsRegisterValue (made_at makers tag v)
tagged_in zero v h = tt
tagged_in (suc zero) v h = alone_in (Var (uint 8) 256) (λ x. HoldsNaturals 8 256 (naturals_of 8 x)) (naturals_in 8 256) v h
tagged_in (suc (suc zero)) v h = alone_in (Var (uint 8) 256) (λ x. HoldsNaturals 8 256 (naturals_of 8 x)) (naturals_in 8 256) v h
tagged_in (suc (suc (suc zero))) v h = alone_in (Var (bool) 2048) (λ x. length (truths_of x) ≤ 2048) (truths_in 2048) v h
tagged_in (suc (suc (suc (suc zero)))) v h = alone_in (Var (sint 64) 32) (λ x. HoldsIntegers 64 32 (integers_of 64 x)) (integers_in 64 32) v h
tagged_in (suc (suc (suc (suc (suc zero))))) v h = alone_in (Var (sint 32) 64) (λ x. HoldsIntegers 32 64 (integers_of 32 x)) (integers_in 32 64) v h
tagged_in (suc (suc (suc (suc (suc (suc zero)))))) v h = alone_in (Var (sint 16) 128) (λ x. HoldsIntegers 16 128 (integers_of 16 x)) (integers_in 16 128) v h
tagged_in (suc (suc (suc (suc (suc (suc (suc zero))))))) v h = alone_in (Var (sint 8) 256) (λ x. HoldsIntegers 8 256 (integers_of 8 x)) (integers_in 8 256) v h
tagged_in (suc (suc (suc (suc (suc (suc (suc (suc zero)))))))) v h = alone_in (Var (uint 64) 32) (λ x. HoldsNaturals 64 32 (naturals_of 64 x)) (naturals_in 64 32) v h
tagged_in (suc (suc (suc (suc (suc (suc (suc (suc (suc zero))))))))) v h = alone_in (Var (uint 32) 64) (λ x. HoldsNaturals 32 64 (naturals_of 32 x)) (naturals_in 32 64) v h
tagged_in (suc (suc (suc (suc (suc (suc (suc (suc (suc (suc zero)))))))))) v h = alone_in (Var (uint 16) 128) (λ x. HoldsNaturals 16 128 (naturals_of 16 x)) (naturals_in 16 128) v h
tagged_in (suc (suc (suc (suc (suc (suc (suc (suc (suc (suc (suc zero))))))))))) v h = alone_in (Var (uint 8) 256) (λ x. HoldsNaturals 8 256 (naturals_of 8 x)) (naturals_in 8 256) v h
tagged_in (suc (suc (suc (suc (suc (suc (suc (suc (suc (suc (suc (suc zero)))))))))))) v h = alone_in (Var (float 64) 32) (λ x. HoldsNaturals 64 32 (floats_of 64 x)) (floats_in 64 32) v h
tagged_in (suc (suc (suc (suc (suc (suc (suc (suc (suc (suc (suc (suc (suc zero))))))))))))) v h = alone_in (Var (float 32) 64) (λ x. HoldsNaturals 32 64 (floats_of 32 x)) (floats_in 32 64) v h
tagged_in (suc (suc (suc (suc (suc (suc (suc (suc (suc (suc (suc (suc (suc (suc zero)))))))))))))) v h = alone_in (Var (float 16) 128) (λ x. HoldsNaturals 16 128 (floats_of 16 x)) (floats_in 16 128) v h
tagged_in (suc (suc (suc (suc (suc (suc (suc (suc (suc (suc (suc (suc (suc (suc (suc tag))))))))))))))) v h = absurd h

pub made_fits : (v : Val) → Fits register_value v → FitsRegisterValue (variant_of v)
made_fits (Tagged tag v) h = tagged_in tag v h
made_fits _ h = absurd h

-- where a value that was read isn't kept, the text is none of a register's value
pub none_kept : (v : Val) (text : List ℕ) → Fits register_value v → value_text register_value v ≡ text → (value_text register_value (variant_value (variant_of v)) ≡ text → ⊥) → Reads text None
none_kept v text fits is not r h =
    let same : v ≡ variant_value r = one_value register_value register_rules v (variant_value r) fits (value_fits r h.0) (is ∙ sym h.1) in
    not (ap (λ x. value_text register_value (variant_value (variant_of x))) same ∙ ap (λ q. value_text register_value (variant_value q)) (variant_back r h.0).1 ∙ h.1)

-- where no value of the schema has a text, no register's value has it
pub none_read : (text : List ℕ) → ((v : Val) → Fits register_value v → value_text register_value v ≡ text → ⊥) → Reads text None
none_read text not r h = not (variant_value r) (value_fits r h.0) h.1

-- the same with a schema that is that of a register's value
pub none_read_by : (s : Sch) (text : List ℕ) → s ≡ register_value → ((v : Val) → Fits s v → value_text s v ≡ text → ⊥) → Reads text None
none_read_by s text e not = none_read text (subst (λ t. (v : Val) → Fits t v → value_text t v ≡ text → ⊥) e not)

-- the value made of what was read is kept where it is printed as the text, and there is none otherwise
module _ (s : Sch) (v x : Val) (kept : RegisterValue) (printed : List ℕ) (is : s ≡ register_value) (fits : Fits s v) (made : kept ≡ variant_of v) (again : x ≡ variant_value kept) (print : printed ≡ value_text s x) where
  text_again : value_text register_value (variant_value kept) ≡ printed
  text_again = ap (λ y. value_text register_value y) (sym again) ∙ ap (λ t. value_text t x) (sym is) ∙ sym print

  fits_schema : Fits register_value v
  fits_schema = subst (λ t. Fits t v) is fits

  pub text_kept : (text : List ℕ) → printed ≡ text → IsTextOf kept text
  text_kept text same = (subst FitsRegisterValue (sym made) (made_fits v fits_schema), text_again ∙ same)

  pub text_lost : (text : List ℕ) → value_text s v ≡ text → (printed ≡ text → ⊥) → Reads text None
  text_lost text read differ =
      none_kept v text fits_schema (ap (λ t. value_text t v) (sym is) ∙ read)
      (λ h. differ (sym text_again ∙ ap (λ q. value_text register_value (variant_value q)) made ∙ h))

-- what was read fits
pub fits_of_read : (text : List ℕ) (o : Option RegisterValue) → Reads text o → IfSome o FitsRegisterValue
fits_of_read text None h = tt
fits_of_read text (Some r) h = h.0

-- ---- what a line says, where memory was given

pub says_with : {E : Type 0} (w : RegisterText) (value : Option RegisterValue) (r : Result Said E) → Reads w.text value → IfOk r (λ s. s ≡ said_of_register w.name w.access w.text value) → IfOk r (SaysRegister w)
says_with w value (Ok s) h e = (value, h, e)
says_with w value (Err x) h e = tt

pub says_register : {E : Type 0} (names : Namespace) (two : Bool) (line : List ℕ) (w : RegisterText) (r : Result Said E) → register_in (words_of line) ≡ Some w → IfOk r (SaysRegister w) → IfOk r (Says names two line)
says_register names two line w (Ok s) e h = subst (λ o. SaysEither o (said_of names two line) s) (sym e) h
says_register names two line w (Err x) e h = tt

pub says_plain : {E : Type 0} (names : Namespace) (two : Bool) (line : List ℕ) (r : Result Said E) → register_in (words_of line) ≡ None → IfOk r (λ s. s ≡ said_of names two line) → IfOk r (Says names two line)
says_plain names two line (Ok s) e h = subst (λ o. SaysEither o (said_of names two line) s) (sym e) h
says_plain names two line (Err x) e h = tt
