-- A value that a register took can be written with the same values as the one before it.
use Rattle.std.proofs.Common.{◌≡◌, ℕ, Bool, true, false, not, eqb, ◌&&◌, ◌||◌, refl, sym, ap, ◌∙◌, inl, inr}
use Rattle.std.proofs.lemmas.Bool.{and_parts, cases_Bool, eqb-true}
use Rattle.std_types.specs.declared.register_value.RegisterValue.{RegisterValue}
use Rattle.std_types.specs.declared.register_value.RegisterValue.TheVariants as V
use Rattle.std_types.specs.declared.registers.Register.{Register}
use Rattle.register_service.specs.RegisterMap.{is_alike, takes}
use Rattle.register_service.specs.Variants.{count, is_text, variant}
use Rattle.register_service.proofs.Map.{alike_variant, and_false}

text_number : (v : RegisterValue) → is_text v ≡ (eqb (variant v) 1 || eqb (variant v) 2)
text_number V.Empty = refl
text_number (V.String xs) = refl
text_number (V.Unstructured xs) = refl
text_number (V.Bit xs) = refl
text_number (V.Integer64 xs) = refl
text_number (V.Integer32 xs) = refl
text_number (V.Integer16 xs) = refl
text_number (V.Integer8 xs) = refl
text_number (V.Natural64 xs) = refl
text_number (V.Natural32 xs) = refl
text_number (V.Natural16 xs) = refl
text_number (V.Natural8 xs) = refl
text_number (V.Real64 xs) = refl
text_number (V.Real32 xs) = refl
text_number (V.Real16 xs) = refl

text_same : (u v : RegisterValue) → variant u ≡ variant v → is_text u ≡ is_text v
text_same u v e = text_number u ∙ ap (λ n. eqb n 1 || eqb n 2) e ∙ sym (text_number v)

or_right : (x y : Bool) → x ≡ false → (x || y) ≡ y
or_right x y e = ap (λ z. z || y) e

and_under : (a b x y : Bool) → (b ≡ true → x ≡ y) → (a && (b && x)) ≡ (a && (b && y))
and_under a true x y h = ap (λ z. a && (true && z)) (h refl)
and_under a false x y h = refl

-- as many items, or any number of them
same_count : (held v u : RegisterValue) → (is_text v || eqb (count v) (count held)) ≡ true → variant u ≡ variant v
    → (is_text u || eqb (count u) (count v)) ≡ (is_text u || eqb (count u) (count held))
same_count held v u h e = elim (cases_Bool (is_text v)) [
  | inl holds ↦
      let t : is_text u ≡ true = text_same u v e ∙ holds in
      ap (λ b. b || eqb (count u) (count v)) t ∙ sym (ap (λ b. b || eqb (count u) (count held)) t)
  | inr fails ↦
      let same : count v ≡ count held = eqb-true (count v) (count held) (sym (or_right (is_text v) (eqb (count v) (count held)) fails) ∙ h) in
      ap (λ n. is_text u || eqb (count u) n) same
]

pub alike_same : (held v : RegisterValue) → is_alike held v ≡ true → (u : RegisterValue) → is_alike v u ≡ is_alike held u
alike_same held v h u =
    let e : variant v ≡ variant held = alike_variant held v h in
    let a = and_parts (not (eqb (variant v) 0)) (eqb (variant v) (variant held) && (is_text v || eqb (count v) (count held))) h in
    let b = and_parts (eqb (variant v) (variant held)) (is_text v || eqb (count v) (count held)) a.1 in
    and_under (not (eqb (variant u) 0)) (eqb (variant u) (variant v)) (is_text u || eqb (count u) (count v)) (is_text u || eqb (count u) (count held))
    (λ t. same_count held v u b.1 (eqb-true (variant u) (variant v) t))
    ∙ ap (λ n. not (eqb (variant u) 0) && (eqb (variant u) n && (is_text u || eqb (count u) (count held)))) e

-- what a register takes can be written to it
pub taken_alike : (allowed : ℕ → RegisterValue → Bool) (i : ℕ) (r : Register) (v : RegisterValue) → takes allowed i r v ≡ true → is_alike r.value v ≡ true
taken_alike allowed i r v h =
    let a = and_parts r.mutable (is_alike r.value v && allowed i v) h in
    (and_parts (is_alike r.value v) (allowed i v) a.1).0

pub taken_allowed : (allowed : ℕ → RegisterValue → Bool) (i : ℕ) (r : Register) (v : RegisterValue) → takes allowed i r v ≡ true → allowed i v ≡ true
taken_allowed allowed i r v h =
    let a = and_parts r.mutable (is_alike r.value v && allowed i v) h in
    (and_parts (is_alike r.value v) (allowed i v) a.1).1

-- no register takes the empty value
pub takes_empty : (allowed : ℕ → RegisterValue → Bool) (i : ℕ) (r : Register) → takes allowed i r V.Empty ≡ false
takes_empty allowed i r = and_false r.mutable

-- a register that isn't mutable takes nothing
pub takes_nothing : (allowed : ℕ → RegisterValue → Bool) (i : ℕ) (r : Register) (v : RegisterValue) → r.mutable ≡ false → takes allowed i r v ≡ false
takes_nothing allowed i r v e = ap (λ b. b && (is_alike r.value v && allowed i v)) e
