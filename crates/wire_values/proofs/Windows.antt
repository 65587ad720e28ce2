-- Bytes of a window, by bits
use Rattle.std.proofs.Common.{◌≡◌, ◌∙◌, ℕ, zero, suc, ◌+◌, ◌*◌, ◌-◌, ◌/◌, ◌%◌, ◌≤◌, min, Bool, List, [], ◌∷◌, ◌++◌, length, take, drop, refl, sym, ap, arith, inl, inr}
use Rattle.std.proofs.lemmas.Bool.{cases_lt}
use Rattle.std.proofs.lemmas.List.{length-drop, drop_all}
use Rattle.std.proofs.Math.Seq.{drop-append-add}
use Rattle.cy_bits.specs.Bits.{bits, bits_of}
use Rattle.cy_bits.proofs.BitFacts.{length_bits_of}
use Rattle.cy_bits.proofs.BitPlaces.{length_bits}
use Rattle.dsdl_types.proofs.Padding.{bits_take}
use Rattle.wire_values.specs.Reads.{behind}

none : (m : ℕ) → drop {A = Bool} m [] ≡ []
none zero = refl
none (suc m) = refl

pub bits_drop : (n : ℕ) (b : List ℕ) → bits (drop n b) ≡ drop (8 * n) (bits b)
bits_drop zero b = refl
bits_drop (suc n) [] = sym (none (8 * suc n))
bits_drop (suc n) (x ∷ b) =
    let e : length (bits_of 8 x) + 8 * n ≡ 8 * suc n = omega (arith, length_bits_of 8 x) in
    bits_drop n b ∙ sym (drop-append-add (bits_of 8 x) (bits b) (8 * n)) ∙ ap (λ m. drop m (bits_of 8 x ++ bits b)) e

-- the bytes of a window, whose place may be past the end
pub window_bits : (b : List ℕ) (p n at : ℕ) → p % 8 ≡ 0 → at ≡ min (p / 8) (length b) → (m : ℕ) → m ≡ n → n ≤ length b - at →
    (8 * n ≤ length (behind b p)) × (bits (take m (drop at b)) ≡ take (8 * n) (behind b p))
window_bits b p n at h e m f room = (
  omega (arith, length-drop p (bits b), length_bits b),
  ap (λ k. bits (take k (drop at b))) f ∙ bits_take n (drop at b) ∙ ap (λ x. take (8 * n) x) rest,
)
  where
    rest : bits (drop at b) ≡ behind b p
    rest = bits_drop at b ∙ elim (cases_lt (p / 8) (length b)) [
      | inl low ↦ let k : 8 * at ≡ p = omega arith in ap (λ j. drop j (bits b)) k
      | inr high ↦ drop_all (8 * at) (bits b) (omega (arith, length_bits b)) ∙ sym (drop_all p (bits b) (omega (arith, length_bits b)))
    ]
