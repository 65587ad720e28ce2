-- Texts compared by blocks.
use Rattle.std.proofs.Common.{◌≡◌, ◌∙◌, ℕ, zero, suc, ◌+◌, ◌-◌, ◌<◌, ◌≤◌, List, [], ◌∷◌, ◌++◌, length, take, drop, get_or, sym, ap, arith, length-drop}
use Rattle.std.proofs.lemmas.List.{take-append-drop, take-take, take_all}
use Rattle.std.proofs.Math.Seq.{take-add}

-- so many of some bytes are bytes
pub take_byte : (k : ℕ) (b : List ℕ) → ((i : ℕ) → get_or b i 0 < 256) → (i : ℕ) → get_or (take k b) i 0 < 256
take_byte zero b h i = omega arith
take_byte (suc k) [] h i = omega arith
take_byte (suc k) (x ∷ b) h zero = h 0
take_byte (suc k) (x ∷ b) h (suc i) = take_byte k b (λ j. h (suc j)) i

-- the same number, the same bytes
pub same_blocks : {A : Type 0} (f : ℕ → A) (m n : ℕ) (x y : A) → f m ≡ x → f n ≡ y → m ≡ n → x ≡ y
same_blocks f m n x y e g h = sym e ∙ ap f h ∙ g

-- two blocks that meet
pub ends_meet : (k : ℕ) (xs ys : List ℕ) → length xs ≡ length ys → k ≤ length xs → length xs ≤ k + k → take k xs ≡ take k ys →
    take k (take (length xs - (length xs - k)) (drop (length xs - k) xs)) ≡ take k (take (length ys - (length xs - k)) (drop (length xs - k) ys)) → xs ≡ ys
ends_meet k xs ys same few many front back =
    let m = length xs - k in
    let some : m ≤ k = omega arith in
    let a : take m xs ≡ take m ys = sym (take-take m k xs some) ∙ ap (λ l. take m l) front ∙ take-take m k ys some in
    let c : take k (take (length xs - m) (drop m xs)) ≡ drop m xs = ap (λ l. take k l) (take_all (length xs - m) (drop m xs) (omega (arith, length-drop m xs))) ∙ take_all k (drop m xs) (omega (arith, length-drop m xs)) in
    let d : take k (take (length ys - m) (drop m ys)) ≡ drop m ys = ap (λ l. take k l) (take_all (length ys - m) (drop m ys) (omega (arith, length-drop m ys))) ∙ take_all k (drop m ys) (omega (arith, length-drop m ys)) in
    let b : drop m xs ≡ drop m ys = sym c ∙ back ∙ d in
    sym (take-append-drop m xs) ∙ (λ i. a i ++ b i) ∙ take-append-drop m ys

-- the first sixteen bytes by their halves
pub halves_meet : (xs ys : List ℕ) → 16 ≤ length xs → 16 ≤ length ys → take 8 xs ≡ take 8 ys → take 8 (take (length xs - 8) (drop 8 xs)) ≡ take 8 (take (length ys - 8) (drop 8 ys)) → take 16 xs ≡ take 16 ys
halves_meet xs ys many some front back =
    let a : take 8 (take (length xs - 8) (drop 8 xs)) ≡ take 8 (drop 8 xs) = ap (λ l. take 8 l) (take_all (length xs - 8) (drop 8 xs) (omega (arith, length-drop 8 xs))) in
    let b : take 8 (take (length ys - 8) (drop 8 ys)) ≡ take 8 (drop 8 ys) = ap (λ l. take 8 l) (take_all (length ys - 8) (drop 8 ys) (omega (arith, length-drop 8 ys))) in
    let c : take 8 (drop 8 xs) ≡ take 8 (drop 8 ys) = sym a ∙ back ∙ b in
    take-add 8 8 xs ∙ (λ i. front i ++ c i) ∙ sym (take-add 8 8 ys)
