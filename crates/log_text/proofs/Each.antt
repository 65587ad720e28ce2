-- What holds of each byte of a text.
use Rattle.std.proofs.Common.{◌≢◌, ℕ, zero, suc, ◌<◌, ◌≤◌, List, [], ◌∷◌, ◌++◌, drop, arith}
use Rattle.std.specs.Prelude.{All}

abbrev pub Each : (ℕ → Type 0) → List ℕ → Type 0
Each P [] = Unit {0}
Each P (x ∷ xs) = P x × Each P xs

pub each_map : (P Q : ℕ → Type 0) → ((x : ℕ) → P x → Q x) → (xs : List ℕ) → Each P xs → Each Q xs
each_map P Q f [] h = tt
each_map P Q f (x ∷ xs) h = (f x h.0, each_map P Q f xs h.1)

pub each_append : (P : ℕ → Type 0) (xs ys : List ℕ) → Each P xs → Each P ys → Each P (xs ++ ys)
each_append P [] ys h k = k
each_append P (x ∷ xs) ys h k = (h.0, each_append P xs ys h.1 k)

pub each_drop : (P : ℕ → Type 0) (n : ℕ) (xs : List ℕ) → Each P xs → Each P (drop n xs)
each_drop P zero xs h = h
each_drop P (suc n) [] h = tt
each_drop P (suc n) (x ∷ xs) h = each_drop P n xs h.1

pub each_from : (P : ℕ → Type 0) (xs : List ℕ) → All P xs → Each P xs
each_from P [] h = tt
each_from P (x ∷ xs) h = (h 0 0 (omega arith), each_from P xs (λ k d l. h (suc k) d (omega arith)))

pub each_all : (P : ℕ → Type 0) (xs : List ℕ) → Each P xs → All P xs
each_all P [] h k d l = absurd (omega arith)
each_all P (x ∷ xs) h zero d l = h.0
each_all P (x ∷ xs) h (suc k) d l = each_all P xs h.1 k d (omega arith)

-- a decimal digit
abbrev pub IsDigit : ℕ → Type 0
IsDigit b = (48 ≤ b) × (b ≤ 57)

-- a digit or a letter from A on: no space, `#`, newline or carriage return
abbrev pub IsGlyph : ℕ → Type 0
IsGlyph b = (48 ≤ b) × (b ≤ 70)

pub digit_glyph : (b : ℕ) → IsDigit b → IsGlyph b
digit_glyph b h = (h.0, omega (arith, h.1))

pub glyph_other : (low b : ℕ) → low < 48 → IsGlyph b → b ≢ low
glyph_other low b l h e = omega (arith, h.0)
