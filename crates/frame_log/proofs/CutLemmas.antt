-- Lemmas on the first newline.
use Rattle.std.proofs.Common.{◌≡◌, ◌∙◌, ◌==◌, ◌<◌, ℕ, zero, suc, ◌+◌, Bool, true, false, List, [], ◌∷◌, Option, Some, None, refl, sym, ap, length, take, drop, get_or, arith, MatchOption}
use Rattle.memchr.specs.Find.{IsFirstByte, is_byte}
use Rattle.frame_log.specs.Line.{cut, ◌>>=◌}
use Rattle.frame_log.specs.Steps.{IsLine}
use Rattle.frame_log.proofs.LineLemmas.{yes, no}

pub not_true : (t : Bool) → (t ≡ true → ⊥) → t ≡ false
not_true true h = absurd (h refl)
not_true false h = refl

abbrev pub longer : ℕ → List ℕ × List ℕ → Option (List ℕ × List ℕ)
longer x p = Some (x ∷ p.0, p.1)

-- a byte that isn't b
pub cut-other : (b x : ℕ) (xs : List ℕ) → (x == b) ≡ false → cut b (x ∷ xs) ≡ (cut b xs >>= longer x)
cut-other b x xs h = sym (no (x == b) (Some ([], xs)) (cut b xs >>= longer x) h)

pub cut-none : (b : ℕ) (s : List ℕ) → ((k : ℕ) → k < length s → (get_or s k 0 == b) ≡ true → ⊥) → cut b s ≡ None
cut-none b [] h = refl
cut-none b (x ∷ xs) h =
    cut-other b x xs (not_true (x == b) (h 0 (omega arith)))
    ∙ ap (λ (o : Option (List ℕ × List ℕ)). o >>= longer x) (cut-none b xs (λ k l. h (suc k) (omega arith)))

pub cut-first : (b : ℕ) (s : List ℕ) (i : ℕ) → i < length s → (get_or s i 0 == b) ≡ true → ((k : ℕ) → k < i → (get_or s k 0 == b) ≡ true → ⊥) → cut b s ≡ Some (take i s, drop (i + 1) s)
cut-first b [] i h t before = absurd (omega arith)
cut-first b (x ∷ xs) zero h t before = sym (yes (x == b) (Some ([], xs)) (cut b xs >>= longer x) t)
cut-first b (x ∷ xs) (suc i) h t before =
    let e : i + 1 + 1 ≡ suc (i + 1) = omega arith in
    cut-other b x xs (not_true (x == b) (before 0 (omega arith)))
    ∙ ap (λ (o : Option (List ℕ × List ℕ)). o >>= longer x) (cut-first b xs i (omega arith) t (λ k l. before (suc k) (omega arith)))
    ∙ ap (λ n. Some (x ∷ take i xs, n)) (more i)
  where
    more : (i : ℕ) → drop (i + 1) xs ≡ drop (suc i + 1) (x ∷ xs)
    more i = let e : suc i + 1 ≡ suc (i + 1) = omega arith in sym (ap (λ n. drop n (x ∷ xs)) e)

pub line_end-of : (s : List ℕ) (r : Option ℕ) → IsFirstByte (is_byte 10) s r → MatchOption r (cut 10 s ≡ None) (λ i. IsLine s i)
line_end-of s None h = cut-none 10 s (λ k l. h k (omega arith) l)
line_end-of s (Some i) h = (h.0.high, cut-first 10 s i h.0.high h.1 (λ k l. h.0.before k (omega arith) l))
