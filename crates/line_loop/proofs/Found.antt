-- The first newline behind bytes that are known to be none.
use Rattle.std.proofs.Common.{◌≡◌, ◌∙◌, ◌==◌, ◌+◌, ◌-◌, ◌<◌, ◌≤◌, ℕ, true, List, length, take, drop, get_or, [], ◌∷◌, ◌++◌, append-nil, Some, None, sym, ap, subst, arith, length-drop, ◌⊎◌, inl, inr}
use Rattle.std.proofs.lemmas.Bool.{cases_lt}
use Rattle.std.proofs.lemmas.List.{get_or-drop, get_or_append_left}
use Rattle.std.proofs.Math.Seq.{take-length}
use Rattle.memchr.specs.Find.{IsFirstByte, is_byte}
use Rattle.line_loop.proofs.Splits.{IsClearTo}

-- a place of the bytes behind
behind_place : (s : List ℕ) (seen k : ℕ) → seen ≤ k → (get_or s k 0 == 10) ≡ true → (get_or (drop seen s) (k - seen) 0 == 10) ≡ true
behind_place s seen k le t =
    let e : seen + (k - seen) ≡ k = omega arith in
    ap (λ (b : ℕ). b == 10) (get_or-drop seen s (k - seen) 0 ∙ ap (λ n. get_or s n 0) e) ∙ t

clear_behind : (s : List ℕ) (seen n : ℕ) → IsClearTo s seen → IsClearTo (drop seen s) n → IsClearTo s (seen + n)
clear_behind s seen n front behind k low high t = either (cases_lt k seen)
  where
    either : (k < seen) ⊎ (seen ≤ k) → ⊥
    either (inl h) = front k (omega arith) h t
    either (inr h) = behind (k - seen) (omega arith) (omega arith) (behind_place s seen k h t)

pub found_behind : (s : List ℕ) (seen n : ℕ) → seen ≤ length s → IsClearTo s seen → IsFirstByte (is_byte 10) (drop seen s) (Some n) → IsFirstByte (is_byte 10) s (Some (seen + n))
found_behind s seen n le front f =
    let size : length (drop seen s) ≡ length s - seen = length-drop seen s in (
      record { low = omega arith; high = omega (arith, f.0.high); before = clear_behind s seen n front f.0.before },
      ap (λ (b : ℕ). b == 10) (sym (get_or-drop seen s n 0)) ∙ f.1,
    )

pub none_behind : (s : List ℕ) (seen : ℕ) → seen ≤ length s → IsClearTo s seen → IsFirstByte (is_byte 10) (drop seen s) None → IsClearTo s (length s)
none_behind s seen le front f =
    let size : length (drop seen s) ≡ length s - seen = length-drop seen s in
    let e : seen + length (drop seen s) ≡ length s = omega arith in
    subst (λ (n : ℕ). IsClearTo s n) e (clear_behind s seen (length (drop seen s)) front f)

-- more bytes behind
pub clear_more : (s t : List ℕ) (seen : ℕ) → seen ≤ length s → IsClearTo s seen → IsClearTo (s ++ t) seen
clear_more s t seen le front k low high h =
    let lt : k < length s = omega arith in
    front k low high (ap (λ (b : ℕ). b == 10) (sym (get_or_append_left s t 0 k lt)) ∙ h)

pub no_bytes : (s t : List ℕ) → length t ≡ 0 → s ++ t ≡ s
no_bytes s [] e = append-nil s
no_bytes s (x ∷ xs) e = absurd (omega arith)

-- the whole rest of some bytes
pub rest_of : (seen : ℕ) (l s : List ℕ) → l ≡ s → take (length l - seen) (drop seen l) ≡ drop seen s
rest_of seen l s e =
    let size : length l - seen ≡ length (drop seen l) = sym (length-drop seen l) in
    ap (λ n. take n (drop seen l)) size ∙ (take-length (drop seen l) ∙ ap (λ (t : List ℕ). drop seen t) e)
