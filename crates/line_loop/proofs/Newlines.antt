-- The first newline among sixteen bytes, by the mask of those that are one.
use Rattle.std.proofs.Common.{◌≡◌, ◌∙◌, ◌==◌, ◌+◌, ◌-◌, ◌<◌, ◌≤◌, ℕ, ◌^◌, true, false, Bool, List, length, get_or, map, cond, eqb, Some, None, sym, ap, refl, subst, arith, true≢false, w64, ◌⊎◌, inl, inr}
use Rattle.std.specs.Int.{bit_at, trailing_zeros}
use Rattle.std.specs.Simd.Lanes.{mask_l}
use lib.Lanes.{chunk}
use Rattle.std.proofs.lemmas.Bool.{cases_lt}
use Rattle.std.proofs.lemmas.List.{get_or_past}
use Rattle.std.proofs.lemmas.Nat.Bits.{bit_at-trailing_zeros, bit_at-zero}
use Rattle.std.proofs.lemmas.Simd.{bit_mask_l, get_or-chunk, length-chunk}
use Rattle.std.proofs.Math.ListN.{get_or-map}
use Rattle.memchr.specs.Find.{IsFirst, IsFirstByte, Passes, is_byte}
use Rattle.line_loop.proofs.Splits.{IsClearTo}

abbrev pub is_newline : ℕ → Bool
is_newline x = eqb x 10

-- a bit of the mask
bit_is : (v : List ℕ) (k : ℕ) → bit_at (mask_l (map is_newline v)) k ≡ cond (is_newline (get_or v k 0)) 1 0
bit_is v k = bit_mask_l (map is_newline v) k ∙ ap (λ b. cond b 1 0) (get_or-map is_newline v k 0)

set_at : (v : List ℕ) (k : ℕ) → is_newline (get_or v k 0) ≡ true → bit_at (mask_l (map is_newline v)) k ≡ 1
set_at v k e = bit_is v k ∙ ap (λ (b : Bool). cond {A = ℕ} b 1 0) e

newline_at : (v : List ℕ) (k : ℕ) → bit_at (mask_l (map is_newline v)) k ≡ 1 → is_newline (get_or v k 0) ≡ true
newline_at v k e = go (is_newline (get_or v k 0)) (sym (bit_is v k) ∙ e)
  where
    go : (b : Bool) → cond {A = ℕ} b 1 0 ≡ 1 → b ≡ true
    go true h = refl
    go false h = absurd (omega arith)

-- no bit, no newline
pub none_among : (v : List ℕ) (m : ℕ) → m ≡ mask_l (map is_newline v) → m ≡ 0 → IsFirstByte (is_byte 10) v None
none_among v m e z k low high h =
    let one : bit_at 0 k ≡ 1 = ap (λ n. bit_at n k) (sym z ∙ e) ∙ set_at v k h in
    absurd (omega (arith, one, bit_at-zero k))

-- the lowest bit is that of the first newline
pub first_among : (v : List ℕ) (m : ℕ) → m ≡ mask_l (map is_newline v) → m < 2 ^ 64 → 0 < m → IsFirstByte (is_byte 10) v (Some (trailing_zeros w64 m))
first_among v m e few some =
    let low = bit_at-trailing_zeros w64 m some few in
    let is = newline_at v (trailing_zeros w64 m) (ap (λ n. bit_at n (trailing_zeros w64 m)) (sym e) ∙ low.1) in (
      record {
        low = omega arith;
        high = within (trailing_zeros w64 m) is (cases_lt (trailing_zeros w64 m) (length v));
        before = λ k from below h. absurd (omega (arith, low.2 k below, ap (λ n. bit_at n k) e ∙ set_at v k h));
      },
      is,
    )
  where
    within : (n : ℕ) → is_newline (get_or v n 0) ≡ true → (n < length v) ⊎ (length v ≤ n) → n < length v
    within n h (inl l) = l
    within n h (inr l) =
        let z : get_or v n 0 ≡ 0 = get_or_past v n 0 l in
        let bad : is_newline 0 ≡ true = ap is_newline (sym z) ∙ h in
        absurd (true≢false (sym bad))

-- sixteen bytes of others, from a place on
pub record IsBlock (s : List ℕ) (i : ℕ) (v : List ℕ) : Type 0 where
  pub long : length v ≡ 16
  pub each : (k : ℕ) → k < 16 → get_or v k 0 ≡ get_or s (i + k) 0

-- those that a vector is read from
pub block_at : (s : List ℕ) (i : ℕ) → i + 16 ≤ length s → IsBlock s i (chunk i 16 s)
block_at s i h = record { long = length-chunk i 16 s h; each = λ k l. get_or-chunk i 16 s k 0 l }

-- a place of the bytes, in the block
in_block : (s v : List ℕ) (i k : ℕ) → IsBlock s i v → i ≤ k → k < i + 16 → (get_or s k 0 == 10) ≡ true → (get_or v (k - i) 0 == 10) ≡ true
in_block s v i k b from upto t =
    let e : i + (k - i) ≡ k = omega arith in
    ap (λ (x : ℕ). x == 10) (b.each (k - i) (omega arith) ∙ ap (λ n. get_or s n 0) e) ∙ t

clear_upto : (s v : List ℕ) (i n : ℕ) → IsBlock s i v → IsClearTo s i → n ≤ 16 → IsClearTo v n → IsClearTo s (i + n)
clear_upto s v i n b front few none k low high t = either (cases_lt k i)
  where
    either : (k < i) ⊎ (i ≤ k) → ⊥
    either (inl h) = front k low h t
    either (inr h) = none (k - i) (omega arith) (omega arith) (in_block s v i k b h (omega arith) t)

-- a block without a newline
pub clear_block : (s v : List ℕ) (i : ℕ) → IsBlock s i v → IsClearTo s i → IsFirstByte (is_byte 10) v None → IsClearTo s (i + 16)
clear_block s v i b front none = clear_upto s v i 16 b front (omega arith) (subst (λ n. IsClearTo v n) b.long none)

-- a block with one
pub found_in_block : (s v : List ℕ) (i n : ℕ) → IsBlock s i v → IsClearTo s i → i + 16 ≤ 96 → IsFirstByte (is_byte 10) v (Some n) → IsFirst (Passes (is_byte 10) s) 0 96 (Some (i + n))
found_in_block s v i n b front within f =
    let few : n < 16 = omega (arith, f.0.high, b.long) in (
      record {
        low = omega arith;
        high = omega arith;
        before = clear_upto s v i n b front (omega arith) f.0.before;
      },
      ap (λ (x : ℕ). x == 10) (sym (b.each n few)) ∙ f.1,
    )
