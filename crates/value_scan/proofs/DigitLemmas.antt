-- Decimal digits, one after the other.
use Rattle.std.proofs.Common.{◌≡◌, ◌∙◌, ℕ, zero, suc, ◌+◌, ◌*◌, ◌/◌, ◌%◌, ◌^◌, ◌<◌, ◌≤◌, List, [], ◌∷◌, ◌++◌, length, take, get_or, refl, sym, ap, subst, arith, ◌⊎◌, inl, inr}
use Rattle.std.proofs.Math.Nat.{pow-le-pow_right}
use Rattle.std.proofs.lemmas.Nat.{pow-add}
use Rattle.std.proofs.Math.Seq.{take-suc}
use Rattle.std.proofs.lemmas.Fmt.{decimal_digit, decimal_step}
use Rattle.std.specs.Fmt.{decimal}

-- the digits so far write a number, and none of them is a zero in front
pub record Wrote (bytes : List ℕ) (i n : ℕ) : Type 0 where
  pub none : i ≡ 0 → n ≡ 0
  pub some : 1 ≤ i → (1 ≤ n) × (decimal n ≡ take i bytes)

pub wrote_more : (bytes : List ℕ) (i n v m : ℕ) → i < length bytes → get_or bytes i 0 ≡ 48 + v → v ≤ 9 → 49 ≤ get_or bytes 0 0 → n ≤ 1844674407370955160 → m ≡ n * 10 + v → Wrote bytes i n → Wrote bytes (i + 1) m
wrote_more bytes zero n v m within is small first most e so_far =
    let z : n ≡ 0 = so_far.none refl in
    let same : m ≡ v = omega arith in
    let one : take 1 bytes ≡ (48 + v) ∷ [] = take-suc bytes 0 0 within ∙ ap (λ b. b ∷ []) is in
    record { none = λ f. absurd (omega arith); some = λ k. (omega arith, ap decimal same ∙ decimal_digit v (omega arith) ∙ sym one) }
wrote_more bytes (suc k) n v m within is small first most e so_far =
    let before = so_far.some (let h : 1 ≤ suc k = omega arith in h) in
    let many : 10 ≤ m = omega (arith, before.0) in
    let few : m < 2 ^ 64 = omega arith in
    let high : m / 10 ≡ n = omega arith in
    let low : m % 10 ≡ v = omega arith in
    let next : suc k + 1 ≡ suc (suc k) = omega arith in
    record {
      none = λ f. absurd (omega arith);
      some = λ h. (omega (arith, before.0), decimal_step m many few ∙ (λ i. decimal (high i) ++ ((48 + low i) ∷ [])) ∙ (λ i. before.1 i ++ (sym is i ∷ [])) ∙ sym (take-suc bytes (suc k) 0 within) ∙ ap (λ j. take j bytes) (sym next));
    }

-- where the digits end
pub wrote_all : (bytes : List ℕ) (i n : ℕ) → 49 ≤ get_or bytes 0 0 → get_or bytes 0 0 ≤ 57 → Wrote bytes i n →
    (9 < (get_or bytes i 0 + 208) % 256) ⊎ (((get_or bytes i 0 + 208) % 256 ≤ 9) × (1844674407370955160 < n)) → decimal n ≡ take i bytes
wrote_all bytes zero n least most so_far (inl h) = absurd (omega arith)
wrote_all bytes zero n least most so_far (inr h) = let z : n ≡ 0 = so_far.none refl in absurd (omega (arith, h.1))
wrote_all bytes (suc k) n least most so_far h = (so_far.some (let one : 1 ≤ suc k = omega arith in one)).1

-- one digit
pub digit_text : (bytes : List ℕ) (v : ℕ) → 0 < length bytes → get_or bytes 0 0 ≡ 48 + v → v ≤ 9 → decimal v ≡ take 1 bytes
digit_text bytes v some is small = decimal_digit v (omega arith) ∙ sym (take-suc bytes 0 0 some ∙ ap (λ b. b ∷ []) is)

-- the digits among the first bytes, which may have ended
pub record Few (bytes : List ℕ) (i len n : ℕ) : Type 0 where
  pub wrote : Wrote bytes len n
  pub few : n < 10 ^ len
  pub within : len ≤ i
  pub some : 1 ≤ i → 1 ≤ len

pub few_bound : (len n : ℕ) → len ≤ 7 → n < 10 ^ len → n < 10000000
few_bound len n h few = let pow : 10 ^ len ≤ 10 ^ 7 = pow-le-pow_right {n = 10} (omega arith) h in omega (arith, few, pow)

pub few_more : (bytes : List ℕ) (i len n v m k : ℕ) → i < 8 → i < length bytes → get_or bytes i 0 ≡ 48 + v → v ≤ 9 → 49 ≤ get_or bytes 0 0 → len ≡ i → m ≡ n * 10 + v → k ≡ len + 1 → Few bytes i len n → Few bytes (i + 1) k m
few_more bytes i len n v m k eight within is small first same e f so_far =
    let short : len ≤ 7 = omega arith in
    let bound = few_bound len n short so_far.few in
    let most : n ≤ 1844674407370955160 = omega (arith, bound) in
    let so : Wrote bytes i n = subst (λ j. Wrote bytes j n) same so_far.wrote in
    let all : Wrote bytes (i + 1) m = wrote_more bytes i n v m within is small first most e so in
    let next : i + 1 ≡ k = omega arith in
    let below : m < 10 ^ len * 10 = omega (arith, so_far.few) in
    record {
      wrote = subst (λ j. Wrote bytes j m) next all;
      few = subst (λ j. m < 10 ^ j) (sym f) (subst (λ x. m < x) (sym (pow-add 10 len 1)) below);
      within = omega arith;
      some = λ h. omega arith;
    }

pub few_same : (bytes : List ℕ) (i len n : ℕ) → 49 ≤ get_or bytes 0 0 → get_or bytes 0 0 ≤ 57 → (len ≡ i → 10 ≤ (get_or bytes i 0 + 208) % 256) → Few bytes i len n → Few bytes (i + 1) len n
few_same bytes zero len n least most other so_far =
    let none : len ≡ 0 = omega (arith, so_far.within) in
    let h : 10 ≤ (get_or bytes 0 0 + 208) % 256 = other none in
    absurd (omega (arith, h))
few_same bytes (suc k) len n least most other so_far = record {
  wrote = so_far.wrote;
  few = so_far.few;
  within = omega (arith, so_far.within);
  some = λ h. so_far.some (let one : 1 ≤ suc k = omega arith in one);
}
