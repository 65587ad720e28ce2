-- Repeated sums, and the greatest members of what calls give.
use Rattle.std.proofs.Common.{◌≡◌, ℕ, zero, suc, ◌+◌, ◌-◌, ◌*◌, ◌/◌, ◌^◌, ◌<◌, ◌≤◌, ◌↔◌, inl, inr, refl, subst, arith, max}
use Rattle.std.proofs.lemmas.Bool.{cases_lt}
use Rattle.std.proofs.Math.Nat.{mul-le-mul_left}
use Rattle.bit_length.specs.Lengths.{Numbers, Same, Only, Multiples, Sums, Joins, Repeats, UpTo, Pads, padded, IsGreatest}
use Rattle.bit_length.proofs.SetLemmas.{same_join, greatest_same, greatest_either, repeats_alike}

pub repeats_sum : (S : Numbers) (a b c : ℕ) → a + b ≡ c → Same (Sums (Repeats S a) (Repeats S b)) (Repeats S c)
repeats_sum S zero b c e n =
    let f : b ≡ c = omega arith in subst (λ t. Sums (Repeats S 0) (Repeats S b) n ↔ Repeats S t n) f (there, back)
  where
    there : Sums (Repeats S 0) (Repeats S b) n → Repeats S b n
    there (x, y, p, q, g) = subst (Repeats S b) (omega arith) q

    back : Repeats S b n → Sums (Repeats S 0) (Repeats S b) n
    back h = (0, n, refl, h, omega arith)
repeats_sum S (suc a) b zero e n = absurd (omega arith)
repeats_sum S (suc a) b (suc c) e n =
    (there (λ z. (repeats_sum S a b c (omega arith) z).0), back (λ z. (repeats_sum S a b c (omega arith) z).1))
  where
    there : ((z : ℕ) → Sums (Repeats S a) (Repeats S b) z → Repeats S c z) → Sums (Repeats S (suc a)) (Repeats S b) n → Repeats S (suc c) n
    there f (x, y, (p, q, s, r, g), t, h) = (p, q + y, s, f (q + y) (q, y, r, t, refl), omega arith)

    back : ((z : ℕ) → Repeats S c z → Sums (Repeats S a) (Repeats S b) z) → Repeats S (suc c) n → Sums (Repeats S (suc a)) (Repeats S b) n
    back f (p, z, s, r, h) =
        let (q, y, u, v, g) = f z r in (p + q, y, (p, q, s, u, refl), v, omega arith)

pub repeats_more : (S : Numbers) (k c : ℕ) → k + 1 ≡ c → Same (Sums S (Repeats S k)) (Repeats S c)
repeats_more S k c e n =
    let f : suc k ≡ c = omega arith in subst (λ t. Sums S (Repeats S k) n ↔ Repeats S t n) f (λ h. h, λ h. h)

repeats_one : (S : Numbers) (p : ℕ) → S p → (m : ℕ) → (y : ℕ) × Repeats S m y
repeats_one S p s zero = (0, refl)
repeats_one S p s (suc m) = let (y, r) = repeats_one S p s m in (p + y, (p, y, s, r, refl))

-- fewer members, no greater a sum
pub short_less : (S : Numbers) (a c : ℕ) → a ≤ c → ((k : ℕ) → Repeats S c k → k ≤ 2 ^ 32) → (k : ℕ) → Repeats S a k → k ≤ 2 ^ 32
short_less S zero c le short k h = omega arith
short_less S (suc a) c le short k (p, q, s, r, e) =
    let (y, t) = repeats_one S p s (c - suc a) in
    let w = short (k + y) ((repeats_sum S (suc a) (c - suc a) c (omega arith) (k + y)).0 (k, y, (p, q, s, r, e), t, refl)) in
    omega arith

-- at most so many members, as so many of the members and 0
pub up_to_is : (S : Numbers) (n : ℕ) → Same (Repeats (Joins S (Only 0)) n) (UpTo S n)
up_to_is S zero k = (λ h. (0, omega arith, h), λ (m, le, r). back m (omega arith) r)
  where
    back : (m : ℕ) → m ≡ 0 → Repeats S m k → k ≡ 0
    back m e r = subst (λ t. Repeats S t k) e r
up_to_is S (suc n) k = (there (λ z. (up_to_is S n z).0), back (λ z. (up_to_is S n z).1))
  where
    there : ((z : ℕ) → Repeats (Joins S (Only 0)) n z → UpTo S n z) → Repeats (Joins S (Only 0)) (suc n) k → UpTo S (suc n) k
    there f (a, b, inl x, y, e) = let (m, le, r) = f b y in (suc m, omega arith, (a, b, x, r, e))
    there f (a, b, inr x, y, e) =
        let (m, le, r) = f b y in (m, omega arith, subst (Repeats S m) (omega arith) r)

    back : ((z : ℕ) → UpTo S n z → Repeats (Joins S (Only 0)) n z) → UpTo S (suc n) k → Repeats (Joins S (Only 0)) (suc n) k
    back f (zero, le, r) = (0, 0, inr refl, f 0 (0, omega arith, refl), omega arith)
    back f (suc m, le, (a, b, x, r, e)) = (a, b, inl x, f b (m, omega arith, r), e)

-- so many of one number, and at most so many
repeats_one_number : (b m : ℕ) → Same (Repeats (Only b) m) (Only (b * m))
repeats_one_number b zero n = (λ e. omega arith, λ e. omega arith)
repeats_one_number b (suc m) n = (
  λ (x, y, e, r, f). let g = (repeats_one_number b m y).0 r in omega arith,
  λ e. (b, b * m, refl, (repeats_one_number b m (b * m)).1 refl, omega arith),
)

pub up_to_one_number : (b most : ℕ) (S : Numbers) → Same (Only b) S → Same (Multiples b most) (UpTo S most)
up_to_one_number b most S one n = (
  λ (m, le, e). (m, le, (repeats_alike (Only b) S one m n).0 ((repeats_one_number b m n).1 e)),
  λ (m, le, r). (m, le, (repeats_one_number b m n).0 ((repeats_alike (Only b) S one m n).1 r)),
)

-- ---- the greatest members

pub greatest_sum : (S T : Numbers) (a b : ℕ) → IsGreatest S a → IsGreatest T b → IsGreatest (Sums S T) (a + b)
greatest_sum S T a b x y =
    ((a, b, x.0, y.0, refl), λ n (p, q, s, t, e). let l = x.1 p s in let m = y.1 q t in omega arith)

pub greatest_repeat : (S : Numbers) (a : ℕ) → IsGreatest S a → (n : ℕ) → IsGreatest (Repeats S n) (a * n)
greatest_repeat S a x zero = (omega arith, λ k h. omega arith)
greatest_repeat S a x (suc n) =
    let w = greatest_sum S (Repeats S n) a (a * n) x (greatest_repeat S a x n) in
    let e : a + a * n ≡ a * suc n = omega arith in
    subst (IsGreatest (Repeats S (suc n))) e w

pub greatest_join : (S T : Numbers) (a b : ℕ) → IsGreatest S a → IsGreatest T b → IsGreatest (Joins S T) (max a b)
greatest_join S T a b x y =
    greatest_either S T (Joins S T) a b (max a b) (λ n. (λ h. h, λ h. h)) x y refl

pub greatest_up_to : (S : Numbers) (a : ℕ) → IsGreatest S a → (n : ℕ) → IsGreatest (UpTo S n) (a * n)
greatest_up_to S a x n =
    greatest_same (Repeats (Joins S (Only 0)) n) (UpTo S n) (a * n) (up_to_is S n) (greatest_repeat (Joins S (Only 0)) a (inl x.0, λ k h. elim h [ inl y ↦ x.1 k y | inr e ↦ omega arith ]) n)

pub greatest_pad : (S : Numbers) (a to : ℕ) → 0 < to → IsGreatest S a → IsGreatest (Pads S to) (padded to a)
greatest_pad S a to p x = (
  (a, x.0, refl),
  λ n (m, s, e). let l = up (m + (to - 1)) (a + (to - 1)) (let k = x.1 m s in omega arith) in omega arith,
)
  where
    up : (y z : ℕ) → y ≤ z → y / to * to ≤ z / to * to
    up y z le = elim (cases_lt (z / to) (y / to)) [
      | inr h ↦ let m : to * (y / to) ≤ to * (z / to) = mul-le-mul_left to h in omega arith
      | inl h ↦ absurd (let m : to * (z / to + 1) ≤ to * (y / to) = mul-le-mul_left to (omega arith) in omega arith)
    ]

-- repeats of a set that has the members of another and 0
pub up_to_from : (S T Z : Numbers) (n : ℕ) → Same T (Joins S Z) → Same Z (Only 0) → Same (Repeats T n) (UpTo S n)
up_to_from S T Z n e z =
    same_join (Repeats T n) (Repeats (Joins S (Only 0)) n) (UpTo S n) (repeats_alike T (Joins S (Only 0)) (same_join T (Joins S Z) (Joins S (Only 0)) e turned) n) (up_to_is S n)
  where
    turned : Same (Joins S Z) (Joins S (Only 0))
    turned k = (
      λ h. elim h [ inl x ↦ inl x | inr x ↦ inr ((z k).0 x) ],
      λ h. elim h [ inl x ↦ inl x | inr x ↦ inr ((z k).1 x) ],
    )
