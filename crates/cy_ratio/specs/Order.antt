-- The order of fractions is total.
use Rattle.std.proofs.Common.{◌≡◌, ℕ, zero, suc, ◌*◌, ℤ, pos, negsuc, neg_ℤ, ◌*ℤ◌, ◌+ℤ◌, refl, sym}
use Rattle.std.proofs.Common.{ap, ◌∙◌, subst, arith, Less, Equal, Greater}
use Rattle.std.proofs.lemmas.Int.{ints}
use Rattle.std.proofs.lemmas.Cmp.{int_cmp_total}
use Rattle.std.proofs.Math.IntN.{*ℤ_comm, *ℤ-zero, suc_ℤ-*ℤ}
use Rattle.std.proofs.Math.Nat.{mul_assoc, mul_comm, zero-mul}
use Rattle.std.specs.Cmp.{IsTotalOrder, int_cmp_is, int_ranks}
use Rattle.std.specs.Ordering.{int_cmp, MatchOrdering}
use Rattle.std.specs.declared.cmp.Ordering.{Ordering}
use Rattle.cy_ratio.specs.Fraction.{divisor, order_of}
use lib.Signed.{◌<ℤ◌}

pub neg_scale : (n b : ℕ) → neg_ℤ (pos n) *ℤ pos b ≡ neg_ℤ (pos (n * b))
neg_scale zero b = rw zero-mul refl
neg_scale (suc n) b = refl

pub scale_assoc : (r : ℤ) (a b : ℕ) → (r *ℤ pos a) *ℤ pos b ≡ r *ℤ pos (a * b)
scale_assoc (pos m) a b = ap pos (mul_assoc m a b)
scale_assoc (negsuc m) a b = neg_scale (suc m * a) b ∙ ap (λ n. neg_ℤ (pos n)) (mul_assoc (suc m) a b)

pub one_more : (x : ℤ) (g : ℕ) → x *ℤ pos (suc g) ≡ x *ℤ pos g +ℤ x
one_more x g = *ℤ_comm x (pos (suc g)) ∙ suc_ℤ-*ℤ (pos g) x ∙ ap (λ z. z +ℤ x) (*ℤ_comm (pos g) x)

pub none_at_all : (x : ℤ) → x *ℤ pos 0 ≡ pos 0
none_at_all x = *ℤ-zero x

-- products with one positive number are in the order of the other factors
pub less_scale : (a b : ℤ) (k : ℕ) → a <ℤ b → (a *ℤ pos (suc k)) <ℤ (b *ℤ pos (suc k))
less_scale a b zero h = omega (arith, ints, one_more a 0, one_more b 0, none_at_all a, none_at_all b)
less_scale a b (suc k) h = omega (arith, ints, one_more a (suc k), one_more b (suc k), less_scale a b k h)

pub scale_cmp : (a b : ℤ) (k : ℕ) → int_cmp a b ≡ int_cmp (a *ℤ pos (suc k)) (b *ℤ pos (suc k))
scale_cmp a b k = int_cmp_is (a *ℤ pos (suc k)) (b *ℤ pos (suc k)) (int_cmp a b) (moved (int_cmp a b) (int_ranks a b))
  where
    moved : (r : Ordering) → MatchOrdering r (a <ℤ b) (a ≡ b) (b <ℤ a) →
        MatchOrdering r ((a *ℤ pos (suc k)) <ℤ (b *ℤ pos (suc k))) ((a *ℤ pos (suc k)) ≡ (b *ℤ pos (suc k))) ((b *ℤ pos (suc k)) <ℤ (a *ℤ pos (suc k)))
    moved Less h = less_scale a b k h
    moved Equal h = ap (λ z. z *ℤ pos (suc k)) h
    moved Greater h = less_scale b a k h

turn : (a : ℤ) (j k : ℕ) → (a *ℤ pos j) *ℤ pos k ≡ (a *ℤ pos k) *ℤ pos j
turn a j k = scale_assoc a j k ∙ ap (λ n. a *ℤ pos n) (mul_comm j k) ∙ sym (scale_assoc a k j)

pub equal_is : (a b : ℤ) → int_cmp a b ≡ Equal → a ≡ b
equal_is a b e = subst (λ r. MatchOrdering r (a <ℤ b) (a ≡ b) (b <ℤ a)) e (int_ranks a b)

-- a/p, c/q and e/s, with p, q and s one more than these
module _ (a c e : ℤ) (p q s : ℕ) where
  -- how a/p and e/s compare, by products with q too
  wide : int_cmp (a *ℤ pos (suc s)) (e *ℤ pos (suc p)) ≡ int_cmp ((a *ℤ pos (suc q)) *ℤ pos (suc s)) ((e *ℤ pos (suc q)) *ℤ pos (suc p))
  wide = scale_cmp (a *ℤ pos (suc s)) (e *ℤ pos (suc p)) q ∙ ap (λ z. int_cmp z ((e *ℤ pos (suc p)) *ℤ pos (suc q))) (turn a (suc s) (suc q)) ∙ ap (int_cmp ((a *ℤ pos (suc q)) *ℤ pos (suc s))) (turn e (suc p) (suc q))

  -- how c/q and e/s compare, by products with p too
  back : int_cmp (c *ℤ pos (suc s)) (e *ℤ pos (suc q)) ≡ int_cmp ((c *ℤ pos (suc p)) *ℤ pos (suc s)) ((e *ℤ pos (suc q)) *ℤ pos (suc p))
  back = scale_cmp (c *ℤ pos (suc s)) (e *ℤ pos (suc q)) p ∙ ap (λ z. int_cmp z ((e *ℤ pos (suc q)) *ℤ pos (suc p))) (turn c (suc s) (suc p))

  chain : int_cmp (a *ℤ pos (suc q)) (c *ℤ pos (suc p)) ≡ Less
      → int_cmp (c *ℤ pos (suc s)) (e *ℤ pos (suc q)) ≡ Less
      → int_cmp (a *ℤ pos (suc s)) (e *ℤ pos (suc p)) ≡ Less
  chain h k = wide ∙ int_cmp_total.trans ((a *ℤ pos (suc q)) *ℤ pos (suc s)) ((c *ℤ pos (suc p)) *ℤ pos (suc s)) ((e *ℤ pos (suc q)) *ℤ pos (suc p))
      (sym (scale_cmp (a *ℤ pos (suc q)) (c *ℤ pos (suc p)) s) ∙ h) (sym back ∙ k)

  alike : int_cmp (a *ℤ pos (suc q)) (c *ℤ pos (suc p)) ≡ Equal
      → int_cmp (a *ℤ pos (suc s)) (e *ℤ pos (suc p)) ≡ int_cmp (c *ℤ pos (suc s)) (e *ℤ pos (suc q))
  alike h = wide ∙ ap (λ z. int_cmp (z *ℤ pos (suc s)) ((e *ℤ pos (suc q)) *ℤ pos (suc p))) (equal_is (a *ℤ pos (suc q)) (c *ℤ pos (suc p)) h) ∙ sym back

one_below : (n : ℕ) → (k : ℕ) × (divisor n ≡ suc k)
one_below zero = (0, refl)
one_below (suc n) = (n, refl)

-- the order of fractions is total
pub order_total : IsTotalOrder order_of
order_total = record {
  antisymm = λ x y. int_cmp_total.antisymm (x.num *ℤ pos (divisor y.den)) (y.num *ℤ pos (divisor x.den));
  trans = λ x y z. go x.num y.num z.num (divisor x.den) (divisor y.den) (divisor z.den) (one_below x.den) (one_below y.den) (one_below z.den);
  congr = λ x y z. same x.num y.num z.num (divisor x.den) (divisor y.den) (divisor z.den) (one_below x.den) (one_below y.den) (one_below z.den);
}
  where
    go : (a c e : ℤ) (p q s : ℕ) → (i : ℕ) × (p ≡ suc i) → (j : ℕ) × (q ≡ suc j)
        → (k : ℕ) × (s ≡ suc k) →
        int_cmp (a *ℤ pos q) (c *ℤ pos p) ≡ Less → int_cmp (c *ℤ pos s) (e *ℤ pos q) ≡ Less → int_cmp (a *ℤ pos s) (e *ℤ pos p) ≡ Less
    go a c e p q s i j k = rw (i.1, j.1, k.1) (chain a c e i.0 j.0 k.0)

    same : (a c e : ℤ) (p q s : ℕ) → (i : ℕ) × (p ≡ suc i) → (j : ℕ) × (q ≡ suc j)
        → (k : ℕ) × (s ≡ suc k) →
        int_cmp (a *ℤ pos q) (c *ℤ pos p) ≡ Equal → int_cmp (a *ℤ pos s) (e *ℤ pos p) ≡ int_cmp (c *ℤ pos s) (e *ℤ pos q)
    same a c e p q s i j k = rw (i.1, j.1, k.1) (alike a c e i.0 j.0 k.0)
