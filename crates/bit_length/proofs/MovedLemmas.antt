-- Members that are moved up by a number.
use Rattle.std.proofs.Common.{◌≡◌, ℕ, zero, suc, ◌+◌, ◌-◌, ◌*◌, ◌/◌, ◌%◌, ◌^◌, ◌<◌, ◌≤◌, ◌⊎◌, ◌↔◌, inl, inr, List, [], ◌∷◌, length, get_or, refl, sym, ap, ◌∙◌, subst, arith, Some, None}
use Rattle.std.proofs.lemmas.Bool.{cases_lt}
use Rattle.std.proofs.lemmas.List.{length-map, get_or-map}
use Rattle.std.proofs.Math.Nat.{zero-mod, mod-eq_of_lt, add-mod-mod, mod-add-mod, add-mod_right, mod-mod_of_dvd}
use Rattle.std.proofs.lemmas.Nat.Gcd.{dvd_of_mod-eq-zero}
use Rattle.bit_length.specs.declared.run.Run.{Run}
use Rattle.bit_length.specs.Ascending.{Ascend}
use Rattle.bit_length.specs.Lengths.{Numbers, Has, Same, Only, Sums, Joins, Repeats, Pads, padded, SomeLeaves, IsWithin, IsLeast, IsGreatest, IsNext}
use Rattle.bit_length.specs.Moved.{moved, Moved, IsShortAt, AreMultiples}
use Rattle.bit_length.specs.Runs.{IsRun, InRun, IsReach}
use Rattle.bit_length.proofs.AscendingLemmas.{has_head, has_later, has_none}
use Rattle.bit_length.proofs.SetLemmas.{same_join, sums_alike, repeats_alike, pads_alike}
use Rattle.bit_length.proofs.SumLemmas.{padded_past}

-- ---- lists

-- the members of a list that is moved up
pub has_moved : (k : ℕ) (xs : List ℕ) → Same (Has (moved k xs)) (Moved k (Has xs))
has_moved k [] n = (λ h. absurd (has_none n h), λ (m, h, e). absurd (has_none m h))
has_moved k (x ∷ xs) n = (there (λ h. (has_moved k xs n).0 h), back (λ h. (has_moved k xs n).1 h))
  where
    there : (Has (moved k xs) n → Moved k (Has xs) n) → Has ((k + x) ∷ moved k xs) n → Moved k (Has (x ∷ xs)) n
    there f (zero, lt, e) = (x, has_head x xs, sym e)
    there f (suc i, lt, e) =
        let (m, h, g) = f (i, omega arith, e) in (m, has_later x xs m h, g)

    back : (Moved k (Has xs) n → Has (moved k xs) n) → Moved k (Has (x ∷ xs)) n → Has ((k + x) ∷ moved k xs) n
    back f (m, (zero, lt, e), g) = (0, omega arith, omega arith)
    back f (m, (suc i, lt, e), g) = has_later (k + x) (moved k xs) n (f (m, (i, omega arith, e), g))

pub moved_length : (k : ℕ) (xs : List ℕ) → length (moved k xs) ≡ length xs
moved_length k xs = length-map xs (λ n. k + n)

moved_at : (k : ℕ) (xs : List ℕ) (i d : ℕ) → i < length xs → get_or (moved k xs) i d ≡ k + get_or xs i d
moved_at k xs i d lt = get_or-map (λ n. k + n) xs i d d lt

pub moved_ascends : (k : ℕ) (xs : List ℕ) → Ascend xs → Ascend (moved k xs)
moved_ascends k xs up = λ i j d lt short.
    let size = moved_length k xs in
    let low = moved_at k xs i d (omega arith) in
    let high = moved_at k xs j d (omega arith) in
    let less = up i j d lt (omega arith) in
    omega arith

-- ---- sets

pub moved_same : (k : ℕ) (S T : Numbers) → Same S T → Same (Moved k S) (Moved k T)
moved_same k S T e n = (λ (m, h, f). (m, (e m).0 h, f), λ (m, h, f). (m, (e m).1 h, f))

pub unmoved : (S : Numbers) → Same (Moved 0 S) S
unmoved S n = (λ (m, h, e). subst S (omega arith) h, λ h. (n, h, omega arith))

pub moved_again : (j k : ℕ) (S : Numbers) → Same (Moved j (Moved k S)) (Moved (j + k) S)
moved_again j k S n = (
  λ (m, (l, h, e), f). (l, h, omega arith),
  λ (l, h, e). (k + l, (l, h, refl), omega arith),
)

pub moved_either : (k : ℕ) (S T U : Numbers) → ((n : ℕ) → U n ↔ (S n ⊎ T n)) → (n : ℕ) → Moved k U n ↔ (Moved k S n ⊎ Moved k T n)
moved_either k S T U u n = (there, back)
  where
    there : Moved k U n → Moved k S n ⊎ Moved k T n
    there (m, h, e) = elim ((u m).0 h) [ inl x ↦ inl (m, x, e) | inr x ↦ inr (m, x, e) ]

    back : Moved k S n ⊎ Moved k T n → Moved k U n
    back (inl (m, h, e)) = (m, (u m).1 (inl h), e)
    back (inr (m, h, e)) = (m, (u m).1 (inr h), e)

pub moved_joins : (k : ℕ) (S T : Numbers) → Same (Moved k (Joins S T)) (Joins (Moved k S) (Moved k T))
moved_joins k S T = moved_either k S T (Joins S T) (λ n. (λ h. h, λ h. h))

pub moved_sums : (j k : ℕ) (S T : Numbers) → Same (Sums (Moved j S) (Moved k T)) (Moved (j + k) (Sums S T))
moved_sums j k S T n = (
  λ (a, b, (x, s, e), (y, t, f), g). (x + y, (x, y, s, t, refl), omega arith),
  λ (m, (x, y, s, t, e), f). (j + x, k + y, (x, s, refl), (y, t, refl), omega arith),
)

-- the sums of one number and a member
pub moved_only : (k : ℕ) (S : Numbers) → Same (Sums (Only k) S) (Moved k S)
moved_only k S n = (
  λ (a, b, x, y, e). (b, y, omega arith),
  λ (m, h, e). (k, m, refl, h, e),
)

pub moved_repeats : (k : ℕ) (S : Numbers) (n : ℕ) → Same (Repeats (Moved k S) n) (Moved (k * n) (Repeats S n))
moved_repeats k S zero i = (λ e. (0, refl, omega arith), λ (m, e, f). omega arith)
moved_repeats k S (suc n) i = (there (λ z. (moved_repeats k S n z).0), back (λ z. (moved_repeats k S n z).1))
  where
    there : ((z : ℕ) → Repeats (Moved k S) n z → Moved (k * n) (Repeats S n) z) → Repeats (Moved k S) (suc n) i → Moved (k * suc n) (Repeats S (suc n)) i
    there f (a, b, (x, s, e), r, g) =
        let (y, t, h) = f b r in (x + y, (x, y, s, t, refl), omega arith)

    back : ((z : ℕ) → Moved (k * n) (Repeats S n) z → Repeats (Moved k S) n z) → Moved (k * suc n) (Repeats S (suc n)) i → Repeats (Moved k S) (suc n) i
    back f (m, (x, y, s, t, e), g) = (k + x, k * n + y, (x, s, refl), f (k * n + y) (y, t, refl), omega arith)

-- ---- padding

-- by a multiple
pub moved_pads : (k to : ℕ) (S : Numbers) → 0 < to → k % to ≡ 0 → Same (Pads (Moved k S) to) (Moved k (Pads S to))
moved_pads k to S p whole n = (there, back)
  where
    past : (x : ℕ) → padded to (k + x) ≡ k + padded to x
    past x =
        let e : k ≡ to * (k / to) = omega arith in
        let f : k + x ≡ x + to * (k / to) = omega arith in
        ap (padded to) f ∙ padded_past to x (k / to) p ∙ omega arith

    there : Pads (Moved k S) to n → Moved k (Pads S to) n
    there (m, (x, h, e), f) = (padded to x, (x, h, refl), f ∙ ap (padded to) e ∙ past x)

    back : Moved k (Pads S to) n → Pads (Moved k S) to n
    back (m, (x, h, e), f) = (k + x, (x, h, refl), f ∙ ap (λ t. k + t) e ∙ sym (past x))

-- of members that are multiples
pub pads_of_multiples : (k to : ℕ) (S : Numbers) → 0 < to → AreMultiples S to → Same (Pads (Moved k S) to) (Moved (padded to k) S)
pads_of_multiples k to S p whole n = (there, back)
  where
    past : (x : ℕ) → S x → padded to (k + x) ≡ padded to k + x
    past x h =
        let r = whole x h in
        let e : x ≡ to * (x / to) = omega arith in
        ap (λ t. padded to (k + t)) e ∙ padded_past to k (x / to) p ∙ ap (λ t. padded to k + t) (sym e)

    there : Pads (Moved k S) to n → Moved (padded to k) S n
    there (m, (x, h, e), f) = (x, h, f ∙ ap (padded to) e ∙ past x h)

    back : Moved (padded to k) S n → Pads (Moved k S) to n
    back (x, h, e) = (k + x, (x, h, refl), e ∙ sym (past x h))

-- multiples of a multiple
pub multiples_of : (S : Numbers) (d to : ℕ) → d % to ≡ 0 → AreMultiples S d → AreMultiples S to
multiples_of S d to e all n h =
    sym (mod-mod_of_dvd to n (dvd_of_mod-eq-zero to e)) ∙ ap (λ t. t % to) (all n h) ∙ zero-mod to

pub multiples_same : (S T : Numbers) (d : ℕ) → Same S T → AreMultiples S d → AreMultiples T d
multiples_same S T d e all n h = all n ((e n).1 h)

-- ---- the least, the greatest and the next

pub moved_least : (k : ℕ) (S : Numbers) (a : ℕ) → IsLeast S a → IsLeast (Moved k S) (k + a)
moved_least k S a x = ((a, x.0, refl), λ n (m, h, e). let l = x.1 m h in omega arith)

pub moved_greatest : (k : ℕ) (S : Numbers) (a : ℕ) → IsGreatest S a → IsGreatest (Moved k S) (k + a)
moved_greatest k S a x = ((a, x.0, refl), λ n (m, h, e). let l = x.1 m h in omega arith)

pub moved_next : (k : ℕ) (S : Numbers) (n m : ℕ) → IsNext S (n - k) (Some m) → IsNext (Moved k S) n (Some (k + m))
moved_next k S n m x =
    ((m, x.0, refl), omega (arith, x.1), λ i (j, h, e) le. let l = x.2 j h (omega arith) in omega arith)

pub moved_no_next : (k : ℕ) (S : Numbers) (n : ℕ) → IsNext S (n - k) None → IsNext (Moved k S) n None
moved_no_next k S n x i (j, h, e) = let l = x j h in omega arith

-- ---- remainders

-- what a sum leaves, by what the other number leaves
turn : (a b r d : ℕ) → a < d → b < d → r < d → ((a + b) % d ≡ r) ↔ (b ≡ (r + (d - a)) % d)
turn a b r d la lb lr = (there, back)
  where
    low : (x : ℕ) → x < d → x % d ≡ x
    low x lt = mod-eq_of_lt lt

    high : (x : ℕ) → x < d → (x + d) % d ≡ x
    high x lt = add-mod_right x d ∙ low x lt

    there : (a + b) % d ≡ r → b ≡ (r + (d - a)) % d
    there e = elim (cases_lt (a + b) d) [
      | inl h ↦
          let f : r ≡ a + b = sym e ∙ low (a + b) h in
          let g : r + (d - a) ≡ b + d = omega arith in
          sym (ap (λ t. t % d) g ∙ high b lb)
      | inr h ↦
          let x : ℕ = a + b - d in
          let f : a + b ≡ a + b - d + d = omega arith in
          let g : r ≡ a + b - d = sym e ∙ ap (λ t. t % d) f ∙ high (a + b - d) (omega arith) in
          let i : r + (d - a) ≡ b = omega arith in
          sym (ap (λ t. t % d) i ∙ low b lb)
    ]

    back : b ≡ (r + (d - a)) % d → (a + b) % d ≡ r
    back e = elim (cases_lt (r + (d - a)) d) [
      | inl h ↦
          let f : b ≡ r + (d - a) = e ∙ low (r + (d - a)) h in
          let g : a + b ≡ r + d = omega arith in
          ap (λ t. t % d) g ∙ high r lr
      | inr h ↦
          let f : r + (d - a) ≡ r - a + d = omega arith in
          let g : b ≡ r - a = e ∙ ap (λ t. t % d) f ∙ high (r - a) (omega arith) in
          let i : a + b ≡ r = omega arith in
          ap (λ t. t % d) i ∙ low r lr
    ]

pub moved_leaves : (k d r : ℕ) (S : Numbers) → r < d → SomeLeaves (Moved k S) d r ↔ SomeLeaves S d ((r + (d - k % d)) % d)
moved_leaves k d r S lt = (there, back)
  where
    parts : (m : ℕ) → (k + m) % d ≡ (k % d + m % d) % d
    parts m = sym (mod-add-mod k d m) ∙ sym (add-mod-mod (k % d) m d)

    both : (m : ℕ) → ((k % d + m % d) % d ≡ r) ↔ (m % d ≡ (r + (d - k % d)) % d)
    both m = turn (k % d) (m % d) r d (omega arith) (omega arith) lt

    there : SomeLeaves (Moved k S) d r → SomeLeaves S d ((r + (d - k % d)) % d)
    there (n, (m, h, e), f) =
        (m, h, (both m).0 (sym (parts m) ∙ sym (ap (λ t. t % d) e) ∙ f))

    back : SomeLeaves S d ((r + (d - k % d)) % d) → SomeLeaves (Moved k S) d r
    back (m, h, f) = (k + m, (m, h, refl), parts m ∙ (both m).1 f)

-- no number leaves the divisor or more
pub leaves_below : (S : Numbers) (d r : ℕ) → 0 < d → d ≤ r → SomeLeaves S d r → ⊥
leaves_below S d r p le (n, h, e) = omega arith

-- ---- within

pub unmoved_within : (S T : Numbers) → IsWithin (Moved 0 S) (Moved 0 T) ↔ IsWithin S T
unmoved_within S T = (
  λ f n h. (unmoved T n).0 (f n ((unmoved S n).1 h)),
  λ f n h. (unmoved T n).1 (f n ((unmoved S n).0 h)),
)

pub moved_reach : (k n stride end : ℕ) (S : Numbers) → n ≤ 2 ^ 32 → k ≤ n → IsReach S (n - k) stride (Some end) → (bound : ℕ) → bound ≤ k + end → bound ≤ 2 ^ 32 → n ≤ bound → IsReach (Moved k S) n stride (Some bound)
moved_reach k n stride end S short le x bound low high from = (
  from,
  high,
  λ i h. (n - k + stride * i, x.2 i (omega arith), omega arith),
)

pub moved_no_reach : (k n stride : ℕ) (S : Numbers) → IsReach S (n - k) stride None → IsReach (Moved k S) n stride None
moved_no_reach k n stride S x (m, h, e) = x (subst S (omega arith) h)

pub below_no_reach : (k n stride : ℕ) (S : Numbers) → n < k → IsReach (Moved k S) n stride None
below_no_reach k n stride S lt (m, h, e) = omega arith

-- ---- multiples

pub whole_again : (s old d : ℕ) → old % d ≡ 0 → s % old ≡ 0 → s % d ≡ 0
whole_again s old d e f =
    sym (mod-mod_of_dvd d s (dvd_of_mod-eq-zero d e)) ∙ ap (λ t. t % d) f ∙ zero-mod d

-- ---- runs

-- the greatest member of a run of a set, moved up
pub short_run : (by s : ℕ) (r : Run) (S : Numbers) → IsRun s r → IsWithin (InRun s r) S → IsShortAt by S → by + (r.residue + s * r.last) ≤ 2 ^ 32
short_run by s r S run within short =
    short (r.residue + s * r.last) (within (r.residue + s * r.last) (r.last, run.1, omega arith, refl))

pub same_back : (S T : Numbers) → Same S T → Same T S
same_back S T e n = ((e n).1, (e n).0)

-- one run more, moved up as others are
pub moved_more : (by : ℕ) (S L M U : Numbers) → ((n : ℕ) → U n ↔ (S n ⊎ L n)) → Same M (Moved by L) → (n : ℕ) → Moved by U n ↔ (Moved by S n ⊎ M n)
moved_more by S L M U u e n = (
  λ h. elim ((moved_either by S L U u n).0 h) [ inl k ↦ inl k | inr k ↦ inr ((e n).1 k) ],
  λ h. (moved_either by S L U u n).1 (elim h as (λ _. Moved by S n ⊎ Moved by L n) [ inl k ↦ inl k | inr k ↦ inr ((e n).0 k) ]),
)

-- the same where the run stands before the others
pub moved_first : (by : ℕ) (L M T U : Numbers) → ((n : ℕ) → U n ↔ (L n ⊎ T n)) → Same M (Moved by L) → (n : ℕ) → Moved by U n ↔ (M n ⊎ Moved by T n)
moved_first by L M T U u e n = (
  λ h. elim ((moved_either by L T U u n).0 h) [ inl k ↦ inl ((e n).1 k) | inr k ↦ inr k ],
  λ h. (moved_either by L T U u n).1 (elim h as (λ _. Moved by L n ⊎ Moved by T n) [ inl k ↦ inl ((e n).0 k) | inr k ↦ inr k ]),
)

-- a run of a set that is within another, moved up
pub moved_part : (by : ℕ) (L M S V : Numbers) → Same M (Moved by L) → IsWithin L S → IsWithin (Moved by S) V → IsWithin M V
moved_part by L M S V e part within n h =
    let (m, x, f) = (e n).0 h in within n (m, part m x, f)

pub moved_whole : (by : ℕ) (L M T V : Numbers) → Same M (Moved by L) → Same L T → IsWithin M V → IsWithin (Moved by T) V
moved_whole by L M T V e same within n (m, x, f) = within n ((e n).1 (m, (same m).1 x, f))

pub within_alike : (S S' T T' : Numbers) → Same S S' → Same T T' → IsWithin S T → IsWithin S' T'
within_alike S S' T T' e f within n h = (f n).0 (within n ((e n).1 h))

-- ---- a set as a number and runs

pub value_moved : (k : ℕ) (xs v : List ℕ) → moved k xs ≡ v → Same (Moved k (Has xs)) (Has v)
value_moved k xs v e =
    subst (λ l. Same (Moved k (Has xs)) (Has l)) e (same_back (Has (moved k xs)) (Moved k (Has xs)) (has_moved k xs))

-- what moving has made of the runs
pub moved_value : (k : ℕ) (xs v : List ℕ) (R : Numbers) → moved k xs ≡ v → Same R (Sums (Only k) (Has xs)) → Same R (Has v)
moved_value k xs v R e r =
    let sums = Sums (Only k) (Has xs) in
    same_join R sums (Has v) r (same_join sums (Moved k (Has xs)) (Has v) (moved_only k (Has xs)) (value_moved k xs v e))

pub only_moved : (k n : ℕ) (xs v : List ℕ) → moved k xs ≡ v → Same (Only n) (Has xs) → Same (Only (k + n)) (Has v)
only_moved k n xs v e one i = (
  λ f. (value_moved k xs v e i).0 (n, (one n).0 refl, f),
  λ h. let (m, x, f) = (value_moved k xs v e i).1 h in let g = (one m).1 x in omega arith,
)

pub shifted_short : (k n : ℕ) (xs v : List ℕ) → moved k xs ≡ v → ((m : ℕ) → Sums (Has v) (Only n) m → m ≤ 2 ^ 32) → IsShortAt (k + n) (Has xs)
shifted_short k n xs v e short m h =
    let w = short (k + m + n) (k + m, n, (value_moved k xs v e (k + m)).0 (m, h, refl), refl, refl) in
    omega arith

pub shifted_is : (k n : ℕ) (xs v : List ℕ) → moved k xs ≡ v → Same (Has (moved (k + n) xs)) (Sums (Has v) (Only n))
shifted_is k n xs v e i = (
  λ h. let (m, x, f) = (has_moved (k + n) xs i).0 h in (k + m, n, (value_moved k xs v e (k + m)).0 (m, x, refl), refl, omega arith),
  λ (a, b, x, y, f). let (m, z, g) = (value_moved k xs v e a).1 x in (has_moved (k + n) xs i).1 (m, z, omega arith),
)

-- sums of members of both
pub sums_short : (k j : ℕ) (xs ys v w : List ℕ) → moved k xs ≡ v → moved j ys ≡ w → ((n : ℕ) → Sums (Has v) (Has w) n → n ≤ 2 ^ 32) → IsShortAt (k + j) (Sums (Has xs) (Has ys))
sums_short k j xs ys v w e f short n (a, b, x, y, g) =
    let l = short (k + a + (j + b)) (k + a, j + b, (value_moved k xs v e (k + a)).0 (a, x, refl), (value_moved j ys w f (j + b)).0 (b, y, refl), refl) in
    omega arith

pub sums_are : (k j : ℕ) (R : Numbers) (xs ys v w : List ℕ) → moved k xs ≡ v → moved j ys ≡ w → Same R (Sums (Has xs) (Has ys)) → Same (Moved (k + j) R) (Sums (Has v) (Has w))
sums_are k j R xs ys v w e f r =
    let sums = Sums (Has xs) (Has ys) in
    let parts = Sums (Moved k (Has xs)) (Moved j (Has ys)) in
    let all = Sums (Has v) (Has w) in
    same_join (Moved (k + j) R) (Moved (k + j) sums) all (moved_same (k + j) R sums r)
    (same_join (Moved (k + j) sums) parts all (same_back parts (Moved (k + j) sums) (moved_sums k j (Has xs) (Has ys)))
    (sums_alike (Moved k (Has xs)) (Has v) (Moved j (Has ys)) (Has w) (value_moved k xs v e) (value_moved j ys w f)))

pub short_same : (k : ℕ) (S T : Numbers) → Same S T → IsShortAt k T → IsShortAt k S
short_same k S T e short n h = short n ((e n).0 h)

-- members of either, at the lesser number
pub joins_short : (k j : ℕ) (R X Y : Numbers) → k ≤ j → Same R (Joins X (Moved (j - k) Y)) → IsShortAt k X → IsShortAt j Y → IsShortAt k R
joins_short k j R X Y le r x y n h = elim ((r n).0 h) [
  | inl a ↦ x n a
  | inr (m, b, e) ↦ let l = y m b in omega arith
]

pub joins_are : (k j : ℕ) (R X Y V W : Numbers) → k ≤ j → Same R (Joins X (Moved (j - k) Y)) → Same (Moved k X) V → Same (Moved j Y) W → Same (Moved k R) (Joins V W)
joins_are k j R X Y V W le r e f n = (there, back)
  where
    there : Moved k R n → Joins V W n
    there (m, h, g) = elim ((r m).0 h) [
      | inl a ↦ inl ((e n).0 (m, a, g))
      | inr (i, b, d) ↦ inr ((f n).0 (i, b, omega arith))
    ]

    back : Joins V W n → Moved k R n
    back (inl h) = let (m, a, g) = (e n).1 h in (m, (r m).1 (inl a), g)
    back (inr h) =
        let (m, b, g) = (f n).1 h in
        (j - k + m, (r (j - k + m)).1 (inr (m, b, refl)), omega arith)

pub joins_turned : (S T : Numbers) → Same (Joins S T) (Joins T S)
joins_turned S T n = (
  λ h. elim h as (λ _. T n ⊎ S n) [ inl k ↦ inr k | inr k ↦ inl k ],
  λ h. elim h as (λ _. S n ⊎ T n) [ inl k ↦ inr k | inr k ↦ inl k ],
)

pub joins_right : (S T U : Numbers) → Same T U → Same (Joins S T) (Joins S U)
joins_right S T U e n = (
  λ h. elim h as (λ _. S n ⊎ U n) [ inl k ↦ inl k | inr k ↦ inr ((e n).0 k) ],
  λ h. elim h as (λ _. S n ⊎ T n) [ inl k ↦ inl k | inr k ↦ inr ((e n).1 k) ],
)

-- sums of so many members
pub repeats_short : (k n : ℕ) (xs v : List ℕ) → moved k xs ≡ v → ((m : ℕ) → Repeats (Has v) n m → m ≤ 2 ^ 32) → IsShortAt (k * n) (Repeats (Has xs) n)
repeats_short k n xs v e short m h =
    short (k * n + m) ((repeats_alike (Moved k (Has xs)) (Has v) (value_moved k xs v e) n (k * n + m)).0 ((moved_repeats k (Has xs) n (k * n + m)).1 (m, h, refl)))

pub repeats_are : (k n : ℕ) (R : Numbers) (xs v : List ℕ) → moved k xs ≡ v → Same R (Repeats (Has xs) n) → Same (Moved (k * n) R) (Repeats (Has v) n)
repeats_are k n R xs v e r =
    let own = Repeats (Has xs) n in
    let all = Repeats (Moved k (Has xs)) n in
    same_join (Moved (k * n) R) (Moved (k * n) own) (Repeats (Has v) n) (moved_same (k * n) R own r)
    (same_join (Moved (k * n) own) all (Repeats (Has v) n) (same_back all (Moved (k * n) own) (moved_repeats k (Has xs) n)) (repeats_alike (Moved k (Has xs)) (Has v) (value_moved k xs v e) n))

-- padded members, where the number is a multiple, and where the members are
pub pads_by_multiple : (k to : ℕ) (xs v : List ℕ) → moved k xs ≡ v → 0 < to → k % to ≡ 0 → Same (Moved k (Pads (Has xs) to)) (Pads (Has v) to)
pads_by_multiple k to xs v e p whole =
    let all = Pads (Moved k (Has xs)) to in
    same_join (Moved k (Pads (Has xs) to)) all (Pads (Has v) to) (same_back all (Moved k (Pads (Has xs) to)) (moved_pads k to (Has xs) p whole)) (pads_alike (Moved k (Has xs)) (Has v) to (value_moved k xs v e))

pub pads_by_members : (k to : ℕ) (xs v : List ℕ) → moved k xs ≡ v → 0 < to → AreMultiples (Has xs) to → Same (Moved (padded to k) (Has xs)) (Pads (Has v) to)
pads_by_members k to xs v e p whole =
    let all = Pads (Moved k (Has xs)) to in
    same_join (Moved (padded to k) (Has xs)) all (Pads (Has v) to) (same_back all (Moved (padded to k) (Has xs)) (pads_of_multiples k to (Has xs) p whole)) (pads_alike (Moved k (Has xs)) (Has v) to (value_moved k xs v e))

-- what is short is so at its place
pub short_at : (k : ℕ) (S T : Numbers) → Same (Moved k S) T → ((n : ℕ) → T n → n ≤ 2 ^ 32) → IsShortAt k S
short_at k S T e short n h = short (k + n) ((e (k + n)).0 (n, h, refl))

pub sums_beside : (S T U : Numbers) → Same T U → Same (Sums S T) (Sums S U)
sums_beside S T U e = sums_alike S S T U (λ n. (λ h. h, λ h. h)) e

pub zero_alone : (xs ys : List ℕ) → Same (Has xs) (Has ys) → Same (Has ys) (Only 0) → Same (Has xs) (Only 0)
zero_alone xs ys e f = same_join (Has xs) (Has ys) (Only 0) e f
