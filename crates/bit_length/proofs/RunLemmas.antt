-- What calls on runs give, over plain numbers.
use Rattle.std.proofs.Common.{◌≡◌, ℕ, zero, suc, ◌+◌, ◌-◌, ◌*◌, ◌/◌, ◌%◌, ◌^◌, ◌<◌, ◌≤◌, ◌⊎◌, ◌↔◌, inl, inr, refl, sym, ap, ◌∙◌, subst, arith, min, max, Option, Some, None}
use Rattle.std.proofs.lemmas.Bool.{cases_lt}
use Rattle.std.proofs.lemmas.Nat.{mod-mul-add}
use Rattle.std.proofs.Math.Nat.{mul-le-mul_left, mul-le-mul_right, mul-div-le, le-div_iff_mul-le}
use Rattle.bit_length.specs.declared.run.Run.{Run}
use Rattle.bit_length.specs.Lengths.{Same, Only, Sums, Repeats, IsNext}
use Rattle.bit_length.specs.Runs.{IsRun, InRun}

-- the sums of two runs, with what is carried over from their residues
pub sums_of_runs : (s : ℕ) (a b : Run) (carry : ℕ) → s * carry ≤ a.residue + b.residue → a.first ≤ a.last → b.first ≤ b.last →
    Same (InRun s (record { residue = a.residue + b.residue - s * carry; first = a.first + b.first + carry; last = a.last + b.last + carry })) (Sums (InRun s a) (InRun s b))
sums_of_runs s a b carry c oa ob n = (there, back)
  where
    there : InRun s (record { residue = a.residue + b.residue - s * carry; first = a.first + b.first + carry; last = a.last + b.last + carry }) n → Sums (InRun s a) (InRun s b) n
    there (q, low, high, e) = elim (cases_lt a.last (q - carry - b.first)) [
      | inl h ↦ (
        a.residue + s * a.last,
        b.residue + s * (q - carry - a.last),
        (a.last, oa, omega arith, refl),
        (q - carry - a.last, omega arith, omega arith, refl),
        split a.last (q - carry - a.last) (omega arith),
      )
      | inr h ↦ (
        a.residue + s * (q - carry - b.first),
        b.residue + s * b.first,
        (q - carry - b.first, omega arith, h, refl),
        (b.first, omega arith, ob, refl),
        split (q - carry - b.first) b.first (omega arith),
      )
    ]
      where
        split : (x y : ℕ) → q ≡ x + y + carry → n ≡ a.residue + s * x + (b.residue + s * y)
        split x y f =
            let g : s * q ≡ s * (x + y + carry) = ap (λ t. s * t) f in omega arith

    back : Sums (InRun s a) (InRun s b) n → InRun s (record { residue = a.residue + b.residue - s * carry; first = a.first + b.first + carry; last = a.last + b.last + carry }) n
    back (x, y, (i, li, hi, ei), (j, lj, hj, ej), e) = (i + j + carry, omega arith, omega arith, omega arith)

-- the least quotient whose member is no less than n
pub quotient_reaches : (r s n q : ℕ) → 0 < s → ((n - r) / s + min 1 ((n - r) % s) ≤ q) ↔ (n ≤ r + s * q)
quotient_reaches r s n q p = (there, back)
  where
    there : (n - r) / s + min 1 ((n - r) % s) ≤ q → n ≤ r + s * q
    there h =
        let m : s * ((n - r) / s + min 1 ((n - r) % s)) ≤ s * q = mul-le-mul_left s h in
        let l : (n - r) % s ≤ s * min 1 ((n - r) % s) = small ((n - r) % s) s (omega arith) in
        omega arith
      where
        small : (x s : ℕ) → x < s → x ≤ s * min 1 x
        small zero s lt = omega arith
        small (suc x) s lt = let e : min 1 (suc x) ≡ 1 = omega arith in rw e (omega arith)

    back : n ≤ r + s * q → (n - r) / s + min 1 ((n - r) % s) ≤ q
    back h = elim (cases_lt q ((n - r) / s + min 1 ((n - r) % s))) [
      | inr k ↦ k
      | inl k ↦ absurd (over k (cases_lt 0 ((n - r) % s)))
    ]
      where
        over : q < (n - r) / s + min 1 ((n - r) % s) → (0 < (n - r) % s) ⊎ ((n - r) % s ≤ 0) → ⊥
        over k (inl z) = let m : s * q ≤ s * ((n - r) / s) = mul-le-mul_left s (omega arith) in omega arith
        over k (inr z) =
            let m : s * (q + 1) ≤ s * ((n - r) / s) = mul-le-mul_left s (omega arith) in omega arith

pub next_in_run : (r : Run) (s n : ℕ) → 0 < s → (o : Option ℕ) (q : ℕ) → q ≡ max ((n - r.residue) / s + min 1 ((n - r.residue) % s)) r.first → r.first ≤ r.last →
    ((q ≤ r.last) × (o ≡ Some (r.residue + s * q))) ⊎ ((r.last < q) × (o ≡ None)) → IsNext (InRun s r) n o
next_in_run r s n p o q e le (inl (h, is)) = subst (IsNext (InRun s r) n) (sym is) (
  (q, omega arith, h, refl),
  (quotient_reaches r.residue s n q p).0 (omega arith),
  λ k (i, low, high, f) l. let w = (quotient_reaches r.residue s n i p).1 (omega arith) in let m : s * q ≤ s * i = mul-le-mul_left s (omega arith) in omega arith,
)
next_in_run r s n p o q e le (inr (h, is)) = subst (IsNext (InRun s r) n) (sym is) (λ k (i, low, high, f). elim (cases_lt k n) [
  | inl y ↦ y
  | inr y ↦ absurd (let w = (quotient_reaches r.residue s n i p).1 (omega arith) in omega arith)
])

-- ---- a run in classes of its quotients

-- the quotients of a run that leave a remainder below j
abbrev pub InClasses : ℕ → ℕ → ℕ → Run → ℕ → Type 0
InClasses s m j r n = (q : ℕ) × (r.first ≤ q) × (q ≤ r.last) × (n ≡ r.residue + s * q) × (q % m < j)

abbrev pub class_of : ℕ → ℕ → ℕ → Run → Run
class_of s m j r = record { residue = r.residue + s * j; first = (r.first + (m - 1 - j)) / m; last = (r.last - j) / m }

pub class_is_run : (s m j : ℕ) (r : Run) → j < m → IsRun s r → r.first + m ≤ r.last + 1 → IsRun (s * m) (class_of s m j r)
class_is_run s m j r lt (a, b, c) h = (
  let k : s * (j + 1) ≤ s * m = mul-le-mul_left s (omega arith) in omega arith,
  div_up (r.first + (m - 1 - j)) (r.last - j) m (omega arith) (omega arith),
  let k : s * (m * ((r.last - j) / m)) ≤ s * (r.last - j) = mul-le-mul_left s (omega arith) in
      let l : s * (r.last - j) + s * j ≡ s * r.last = product s (r.last - j) j r.last (omega arith) in
      omega arith,
)
  where
    div_up : (x y to : ℕ) → 0 < to → x ≤ y → x / to ≤ y / to
    div_up x y to p le = elim (cases_lt (y / to) (x / to)) [
      | inr h ↦ h
      | inl h ↦ absurd (let m : to * (y / to + 1) ≤ to * (x / to) = mul-le-mul_left to (omega arith) in omega arith)
    ]

    product : (s x y z : ℕ) → x + y ≡ z → s * x + s * y ≡ s * z
    product s x y z e = let f : s * (x + y) ≡ s * z = ap (λ t. s * t) e in omega arith

-- one more class
pub classes_more : (s m j : ℕ) (r : Run) (n : ℕ) → j < m → r.first + m ≤ r.last + 1 → InClasses s m (j + 1) r n ↔ (InClasses s m j r n ⊎ InRun (s * m) (class_of s m j r) n)
classes_more s m j r n lt h = (there, back)
  where
    there : InClasses s m (j + 1) r n → InClasses s m j r n ⊎ InRun (s * m) (class_of s m j r) n
    there (q, low, high, e, l) = elim (cases_lt (q % m) j) [
      | inl k ↦ inl (q, low, high, e, k)
      | inr k ↦ inr (q / m, least (omega arith), most (omega arith), value (omega arith))
    ]
      where
        least : q ≡ j + m * (q / m) → (r.first + (m - 1 - j)) / m ≤ q / m
        least f = elim (cases_lt (q / m) ((r.first + (m - 1 - j)) / m)) [
          | inr k ↦ k
          | inl k ↦ absurd (let w : m * (q / m + 1) ≤ m * ((r.first + (m - 1 - j)) / m) = mul-le-mul_left m (omega arith) in omega arith)
        ]

        most : q ≡ j + m * (q / m) → q / m ≤ (r.last - j) / m
        most f = elim (cases_lt ((r.last - j) / m) (q / m)) [
          | inr k ↦ k
          | inl k ↦ absurd (let w : m * ((r.last - j) / m + 1) ≤ m * (q / m) = mul-le-mul_left m (omega arith) in omega arith)
        ]

        value : q ≡ j + m * (q / m) → n ≡ r.residue + s * j + s * m * (q / m)
        value f = let g : s * q ≡ s * (j + m * (q / m)) = ap (λ t. s * t) f in omega arith

    back : InClasses s m j r n ⊎ InRun (s * m) (class_of s m j r) n → InClasses s m (j + 1) r n
    back (inl (q, low, high, e, l)) = (q, low, high, e, omega arith)
    back (inr (k, low, high, e)) =
        let a : m * ((r.first + (m - 1 - j)) / m) ≤ m * k = mul-le-mul_left m low in
        let b : m * k ≤ m * ((r.last - j) / m) = mul-le-mul_left m high in
        let f : m * k + j ≡ k * m + j = omega arith in
        (m * k + j, omega arith, omega arith, omega arith, let g = ap (λ t. t % m) f ∙ mod-mul-add k m j lt in omega arith)

pub classes_none : (s m : ℕ) (r : Run) (n : ℕ) → InClasses s m 0 r n → ⊥
classes_none s m r n (q, low, high, e, lt) = omega arith

pub classes_all : (s m : ℕ) (r : Run) → 0 < m → Same (InClasses s m m r) (InRun s r)
classes_all s m r p n = (λ (q, low, high, e, lt). (q, low, high, e), λ (q, low, high, e). (q, low, high, e, omega arith))

-- ---- a run member by member

-- the members whose quotients are below j
abbrev pub InRunBelow : ℕ → ℕ → Run → ℕ → Type 0
InRunBelow s j r n = (q : ℕ) × (r.first ≤ q) × (q < j) × (n ≡ r.residue + s * q)

pub below_none : (s : ℕ) (r : Run) (n : ℕ) → InRunBelow s r.first r n → ⊥
below_none s r n (q, low, high, e) = omega arith

pub below_all : (s : ℕ) (r : Run) → Same (InRunBelow s (r.last + 1) r) (InRun s r)
below_all s r n = (λ (q, low, high, e). (q, low, omega arith, e), λ (q, low, high, e). (q, low, omega arith, e))

pub below_more : (s j : ℕ) (r : Run) (n : ℕ) → r.first ≤ j → InRunBelow s (j + 1) r n ↔ (InRunBelow s j r n ⊎ (n ≡ r.residue + s * j))
below_more s j r n le = (
  λ (q, low, high, e). elim (cases_lt q j) [
    | inl h ↦ inl (q, low, h, e)
    | inr h ↦ inr (let f : q ≡ j = omega arith in e ∙ ap (λ t. r.residue + s * t) f)
  ],
  λ h. elim h [
    | inl (q, low, high, e) ↦ (q, low, omega arith, e)
    | inr e ↦ (j, le, omega arith, e)
  ],
)

-- the member of one more quotient, as a run of its own
pub below_single : (s j w m : ℕ) (r x : Run) → r.first ≤ j → Same (InRun w x) (Only m) → m ≡ r.residue + s * j → (n : ℕ) → InRunBelow s (j + 1) r n ↔ (InRunBelow s j r n ⊎ InRun w x n)
below_single s j w m r x le only e n = (
  λ h. elim ((below_more s j r n le).0 h) [ inl k ↦ inl k | inr k ↦ inr ((only n).1 (k ∙ sym e)) ],
  λ h. (below_more s j r n le).1 (elim h as (λ _. InRunBelow s j r n ⊎ (n ≡ r.residue + s * j)) [
    | inl k ↦ inl k
    | inr k ↦ inr ((only n).0 k ∙ e)
  ]),
)

pub last_bound : (s : ℕ) (r : Run) → IsRun s r → r.last ≤ 2 ^ 32
last_bound s r (a, b, c) = let m : 1 * r.last ≤ s * r.last = mul-le-mul_right r.last (omega arith) in omega arith

-- ---- the sums of some members of a run

-- a run is the same where as much is moved from the residue to the quotients
pub carried : (s : ℕ) (a b : Run) (carry : ℕ) →
    b.residue ≡ a.residue + s * carry → a.first ≡ b.first + carry → a.last ≡ b.last + carry →
    Same (InRun s a) (InRun s b)
carried s a b carry e f l n = (
  λ (q, low, high, is). (
    q - carry,
    omega arith,
    omega arith,
    let g : s * q ≡ s * (q - carry + carry) = ap (λ t. s * t) (omega arith) in omega arith,
  ),
  λ (q, low, high, is). (q + carry, omega arith, omega arith, omega arith),
)

-- the sums of some members of a run, with nothing carried over
abbrev pub times : Run → ℕ → Run
times r n = record { residue = r.residue * n; first = r.first * n; last = r.last * n }

pub times_sums : (s : ℕ) (r : Run) → r.first ≤ r.last → (n : ℕ) →
    Same (InRun s (times r n)) (Repeats (InRun s r) n)
times_sums s r le zero k = (
  λ (q, low, high, e). let z : s * q ≡ s * 0 = ap (λ t. s * t) (omega arith) in omega arith,
  λ e. (0, omega arith, omega arith, omega arith),
)
times_sums s r le (suc n) k = (
  λ h. let (a, b, x, y, e) = (sum k).0 ((turned k).0 h) in (a, b, x, (times_sums s r le n b).0 y, e),
  λ (a, b, x, y, e). (turned k).1 ((sum k).1 (a, b, x, (times_sums s r le n b).1 y, e)),
)
  where
    whole : Run
    whole = record {
      residue = r.residue + r.residue * n - s * 0;
      first = r.first + r.first * n + 0;
      last = r.last + r.last * n + 0;
    }

    sum : Same (InRun s whole) (Sums (InRun s r) (InRun s (times r n)))
    sum = sums_of_runs s r (times r n) 0 (omega arith) le (mul-le-mul_right n le)

    turned : Same (InRun s (times r (suc n))) (InRun s whole)
    turned = carried s (times r (suc n)) whole 0 (omega arith) (omega arith) (omega arith)

-- what is carried over from the residues brings them below the step
abbrev pub times_carried : ℕ → Run → ℕ → Run
times_carried s r n = record {
  residue = r.residue * n % s;
  first = r.first * n + r.residue * n / s;
  last = r.last * n + r.residue * n / s;
}

pub times_repeats : (s : ℕ) (r : Run) (n : ℕ) → IsRun s r →
    Same (InRun s (times_carried s r n)) (Repeats (InRun s r) n)
times_repeats s r n (a, b, c) k = (
  λ h. (times_sums s r b n k).0 ((carry k).0 h),
  λ h. (carry k).1 ((times_sums s r b n k).1 h),
)
  where
    carry : Same (InRun s (times_carried s r n)) (InRun s (times r n))
    carry = carried s (times_carried s r n) (times r n) (r.residue * n / s) (omega arith) refl refl

-- ---- the sums of a run and one of a multiple of its step

-- nothing carried over
abbrev wide : ℕ → Run → Run → Run
wide m a o = record {
  residue = a.residue + o.residue;
  first = a.first + m * o.first;
  last = a.last + m * o.last;
}

-- each quotient between the ends is a sum: where the first run has no fewer members than the step
-- is wider, they leave no gap
wide_sums : (s m : ℕ) (a o : Run) → 0 < m → a.first + m ≤ a.last + 1 → o.first ≤ o.last → Same (InRun s (wide m a o)) (Sums (InRun s a) (InRun (s * m) o))
wide_sums s m a o pm long oo n = (there, back)
  where
    at : (t p q : ℕ) → n ≡ a.residue + o.residue + s * t → t ≡ p + m * q → a.first ≤ p → p ≤ a.last → o.first ≤ q → q ≤ o.last → Sums (InRun s a) (InRun (s * m) o) n
    at t p q e f la ha lo ho = (
      a.residue + s * p,
      o.residue + s * m * q,
      (p, la, ha, refl),
      (q, lo, ho, refl),
      let g : s * t ≡ s * (p + m * q) = ap (λ x. s * x) f in omega arith,
    )

    there : InRun s (wide m a o) n → Sums (InRun s a) (InRun (s * m) o) n
    there (t, low, high, e) = elim (cases_lt o.last ((t - a.first) / m)) [
      | inl h ↦
          let i : o.last * m ≤ t - a.first = (le-div_iff_mul-le pm).0 (omega arith) in
          at t (t - m * o.last) o.last e (omega arith) (omega arith) (omega arith) oo (omega arith)
      | inr h ↦
          let d : m * ((t - a.first) / m) ≤ t - a.first = mul-div-le (t - a.first) m in
          let r : (t - a.first) % m < m = omega arith in
          let w : t - a.first ≡ m * ((t - a.first) / m) + (t - a.first) % m = omega arith in
          let l : o.first ≤ (t - a.first) / m = (le-div_iff_mul-le pm).1 (omega arith) in
          at t (t - m * ((t - a.first) / m)) ((t - a.first) / m) e (omega arith) (omega arith) (omega arith) l h
    ]

    back : Sums (InRun s a) (InRun (s * m) o) n → InRun s (wide m a o) n
    back (x, y, (p, lp, hp, ep), (q, lq, hq, eq), e) =
        let f : m * o.first ≤ m * q = mul-le-mul_left m lq in
        let g : m * q ≤ m * o.last = mul-le-mul_left m hq in
        let h : s * m * q ≡ s * (m * q) = omega arith in (p + m * q, omega arith, omega arith, omega arith)

abbrev pub wide_carried : ℕ → ℕ → Run → Run → Run
wide_carried s m a o = record {
  residue = (a.residue + o.residue) % s;
  first = a.first + m * o.first + (a.residue + o.residue) / s;
  last = a.last + m * o.last + (a.residue + o.residue) / s;
}

pub wide_carried_sums : (s m : ℕ) (a o : Run) → 0 < s → 0 < m → a.first + m ≤ a.last + 1 → o.first ≤ o.last → Same (InRun s (wide_carried s m a o)) (Sums (InRun s a) (InRun (s * m) o))
wide_carried_sums s m a o ps pm long oo n = (
  λ h. (wide_sums s m a o pm long oo n).0 ((carry n).0 h),
  λ h. (carry n).1 ((wide_sums s m a o pm long oo n).1 h),
)
  where
    carry : Same (InRun s (wide_carried s m a o)) (InRun s (wide m a o))
    carry = carried s (wide_carried s m a o) (wide m a o) ((a.residue + o.residue) / s) (omega arith) refl refl

pub wide_last : (s m : ℕ) (a o : Run) → 0 < s → a.residue + s * a.last + (o.residue + s * m * o.last) ≤ 2 ^ 32 → a.last + m * o.last + (a.residue + o.residue) / s ≤ 2 ^ 32
wide_last s m a o p short =
    let one : 1 * (a.last + m * o.last + (a.residue + o.residue) / s) ≤ s * (a.last + m * o.last + (a.residue + o.residue) / s) = mul-le-mul_right (a.last + m * o.last + (a.residue + o.residue) / s) (omega arith) in
    let d : s * ((a.residue + o.residue) / s) ≤ a.residue + o.residue = mul-div-le (a.residue + o.residue) s in
    omega arith
