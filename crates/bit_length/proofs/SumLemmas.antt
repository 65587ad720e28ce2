-- Sums and padding of runs.
use Rattle.std.proofs.Common.{◌≡◌, ℕ, ◌+◌, ◌-◌, ◌*◌, ◌/◌, ◌%◌, ◌^◌, ◌<◌, ◌≤◌, ◌⊎◌, ◌↔◌, inl, inr, List, [], ◌∷◌, ◌++◌, length, take, drop, get_or, refl, sym, ap, subst, ◌∙◌, arith, All, zero, suc}
use Rattle.std.proofs.lemmas.Nat.{div_below}
use Rattle.std.proofs.lemmas.List.Elements.{All-nil, All-get_or}
use Rattle.std.proofs.lemmas.List.{take_more, take-append-drop}
use Rattle.std.proofs.Math.Nat.{mul-le-mul_left, add-mul-div_right, add-mul-mod_self_left, mod-mod_of_dvd}
use Rattle.std.proofs.lemmas.Nat.Gcd.{dvd_of_mod-eq-zero}
use Rattle.bit_length.specs.declared.run.Run.{Run}
use Rattle.bit_length.specs.Lengths.{Numbers, Has, Same, Sums, Joins, Pads, padded, SomeLeaves}
use Rattle.bit_length.specs.Runs.{IsRun, InRun, InSome, Adds, AreRuns, AreRunsOf, members_of}
use Rattle.bit_length.proofs.MemberLemmas.{quotient_of, InSome-push, Adds-push, Adds-join, Adds-same}
use Rattle.bit_length.proofs.SetLemmas.{no_run, InSome-at, append_means, value_parts}

-- a multiple of `to` passes through padding
pub padded_past : (to x k : ℕ) → 0 < to → padded to (x + to * k) ≡ padded to x + to * k
padded_past to x k p =
    let e : x + to * k + (to - 1) ≡ x + (to - 1) + k * to = omega arith in
    ap (λ t. t / to * to) e ∙ ap (λ t. t * to) (add-mul-div_right (x + (to - 1)) k p) ∙ omega arith

past_step : (to s x q : ℕ) → 0 < to → s % to ≡ 0 → padded to (x + s * q) ≡ padded to x + s * q
past_step to s x q p m =
    let e : s ≡ to * (s / to) = omega arith in
    let f : s * q ≡ to * (s / to * q) = ap (λ t. t * q) e ∙ omega arith in
    ap (λ t. padded to (x + t)) f ∙ padded_past to x (s / to * q) p ∙ ap (λ t. padded to x + t) (sym f)

pub padded_residue : (to s x : ℕ) → 0 < to → s % to ≡ 0 → x < s → padded to x ≤ s
padded_residue to s x p m lt =
    let e : s ≡ s / to * to = omega arith in
    let f : (s / to + 1) * to ≡ s / to * to + to = omega arith in
    let d : (x + (to - 1)) / to < s / to + 1 = div_below (x + (to - 1)) to (s / to + 1) p (omega arith) in
    let l : to * ((x + (to - 1)) / to) ≤ to * (s / to) = mul-le-mul_left to (omega arith) in
    omega arith

pub pads_run : (s to : ℕ) (r : Run) (carry : ℕ) → 0 < to → s % to ≡ 0 → s * carry ≤ padded to r.residue →
    Same (InRun s (record { residue = padded to r.residue - s * carry; first = r.first + carry; last = r.last + carry })) (Pads (InRun s r) to)
pads_run s to r carry p m c n = (there, back)
  where
    there : InRun s (record { residue = padded to r.residue - s * carry; first = r.first + carry; last = r.last + carry }) n → Pads (InRun s r) to n
    there (q, low, high, e) = (
      r.residue + s * (q - carry),
      (q - carry, omega arith, omega arith, refl),
      let f = past_step to s r.residue (q - carry) p m in
          let g : s * q ≡ s * (q - carry + carry) = ap (λ t. s * t) (omega arith) in
          e ∙ (omega arith) ∙ sym f,
    )

    back : Pads (InRun s r) to n → InRun s (record { residue = padded to r.residue - s * carry; first = r.first + carry; last = r.last + carry }) n
    back (k, (q, low, high, e), f) =
        let g = past_step to s r.residue q p m in
        let h : n ≡ padded to r.residue + s * q = f ∙ ap (padded to) e ∙ g in (q + carry, omega arith, omega arith, omega arith)

pub pads_is_run : (s to : ℕ) (r : Run) (carry : ℕ) → 0 < to → s % to ≡ 0 → IsRun s r → padded to (r.residue + s * r.last) ≤ 2 ^ 32 → s * carry ≤ padded to r.residue → (padded to r.residue < s + s * carry) →
    IsRun s (record { residue = padded to r.residue - s * carry; first = r.first + carry; last = r.last + carry })
pads_is_run s to r carry p m (a, b, c) short low high =
    let f = past_step to s r.residue r.last p m in (omega arith, omega arith, omega arith)

-- ---- lists of runs

pub taken_more : (s : ℕ) (runs : List Run) (i : ℕ) → i < length runs → (n : ℕ) → InSome s (take (i + 1) runs) n ↔ (InSome s (take i runs) n ⊎ InRun s (get_or runs i no_run) n)
taken_more s runs i lt n =
    rw (take_more runs i no_run lt) (InSome-push s (take i runs) (get_or runs i no_run) n)

pub sums_more : (s : ℕ) (S : Numbers) (runs : List Run) (i : ℕ) → i < length runs → (n : ℕ) → Sums S (InSome s (take (i + 1) runs)) n ↔ (Sums S (InSome s (take i runs)) n ⊎ Sums S (InRun s (get_or runs i no_run)) n)
sums_more s S runs i lt n = (there, back)
  where
    there : Sums S (InSome s (take (i + 1) runs)) n → Sums S (InSome s (take i runs)) n ⊎ Sums S (InRun s (get_or runs i no_run)) n
    there (a, b, x, y, e) = elim ((taken_more s runs i lt b).0 y) [
      | inl k ↦ inl (a, b, x, k, e)
      | inr k ↦ inr (a, b, x, k, e)
    ]

    back : Sums S (InSome s (take i runs)) n ⊎ Sums S (InRun s (get_or runs i no_run)) n → Sums S (InSome s (take (i + 1) runs)) n
    back (inl (a, b, x, y, e)) = (a, b, x, (taken_more s runs i lt b).1 (inl y), e)
    back (inr (a, b, x, y, e)) = (a, b, x, (taken_more s runs i lt b).1 (inr y), e)

pub sums_more_left : (s : ℕ) (T : Numbers) (runs : List Run) (i : ℕ) → i < length runs → (n : ℕ) → Sums (InSome s (take (i + 1) runs)) T n ↔ (Sums (InSome s (take i runs)) T n ⊎ Sums (InRun s (get_or runs i no_run)) T n)
sums_more_left s T runs i lt n = (there, back)
  where
    there : Sums (InSome s (take (i + 1) runs)) T n → Sums (InSome s (take i runs)) T n ⊎ Sums (InRun s (get_or runs i no_run)) T n
    there (a, b, x, y, e) = elim ((taken_more s runs i lt a).0 x) [
      | inl k ↦ inl (a, b, k, y, e)
      | inr k ↦ inr (a, b, k, y, e)
    ]

    back : Sums (InSome s (take i runs)) T n ⊎ Sums (InRun s (get_or runs i no_run)) T n → Sums (InSome s (take (i + 1) runs)) T n
    back (inl (a, b, x, y, e)) = (a, b, (taken_more s runs i lt a).1 (inl x), y, e)
    back (inr (a, b, x, y, e)) = (a, b, (taken_more s runs i lt a).1 (inr x), y, e)

pub pads_more : (s to : ℕ) (runs : List Run) (i : ℕ) → i < length runs → (n : ℕ) → Pads (InSome s (take (i + 1) runs)) to n ↔ (Pads (InSome s (take i runs)) to n ⊎ Pads (InRun s (get_or runs i no_run)) to n)
pads_more s to runs i lt n = (there, back)
  where
    there : Pads (InSome s (take (i + 1) runs)) to n → Pads (InSome s (take i runs)) to n ⊎ Pads (InRun s (get_or runs i no_run)) to n
    there (a, x, e) = elim ((taken_more s runs i lt a).0 x) [ inl k ↦ inl (a, k, e) | inr k ↦ inr (a, k, e) ]

    back : Pads (InSome s (take i runs)) to n ⊎ Pads (InRun s (get_or runs i no_run)) to n → Pads (InSome s (take (i + 1) runs)) to n
    back (inl (a, x, e)) = (a, (taken_more s runs i lt a).1 (inl x), e)
    back (inr (a, x, e)) = (a, (taken_more s runs i lt a).1 (inr x), e)

pub either_same : (S T U V : Numbers) → Same S V → ((n : ℕ) → U n ↔ (T n ⊎ V n)) → (n : ℕ) → U n ↔ (T n ⊎ S n)
either_same S T U V e more n = (
  λ h. elim ((more n).0 h) [ inl k ↦ inl k | inr k ↦ inr ((e n).1 k) ],
  λ h. (more n).1 (elim h as (λ _. T n ⊎ V n) [ inl k ↦ inl k | inr k ↦ inr ((e n).0 k) ]),
)

-- what was added to nothing is all
pub from_nothing : (s : ℕ) (runs : List Run) (S : Numbers) → Adds s [] runs S → AreRunsOf s runs S
from_nothing s runs S adds = record {
  each = adds.each (All-nil (IsRun s));
  same = λ n. (
    λ h. elim ((adds.same n).0 h) [ inl k ↦ absurd k | inr k ↦ k ],
    λ h. (adds.same n).1 (inr h),
  );
}

-- ---- all runs and a number

-- the sums with the runs in three parts
sums_parts : (s : ℕ) (O : Numbers) (k : ℕ) (others : List Run) (last : Run) → Same (Joins (Joins (Sums O (InSome s (drop k others))) (Sums O (InRun s last))) (Sums O (InSome s (take k others)))) (Sums O (InSome s (last ∷ others)))
sums_parts s O k others last n = (there, back)
  where
    parts : (b : ℕ) → InSome s others b ↔ (InSome s (take k others) b ⊎ InSome s (drop k others) b)
    parts b = subst (λ xs. InSome s xs b ↔ (InSome s (take k others) b ⊎ InSome s (drop k others) b)) (take-append-drop k others) (append_means s (take k others) (drop k others) b)

    there : (Sums O (InSome s (drop k others)) n ⊎ Sums O (InRun s last) n) ⊎ Sums O (InSome s (take k others)) n → Sums O (InSome s (last ∷ others)) n
    there (inl (inl (a, b, x, y, e))) = (a, b, x, inr ((parts b).1 (inr y)), e)
    there (inl (inr (a, b, x, y, e))) = (a, b, x, inl y, e)
    there (inr (a, b, x, y, e)) = (a, b, x, inr ((parts b).1 (inl y)), e)

    back : Sums O (InSome s (last ∷ others)) n → (Sums O (InSome s (drop k others)) n ⊎ Sums O (InRun s last) n) ⊎ Sums O (InSome s (take k others)) n
    back (a, b, x, inl y, e) = inl (inr (a, b, x, y, e))
    back (a, b, x, inr y, e) = elim ((parts b).0 y) [ inl h ↦ inr (a, b, x, h, e) | inr h ↦ inl (inl (a, b, x, h, e)) ]

-- those above, the last, and those below are pushed
pub moved_runs : (s : ℕ) (O : Numbers) (k : ℕ) (others none a b c below above : List Run) (last r : Run) → none ≡ [] → below ≡ take k others → above ≡ drop k others →
    Adds s none a (Sums O (InSome s above)) → b ≡ a ++ r ∷ [] → IsRun s r → Same (InRun s r) (Sums O (InRun s last)) → Adds s b c (Sums O (InSome s below)) → AreRunsOf s c (Sums O (InSome s (last ∷ others)))
moved_runs s O k others none a b c below above last r en eb ea x e run same y =
    let P : Numbers = Sums O (InSome s (drop k others)) in
    let Q : Numbers = Sums O (InRun s last) in
    let R : Numbers = Sums O (InSome s (take k others)) in
    let first : Adds s [] a P = subst (λ xs. Adds s [] a (Sums O (InSome s xs))) ea (subst (λ xs. Adds s xs a (Sums O (InSome s above))) en x) in
    let second : Adds s [] (a ++ r ∷ []) (Joins P Q) = Adds-push s [] a r P (Joins P Q) first run (either_same (InRun s r) P (Joins P Q) Q same (λ n. (λ h. h, λ h. h))) in
    let third : Adds s (a ++ r ∷ []) c R = subst (λ xs. Adds s (a ++ r ∷ []) c (Sums O (InSome s xs))) eb (subst (λ xs. Adds s xs c (Sums O (InSome s below))) e y) in
    from_nothing s c (Sums O (InSome s (last ∷ others))) (Adds-same s [] c (Joins (Joins P Q) R) (Sums O (InSome s (last ∷ others))) (Adds-join s [] (a ++ r ∷ []) c (Joins P Q) R second third) (sums_parts s O k others last))

-- a member of some of the runs is of all
pub of_below : (s k : ℕ) (others : List Run) (last : Run) (n : ℕ) → InSome s (take k others) n → InSome s (last ∷ others) n
of_below s k others last n h = inr (subst (λ xs. InSome s xs n) (take-append-drop k others) ((append_means s (take k others) (drop k others) n).1 (inl h)))

pub of_above : (s k : ℕ) (others : List Run) (last : Run) (n : ℕ) → InSome s (drop k others) n → InSome s (last ∷ others) n
of_above s k others last n h = inr (subst (λ xs. InSome s xs n) (take-append-drop k others) ((append_means s (take k others) (drop k others) n).1 (inr h)))

-- ---- remainders

-- with a common divisor of the step and k, the remainders come again after k / g quotients
pub leaves_again : (s k r g : ℕ) (run : Run) → 0 < k → s % g ≡ 0 → k % g ≡ 0 → SomeLeaves (InRun s run) k r → (q : ℕ) × (run.first ≤ q) × (q ≤ run.last) × (q < run.first + k / g) × ((run.residue + s * q) % k ≡ r)
leaves_again s k r g run pk sg kg (n, (q, low, high, e), f) =
    let p : ℕ = k / g in
    let ke : k ≡ g * (k / g) = omega arith in
    let se : s ≡ g * (s / g) = omega arith in
    let pp : 0 < k / g = positive g (k / g) k (sym ke) pk in
    let t : s * (k / g) ≡ k * (s / g) = ap (λ x. x * (k / g)) se ∙ turn g (s / g) (k / g) ∙ ap (λ x. x * (s / g)) (sym ke) in
    let h : q ≡ run.first + (q - run.first) % (k / g) + k / g * ((q - run.first) / (k / g)) = omega arith in
    let i : s * (k / g) * ((q - run.first) / (k / g)) ≡ k * (s / g) * ((q - run.first) / (k / g)) = ap (λ x. x * ((q - run.first) / (k / g))) t in
    let j : n ≡ run.residue + s * (run.first + (q - run.first) % (k / g)) + k * (s / g * ((q - run.first) / (k / g))) = e ∙ ap (λ x. run.residue + s * x) h ∙ omega arith in (
      run.first + (q - run.first) % (k / g),
      omega arith,
      omega arith,
      omega arith,
      sym (add-mul-mod_self_left (run.residue + s * (run.first + (q - run.first) % (k / g))) k (s / g * ((q - run.first) / (k / g)))) ∙ sym (ap (λ x. x % k) j) ∙ f,
    )
  where
    positive : (a b c : ℕ) → a * b ≡ c → 0 < c → 0 < b
    positive a zero c x y = absurd (omega arith)
    positive a (suc b) c x y = omega arith

    turn : (a b c : ℕ) → a * b * c ≡ a * c * b
    turn a b c = omega arith

-- every member leaves the residue's remainder modulo a common divisor
pub leaves_apart : (s k r g : ℕ) (run : Run) → s % g ≡ 0 → k % g ≡ 0 → SomeLeaves (InRun s run) k r → run.residue % g ≡ r % g
leaves_apart s k r g run sg kg (n, (q, low, high, e), f) =
    let se : s ≡ g * (s / g) = omega arith in
    let h : n ≡ run.residue + g * (s / g * q) = e ∙ ap (λ x. run.residue + x * q) se ∙ omega arith in
    sym (add-mul-mod_self_left run.residue g (s / g * q)) ∙ sym (ap (λ x. x % g) h) ∙ sym (mod-mod_of_dvd g n (dvd_of_mod-eq-zero g kg)) ∙ ap (λ x. x % g) f

-- ---- the greatest sums are short

pub sum_short : (s : ℕ) (a b : Run) → ((m n : ℕ) → InRun s a m → InRun s b n → m + n ≤ 2 ^ 32) → a.first ≤ a.last → b.first ≤ b.last → a.residue + s * a.last + (b.residue + s * b.last) ≤ 2 ^ 32
sum_short s a b short oa ob =
    short (a.residue + s * a.last) (b.residue + s * b.last) (a.last, oa, omega arith, refl) (b.last, ob, omega arith, refl)

pub factor_positive : (a b c : ℕ) → a * b ≡ c → 0 < c → 0 < b
factor_positive a zero c e p = absurd (omega arith)
factor_positive a (suc b) c e p = omega arith

pub wide_short : (s w : ℕ) (a b : Run) → ((m n : ℕ) → InRun s a m → InRun w b n → m + n ≤ 2 ^ 32) → a.first ≤ a.last → b.first ≤ b.last → a.residue + s * a.last + (b.residue + w * b.last) ≤ 2 ^ 32
wide_short s w a b short oa ob =
    short (a.residue + s * a.last) (b.residue + w * b.last) (a.last, oa, omega arith, refl) (b.last, ob, omega arith, refl)

pub pad_short : (s to : ℕ) (runs : List Run) (i : ℕ) → i < length runs → All (IsRun s) runs → ((n : ℕ) → Pads (InSome s runs) to n → n ≤ 2 ^ 32) → padded to ((get_or runs i no_run).residue + s * (get_or runs i no_run).last) ≤ 2 ^ 32
pad_short s to runs i lt all short =
    let r : Run = get_or runs i no_run in
    short (padded to ((get_or runs i no_run).residue + s * (get_or runs i no_run).last)) ((get_or runs i no_run).residue + s * (get_or runs i no_run).last, InSome-at s runs i ((get_or runs i no_run).residue + s * (get_or runs i no_run).last) lt ((get_or runs i no_run).last, (All-get_or (IsRun s) runs i no_run lt all).1, omega arith, refl), refl)

-- ---- members that are multiples

multiple_of : (s to r q : ℕ) → s % to ≡ 0 → r % to ≡ 0 → (r + s * q) % to ≡ 0
multiple_of s to r q a b =
    let e : s ≡ to * (s / to) = omega arith in
    let f : s * q ≡ to * (s / to * q) = ap (λ t. t * q) e ∙ omega arith in
    ap (λ t. (r + t) % to) f ∙ add-mul-mod_self_left r to (s / to * q) ∙ b

padded_multiple : (to n : ℕ) → 0 < to → n % to ≡ 0 → padded to n ≡ n
padded_multiple to n p m =
    let e : n ≡ to * (n / to) = omega arith in
    let f : n + (to - 1) ≡ to - 1 + to * (n / to) = omega arith in
    ap (λ t. t * to) (quotient_of (to - 1) to (n / to) (n + (to - 1)) (omega arith) f) ∙ omega arith

pub all_multiples : (s to : ℕ) (runs : List Run) → s % to ≡ 0 → ((k : ℕ) → k < length runs → (get_or runs k no_run).residue % to ≡ 0) → (n : ℕ) → InSome s runs n → n % to ≡ 0
all_multiples s to [] a each n h = absurd h
all_multiples s to (r ∷ runs) a each n (inl (q, low, high, e)) =
    ap (λ x. x % to) e ∙ multiple_of s to r.residue q a (each 0 (omega arith))
all_multiples s to (r ∷ runs) a each n (inr h) =
    all_multiples s to runs a (λ k lt. each (suc k) (omega arith)) n h

pads_nothing : (S : Numbers) (to : ℕ) → 0 < to → ((n : ℕ) → S n → n % to ≡ 0) → Same S (Pads S to)
pads_nothing S to p all n = (
  λ h. (n, h, sym (padded_multiple to n p (all n h))),
  λ (m, h, e). subst S (sym (e ∙ padded_multiple to m p (all m h))) h,
)

pub residues_behind : (to : ℕ) (last : Run) (others : List Run) → last.residue % to ≡ 0 → ((k : ℕ) → k < length others → (get_or others k no_run).residue % to ≡ 0) → (k : ℕ) → k < length (last ∷ others) → (get_or (last ∷ others) k no_run).residue % to ≡ 0
residues_behind to last others b each zero lt = b
residues_behind to last others b each (suc k) lt = each k (omega arith)

-- where the step and all residues are multiples of `to`
pub all_padded : (s to : ℕ) (others : List Run) (last : Run) (v : List ℕ) → AreRuns s (others ++ last ∷ []) → members_of s (others ++ last ∷ []) ≡ v → 0 < to → s % to ≡ 0 → last.residue % to ≡ 0 →
    ((k : ℕ) → k < length others → (get_or others k no_run).residue % to ≡ 0) → Same (Has v) (Pads (Has v) to)
all_padded s to others last v set view p a b each =
    pads_nothing (Has v) to p (λ n h. all_multiples s to (last ∷ others) a (residues_behind to last others b each) n ((value_parts s others last v set view n).0 h))
