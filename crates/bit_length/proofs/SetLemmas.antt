-- What a set's runs mean as a whole, and what a loop over them keeps.
use Rattle.std.proofs.Common.{◌≡◌, ℕ, zero, suc, ◌+◌, ◌-◌, ◌*◌, ◌/◌, ◌%◌, ◌^◌, ◌<◌, ◌≤◌, ◌⊎◌, ◌↔◌, inl, inr, true, false, List, [], ◌∷◌, ◌++◌, length, length-append, take, get_or, refl, sym, ap, ◌∙◌, subst, arith, All, min, max, Option, Some, None, Result, Ok, Err, IfOk}
use Rattle.std.proofs.lemmas.Result.{IfOk-weaker}
use Rattle.std.proofs.lemmas.Bool.{cases_lt, false≢true}
use Rattle.std.proofs.lemmas.List.{take_more, take_all, get_or_append_left}
use Rattle.std.proofs.lemmas.List.Elements.{All-append, All-get_or, All-tail, All-head, All-nil, All-cons}
use Rattle.std.proofs.Math.Nat.{mul-le-mul_left}
use Rattle.bit_length.specs.declared.run.Run.{Run}
use Rattle.bit_length.specs.Lengths.{Numbers, Has, Same, Only, Delimited, Multiples, IsNext, IsLeast, IsGreatest, IsLongBeyond, Joins, Sums, Repeats, Pads, padded, SomeLeaves}
use Rattle.bit_length.specs.declared.LengthError.{LengthError}
use Rattle.bit_length.specs.declared.LengthError.TheVariants as error
use Rattle.bit_length.specs.Members.{lesser_of}
use Rattle.bit_length.specs.Runs.{in_run, IsRun, IsBefore, InRun, InSome, members_of, AreRuns, AreRunsOf, IsMerged}
use Rattle.bit_length.specs.Ascending.{Ascend}
use Rattle.std.specs.List.{list_any}
use Rattle.bit_length.proofs.AscendingLemmas.{below_ascends}
use Rattle.bit_length.proofs.MemberLemmas.{members_are, below-has, InSome-push, InRun-from_test, test_from_InRun}

-- the last run, and the first others
abbrev pub front : List Run → Run → ℕ → List Run
front others last i = last ∷ take i others

pub last_run : (s : ℕ) (others : List Run) (last : Run) → AreRuns s (others ++ last ∷ []) → IsRun s last
last_run s [] last set = All-head (IsRun s) last [] set.each
last_run s (r ∷ others) last set = end others (All-tail (IsRun s) r (others ++ last ∷ []) set.each)
  where
    end : (rs : List Run) → All (IsRun s) (rs ++ last ∷ []) → IsRun s last
    end [] all = All-head (IsRun s) last [] all
    end (x ∷ rs) all = end rs (All-tail (IsRun s) x (rs ++ last ∷ []) all)

pub other_runs : (s : ℕ) (others : List Run) (last : Run) → AreRuns s (others ++ last ∷ []) → All (IsRun s) others
other_runs s others last set = front_of others set.each
  where
    front_of : (rs : List Run) → All (IsRun s) (rs ++ last ∷ []) → All (IsRun s) rs
    front_of [] all = All-nil (IsRun s)
    front_of (x ∷ rs) all =
        All-cons (IsRun s) x rs (All-head (IsRun s) x (rs ++ last ∷ []) all) (front_of rs (All-tail (IsRun s) x (rs ++ last ∷ []) all))

-- the value of a set has just the members of its runs
pub value_is : (s : ℕ) (others : List Run) (last : Run) → AreRuns s (others ++ last ∷ []) → Same (Has (members_of s (others ++ last ∷ []))) (InSome s (last ∷ others))
value_is s others last set n = (
  λ h. elim ((InSome-push s others last n).0 ((whole n).0 h)) [ inl k ↦ inr k | inr k ↦ inl k ],
  λ h. (whole n).1 ((InSome-push s others last n).1 (turned h)),
)
  where
    whole : Same (Has (members_of s (others ++ last ∷ []))) (InSome s (others ++ last ∷ []))
    whole = members_are s (others ++ last ∷ []) (omega (arith, (last_run s others last set).0)) set.each

    turned : InRun s last n ⊎ InSome s others n → InSome s others n ⊎ InRun s last n
    turned (inl h) = inr h
    turned (inr h) = inl h

-- ---- the least and the greatest member

pub least_of : (s : ℕ) (r : Run) → IsRun s r → IsLeast (InRun s r) (r.residue + s * r.first)
least_of s r run = (
  (r.first, omega arith, run.1, refl),
  λ n (q, low, high, e). let m : s * r.first ≤ s * q = mul-le-mul_left s low in omega arith,
)

pub greatest_of : (s : ℕ) (r : Run) → IsRun s r → IsGreatest (InRun s r) (r.residue + s * r.last)
greatest_of s r run = (
  (r.last, run.1, omega arith, refl),
  λ n (q, low, high, e). let m : s * q ≤ s * r.last = mul-le-mul_left s high in omega arith,
)

-- what is so of one set and of another is so of both
pub least_either : (S T U : Numbers) (a b c : ℕ) → ((n : ℕ) → U n ↔ (S n ⊎ T n)) → IsLeast S a → IsLeast T b → c ≡ min a b → IsLeast U c
least_either S T U a b c u x y e = (
  elim (cases_lt b a) [
    | inl h ↦ (u c).1 (inr (subst T (omega arith) y.0))
    | inr h ↦ (u c).1 (inl (subst S (omega arith) x.0))
  ],
  λ n h. elim ((u n).0 h) [ inl k ↦ omega (arith, x.1 n k) | inr k ↦ omega (arith, y.1 n k) ],
)

pub greatest_either : (S T U : Numbers) (a b c : ℕ) → ((n : ℕ) → U n ↔ (S n ⊎ T n)) → IsGreatest S a → IsGreatest T b → c ≡ max a b → IsGreatest U c
greatest_either S T U a b c u x y e = (
  elim (cases_lt a b) [
    | inl h ↦ (u c).1 (inr (subst T (omega arith) y.0))
    | inr h ↦ (u c).1 (inl (subst S (omega arith) x.0))
  ],
  λ n h. elim ((u n).0 h) [ inl k ↦ omega (arith, x.1 n k) | inr k ↦ omega (arith, y.1 n k) ],
)

-- one more of the others
pub front_more : (s : ℕ) (others : List Run) (last : Run) (i : ℕ) (d : Run) → i < length others → (n : ℕ) → InSome s (front others last (i + 1)) n ↔ (InSome s (front others last i) n ⊎ InRun s (get_or others i d) n)
front_more s others last i d lt n =
    rw (take_more others i d lt) (InSome-push s (last ∷ take i others) (get_or others i d) n)

-- after the loop, of a set's value
pub value_at : (s : ℕ) (others : List Run) (last : Run) (v : List ℕ) (i : ℕ) → AreRuns s (others ++ last ∷ []) → members_of s (others ++ last ∷ []) ≡ v → length others ≤ i → Same (InSome s (front others last i)) (Has v)
value_at s others last v i set e le =
    subst (λ w. Same (InSome s (front others last i)) (Has w)) e (rw (take_all i others le) (λ n. let w = value_is s others last set n in (w.1, w.0)))

pub least_same : (S T : Numbers) (a : ℕ) → Same S T → IsLeast S a → IsLeast T a
least_same S T a e x = ((e a).0 x.0, λ n h. x.1 n ((e n).1 h))

pub greatest_same : (S T : Numbers) (a : ℕ) → Same S T → IsGreatest S a → IsGreatest T a
greatest_same S T a e x = ((e a).0 x.0, λ n h. x.1 n ((e n).1 h))

abbrev pub no_run : Run
no_run = record { residue = 0; first = 0; last = 0 }

pub other_run : (s : ℕ) (others : List Run) (last : Run) (i : ℕ) → AreRuns s (others ++ last ∷ []) → i < length others → IsRun s (get_or others i no_run)
other_run s others last i set lt = All-get_or (IsRun s) others i no_run lt (other_runs s others last set)

-- ---- the least member that is no less than a number

pub next_either : (S T U : Numbers) (n : ℕ) (a b : Option ℕ) → ((k : ℕ) → U k ↔ (S k ⊎ T k)) → IsNext S n a → IsNext T n b → IsNext U n (lesser_of a b)
next_either S T U n (Some x) (Some y) u p q = (
  elim (cases_lt y x) [
    | inl h ↦ (u (min x y)).1 (inr (subst T (omega arith) q.0))
    | inr h ↦ (u (min x y)).1 (inl (subst S (omega arith) p.0))
  ],
  omega (arith, p.1, q.1),
  λ k h l. elim ((u k).0 h) [ inl i ↦ omega (arith, p.2 k i l) | inr i ↦ omega (arith, q.2 k i l) ],
)
next_either S T U n (Some x) None u p q = (
  (u x).1 (inl p.0),
  p.1,
  λ k h l. elim ((u k).0 h) [ inl i ↦ p.2 k i l | inr i ↦ absurd (omega (arith, q k i)) ],
)
next_either S T U n None (Some y) u p q = (
  (u y).1 (inr q.0),
  q.1,
  λ k h l. elim ((u k).0 h) [ inl i ↦ absurd (omega (arith, p k i)) | inr i ↦ q.2 k i l ],
)
next_either S T U n None None u p q = λ k h. elim ((u k).0 h) [ inl i ↦ p k i | inr i ↦ q k i ]

pub next_same : (S T : Numbers) (n : ℕ) (o : Option ℕ) → Same S T → IsNext S n o → IsNext T n o
next_same S T n (Some m) e x = ((e m).0 x.0, x.1, λ k h l. x.2 k ((e k).1 h) l)
next_same S T n None e x = λ k h. x k ((e k).1 h)

-- ---- a set of one run

pub single_value : (s : ℕ) (others : List Run) (last : Run) → others ≡ [] → IsRun s last → Same (Has (members_of s (others ++ last ∷ []))) (InRun s last)
single_value s others last e run = subst (λ xs. Same (Has (members_of s (xs ++ last ∷ []))) (InRun s last)) (sym e) (λ n. let w = members_are s (last ∷ []) (omega (arith, run.0)) (All-cons (IsRun s) last [] run (All-nil (IsRun s))) n in (λ h. only ((w.0) h), λ h. (w.1) (inl h)))
  where
    only : {n : ℕ} → InRun s last n ⊎ ⊥ → InRun s last n
    only (inl h) = h
    only (inr h) = absurd h

pub same_join : (S T U : Numbers) → Same S T → Same T U → Same S U
same_join S T U a b n = (λ h. (b n).0 ((a n).0 h), λ h. (a n).1 ((b n).1 h))

pub of_run : (n : ℕ) → Same (InRun 1 (record { residue = 0; first = n; last = n })) (Only n)
of_run n k = (λ (q, low, high, e). omega arith, λ e. (n, omega arith, omega arith, omega arith))

pub multiples_run : (step most : ℕ) → Same (InRun step (record { residue = 0; first = 0; last = most })) (Multiples step most)
multiples_run step most n = (λ (q, low, high, e). (q, high, omega arith), λ (q, high, e). (q, omega arith, high, omega arith))

pub delimited_run : (e : ℕ) → e % 8 ≡ 0 → Same (InRun 8 (record { residue = 0; first = 4; last = (32 + e) / 8 })) (Delimited e)
delimited_run e whole k = (λ (q, low, high, f). (q - 4, omega arith, omega arith), λ (q, le, f). (q + 4, omega arith, omega arith, omega arith))

pub delimited_greatest : (e : ℕ) → e % 8 ≡ 0 → IsGreatest (Delimited e) (32 + e)
delimited_greatest e whole = ((e / 8, omega arith, omega arith), λ n (q, le, f). omega arith)

-- ---- when Long comes

pub greatest_one : (S : Numbers) (a b : ℕ) → IsGreatest S a → IsGreatest S b → a ≡ b
greatest_one S a b x y = let l = y.1 a x.0 in let m = x.1 b y.0 in omega arith

pub long_at : (S : Numbers) (a : ℕ) → IsGreatest S a → 2 ^ 32 < a → IsLongBeyond (Err (error.Long a)) S
long_at S a x over g = (
  λ e. let same : a ≡ g = cc in subst (λ b. IsGreatest S b × (2 ^ 32 < b)) same (x, over),
  λ (y, h). ap (λ b. Err (error.Long b)) (greatest_one S a g x y),
)

pub long_never : (S : Numbers) (a : ℕ) (result : Result (List ℕ) LengthError) → IsGreatest S a → a ≤ 2 ^ 32 → ((g : ℕ) → result ≡ Err (error.Long g) → ⊥) → IsLongBeyond result S
long_never S a result x under none g = (
  λ e. absurd (none g e),
  λ (y, h). absurd (let l = x.1 g y.0 in omega arith),
)

-- ---- whether a set has a number

pub found_last : (s : ℕ) (others : List Run) (last : Run) (v : List ℕ) (n : ℕ) → AreRuns s (others ++ last ∷ []) → members_of s (others ++ last ∷ []) ≡ v → in_run s n last ≡ true → Has v n
found_last s others last v n set e h =
    (value_at s others last v (length others) set e (omega arith) n).0 (inl (InRun-from_test s last n (omega (arith, (last_run s others last set).0)) h))

pub InSome-at : (s : ℕ) (rs : List Run) (i : ℕ) (n : ℕ) → i < length rs → InRun s (get_or rs i no_run) n → InSome s rs n
InSome-at s [] i n lt h = absurd (omega arith)
InSome-at s (r ∷ rs) zero n lt h = inl h
InSome-at s (r ∷ rs) (suc i) n lt h = inr (InSome-at s rs i n (omega arith) h)

pub found_other : (s : ℕ) (others : List Run) (last : Run) (v : List ℕ) (n i : ℕ) → AreRuns s (others ++ last ∷ []) → members_of s (others ++ last ∷ []) ≡ v → i < length others → in_run s n (get_or others i no_run) ≡ true → Has v n
found_other s others last v n i set e lt h =
    let one = InRun-from_test s (get_or others i no_run) n (omega (arith, (other_run s others last i set lt).0)) h in
    (value_at s others last v (length others) set e (omega arith) n).0 (rw (take_all (length others) others (omega arith)) (inr (InSome-at s others i n lt one)))

pub not_found : (s : ℕ) (r : Run) (n : ℕ) → IsRun s r → in_run s n r ≡ false → InRun s r n → ⊥
not_found s r n run e h = false≢true (sym e ∙ test_from_InRun s r n run.0 h)

pub only_run : (s : ℕ) (r : Run) → Same (InRun s r) (InSome s (r ∷ []))
only_run s r n = (λ h. inl h, back)
  where
    back : InRun s r n ⊎ ⊥ → InRun s r n
    back (inl h) = h
    back (inr h) = absurd h

pub filled : (s : ℕ) (runs : List Run) (n : ℕ) → InSome s runs n → 0 < length runs
filled s [] n h = absurd h
filled s (r ∷ runs) n h = omega arith

-- the value of what merging gave
pub merged_value : (s : ℕ) (runs others : List Run) (last : Run) → All (IsRun s) runs → IsMerged runs (others ++ last ∷ []) → Same (Has (members_of s (others ++ last ∷ []))) (InSome s runs)
merged_value s runs others last all m =
    let w = m s all in
    same_join (Has (members_of s (others ++ last ∷ []))) (InSome s (others ++ last ∷ [])) (InSome s runs) (members_are s (others ++ last ∷ []) (omega (arith, (last_run s others last w.0).0)) w.0.each) w.1

pub value_turned : (s : ℕ) (others : List Run) (last : Run) (v : List ℕ) (i : ℕ) → AreRuns s (others ++ last ∷ []) → members_of s (others ++ last ∷ []) ≡ v → length others ≤ i → Same (Joins (InSome s (take i others)) (InRun s last)) (Has v)
value_turned s others last v i set e le n = (
  λ h. (value_at s others last v i set e le n).0 (turned h),
  λ h. back ((value_at s others last v i set e le n).1 h),
)
  where
    turned : InSome s (take i others) n ⊎ InRun s last n → InRun s last n ⊎ InSome s (take i others) n
    turned (inl h) = inr h
    turned (inr h) = inl h

    back : InRun s last n ⊎ InSome s (take i others) n → InSome s (take i others) n ⊎ InRun s last n
    back (inl h) = inr h
    back (inr h) = inl h

-- every set has a member
pub some_member : (s : ℕ) (others : List Run) (last : Run) (v : List ℕ) → AreRuns s (others ++ last ∷ []) → members_of s (others ++ last ∷ []) ≡ v → (n : ℕ) × Has v n
some_member s others last v set e =
    (last.residue + s * last.last, (value_at s others last v (length others) set e (omega arith) (last.residue + s * last.last)).0 (inl (last.last, (last_run s others last set).1, omega arith, refl)))

pub some_of : (s : ℕ) (runs : List Run) (S : Numbers) → AreRunsOf s runs S → (n : ℕ) × S n → (n : ℕ) × InSome s runs n
some_of s runs S r (n, h) = (n, (r.same n).1 h)

pub sums_alike : (S S' T T' : Numbers) → Same S S' → Same T T' → Same (Sums S T) (Sums S' T')
sums_alike S S' T T' e f n = (
  λ (a, b, x, y, g). (a, b, (e a).0 x, (f b).0 y, g),
  λ (a, b, x, y, g). (a, b, (e a).1 x, (f b).1 y, g),
)

pub sums_turned : (S T : Numbers) → Same (Sums S T) (Sums T S)
sums_turned S T n = (λ (a, b, x, y, e). (b, a, y, x, omega arith), λ (a, b, x, y, e). (b, a, y, x, omega arith))

-- the sums of a number that is all of a set
pub sums_only : (n : ℕ) (S T : Numbers) → Same (Only n) T → Same (Sums (Only n) S) (Sums T S)
sums_only n S T e = sums_alike (Only n) T S S e (λ k. (λ x. x, λ x. x))

pub sums_only_right : (n : ℕ) (S T : Numbers) → Same (Only n) T → Same (Sums (Only n) S) (Sums S T)
sums_only_right n S T e = same_join (Sums (Only n) S) (Sums T S) (Sums S T) (sums_only n S T e) (sums_turned T S)

pub sums_left : (R S T : Numbers) → Same R T → Same (Sums R S) (Sums T S)
sums_left R S T e = sums_alike R T S S e (λ k. (λ x. x, λ x. x))

pub sums_right : (R S T : Numbers) → Same R T → Same (Sums R S) (Sums S T)
sums_right R S T e = same_join (Sums R S) (Sums T S) (Sums S T) (sums_left R S T e) (sums_turned T S)

pub runs_same : (s : ℕ) (runs : List Run) (S T : Numbers) → Same S T → AreRunsOf s runs S → AreRunsOf s runs T
runs_same s runs S T e r = record { each = r.each; same = same_join (InSome s runs) S T r.same e }

pub pads_alike : (S S' : Numbers) (to : ℕ) → Same S S' → Same (Pads S to) (Pads S' to)
pads_alike S S' to e n = (λ (a, x, g). (a, (e a).0 x, g), λ (a, x, g). (a, (e a).1 x, g))

pub repeats_alike : (S S' : Numbers) → Same S S' → (k : ℕ) → Same (Repeats S k) (Repeats S' k)
repeats_alike S S' e zero n = (λ h. h, λ h. h)
repeats_alike S S' e (suc k) n =
    sums_alike S S' (Repeats S k) (Repeats S' k) e (repeats_alike S S' e k) n

pub done : {E : Type 0} (r : Result (List ℕ) E) (S T : Numbers) → Same S T → IfOk r (λ s. Same (Has s) S) → IfOk r (λ s. Same (Has s) T)
done r S T e = IfOk-weaker r (λ s. Same (Has s) S) (λ s. Same (Has s) T) (λ s h. same_join (Has s) S T h e)

pub some_sum : (S T : Numbers) → (n : ℕ) × S n → (n : ℕ) × T n → (n : ℕ) × Sums S T n
some_sum S T (a, x) (b, y) = (a + b, (a, b, x, y, refl))

pub some_pad : (S : Numbers) (to : ℕ) → (n : ℕ) × S n → (n : ℕ) × Pads S to n
some_pad S to (a, x) = (padded to a, (a, x, refl))

pub append_means : (s : ℕ) (a b : List Run) (n : ℕ) → InSome s (a ++ b) n ↔ (InSome s a n ⊎ InSome s b n)
append_means s [] b n = (λ h. inr h, λ h. elim h [ inl k ↦ absurd k | inr k ↦ k ])
append_means s (r ∷ a) b n = (there (append_means s a b n).0, back (append_means s a b n).1)
  where
    there : (InSome s (a ++ b) n → InSome s a n ⊎ InSome s b n) → InRun s r n ⊎ InSome s (a ++ b) n → (InRun s r n ⊎ InSome s a n) ⊎ InSome s b n
    there f (inl h) = inl (inl h)
    there f (inr h) = elim (f h) [ inl k ↦ inl (inr k) | inr k ↦ inr k ]

    back : (InSome s a n ⊎ InSome s b n → InSome s (a ++ b) n) → (InRun s r n ⊎ InSome s a n) ⊎ InSome s b n → InRun s r n ⊎ InSome s (a ++ b) n
    back f (inl (inl h)) = inl h
    back f (inl (inr h)) = inr (f (inl h))
    back f (inr h) = inr (f (inr h))

pub runs_joined : (s : ℕ) (a b : List Run) (S T : Numbers) → AreRunsOf s a S → AreRunsOf s b T → AreRunsOf s (a ++ b) (Joins S T)
runs_joined s a b S T x y = record {
  each = All-append (IsRun s) a b x.each y.each;
  same = λ n. (
    λ h. elim ((append_means s a b n).0 h) [ inl k ↦ inl ((x.same n).0 k) | inr k ↦ inr ((y.same n).0 k) ],
    λ h. (append_means s a b n).1 (elim h as (λ _. InSome s a n ⊎ InSome s b n) [
      | inl k ↦ inl ((x.same n).1 k)
      | inr k ↦ inr ((y.same n).1 k)
    ]),
  );
}

pub memory_short : (S : Numbers) (a : ℕ) → IsGreatest S a → a ≤ 2 ^ 32 → IsLongBeyond (Err error.NoMemory) S
memory_short S a x under = long_never S a (Err error.NoMemory) x under (λ g e. cc)

pub ok_short : (S : Numbers) (a : ℕ) (s : List ℕ) → IsGreatest S a → a ≤ 2 ^ 32 → IsLongBeyond (Ok s) S
ok_short S a s x under = long_never S a (Ok s) x under (λ g e. cc)

-- ---- remainders of members

pub leaves_same : (S T : Numbers) (k r : ℕ) → Same S T → SomeLeaves S k r → SomeLeaves T k r
leaves_same S T k r e (n, h, f) = (n, (e n).0 h, f)

pub leaves_either : (S T U : Numbers) (k r : ℕ) → ((n : ℕ) → U n ↔ (S n ⊎ T n)) → SomeLeaves U k r → SomeLeaves S k r ⊎ SomeLeaves T k r
leaves_either S T U k r u (n, h, f) = elim ((u n).0 h) [ inl x ↦ inl (n, x, f) | inr x ↦ inr (n, x, f) ]

pub last_member : (s : ℕ) (others : List Run) (last : Run) (v : List ℕ) → AreRuns s (others ++ last ∷ []) → members_of s (others ++ last ∷ []) ≡ v → (n : ℕ) → InRun s last n → Has v n
last_member s others last v set e n h =
    (value_at s others last v (length others) set e (omega arith) n).0 (inl h)

pub other_member : (s : ℕ) (others : List Run) (last : Run) (v : List ℕ) (i : ℕ) → AreRuns s (others ++ last ∷ []) → members_of s (others ++ last ∷ []) ≡ v → i < length others → (n : ℕ) → InRun s (get_or others i no_run) n → Has v n
other_member s others last v i set e lt n h =
    (value_at s others last v (length others) set e (omega arith) n).0 (rw (take_all (length others) others (omega arith)) (inr (InSome-at s others i n lt h)))

-- ---- the members of a set ascend

pub members_ascend : (step : ℕ) (rs : List Run) → Ascend (members_of step rs)
unfolding members_of
members_ascend step rs = below_ascends (2 ^ 32 + 1) (λ k. list_any (in_run step k) rs)

-- and none is above 2^32
pub members_short : (step : ℕ) (rs : List Run) (v : List ℕ) → members_of step rs ≡ v → (n : ℕ) → Has v n → 0 + n ≤ 2 ^ 32
unfolding members_of
members_short step rs v e n h =
    let w = below-has (2 ^ 32 + 1) (λ k. list_any (in_run step k) rs) n (subst (λ l. Has l n) (sym e) h) in
    omega (arith, w.0)

-- ---- the others by themselves

pub others_set : (s : ℕ) (others : List Run) (last : Run) → AreRuns s (others ++ last ∷ []) → AreRuns s others
others_set s others last set = record {
  each = other_runs s others last set;
  apart = λ i j d lt len.
      let before = set.apart i j d lt (let l = length-append others (last ∷ []) in omega (arith, l)) in
      subst (λ r. IsBefore r (get_or others j d)) (get_or_append_left others (last ∷ []) d i (omega arith)) (subst (λ r. IsBefore (get_or (others ++ last ∷ []) i d) r) (get_or_append_left others (last ∷ []) d j len) before);
}

-- the members of a set are those of its last run and of the others
pub value_parts : (s : ℕ) (others : List Run) (last : Run) (v : List ℕ) → AreRuns s (others ++ last ∷ []) → members_of s (others ++ last ∷ []) ≡ v → Same (Has v) (InSome s (last ∷ others))
value_parts s others last v set e =
    subst (λ w. Same (Has w) (InSome s (last ∷ others))) e (value_is s others last set)

pub first_member : (s : ℕ) (runs : List Run) → All (IsRun s) runs → 0 < length runs → (n : ℕ) × InSome s runs n
first_member s [] each lt = absurd (omega arith)
first_member s (r ∷ runs) each lt =
    let run = All-head (IsRun s) r runs each in
    (r.residue + s * r.first, inl (r.first, omega arith, run.1, refl))

-- ---- a set that is kept as one run

pub one_run : (s t : ℕ) (others : List Run) (last : Run) (v : List ℕ) → AreRuns s (others ++ last ∷ []) → members_of s (others ++ last ∷ []) ≡ v → others ≡ [] → s ≡ t → Same (InRun t last) (Has v)
one_run s t others last v set view none at =
    subst (λ u. Same (InRun u last) (Has v)) at
    (subst (λ l. Same (InRun s last) (Has l)) view (λ n. let w = single_value s others last none (last_run s others last set) n in (w.1, w.0)))

pub one_member : (s m : ℕ) (others : List Run) (last : Run) (v : List ℕ) → AreRuns s (others ++ last ∷ []) → members_of s (others ++ last ∷ []) ≡ v → others ≡ [] → last.first ≡ last.last →
    m ≡ last.residue + s * last.last → Same (Only m) (Has v)
one_member s m others last v set view none one is n = (
  λ e. (one_run s s others last v set view none refl n).0 (last.last, omega arith, omega arith, e ∙ is),
  λ h. let (q, low, high, e) = (one_run s s others last v set view none refl n).1 h in
      let same : q ≡ last.last = omega arith in
      e ∙ ap (λ x. last.residue + s * x) same ∙ sym is,
)

-- the runs of a set at its own step
pub own_parts : (s t : ℕ) (others : List Run) (last : Run) (v : List ℕ) → AreRuns s (others ++ last ∷ []) → members_of s (others ++ last ∷ []) ≡ v → s ≡ t → Same (Has v) (InSome t (last ∷ others))
own_parts s t others last v set view at =
    subst (λ u. Same (Has v) (InSome u (last ∷ others))) at (value_parts s others last v set view)

pub own_runs : (s t : ℕ) (others : List Run) (last : Run) (v : List ℕ) → AreRuns s (others ++ last ∷ []) → members_of s (others ++ last ∷ []) ≡ v → s ≡ t → AreRunsOf t (others ++ last ∷ []) (Has v)
own_runs s t others last v set view at = subst (λ u. AreRunsOf u (others ++ last ∷ []) (Has v)) at (record {
  each = set.each;
  same = λ n.
      let w = subst (λ l. Same (Has l) (InSome s (others ++ last ∷ []))) view (members_are s (others ++ last ∷ []) (omega (arith, (last_run s others last set).0)) set.each) n in (w.1, w.0);
})

-- the runs of a set, where its step is known as another number
pub wide_runs : (s w : ℕ) (runs : List Run) (S : Numbers) → w ≡ s → AreRunsOf s runs S → AreRunsOf w runs S
wide_runs s w runs S e r = subst (λ u. AreRunsOf u runs S) (sym e) r

-- a number and 0
pub zero_and : (k : ℕ) (S T : Numbers) → Same (Only k) S → Same (Only 0) T → Same (InRun k (record { residue = 0; first = 0; last = 1 })) (Joins S T)
zero_and k S T a b n = (there, back)
  where
    there : InRun k (record { residue = 0; first = 0; last = 1 }) n → Joins S T n
    there (zero, low, high, e) = inr ((b n).0 (omega arith))
    there (suc zero, low, high, e) = inl ((a n).0 (omega arith))
    there (suc (suc q), low, high, e) = absurd (omega arith)

    back : Joins S T n → InRun k (record { residue = 0; first = 0; last = 1 }) n
    back (inl h) = (1, omega arith, omega arith, omega (arith, (a n).1 h))
    back (inr h) = (0, omega arith, omega arith, omega (arith, (b n).1 h))
