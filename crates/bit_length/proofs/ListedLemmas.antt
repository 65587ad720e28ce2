-- Lists of the members of runs.
use Rattle.std.proofs.Common.{◌≡◌, ℕ, ◌+◌, ◌⊎◌, ◌↔◌, inl, inr, List, [], ◌∷◌, ◌++◌, zero, suc, get_or, length, ◌<◌, sym, arith}
use Rattle.std.proofs.lemmas.List.Elements.{Contains-append_left, Contains-append_right, Contains-append_cases}
use Rattle.bit_length.specs.declared.run.Run.{Run}
use Rattle.bit_length.specs.Lengths.{Numbers, Has, Same, Joins}
use Rattle.bit_length.specs.Ascending.{Ascend}
use Rattle.bit_length.specs.Moved.{Moved, moved}
use Rattle.bit_length.specs.Runs.{InRun, InSome, AreRuns, members_of}
use Rattle.bit_length.proofs.AscendingLemmas.{one_list}
use Rattle.bit_length.proofs.MovedLemmas.{has_moved, moved_ascends, moved_same, moved_more}
use Rattle.bit_length.proofs.SetLemmas.{front, front_more, no_run, only_run, same_join, value_parts}

only_of : (k n : ℕ) → Has (k ∷ []) n → n ≡ k
only_of k n (zero, lt, e) = sym e
only_of k n (suc i, lt, e) = absurd (omega arith)

has_push : (xs : List ℕ) (x n : ℕ) → Has (xs ++ x ∷ []) n ↔ (Has xs n ⊎ (n ≡ x))
has_push xs x n = (there, back)
  where
    there : Has (xs ++ x ∷ []) n → Has xs n ⊎ (n ≡ x)
    there h = elim (Contains-append_cases xs (x ∷ []) n h) [ inl k ↦ inl k | inr k ↦ inr (only_of x n k) ]

    back : Has xs n ⊎ (n ≡ x) → Has (xs ++ x ∷ []) n
    back (inl h) = Contains-append_left xs (x ∷ []) n h
    back (inr e) = Contains-append_right xs (x ∷ []) n (0, omega arith, sym e)

pub listed_none : (xs : List ℕ) (S : Numbers) → ((n : ℕ) → S n → ⊥) → Same (Has xs) (Joins (Has xs) S)
listed_none xs S none n =
    (λ h. inl h, λ h. elim h [ inl k ↦ k | inr k ↦ absurd (none n k) ])

-- one number more
pub listed_one : (xs ys : List ℕ) (x : ℕ) (S T : Numbers) → Same (Has ys) (Joins (Has xs) S) → ((n : ℕ) → T n ↔ (S n ⊎ (n ≡ x))) → Same (Has (ys ++ x ∷ [])) (Joins (Has xs) T)
listed_one xs ys x S T same more n = (
  λ h. elim ((has_push ys x n).0 h) [
    | inl k ↦ elim ((same n).0 k) [ inl i ↦ inl i | inr i ↦ inr ((more n).1 (inl i)) ]
    | inr k ↦ inr ((more n).1 (inr k))
  ],
  λ h. (has_push ys x n).1 (elim h as (λ _. Has ys n ⊎ (n ≡ x)) [
    | inl k ↦ inl ((same n).1 (inl k))
    | inr k ↦ elim ((more n).0 k) [ inl i ↦ inl ((same n).1 (inr i)) | inr i ↦ inr i ]
  ]),
)

pub listed_same : (xs ys : List ℕ) (S T : Numbers) → Same S T → Same (Has ys) (Joins (Has xs) S) → Same (Has ys) (Joins (Has xs) T)
listed_same xs ys S T e same n = (
  λ h. elim ((same n).0 h) [ inl k ↦ inl k | inr k ↦ inr ((e n).0 k) ],
  λ h. (same n).1 (elim h as (λ _. Has xs n ⊎ S n) [ inl k ↦ inl k | inr k ↦ inr ((e n).1 k) ]),
)

-- the members of the first run, moved up
pub listed_first : (ys : List ℕ) (by s : ℕ) (last first : Run) → Same (InRun s first) (Moved by (InRun s last)) → Same (Has ys) (Joins (Has []) (InRun s first)) → Same (Has ys) (Moved by (InSome s (last ∷ [])))
listed_first ys by s last first e same =
    same_join (Has ys) (InRun s first) (Moved by (InSome s (last ∷ []))) only
    (same_join (InRun s first) (Moved by (InRun s last)) (Moved by (InSome s (last ∷ []))) e (moved_same by (InRun s last) (InSome s (last ∷ [])) (only_run s last)))
  where
    only : Same (Has ys) (InRun s first)
    only n = (
      λ h. elim ((same n).0 h) [ inl (k, lt, f) ↦ absurd (omega arith) | inr k ↦ k ],
      λ h. (same n).1 (inr h),
    )

-- those of one run more
pub listed_run : (by s : ℕ) (others : List Run) (last next : Run) (i : ℕ) (xs ys : List ℕ) → i < length others → Same (InRun s next) (Moved by (InRun s (get_or others i no_run))) → Same (Has xs) (Moved by (InSome s (front others last i))) → Same (Has ys) (Joins (Has xs) (InRun s next)) →
    Same (Has ys) (Moved by (InSome s (front others last (i + 1))))
listed_run by s others last next i xs ys lt e before same n = (
  λ h. (more n).1 (elim ((same n).0 h) as (λ _. Moved by (InSome s (front others last i)) n ⊎ InRun s next n) [ inl k ↦ inl ((before n).0 k) | inr k ↦ inr k ]),
  λ h. (same n).1 (elim ((more n).0 h) as (λ _. Has xs n ⊎ InRun s next n) [ inl k ↦ inl ((before n).1 k) | inr k ↦ inr k ]),
)
  where
    more : (n : ℕ) → Moved by (InSome s (front others last (i + 1))) n ↔ (Moved by (InSome s (front others last i)) n ⊎ InRun s next n)
    more = moved_more by (InSome s (front others last i)) (InRun s (get_or others i no_run)) (InRun s next) (InSome s (front others last (i + 1))) (front_more s others last i no_run lt) e

-- the members of a set, moved up
pub listed_value : (by s : ℕ) (others : List Run) (last : Run) (v ns : List ℕ) → AreRuns s (others ++ last ∷ []) → members_of s (others ++ last ∷ []) ≡ v → Ascend v → Ascend ns → Same (Has ns) (Moved by (InSome s (last ∷ others))) → ns ≡ moved by v
listed_value by s others last v ns set view up down same =
    let parts = moved_same by (Has v) (InSome s (last ∷ others)) (value_parts s others last v set view) in
    let has = has_moved by v in
    one_list ns (moved by v) down (moved_ascends by v up) (λ n h. (has n).1 ((parts n).1 ((same n).0 h))) (λ n h. (same n).1 ((parts n).0 ((has n).0 h)))
