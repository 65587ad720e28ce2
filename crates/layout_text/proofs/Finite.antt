-- Sets with finitely many members, each of which has a text.
use Rattle.std.proofs.Common.{◌≡◌, ℕ, zero, suc, ◌+◌, ◌<◌, ◌≤◌, ◌==◌, ◌⊎◌, inl, inr, Bool, true, List, [], ◌∷◌, ◌++◌, refl, sym, subst, arith}
use Rattle.std.specs.List.{flat_map, list_any}
use Rattle.std.proofs.lemmas.Bool.{eqb-true, false≢true}
use Rattle.std.proofs.lemmas.Bool.Decides.{nat_tests}
use Rattle.std.proofs.lemmas.List.Elements.{Contains-append_left, Contains-append_right, Contains-append_cases}
use Rattle.bit_length.specs.Lengths.{Numbers, Has, Same}
use Rattle.bit_length.specs.Runs.{numbers_below}
use Rattle.bit_length.proofs.AscendingLemmas.{below_ascends, has_head, has_later, has_none}
use Rattle.bit_length.proofs.MemberLemmas.{below-has, has-below, either, either_left, either_right}
use Rattle.layout_text.specs.Sets.{IsSetText, set_text}

-- all members of a set, in any order
pub record Finite (S : Numbers) : Type 0 where
  pub members : List ℕ
  pub same : Same (Has members) S

pub same_set : (S T : Numbers) → Same S T → Finite S → Finite T
same_set S T e f = record {
  members = f.members;
  same = λ n. (λ h. (e n).0 ((f.same n).0 h), λ h. (f.same n).1 ((e n).1 h));
}

-- a member is the first or one of the others
has_cases : (x : ℕ) (xs : List ℕ) (n : ℕ) → Has (x ∷ xs) n → (x ≡ n) ⊎ Has xs n
has_cases x xs n (zero, lt, e) = inl e
has_cases x xs n (suc k, lt, e) = inr (k, omega arith, e)

first_only : (k n : ℕ) → (k ≡ n) ⊎ Has [] n → n ≡ k
first_only k n (inl e) = sym e
first_only k n (inr h) = absurd (has_none n h)

pub only : (k : ℕ) → Finite (λ n. n ≡ k)
only k = record {
  members = k ∷ [];
  same = λ n. (λ h. first_only k n (has_cases k [] n h), λ e. (0, omega arith, sym e));
}

pub nothing : Finite (λ n. ⊥)
nothing = record { members = []; same = λ n. (has_none n, λ e. absurd e) }

pub in_either : (S T : Numbers) → Finite S → Finite T → Finite (λ n. S n ⊎ T n)
in_either S T f g = record {
  members = f.members ++ g.members;
  same = λ n. (λ h. apart n (Contains-append_cases f.members g.members n h), λ h. joined n h);
}
  where
    apart : (n : ℕ) → Has f.members n ⊎ Has g.members n → S n ⊎ T n
    apart n (inl h) = inl ((f.same n).0 h)
    apart n (inr h) = inr ((g.same n).0 h)

    joined : (n : ℕ) → S n ⊎ T n → Has (f.members ++ g.members) n
    joined n (inl h) = Contains-append_left f.members g.members n ((f.same n).1 h)
    joined n (inr h) = Contains-append_right f.members g.members n ((g.same n).1 h)

-- n is a member of the list of some member
of_some : (f : ℕ → List ℕ) (xs : List ℕ) (n : ℕ) → Has (flat_map f xs) n → (m : ℕ) × Has xs m × Has (f m) n
of_some f [] n h = absurd (has_none n h)
of_some f (x ∷ xs) n h = elim (Contains-append_cases (f x) (flat_map f xs) n h) [
  | inl w ↦ (x, has_head x xs, w)
  | inr w ↦ let (m, a, b) = of_some f xs n w in (m, has_later x xs m a, b)
]

some_of : (f : ℕ → List ℕ) (xs : List ℕ) (n m : ℕ) → Has xs m → Has (f m) n → Has (flat_map f xs) n
some_of f [] n m h w = absurd (has_none m h)
some_of f (x ∷ xs) n m h w = elim (has_cases x xs m h) [
  | inl e ↦ Contains-append_left (f x) (flat_map f xs) n (subst (λ k. Has (f k) n) (sym e) w)
  | inr g ↦ Contains-append_right (f x) (flat_map f xs) n (some_of f xs n m g w)
]

-- a member of one set, and one of a set that it chooses
pub chosen : (S : Numbers) (T : ℕ → Numbers) → Finite S → ((m : ℕ) → Finite (T m)) → Finite (λ n. (m : ℕ) × S m × T m n)
chosen S T f g = record {
  members = flat_map each f.members;
  same = λ n. (
    λ h. let (m, a, b) = of_some each f.members n h in (m, (f.same m).0 a, ((g m).same n).0 b),
    λ (m, a, b). some_of each f.members n m ((f.same m).1 a) (((g m).same n).1 b),
  );
}
  where
    each : ℕ → List ℕ
    each m = (g m).members

pub at_most : (k : ℕ) → Finite (λ n. n ≤ k)
at_most zero = same_set _ (λ n. n ≤ zero) (λ n. (λ e. omega arith, λ l. omega arith)) (only 0)
at_most (suc k) = same_set _ (λ n. n ≤ suc k) (λ n. (low n, high n)) (in_either _ _ (at_most k) (only (suc k)))
  where
    low : (n : ℕ) → (n ≤ k) ⊎ (n ≡ suc k) → n ≤ suc k
    low n (inl l) = omega arith
    low n (inr e) = omega arith

    high : (n : ℕ) → n ≤ suc k → (n ≤ k) ⊎ (n ≡ suc k)
    high n l = grind arith

-- a number above all of a list
above : List ℕ → ℕ
above [] = 0
above (x ∷ xs) = x + 1 + above xs

is_above : (xs : List ℕ) (n : ℕ) → Has xs n → n < above xs
unfolding above
is_above [] n h = absurd (has_none n h)
is_above (x ∷ xs) n h = elim (has_cases x xs n h) [
  | inl e ↦ omega arith
  | inr w ↦ let l = is_above xs n w in omega arith
]

is_one : (xs : List ℕ) (n : ℕ) → Has xs n → list_any (λ x. x == n) xs ≡ true
is_one [] n h = absurd (has_none n h)
is_one (x ∷ xs) n h = elim (has_cases x xs n h) [
  | inl e ↦ either_left (x == n) (list_any (λ y. y == n) xs) (grind (arith, nat_tests))
  | inr w ↦ either_right (x == n) (list_any (λ y. y == n) xs) (is_one xs n w)
]

one_is : (xs : List ℕ) (n : ℕ) → list_any (λ x. x == n) xs ≡ true → Has xs n
one_is [] n e = absurd (false≢true e)
one_is (x ∷ xs) n e = elim (either (x == n) (list_any (λ y. y == n) xs) e) [
  | inl f ↦ (0, omega arith, eqb-true x n f)
  | inr f ↦ has_later x xs n (one_is xs n f)
]

-- a finite set has a text
pub has_text : (S : Numbers) → Finite S → (text : List ℕ) × IsSetText S text
has_text S f = (
  set_text ascending,
  record {
    members = ascending;
    ascending = below_ascends (above f.members) among;
    same = λ n. (
      λ h. (f.same n).0 (one_is f.members n (below-has (above f.members) among n h).1),
      λ h. let w = (f.same n).1 h in has-below (above f.members) among n (is_above f.members n w) (is_one f.members n w),
    );
    is = refl;
  },
)
  where
    among : ℕ → Bool
    among n = list_any (λ x. x == n) f.members

    ascending : List ℕ
    ascending = numbers_below (above f.members) among
