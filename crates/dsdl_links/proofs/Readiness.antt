-- Which files are open, where so many links at the front of each are known to be marked
use Rattle.std.proofs.Common.{◌≡◌, ℕ, zero, suc, ◌<◌, ◌≤◌, ◌==◌, Bool, true, false, ◌&&◌, not, List, [], ◌∷◌, ◌++◌, length, get_or, set, take, replicate, ◌⊎◌, inl, inr, refl, sym, ap, ◌∙◌, subst, arith}
use Rattle.std.specs.List.{list_all}
use Rattle.std.proofs.lemmas.Bool.{false≢true, eqb-true}
use Rattle.std.proofs.lemmas.List.{get_or-set_same, get_or-set_other, take_all}
use Rattle.std.proofs.lemmas.List.Folds.{list_all_at}
use Rattle.std.specs.Prelude.{slice_index}
use Rattle.dsdl_links.specs.Order.{is_among, links_at, is_ready, Valued, begin, next}
use Rattle.dsdl_links.specs.Marks.{is_marked, are_marked, is_open, KnowsFronts, IsFirstOpen}
use Rattle.dsdl_links.proofs.Among.{decide, and_both, among_front, among_last, among_push, each, from_each, same_all}
use Rattle.dsdl_links.proofs.Marking.{differs, now_marked, stays_marked, was_marked}

pub marked_closed : (links : List (List ℕ)) (marks : List Bool) (i : ℕ) → is_marked marks i ≡ true → is_open links marks i ≡ false
marked_closed links marks i h = ap (λ b. not b && are_marked marks (links_at links i)) h

pub front_open : (links : List (List ℕ)) (marks : List Bool) (i f : ℕ) → is_marked marks i ≡ false → f ≡ length (links_at links i) → are_marked marks (take f (links_at links i)) ≡ true → is_open links marks i ≡ true
front_open links marks i f h e m =
    and_both (not (is_marked marks i)) (are_marked marks (links_at links i)) (ap not h)
    (subst (λ l. are_marked marks l ≡ true) (take_all f (links_at links i) (omega arith)) m)

pub link_closed : (links : List (List ℕ)) (marks : List Bool) (i f : ℕ) → f < length (links_at links i) → is_marked marks (slice_index (links_at links i) f) ≡ false → is_open links marks i ≡ false
link_closed links marks i f lt h = ap (λ b. not (is_marked marks i) && b) (list_all_at (is_marked marks) (links_at links i) f 0 lt h) ∙ never (not (is_marked marks i))
  where
    never : (b : Bool) → (b && false) ≡ false
    never true = refl
    never false = refl

pub knows_more : (links : List (List ℕ)) (marks : List Bool) (known : List ℕ) (i f : ℕ) → KnowsFronts links marks known → i < length known → f ≤ length (links_at links i) →
    are_marked marks (take f (links_at links i)) ≡ true → KnowsFronts links marks (set known i f)
knows_more links marks known i f k lt le m j = at (decide (j == i))
  where
    Front : ℕ → ℕ → Type 0
    Front j n = (n ≤ length (links_at links j)) × (are_marked marks (take n (links_at links j)) ≡ true)

    at : ((j == i) ≡ true) ⊎ ((j == i) ≡ false) → (slice_index (set known i f) j ≤ length (links_at links j)) × (are_marked marks (take (slice_index (set known i f) j) (links_at links j)) ≡ true)
    at (inl e) =
        let same : j ≡ i = eqb-true j i e in
        let got : slice_index (set known i f) j ≡ f = ap (λ n. get_or (set known i f) n 0) same ∙ get_or-set_same known i f 0 lt in
        subst (λ n. (n ≤ length (links_at links j)) × (are_marked marks (take n (links_at links j)) ≡ true)) (sym got)
        (subst (λ n. (f ≤ length (links_at links n)) × (are_marked marks (take f (links_at links n)) ≡ true)) (sym same) (le, m))
    at (inr e) = subst (λ n. (n ≤ length (links_at links j)) × (are_marked marks (take n (links_at links j)) ≡ true)) (sym (get_or-set_other known i j f 0 (differs j i e))) (k j)

pub none_marked : (n k : ℕ) → is_marked (replicate n false) k ≡ false
none_marked zero k = refl
none_marked (suc n) zero = refl
none_marked (suc n) (suc k) = none_marked n k

-- the files in the order so far are marked
pub record Ordering (links : List (List ℕ)) (marks : List Bool) (known order : List ℕ) : Type 0 where
  pub valued : Valued links order
  pub agree : (k : ℕ) → is_marked marks k ≡ is_among order k
  pub knows : KnowsFronts links marks known
  pub few : length order ≤ length links

pub order_none : (links : List (List ℕ)) (marks : List Bool) (known : List ℕ) → ((k : ℕ) → is_marked marks k ≡ false) → KnowsFronts links marks known → Ordering links marks known []
order_none links marks known none knows = record { valued = begin; agree = none; knows = knows; few = omega arith }

pub open_ready : (links : List (List ℕ)) (marks : List Bool) (order : List ℕ) → ((k : ℕ) → is_marked marks k ≡ is_among order k) → (i : ℕ) → is_open links marks i ≡ is_ready links order i
open_ready links marks order agree i =
    ap (λ b. not b && are_marked marks (links_at links i)) (agree i) ∙ ap (λ b. not (is_among order i) && b) (same_all (is_marked marks) (is_among order) (links_at links i) agree)

pub same_truth : (a b : Bool) → (a ≡ true → b ≡ true) → (b ≡ true → a ≡ true) → a ≡ b
same_truth true b f g = sym (f refl)
same_truth false true f g = g refl
same_truth false false f g = refl

-- links that are marked stay so
pub still_known : (links : List (List ℕ)) (marks : List Bool) (known : List ℕ) (i : ℕ) → i < length marks → KnowsFronts links marks known → KnowsFronts links (set marks i true) known
still_known links marks known i lt k j = (
  (k j).0,
  from_each (is_marked (set marks i true)) (take (slice_index known j) (links_at links j))
      (λ n m. stays_marked marks i n lt (each (is_marked marks) (take (slice_index known j) (links_at links j)) n (k j).1 m)),
)

pub order_more : (links : List (List ℕ)) (marks : List Bool) (known next_known order : List ℕ) (i : ℕ) → Ordering links marks known order → KnowsFronts links (set marks i true) next_known → IsFirstOpen links marks i →
    i < length marks → length order < length links → Ordering links (set marks i true) next_known (order ++ i ∷ [])
order_more links marks known next_known order i o k f lt less = record {
  valued = next o.valued (record {
    within = f.within;
    ready = sym (open_ready links marks order o.agree i) ∙ f.is;
    earlier = λ j h. sym (open_ready links marks order o.agree j) ∙ f.earlier j h;
  });
  agree = λ j. same_truth (is_marked (set marks i true) j) (is_among (order ++ i ∷ []) j)
      (λ h. elim (was_marked marks i j h) [ inl e ↦ among_front order (i ∷ []) j (sym (o.agree j) ∙ e) | inr e ↦ subst (λ n. is_among (order ++ i ∷ []) n ≡ true) (sym e) (among_last order i) ])
      (λ h. elim (among_push order i j h) [ inl e ↦ stays_marked marks i j lt (o.agree j ∙ e) | inr e ↦ subst (λ n. is_marked (set marks i true) n ≡ true) (sym e) (now_marked marks i lt) ]);
  knows = k;
  few = omega (arith, pushed order i);
}
  where
    pushed : (xs : List ℕ) (x : ℕ) → length (xs ++ x ∷ []) ≡ suc (length xs)
    pushed [] x = refl
    pushed (y ∷ xs) x = ap (λ n. suc n) (pushed xs x)

-- ---- the files that refer to the next one aren't valued
pub ready_parts : (a b : Bool) → (not a && b) ≡ true → (a ≡ false) × (b ≡ true)
ready_parts true b h = absurd (false≢true h)
ready_parts false b h = (refl, h)

pub closed : {links : List (List ℕ)} {order : List ℕ} → Valued links order → (k j : ℕ) → is_among order k ≡ true → is_among (links_at links k) j ≡ true → is_among order j ≡ true
closed begin k j h a = absurd (false≢true h)
closed {links} (next {valued} {i} d n) k j h a = elim (among_push valued i k h) [
  | inl e ↦ among_front valued (i ∷ []) j (closed d k j e a)
  | inr e ↦ among_front valued (i ∷ []) j (each (is_among valued) (links_at links i) j (ready_parts (is_among valued i) (list_all (is_among valued) (links_at links i)) n.ready).1 (subst (λ x. is_among (links_at links x) j ≡ true) e a))
]

pub users_unmarked : (links : List (List ℕ)) (marks : List Bool) (known order : List ℕ) (i k : ℕ) → Ordering links marks known order → IsFirstOpen links marks i → is_among (links_at links k) i ≡ true → is_marked (set marks i true) k ≡ false
users_unmarked links marks known order i k o f a = elim (decide (is_marked (set marks i true) k)) [
  | inl e ↦ absurd (elim (was_marked marks i k e) [
    | inl m ↦ false≢true (sym parts.0 ∙ o.agree i ∙ closed o.valued k i (sym (o.agree k) ∙ m) a)
    | inr m ↦ false≢true (sym parts.0 ∙ each (is_marked marks) (links_at links i) i parts.1 (subst (λ n. is_among (links_at links n) i ≡ true) m a))
  ])
  | inr e ↦ e
]
  where
    parts : (is_marked marks i ≡ false) × (are_marked marks (links_at links i) ≡ true)
    parts = ready_parts (is_marked marks i) (are_marked marks (links_at links i)) f.is
