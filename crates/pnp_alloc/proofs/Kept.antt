-- What an allocator keeps after an event.
use Rattle.std.proofs.Common.{◌≡◌, ℕ, zero, suc, ◌-◌, ◌≤◌, Bool, true, false, not, ◌&&◌, ◌||◌, eqb, List, [], ◌∷◌, ◌++◌, Option, Some, None, refl, sym, ap, ◌∙◌, inl, inr, arith, get_or, set, replicate}
use Rattle.std.proofs.lemmas.Bool.{cases_eq, cases_lt, both_ways, not-false, eq-eqb, ne_eqb}
use Rattle.std.proofs.lemmas.List.{get_or-set_other, get_or-replicate}
use Rattle.pnp_alloc.specs.declared.event.AllocEvent.TheVariants.{Wanted}
use Rattle.pnp_alloc.specs.declared.event.AllocEvent.{AllocEvent}
use Rattle.pnp_alloc.specs.declared.event.Owner.{Owner}
use Rattle.pnp_alloc.specs.declared.allocator.Allocator.{Allocator}
use Rattle.pnp_alloc.specs.Allocation.{is_seen, is_free, has_node, node_of, owners, owners_with, greatest, greatest_free}
use Rattle.pnp_alloc.specs.Used.{is_open, IsUsedAbove}
use Rattle.pnp_alloc.specs.Stands.{Stands}
use Rattle.pnp_alloc.proofs.Greatest.{greatest_same, greatest_some}
use Rattle.pnp_alloc.proofs.Owned.{owner, has_node-append, or_right, or_left, or_none}

pub used_here : (used : List Bool) (n : ℕ) → get_or (set used n true) n true ≡ true
used_here [] n = refl
used_here (x ∷ xs) zero = refl
used_here (x ∷ xs) (suc n) = used_here xs n

-- what is used stays so
pub used_still : (used : List Bool) (n k : ℕ) → get_or used k true ≡ true → get_or (set used n true) k true ≡ true
used_still used n k h = elim (cases_eq k n) [
  | inl same ↦ ap (λ j. get_or (set used n true) j true) same ∙ used_here used n
  | inr other ↦ get_or-set_other used n k true true other ∙ h
]

-- a number at or below the top is the greatest that isn't used
pub top_above : (top n : ℕ) (used : List Bool) → IsUsedAbove top used → greatest (is_open used) 125 ≡ Some n → n ≤ top
top_above top n used h e = elim (cases_lt top n) [
  | inl above ↦ let g = greatest_some (is_open used) 125 n e in absurd (both_ways (is_open used n) (ap not (h n above g.high)) g.here)
  | inr within ↦ within
]

pub above_given : (n : ℕ) (used : List Bool) → greatest (is_open used) 125 ≡ Some n → IsUsedAbove (n - 1) (set used n true)
above_given n used e k a b = elim (cases_eq k n) [
  | inl same ↦ ap (λ j. get_or (set used n true) j true) same ∙ used_here used n
  | inr other ↦ let g = greatest_some (is_open used) 125 n e in used_still used n k (not-false (get_or used k true) (g.above k (omega arith) b))
]

abbrev free : Bool → Bool → Bool → Bool
free a b c = not a && (not b && not c)

free_given : (a b : Bool) → free a b true ≡ false
free_given true b = refl
free_given false true = refl
free_given false false = refl

free_new : (a : Bool) → free a false false ≡ not a
free_new true = refl
free_new false = refl

-- nothing heard yet
pub open_first : (own n : ℕ) → n ≤ 127 → is_open (set (replicate 128 false) own true) n ≡ is_free own [] [] n
open_first own n h = elim (cases_eq n own) [
  | inl same ↦
      ap (λ j. not (get_or (set (replicate 128 false) own true) j true)) same
      ∙ ap not (used_here (replicate 128 false) own)
      ∙ sym (ap (λ b. free b false false) (eq-eqb own n (sym same)))
  | inr other ↦
      ap not (get_or-set_other (replicate 128 false) own n true true other ∙ get_or-replicate 128 n false true (omega arith))
      ∙ sym (ap (λ b. free b false false) (ne_eqb own n (λ e. other (sym e))))
]

-- a node-ID is given
open_given : (own u n k : ℕ) (past : List AllocEvent) (os : List Owner) (used : List Bool)
    → is_open used k ≡ is_free own past os k → is_open (set used n true) k ≡ is_free own past (os ++ owner u n ∷ []) k
open_given own u n k past os used h = elim (cases_eq k n) [
  | inl same ↦
      ap (λ j. not (get_or (set used n true) j true)) same
      ∙ ap not (used_here used n)
      ∙ sym (ap (λ b. free (eqb own k) (is_seen past k) b) (has_node-append os (owner u n ∷ []) k ∙ or_right (has_node os k) (eqb n k || false) (or_left (eqb n k) false (eq-eqb n k (sym same)))) ∙ free_given (eqb own k) (is_seen past k))
  | inr other ↦
      ap not (get_or-set_other used n k true true other)
      ∙ h
      ∙ sym (ap (λ b. free (eqb own k) (is_seen past k) b) (has_node-append os (owner u n ∷ []) k ∙ ap (λ b. has_node os k || (b || false)) (ne_eqb n k (λ e. other (sym e))) ∙ or_none (has_node os k)))
]

-- the greatest number that isn't used is the greatest that is free
pub greatest_stands : (own : ℕ) (past : List AllocEvent) (a : Allocator) → Stands own past a → greatest (is_open a.used) 125 ≡ greatest_free own past (owners own past)
greatest_stands own past a s = greatest_same (is_open a.used) (is_free own past (owners own past)) 125 (λ n h. s.free_are n (omega arith))

pub node_stands : (own u : ℕ) (past : List AllocEvent) (a : Allocator) (o : Option ℕ) → Stands own past a → o ≡ node_of u a.owners → node_of u (owners own past) ≡ o
node_stands own u past a o s e = sym (e ∙ ap (node_of u) s.owners_are)

pub stands_given : (own u n : ℕ) (past : List AllocEvent) (a b : Allocator) → Stands own past a → node_of u (owners own past) ≡ None → greatest_free own past (owners own past) ≡ Some n
    → b.used ≡ set a.used n true → b.owners ≡ a.owners ++ owner u n ∷ [] → Stands own (Wanted u ∷ past) b
stands_given own u n past a b s new number e f =
    let now : owners own (Wanted u ∷ past) ≡ owners own past ++ owner u n ∷ [] =
    ap (λ o. owners_with u o (greatest_free own past (owners own past)) (owners own past)) new ∙ ap (λ o. owners_with u None o (owners own past)) number in
    record {
      owners_are = f ∙ ap (λ os. os ++ owner u n ∷ []) s.owners_are ∙ sym now;
      free_are = λ k h. ap (λ used. is_open used k) e ∙ open_given own u n k past (owners own past) a.used (s.free_are k h) ∙ ap (λ os. is_free own past os k) (sym now);
    }

-- nothing changes where the owners don't
pub stands_same : (own u : ℕ) (past : List AllocEvent) (a : Allocator) → Stands own past a → owners own (Wanted u ∷ past) ≡ owners own past → Stands own (Wanted u ∷ past) a
stands_same own u past a s e = record {
  owners_are = s.owners_are ∙ sym e;
  free_are = λ k h. s.free_are k h ∙ ap (λ os. is_free own past os k) (sym e);
}

pub full_same : (own u : ℕ) (past : List AllocEvent) → node_of u (owners own past) ≡ None → greatest_free own past (owners own past) ≡ None → owners own (Wanted u ∷ past) ≡ owners own past
full_same own u past e f = ap (λ o. owners_with u o (greatest_free own past (owners own past)) (owners own past)) e ∙ ap (λ o. owners_with u None o (owners own past)) f
