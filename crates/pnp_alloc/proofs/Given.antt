-- The laws: what was given, by the owners.
use Rattle.std.proofs.Common.{◌≡◌, ℕ, ◌≤◌, true, false, not, ◌&&◌, eqb, List, [], ◌∷◌, ◌++◌, Option, Some, None, refl, sym, ap, ◌∙◌, ◌⊎◌, inl, inr, append_assoc}
use Rattle.std.proofs.lemmas.Bool.{cases_lt, both_ways, not-true, and_parts, and_from, cases_Bool, eqb-false, ne_eqb}
use Rattle.std.proofs.lemmas.List.{append-nil}
use Rattle.pnp_alloc.specs.declared.event.AllocEvent.{AllocEvent}
use Rattle.pnp_alloc.specs.declared.event.AllocEvent.TheVariants.{Seen, Wanted}
use Rattle.pnp_alloc.specs.declared.event.AllocOut.TheVariants.{Given, Full}
use Rattle.pnp_alloc.specs.declared.event.Owner.{Owner}
use Rattle.pnp_alloc.specs.Allocation.{is_seen, node_of, has_node, is_free, greatest_free, with_owner, owners_with, owners, given, given_to, answer}
use Rattle.pnp_alloc.specs.Laws.{WasGiven, IsNew, IsFree, Owns, AllocLaws}
use Rattle.pnp_alloc.proofs.Greatest.{greatest_some, greatest_none, none_greatest}
use Rattle.pnp_alloc.proofs.Owned.{owner, some_inj, node_of-append_some, node_of-append_none, node_of_same, owns_of, owns-append, has_node_of, has_owner}

given_inj : (m n : ℕ) → Given m ≡ Given n → m ≡ n
given_inj m n e = cc

-- a number that is given is there
given_some : (g : Option ℕ) (n : ℕ) → given g ≡ Given n → g ≡ Some n
given_some None n e = cc
given_some (Some m) n e = ap (λ k. Some k) (given_inj m n e)

given_full : (g : Option ℕ) → given g ≡ Full → g ≡ None
given_full None e = refl
given_full (Some m) e = cc

-- after u is answered Given n it has n
node_after : (u n : ℕ) (o g : Option ℕ) (os : List Owner) → node_of u os ≡ o → given_to o g ≡ Given n → node_of u (owners_with u o g os) ≡ Some n
node_after u n (Some m) g os e f = e ∙ ap (λ k. Some k) (given_inj m n f)
node_after u n None None os e f = cc
node_after u n None (Some m) os e f = node_of-append_none u os (owner u m ∷ []) e ∙ node_of_same u m ∙ ap (λ k. Some k) (given_inj m n f)

-- and whoever has one keeps it
node_still : (u n w : ℕ) (o g : Option ℕ) (os : List Owner) → node_of u os ≡ Some n → node_of u (owners_with w o g os) ≡ Some n
node_still u n w (Some m) g os e = e
node_still u n w None None os e = e
node_still u n w None (Some m) os e = node_of-append_some u n os (owner w m ∷ []) e

pub known : (own u n : ℕ) (past : List AllocEvent) → WasGiven own u n past → node_of u (owners own past) ≡ Some n
known own u n [] h = absurd h
known own u n (Seen m ∷ past) h = known own u n past h
known own u n (Wanted w ∷ past) (inl h) =
    let os = owners own past in
    ap (λ v. node_of v (owners own (Wanted w ∷ past))) (sym h.0) ∙ node_after w n (node_of w os) (greatest_free own past os) os refl h.1
known own u n (Wanted w ∷ past) (inr h) =
    let os = owners own past in
    node_still u n w (node_of w os) (greatest_free own past os) os (known own u n past h)

-- who is among the owners after a Wanted was there, or was given its node-ID now
owns_after : (u n w : ℕ) (o g : Option ℕ) (os : List Owner) → Owns u n (owners_with w o g os) → Owns u n os ⊎ ((o ≡ None) × (g ≡ Some n) × (w ≡ u))
owns_after u n w (Some m) g os h = inl h
owns_after u n w None None os h = inl h
owns_after u n w None (Some m) os h = elim (owns-append u n os (owner w m ∷ []) h) [
  | inl a ↦ inl a
  | inr b ↦ elim b [ inl c ↦ inr (refl, ap (λ k. Some k) c.1, c.0) | inr d ↦ absurd d ]
]

answer_new : (n : ℕ) (o g : Option ℕ) → o ≡ None → g ≡ Some n → given_to o g ≡ Given n
answer_new n o g e f = ap (λ x. given_to x g) e ∙ ap given f

pub owned_given : (own u n : ℕ) (past : List AllocEvent) → Owns u n (owners own past) → WasGiven own u n past
owned_given own u n [] h = absurd h
owned_given own u n (Seen m ∷ past) h = owned_given own u n past h
owned_given own u n (Wanted w ∷ past) h =
    let os = owners own past in
    elim (owns_after u n w (node_of w os) (greatest_free own past os) os h) [
      | inl before ↦ inr (owned_given own u n past before)
      | inr now ↦ inl (now.2, answer_new n (node_of w os) (greatest_free own past os) now.0 now.1)
    ]

pub given_owned : (own u n : ℕ) (past : List AllocEvent) → WasGiven own u n past → Owns u n (owners own past)
given_owned own u n past h = owns_of u n (owners own past) (known own u n past h)

none_from : (o : Option ℕ) → ((n : ℕ) → o ≡ Some n → ⊥) → o ≡ None
none_from None h = refl
none_from (Some n) h = absurd (h n refl)

-- who was given nothing has nothing
pub new_none : (own u : ℕ) (past : List AllocEvent) → IsNew own u past → node_of u (owners own past) ≡ None
new_none own u past h = none_from (node_of u (owners own past)) (λ n e. h n (owned_given own u n past (owns_of u n (owners own past) e)))

none_new : (own u : ℕ) (past : List AllocEvent) → node_of u (owners own past) ≡ None → IsNew own u past
none_new own u past e n h = let f = known own u n past h in cc

first_answer : (own u : ℕ) (past : List AllocEvent) → IsNew own u past → answer own (Wanted u) past ≡ given (greatest_free own past (owners own past))
first_answer own u past h = ap (λ o. given_to o (greatest_free own past (owners own past))) (new_none own u past h)

first_number : (own u n : ℕ) (past : List AllocEvent) → IsNew own u past → answer own (Wanted u) past ≡ Given n → greatest_free own past (owners own past) ≡ Some n
first_number own u n past h e = given_some (greatest_free own past (owners own past)) n (sym (first_answer own u past h) ∙ e)

-- what is free, as a test and in words
free_words : (own n : ℕ) (past : List AllocEvent) → 1 ≤ n → n ≤ 125 → is_free own past (owners own past) n ≡ true → IsFree own past n
free_words own n past a b h =
    let p = and_parts (not (eqb own n)) (not (is_seen past n) && not (has_node (owners own past) n)) h in
    let q = and_parts (not (is_seen past n)) (not (has_node (owners own past) n)) p.1 in
    record {
      low = a;
      high = b;
      other = eqb-false own n (not-true (eqb own n) p.0);
      unseen = not-true (is_seen past n) q.0;
      ungiven = λ u g. both_ways (has_node (owners own past) n) (not-true (has_node (owners own past) n) q.1) (has_node_of u n (owners own past) (given_owned own u n past g));
    }

unowned : (own n : ℕ) (past : List AllocEvent) → ((u : ℕ) → WasGiven own u n past → ⊥) → has_node (owners own past) n ≡ false
unowned own n past h = elim (cases_Bool (has_node (owners own past) n)) [
  | inl t ↦ let o = has_owner n (owners own past) t in absurd (h o.0 (owned_given own o.0 n past o.1))
  | inr f ↦ f
]

words_free : (own n : ℕ) (past : List AllocEvent) → IsFree own past n → is_free own past (owners own past) n ≡ true
words_free own n past f =
    and_from (not (eqb own n)) (not (is_seen past n) && not (has_node (owners own past) n)) (ap not (ne_eqb own n f.other))
    (and_from (not (is_seen past n)) (not (has_node (owners own past) n)) (ap not f.unseen) (ap not (unowned own n past f.ungiven)))

first_free : (own : ℕ) (past : List AllocEvent) (u n : ℕ) → IsNew own u past → answer own (Wanted u) past ≡ Given n → IsFree own past n
first_free own past u n h e =
    let g = greatest_some (is_free own past (owners own past)) 125 n (first_number own u n past h e) in
    free_words own n past g.low g.high g.here

first_greatest : (own : ℕ) (past : List AllocEvent) (u n m : ℕ) → IsNew own u past → answer own (Wanted u) past ≡ Given n → IsFree own past m → m ≤ n
first_greatest own past u n m h e f =
    let g = greatest_some (is_free own past (owners own past)) 125 n (first_number own u n past h e) in
    elim (cases_lt n m) [
      | inl above ↦ absurd (both_ways (is_free own past (owners own past) m) (g.above m above f.high) (words_free own m past f))
      | inr within ↦ within
    ]

given_to_full : (o g : Option ℕ) → given_to o g ≡ Full → (o ≡ None) × (g ≡ None)
given_to_full None g e = (refl, given_full g e)
given_to_full (Some n) g e = cc

full_only : (own : ℕ) (past : List AllocEvent) (u : ℕ) → answer own (Wanted u) past ≡ Full → IsNew own u past × ((m : ℕ) → IsFree own past m → ⊥)
full_only own past u e =
    let os = owners own past in
    let parts = given_to_full (node_of u os) (greatest_free own past os) e in
    (none_new own u past parts.0, λ m f. both_ways (is_free own past os m) (greatest_none (is_free own past os) 125 parts.1 m f.low f.high) (words_free own m past f))

unfree : (own m : ℕ) (past : List AllocEvent) → ((k : ℕ) → IsFree own past k → ⊥) → 1 ≤ m → m ≤ 125 → is_free own past (owners own past) m ≡ false
unfree own m past h a b = elim (cases_Bool (is_free own past (owners own past) m)) [
  | inl t ↦ absurd (h m (free_words own m past a b t))
  | inr f ↦ f
]

full_where : (own : ℕ) (past : List AllocEvent) (u : ℕ) → IsNew own u past × ((m : ℕ) → IsFree own past m → ⊥) → answer own (Wanted u) past ≡ Full
full_where own past u h =
    first_answer own u past h.0
    ∙ ap given (none_greatest (is_free own past (owners own past)) 125 (λ m a b. unfree own m past h.1 a b))

grown : (w : ℕ) (o g : Option ℕ) (os : List Owner) → (more : List Owner) × (owners_with w o g os ≡ os ++ more)
grown w (Some m) g os = ([], sym (append-nil os))
grown w None None os = ([], sym (append-nil os))
grown w None (Some m) os = (owner w m ∷ [], refl)

stays : (own : ℕ) (newer past : List AllocEvent) → (more : List Owner) × (owners own (newer ++ past) ≡ owners own past ++ more)
stays own [] past = ([], sym (append-nil (owners own past)))
stays own (Seen n ∷ newer) past = stays own newer past
stays own (Wanted w ∷ newer) past =
    let os = owners own (newer ++ past) in
    let before = stays own newer past in
    let now = grown w (node_of w os) (greatest_free own (newer ++ past) os) os in
    (before.0 ++ now.0, now.1 ∙ ap (λ l. l ++ now.0) before.1 ∙ append_assoc (owners own past) before.0 now.0)

first_owner : (own : ℕ) (past : List AllocEvent) (u n : ℕ) → IsNew own u past → answer own (Wanted u) past ≡ Given n → owners own (Wanted u ∷ past) ≡ owners own past ++ owner u n ∷ []
first_owner own past u n h e =
    ap (λ o. owners_with u o (greatest_free own past (owners own past)) (owners own past)) (new_none own u past h)
    ∙ ap (λ o. with_owner u o (owners own past)) (first_number own u n past h e)

again : (own : ℕ) (past : List AllocEvent) (u n : ℕ) → WasGiven own u n past → answer own (Wanted u) past ≡ Given n
again own past u n h = ap (λ o. given_to o (greatest_free own past (owners own past))) (known own u n past h)

again_owner : (own : ℕ) (past : List AllocEvent) (u n : ℕ) → WasGiven own u n past → owners own (Wanted u ∷ past) ≡ owners own past
again_owner own past u n h = ap (λ o. owners_with u o (greatest_free own past (owners own past)) (owners own past)) (known own u n past h)

one_node : (own : ℕ) (past : List AllocEvent) (u m n : ℕ) → WasGiven own u m past → WasGiven own u n past → m ≡ n
one_node own past u m n h k = some_inj m n (sym (known own u m past h) ∙ known own u n past k)

-- a number that is given now has no owner
number_free : (own n : ℕ) (past : List AllocEvent) (os : List Owner) → greatest_free own past os ≡ Some n → has_node os n ≡ false
number_free own n past os e =
    let g = greatest_some (is_free own past os) 125 n e in
    let p = and_parts (not (eqb own n)) (not (is_seen past n) && not (has_node os n)) g.here in
    let q = and_parts (not (is_seen past n)) (not (has_node os n)) p.1 in
    not-true (has_node os n) q.1

one_owner : (own u w n : ℕ) (past : List AllocEvent) → Owns u n (owners own past) → Owns w n (owners own past) → u ≡ w
one_owner own u w n [] h k = absurd h
one_owner own u w n (Seen m ∷ past) h k = one_owner own u w n past h k
one_owner own u w n (Wanted v ∷ past) h k =
    let os = owners own past in
    let o = node_of v os in
    let g = greatest_free own past os in
    elim (owns_after u n v o g os h) [
      | inl a ↦ elim (owns_after w n v o g os k) [
        | inl b ↦ one_owner own u w n past a b
        | inr b ↦ absurd (both_ways (has_node os n) (number_free own n past os b.1) (has_node_of u n os a))
      ]
      | inr a ↦ elim (owns_after w n v o g os k) [
        | inl b ↦ absurd (both_ways (has_node os n) (number_free own n past os a.1) (has_node_of w n os b))
        | inr b ↦ sym a.2 ∙ b.2
      ]
    ]

pub alloc_laws : AllocLaws
alloc_laws = record {
  again = again;
  first_free = first_free;
  first_greatest = first_greatest;
  full = λ own past u. (full_only own past u, full_where own past u);
  first_owner = first_owner;
  again_owner = again_owner;
  owned = λ own past u n. (given_owned own u n past, owned_given own u n past);
  stays = stays;
  one_node = one_node;
  one_uid = λ own past u w n h k. one_owner own u w n past (given_owned own u n past h) (given_owned own w n past k);
}
