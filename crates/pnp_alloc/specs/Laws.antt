-- The laws of allocation, over every list of events.
use Rattle.std.specs.Prelude.{◌≡◌, ◌≢◌, ℕ, ◌≤◌, ◌↔◌, ◌⊎◌, false, List, [], ◌∷◌, ◌++◌}
use Rattle.pnp_alloc.specs.declared.event.AllocEvent.{AllocEvent}
use Rattle.pnp_alloc.specs.declared.event.AllocEvent.TheVariants.{Seen, Wanted}
use Rattle.pnp_alloc.specs.declared.event.AllocOut.TheVariants.{Given, Full}
use Rattle.pnp_alloc.specs.declared.event.Owner.{Owner}
use Rattle.pnp_alloc.specs.Allocation.{is_seen, owners, answer}

-- an earlier Wanted of u was answered Given n
abbrev pub WasGiven : ℕ → ℕ → ℕ → List AllocEvent → Type 0
WasGiven own u n [] = ⊥
WasGiven own u n (Seen m ∷ past) = WasGiven own u n past
WasGiven own u n (Wanted w ∷ past) = ((w ≡ u) × (answer own (Wanted w) past ≡ Given n)) ⊎ WasGiven own u n past

-- u was given no node-ID so far
abbrev pub IsNew : ℕ → ℕ → List AllocEvent → Type 0
IsNew own u past = (n : ℕ) → WasGiven own u n past → ⊥

-- n is free: a number from 1 to 125 that isn't the allocator's own, was in no Seen and in no Given
pub record IsFree (own : ℕ) (past : List AllocEvent) (n : ℕ) : Type 0 where
  pub low : 1 ≤ n
  pub high : n ≤ 125
  pub other : own ≢ n
  pub unseen : is_seen past n ≡ false
  pub ungiven : (u : ℕ) → WasGiven own u n past → ⊥

-- u has the node-ID n among these owners
abbrev pub Owns : ℕ → ℕ → List Owner → Type 0
Owns u n [] = ⊥
Owns u n (o ∷ os) = ((o.uid ≡ u) × (o.node ≡ n)) ⊎ Owns u n os

-- past is any list of events, u a unique id and n a number
pub record AllocLaws : Type 0 where
  -- who was given a node-ID is given it again
  pub again : (own : ℕ) (past : List AllocEvent) (u n : ℕ) → WasGiven own u n past
      → answer own (Wanted u) past ≡ Given n
  -- who wasn't is given the greatest free number, and Full exactly where none is free
  pub first_free : (own : ℕ) (past : List AllocEvent) (u n : ℕ) → IsNew own u past
      → answer own (Wanted u) past ≡ Given n → IsFree own past n
  pub first_greatest : (own : ℕ) (past : List AllocEvent) (u n m : ℕ) → IsNew own u past
      → answer own (Wanted u) past ≡ Given n → IsFree own past m → m ≤ n
  pub full : (own : ℕ) (past : List AllocEvent) (u : ℕ)
      → (answer own (Wanted u) past ≡ Full) ↔ (IsNew own u past × ((m : ℕ) → IsFree own past m → ⊥))
  -- the owners are those that were given a node-ID, in the order of their first Givens, and none
  -- leaves
  pub first_owner : (own : ℕ) (past : List AllocEvent) (u n : ℕ) → IsNew own u past
      → answer own (Wanted u) past ≡ Given n
      → owners own (Wanted u ∷ past) ≡ owners own past ++ record { uid = u; node = n } ∷ []
  pub again_owner : (own : ℕ) (past : List AllocEvent) (u n : ℕ) → WasGiven own u n past
      → owners own (Wanted u ∷ past) ≡ owners own past
  pub owned : (own : ℕ) (past : List AllocEvent) (u n : ℕ)
      → WasGiven own u n past ↔ Owns u n (owners own past)
  pub stays : (own : ℕ) (newer past : List AllocEvent)
      → (more : List Owner) × (owners own (newer ++ past) ≡ owners own past ++ more)
  -- no unique id has two node-IDs, and no node-ID two unique ids
  pub one_node : (own : ℕ) (past : List AllocEvent) (u m n : ℕ) → WasGiven own u m past
      → WasGiven own u n past → m ≡ n
  pub one_uid : (own : ℕ) (past : List AllocEvent) (u w n : ℕ) → WasGiven own u n past
      → WasGiven own w n past → u ≡ w
