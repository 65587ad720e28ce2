-- The laws of the estimate, over every list of messages.
use Rattle.std.specs.Prelude.{◌≡◌, ◌≢◌, ℕ, ℤ, pos, ◌-ℤ◌, ◌+◌, ◌%◌, ◌<◌, ◌≤◌, ◌↔◌, ◌⊎◌, true, false}
use Rattle.std.specs.Prelude.{List, [], ◌∷◌, Some, None}
use Rattle.time_sync.specs.Pairs.{Message, of_source, last_offset}
use Rattle.time_sync.specs.Times.{is_online, master, estimate}

-- b, behind a of the same source, makes a pair with it: it has the next transfer-ID, it comes at
-- most 2 seconds later, and its stamp isn't 0
abbrev pub IsPair : Message → Message → Type 0
IsPair a b = (b.tid ≡ (a.tid + 1) % 32) × (b.moment ≤ a.moment + 2000000) × (b.stamp ≢ 0)

-- a and b are the last pair among the messages of one source: of those in a row, no later two are a
-- pair
abbrev pub IsLastPair : Message → Message → List Message → Type 0
IsLastPair a b [] = ⊥
IsLastPair a b (d ∷ []) = ⊥
IsLastPair a b (d ∷ c ∷ older) = (IsPair c d × (c ≡ a) × (d ≡ b)) ⊎ ((IsPair c d → ⊥) × IsLastPair a b (c ∷ older))

-- past is any list of messages, m a moment
pub record SyncLaws : Type 0 where
  -- the master is online, and no lesser source is
  pub master_online : (m : ℕ) (past : List Message) (s : ℕ) → master m past ≡ Some s
      → (s < 128) × (is_online m past s ≡ true)
  pub master_least : (m : ℕ) (past : List Message) (s t : ℕ) → master m past ≡ Some s → t < s
      → is_online m past t ≡ false
  pub no_master : (m : ℕ) (past : List Message)
      → (master m past ≡ None) ↔ ((s : ℕ) → s < 128 → is_online m past s ≡ false)
  -- the offset of one source's messages is that of their last pair: its stamp less the moment
  -- before it
  pub offset : (ms : List Message) (o : ℤ)
      → (last_offset ms ≡ Some o) ↔ ((a b : Message) × IsLastPair a b ms × (o ≡ pos b.stamp -ℤ pos a.moment))
  pub no_offset : (ms : List Message)
      → (last_offset ms ≡ None) ↔ ((a b : Message) → IsLastPair a b ms → ⊥)
  -- there is no estimate exactly where there is no master, or it has no pair
  pub none : (m : ℕ) (past : List Message)
      → (estimate m past ≡ None) ↔ ((master m past ≡ None) ⊎ ((s : ℕ) × (master m past ≡ Some s) × (last_offset (of_source s past) ≡ None)))
