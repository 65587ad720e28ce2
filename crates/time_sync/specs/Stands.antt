-- The messages that a `Sync` stands for.
use Rattle.std.specs.Prelude.{◌≡◌, ℕ, ◌≤◌, List, [], ◌∷◌, Option, Some, None, ⊤, slice_index_or}
use Rattle.time_sync.specs.declared.last.Last.{Last}
use Rattle.time_sync.specs.declared.sync.Sync.{Sync}
use Rattle.time_sync.specs.Pairs.{Message, of_source, last_offset}

-- no message is after this moment
abbrev pub AllUpTo : ℕ → List Message → Type 0
AllUpTo t [] = ⊤
AllUpTo t (e ∷ past) = (e.moment ≤ t) × AllUpTo t past

-- moments don't fall
abbrev pub AreInOrder : List Message → Type 0
AreInOrder [] = ⊤
AreInOrder (e ∷ past) = AllUpTo e.moment past × AreInOrder past

-- what is kept of one source is what its messages give: nothing, or the last message and the offset
-- of the last pair
abbrev pub IsKept : Option Last → List Message → Type 0
IsKept None [] = ⊤
IsKept None (b ∷ older) = ⊥
IsKept (Some l) [] = ⊥
IsKept (Some l) (b ∷ older) = (l.moment ≡ b.moment) × (l.tid ≡ b.tid) × (l.offset ≡ last_offset (b ∷ older))

-- what a `Sync` keeps is what these messages give of each source
pub record Stands (past : List Message) (sync : Sync) : Type 0 where
  pub kept : (s : ℕ) → s ≤ 127 → IsKept (slice_index_or sync.sources s None) (of_source s past)
  pub order : AreInOrder past
  pub latest : AllUpTo sync.latest past
