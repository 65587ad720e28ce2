-- Messages that tell the time, and pairs of them. Messages are a list with the newest first.
use Rattle.std.specs.Prelude.{ℕ, ℤ, pos, ◌-ℤ◌, ◌+◌, ◌%◌, ◌==◌, nat_le, not, ◌&&◌, if◌then◌else◌}
use Rattle.std.specs.Prelude.{List, [], ◌∷◌, Option, Some, None}

-- a message: its moment, its source, its transfer-ID, and the source's moment of sending the
-- message before it, or 0
pub record Message : Type 0 where
  pub moment : ℕ
  pub source : ℕ
  pub tid : ℕ
  pub stamp : ℕ

-- the messages of one source
abbrev pub of_source : ℕ → List Message → List Message
of_source s [] = []
of_source s (e ∷ past) = if e.source == s then e ∷ of_source s past else of_source s past

-- the offset of the last pair after a message at a moment b with a transfer-ID and a stamp, behind
-- one at a: a pair where its transfer-ID is the next one, it comes at most 2 seconds later, and its
-- stamp isn't 0; else that before
abbrev pub offset_after : ℕ → ℕ → ℕ → ℕ → ℕ → Option ℤ → Option ℤ
offset_after a tid_a b tid_b stamp before =
    if (tid_b == (tid_a + 1) % 32) && (nat_le b (a + 2000000) && not (stamp == 0)) then Some (pos stamp -ℤ pos a) else before

-- the offset of the last pair among one source's messages
abbrev pub last_offset : List Message → Option ℤ
last_offset [] = None
last_offset (b ∷ []) = None
last_offset (b ∷ a ∷ older) = offset_after a.moment a.tid b.moment b.tid b.stamp (last_offset (a ∷ older))
