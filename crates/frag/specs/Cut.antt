-- The frames that are left of a transfer: bytes before tails, and what the next tail says.
use Rattle.std.specs.Prelude.{◌==◌, not, ℕ, zero, suc, Bool, false, List, [], ◌∷◌, ◌++◌, take, drop}
use Rattle.tail_frame.specs.Frames.{tail_byte}

-- the data bytes of n more frames, each with so many bytes before its tail as there are, and at
-- most room
abbrev pub cut : ℕ → ℕ → List ℕ → Bool → Bool → ℕ → List (List ℕ)
cut room tid bytes start toggle zero = []
cut room tid bytes start toggle (suc n) =
    (take room bytes ++ tail_byte (record { start = start; end = n == 0; toggle = toggle; tid = tid }) ∷ [])
    ∷ cut room tid (drop room bytes) false (not toggle) n
