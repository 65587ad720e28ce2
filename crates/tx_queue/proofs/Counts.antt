-- The number of a transfer's frames.
use Rattle.std.proofs.Common.{◌≡◌, ℕ, zero, suc, ◌+◌, List, length, refl, sym, ap, ◌∙◌}
use Rattle.frag.specs.Wire.{last_frame, frames_from}
use Rattle.tx_queue.specs.Waiting.{needed}

count_from : (m : ℕ) (payload : List ℕ) (tid i n : ℕ) → length (frames_from m payload tid i n) ≡ n
count_from m payload tid i zero = refl
count_from m payload tid i (suc n) = ap suc (count_from m payload tid (i + 1) n)

pub needed_is : (m : ℕ) (payload : List ℕ) (tid n : ℕ) → n ≡ last_frame m payload + 1 → n ≡ needed m payload tid
needed_is m payload tid n e = e ∙ sym (count_from m payload tid 0 (last_frame m payload + 1))
