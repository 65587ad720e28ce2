-- The frames of a transfer: its payload cut into data bytes, with padding, CRC and tails. The frame
-- size m is 8 or 64.
use Rattle.std.specs.Prelude.{◌≡◌, ◌+◌, ◌-◌, ◌*◌, ◌/◌, ◌%◌, ◌==◌, ◌<◌, ◌⊎◌, ◌&&◌, ◌||◌, nat_le, not}
use Rattle.std.specs.Prelude.{ℕ, zero, suc, Bool, true, false, if◌then◌else◌, List, [], ◌∷◌, ◌++◌}
use Rattle.std.specs.Prelude.{length, take, drop, replicate}
use Rattle.tail_frame.specs.Frames.{tail_byte}
use Rattle.tail_frame.specs.declared.tail.Tail.{Tail}
use Rattle.transfer_crc.specs.Crc.{crc_bytes}

-- classic CAN or CAN FD
abbrev pub IsFrameSize : ℕ → Type 0
IsFrameSize m = (m ≡ 8) ⊎ (m ≡ 64)

-- the least number of data bytes, not below n, that a frame can have: 0 to 8, 12, 16, 20, 24, 32,
-- 48 or 64
unfoldable pub fitting : ℕ → ℕ
fitting n =
    if nat_le n 8 then n
    else if nat_le n 12 then 12
    else if nat_le n 16 then 16
    else if nat_le n 20 then 20
    else if nat_le n 24 then 24
    else if nat_le n 32 then 32
    else if nat_le n 48 then 48
    else 64

-- whether so long a payload goes in one frame
abbrev pub is_single : ℕ → ℕ → Bool
is_single m size = nat_le size (m - 1)

-- the data bytes of the last frame of so long a payload, without padding: what is left for it, and
-- its tail. A payload of several frames has two bytes of CRC behind it
unfoldable pub last_size : ℕ → ℕ → ℕ
last_size m size = if is_single m size then size + 1 else (size + 1) % (m - 1) + 2

-- the number of zero bytes behind so long a payload
unfoldable pub padding : ℕ → ℕ → ℕ
padding m size = fitting (last_size m size) - last_size m size

-- whether a frame can have so many data bytes, in frames of size m
abbrev pub is_length : ℕ → ℕ → Bool
is_length m n = nat_le n m && (nat_le n 8 || (n == 12 || (n == 16 || (n == 20 || (n == 24 || (n == 32 || (n == 48 || n == 64)))))))

-- so many zero bytes give the last frame such a length, and no fewer do
pub record IsLeastPadding (m size zeros : ℕ) : Type 0 where
  pub fits : is_length m (last_size m size + zeros) ≡ true
  pub least : (fewer : ℕ) → fewer < zeros → is_length m (last_size m size + fewer) ≡ false

-- a payload with its padding
abbrev pub padded : ℕ → List ℕ → List ℕ
padded m payload = payload ++ replicate (padding m (length payload)) 0

-- all bytes before the tails: where there are several frames, the CRC of payload and padding stands
-- behind them
abbrev pub stream : ℕ → List ℕ → List ℕ
stream m payload = if is_single m (length payload) then padded m payload else padded m payload ++ crc_bytes (padded m payload)

-- the number of the last frame, counted from 0
abbrev pub last_frame : ℕ → List ℕ → ℕ
last_frame m payload = (length (stream m payload) - 1) / (m - 1)

abbrev pub is_even : ℕ → Bool
is_even zero = true
is_even (suc n) = not (is_even n)

-- the tail of frame i of a transfer: the toggle alternates, and is set in the first frame
abbrev pub tail_at : ℕ → List ℕ → ℕ → ℕ → Tail
tail_at m payload tid i = record { start = i == 0; end = i == last_frame m payload; toggle = is_even i; tid = tid }

-- the bytes of frame i before its tail
abbrev pub body_at : ℕ → List ℕ → ℕ → List ℕ
body_at m payload i = take (m - 1) (drop (i * (m - 1)) (stream m payload))

-- the data bytes of frame i
abbrev pub frame_at : ℕ → List ℕ → ℕ → ℕ → List ℕ
frame_at m payload tid i = body_at m payload i ++ tail_byte (tail_at m payload tid i) ∷ []

-- those of n frames, from number i on
abbrev pub frames_from : ℕ → List ℕ → ℕ → ℕ → ℕ → List (List ℕ)
frames_from m payload tid i zero = []
frames_from m payload tid i (suc n) = frame_at m payload tid i ∷ frames_from m payload tid (i + 1) n

-- those of all frames of a transfer
abbrev pub frames : ℕ → List ℕ → ℕ → List (List ℕ)
frames m payload tid = frames_from m payload tid 0 (last_frame m payload + 1)
