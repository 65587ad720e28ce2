-- The data bytes of a frame are bytes, and at most eight.
use Rattle.std.proofs.Common.{ℕ, zero, suc, ◌-◌, ◌*◌, ◌/◌, ◌%◌, ◌^◌, ◌<◌, ◌≤◌, Bool, true, false, eqb, List, [], ◌∷◌, ◌++◌, length, drop, replicate, length-append, length-take, arith}
use Rattle.std.specs.Prelude.{All}
use Rattle.std.specs.Int.RustNames.{bit_xor}
use Rattle.std.proofs.lemmas.Bool.{cond_both}
use Rattle.std.proofs.lemmas.List.Elements.{All-nil, All-cons, All-append, All-replicate, All-take, All-drop}
use Rattle.std.proofs.lemmas.Nat.{xor_of_16}
use Rattle.can_id.specs.Identifiers.{flag}
use Rattle.tail_frame.specs.Frames.{tail_byte}
use Rattle.tail_frame.specs.declared.tail.Tail.{Tail}
use Rattle.transfer_crc.specs.Crc.{crc_bit, crc_bits, crc_more, crc_of, crc_bytes}
use Rattle.frag.specs.Wire.{is_single, padding, padded, stream, tail_at, body_at, frame_at}

abbrev pub IsByte : ℕ → Type 0
IsByte b = b < 256

bit_within : (r b : ℕ) → crc_bit r b < 65536
bit_within r b =
    cond_both (eqb (r / 32768 % 2) b) (2 * r % 65536) (bit_xor (2 * r % 65536) 0x1021) (λ n. n < 65536)
    (λ _. omega arith) (λ _. xor_of_16 (2 * r % 65536) 0x1021 (omega arith) (omega arith))

bits_within : (k r byte : ℕ) → r < 65536 → crc_bits k r byte < 65536
bits_within zero r byte l = l
bits_within (suc k) r byte l = bits_within k (crc_bit r (byte / 2 ^ k % 2)) byte (bit_within r (byte / 2 ^ k % 2))

crc_within : (bytes : List ℕ) (r : ℕ) → r < 65536 → crc_more r bytes < 65536
crc_within [] r l = l
crc_within (byte ∷ bytes) r l = crc_within bytes (crc_bits 8 r byte) (bits_within 8 r byte l)

crc_are_bytes : (bytes : List ℕ) → All IsByte (crc_bytes bytes)
crc_are_bytes bytes =
    let l : crc_of bytes < 65536 = crc_within bytes 0xFFFF (omega arith) in
    All-cons IsByte (crc_of bytes / 256) (crc_of bytes % 256 ∷ []) (omega arith)
    (All-cons IsByte (crc_of bytes % 256) [] (omega arith) (All-nil IsByte))

flag_within : (b : Bool) → flag b ≤ 1
flag_within true = omega arith
flag_within false = omega arith

tail_within : (tail : Tail) → tail.tid < 32 → tail_byte tail < 256
tail_within tail l = omega (arith, flag_within tail.start, flag_within tail.end, flag_within tail.toggle)

padded_are_bytes : (m : ℕ) (payload : List ℕ) → All IsByte payload → All IsByte (padded m payload)
padded_are_bytes m payload a =
    All-append IsByte payload (replicate (padding m (length payload)) 0) a
    (All-replicate IsByte (padding m (length payload)) 0 (omega arith))

stream_are_bytes : (m : ℕ) (payload : List ℕ) → All IsByte payload → All IsByte (stream m payload)
stream_are_bytes m payload a =
    let p = padded m payload in
    cond_both (is_single m (length payload)) p (p ++ crc_bytes p) (All IsByte) (λ _. padded_are_bytes m payload a)
    (λ _. All-append IsByte p (crc_bytes p) (padded_are_bytes m payload a) (crc_are_bytes p))

pub frame_are_bytes : (m : ℕ) (payload : List ℕ) (tid i : ℕ) → tid < 32 → All IsByte payload → All IsByte (frame_at m payload tid i)
frame_are_bytes m payload tid i l a =
    let body = All-take IsByte (m - 1) (drop (i * (m - 1)) (stream m payload)) (All-drop IsByte (i * (m - 1)) (stream m payload) (stream_are_bytes m payload a)) in
    let tail = tail_byte (tail_at m payload tid i) in
    All-append IsByte (body_at m payload i) (tail ∷ []) body
    (All-cons IsByte tail [] (tail_within (tail_at m payload tid i) l) (All-nil IsByte))

pub frame_size : (payload : List ℕ) (tid i : ℕ) → length (frame_at 8 payload tid i) ≤ 8
frame_size payload tid i =
    let tail = tail_byte (tail_at 8 payload tid i) in
    let rest = drop (i * (8 - 1)) (stream 8 payload) in omega (arith, length-append (body_at 8 payload i) (tail ∷ []), length-take 7 rest)
