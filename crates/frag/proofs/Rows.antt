-- The frames of a transfer in a row.
use Rattle.std.proofs.Common.{◌≡◌, ℕ, ◌+◌, ◌-◌, ◌*◌, ◌/◌, ◌<◌, ◌≤◌, true, false, not, List, ◌++◌, length, take, drop, sym, ap, ◌∙◌, subst, inl, inr, take_all, take-add, add-one, length-append, arith}
use Rattle.std.proofs.lemmas.Bool.{cases_lt}
use Rattle.std.proofs.Math.Seq.{take-append_seam}
use Rattle.tail_frame.specs.Chains.{KeyRecord, differs, without_crc}
use Rattle.transfer_crc.specs.Crc.{crc_bytes}
use Rattle.frag.specs.Wire.{IsFrameSize, padded, stream, last_frame, is_even}
use Rattle.frag.specs.Sent.{IsFrame}
use Rattle.frag.specs.declared.sent.Transfer.{Transfer}
use Rattle.frag.proofs.Follows.{differs_same, differs_other}
use Rattle.frag.proofs.Sizes.{stream_many, one_frame}

div_up : (n d : ℕ) → 0 < d → n ≤ ((n - 1) / d + 1) * d
div_up n d p = omega arith

room : (m : ℕ) → IsFrameSize m → 0 < m - 1
room m size = elim size [ inl e ↦ omega arith | inr e ↦ omega arith ]

-- a transfer of several frames is longer than one
pub several : (x : Transfer) (m : ℕ) → IsFrameSize m → 0 < last_frame m x.payload → m - 1 < length x.payload
several x m size more =
    elim (cases_lt (m - 1) (length x.payload)) [
      | inl l ↦ l
      | inr g ↦ (let none = one_frame m x.payload size g in absurd (omega arith))
    ]

-- the bytes of the first frame
pub first_bytes : (x : Transfer) (m : ℕ) (r : KeyRecord) → IsFrame x m 0 r → r.body ≡ take ((0 + 1) * (m - 1)) (stream m x.payload)
first_bytes x m r f =
    let zero_at : 0 * (m - 1) ≡ 0 = omega arith in
    let one_of : m - 1 ≡ (0 + 1) * (m - 1) = omega arith in
    f.body ∙ (ap (λ n. take (m - 1) (drop n (stream m x.payload))) zero_at ∙ ap (λ n. take n (stream m x.payload)) one_of)

-- those of the frames before one, and its own
pub more_bytes : (whole a b : List ℕ) (k i n : ℕ) → i ≡ k + 1 → a ≡ take ((k + 1) * n) whole → b ≡ take n (drop (i * n) whole) → a ++ b ≡ take ((i + 1) * n) whole
more_bytes whole a b k i n e u v =
    let at : (k + 1) * n ≡ i * n = ap (λ t. t * n) (sym e) in
    let up : i * n + n ≡ (i + 1) * n = omega arith in
    ap (λ t. t ++ b) (u ∙ ap (λ t. take t whole) at) ∙ (ap (λ t. take (i * n) whole ++ t) v ∙ (sym (take-add (i * n) n whole) ∙ ap (λ t. take t whole) up))

-- those of all frames
pub all_bytes : (x : Transfer) (m : ℕ) → IsFrameSize m → take ((last_frame m x.payload + 1) * (m - 1)) (stream m x.payload) ≡ stream m x.payload
all_bytes x m size = take_all ((last_frame m x.payload + 1) * (m - 1)) (stream m x.payload) (div_up (length (stream m x.payload)) (m - 1) (room m size))

-- of several frames they are the data and its CRC
pub without_crc_is : (x : Transfer) (m : ℕ) → IsFrameSize m → 0 < last_frame m x.payload → without_crc (stream m x.payload) ≡ padded m x.payload
without_crc_is x m size more =
    let whole = padded m x.payload in
    let two : length (whole ++ crc_bytes whole) - 2 ≡ length whole = (let e = length-append whole (crc_bytes whole) in omega arith) in
    ap without_crc (stream_many m x.payload (several x m size more))
    ∙ (ap (λ n. take n (whole ++ crc_bytes whole)) two ∙ take-append_seam whole (crc_bytes whole))

-- neighbours differ in their toggles, and copies don't
pub next_toggle : (l r : KeyRecord) (k i : ℕ) → l.toggle ≡ is_even k → r.toggle ≡ is_even i → i ≡ k + 1 → differs l.toggle r.toggle ≡ true
next_toggle l r k i at now next =
    let other : r.toggle ≡ not l.toggle = now ∙ (ap is_even (next ∙ add-one k) ∙ ap not (sym at)) in
    subst (λ t. differs l.toggle t ≡ true) (sym other) (differs_other l.toggle)

pub same_toggle : (l r : KeyRecord) (k : ℕ) → l.toggle ≡ is_even k → r.toggle ≡ is_even k → differs l.toggle r.toggle ≡ false
same_toggle l r k at now = subst (λ t. differs t r.toggle ≡ false) (now ∙ sym at) (differs_same r.toggle)
