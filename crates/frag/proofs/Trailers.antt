-- A payload and what stands behind it are the bytes of its frames.
use Rattle.std.proofs.Common.{◌≡◌, ℕ, ◌+◌, ◌-◌, ◌*◌, ◌/◌, ◌%◌, ◌<◌, Bool, true, false, cond, leb, List, [], ◌∷◌, ◌++◌, length, drop, replicate, append_assoc, refl, sym, ap, ◌∙◌, arith}
use Rattle.std.proofs.lemmas.Bool.{cond-false, lt-leb}
use Rattle.transfer_crc.specs.Crc.{crc_more, crc_of, crc_bytes}
use Rattle.transfer_crc.proofs.Rows.{crc_more-append}
use Rattle.frag.specs.Cut.{cut}
use Rattle.frag.specs.Wire.{is_single, padding, padded, stream, last_frame, frames}
use Rattle.frag.proofs.Cuts.{cut_frames}

-- the zeros behind a payload
abbrev pub zeros_of : ℕ → List ℕ → List ℕ
zeros_of m payload = replicate (padding m (length payload)) 0

-- what stands behind it: these zeros, and the CRC where there are several frames
abbrev pub trailer_of : ℕ → List ℕ → List ℕ
trailer_of m payload = cond (is_single m (length payload)) (zeros_of m payload) (zeros_of m payload ++ crc_bytes (padded m payload))

pub trailer_many : (m : ℕ) (payload zeros one two : List ℕ) (crc : ℕ) → m - 1 < length payload → zeros ≡ zeros_of m payload → crc ≡ crc_more (crc_more 0xFFFF payload) zeros → one ≡ zeros ++ crc / 256 ∷ [] → two ≡ one ++ crc % 256 ∷ [] → two ≡ trailer_of m payload
trailer_many m payload zeros one two crc long z c o t =
    let crc_is : crc ≡ crc_of (padded m payload) = c ∙ (ap (crc_more (crc_more 0xFFFF payload)) z ∙ sym (crc_more-append 0xFFFF payload (zeros_of m payload))) in
    t
    ∙ (ap (λ xs. xs ++ crc % 256 ∷ []) o
    ∙ (append_assoc zeros (crc / 256 ∷ []) (crc % 256 ∷ [])
    ∙ (ap (λ xs. xs ++ crc / 256 ∷ crc % 256 ∷ []) z
    ∙ (ap (λ n. zeros_of m payload ++ n / 256 ∷ n % 256 ∷ []) crc_is
    ∙ sym (cond-false (leb (length payload) (m - 1)) (zeros_of m payload) (zeros_of m payload ++ crc_bytes (padded m payload)) (lt-leb (length payload) (m - 1) long))))))

stream_is : (m : ℕ) (payload : List ℕ) → payload ++ trailer_of m payload ≡ stream m payload
stream_is m payload =
    behind (leb (length payload) (m - 1)) payload (zeros_of m payload) (crc_bytes (padded m payload))
  where
    behind : (b : Bool) (xs ys zs : List ℕ) → xs ++ cond b ys (ys ++ zs) ≡ cond b (xs ++ ys) ((xs ++ ys) ++ zs)
    behind true xs ys zs = refl
    behind false xs ys zs = sym (append_assoc xs ys zs)

pub all_frames : (m tid n : ℕ) (payload trailer : List ℕ) → trailer ≡ trailer_of m payload → n ≡ last_frame m payload + 1 → cut (m - 1) tid (payload ++ trailer) true true n ≡ frames m payload tid
all_frames m tid n payload trailer t n_is =
    let whole : payload ++ trailer ≡ stream m payload = ap (λ xs. payload ++ xs) t ∙ stream_is m payload in
    let none : 0 ≡ 0 * (m - 1) = omega arith in
    ap (λ xs. cut (m - 1) tid xs true true n) whole
    ∙ (ap (λ k. cut (m - 1) tid (stream m payload) true true k) n_is
    ∙ (ap (λ k. cut (m - 1) tid (drop k (stream m payload)) true true (last_frame m payload + 1)) none
    ∙ cut_frames m payload tid 0 (last_frame m payload + 1) (omega arith)))
