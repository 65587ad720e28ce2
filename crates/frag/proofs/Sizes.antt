-- Padding never passes the frame, and doesn't change the number of frames.
use Rattle.std.proofs.Common.{◌≡◌, ℕ, ◌+◌, ◌-◌, ◌/◌, ◌%◌, ◌<◌, ◌≤◌, true, false, leb, cond, List, length, ◌++◌, replicate, length-append, inl, inr, refl, sym, ap, ◌∙◌, subst, arith}
use Rattle.std.proofs.lemmas.Bool.{cond_both, cond-true, cond-false, leb-true, leb-false, le-leb, lt-leb}
use Rattle.std.proofs.lemmas.List.{length-replicate}
use Rattle.transfer_crc.specs.Crc.{crc_bytes}
use Rattle.frag.specs.Wire.{IsFrameSize, IsLeastPadding, is_length, fitting, last_size, padding, padded, stream, last_frame}

-- a length that a frame can have isn't below, and stays within the frame
pub fitting_within : (m n : ℕ) → IsFrameSize m → n ≤ m → (n ≤ fitting n) × (fitting n ≤ m)
unfolding fitting
fitting_within m n s l = grind arith

pub last_within : (m size : ℕ) → IsFrameSize m → last_size m size ≤ m
unfolding last_size
last_within m size s = grind arith

last_single : (m size : ℕ) → size ≤ m - 1 → last_size m size ≡ size + 1
unfolding last_size
last_single m size l = cond-true (leb size (m - 1)) (size + 1) ((size + 1) % (m - 1) + 2) (le-leb size (m - 1) l)

last_many : (m size : ℕ) → m - 1 < size → last_size m size ≡ (size + 1) % (m - 1) + 2
unfolding last_size
last_many m size l = cond-false (leb size (m - 1)) (size + 1) ((size + 1) % (m - 1) + 2) (lt-leb size (m - 1) l)

-- the lengths between two neighbouring ones are none
gap : (lo hi n fewer : ℕ) → (k : ℕ) → lo < n → fewer < hi - n → k ≡ n + fewer → (lo < k) × (k < hi)
gap lo hi n fewer k a b e = (omega arith, omega arith)

abbrev from48 : ℕ → ℕ
from48 n = cond (leb n 48) 48 64

abbrev from32 : ℕ → ℕ
from32 n = cond (leb n 32) 32 (from48 n)

abbrev from24 : ℕ → ℕ
from24 n = cond (leb n 24) 24 (from32 n)

abbrev from20 : ℕ → ℕ
from20 n = cond (leb n 20) 20 (from24 n)

abbrev from16 : ℕ → ℕ
from16 n = cond (leb n 16) 16 (from20 n)

abbrev from12 : ℕ → ℕ
from12 n = cond (leb n 12) 12 (from16 n)

none12 : (k : ℕ) → 8 < k → k < 12 → is_length 64 k ≡ false
none12 k a b = grind arith

none16 : (k : ℕ) → 12 < k → k < 16 → is_length 64 k ≡ false
none16 k a b = grind arith

none20 : (k : ℕ) → 16 < k → k < 20 → is_length 64 k ≡ false
none20 k a b = grind arith

none24 : (k : ℕ) → 20 < k → k < 24 → is_length 64 k ≡ false
none24 k a b = grind arith

none32 : (k : ℕ) → 24 < k → k < 32 → is_length 64 k ≡ false
none32 k a b = grind arith

none48 : (k : ℕ) → 32 < k → k < 48 → is_length 64 k ≡ false
none48 k a b = grind arith

none64 : (k : ℕ) → 48 < k → k < 64 → is_length 64 k ≡ false
none64 k a b = grind arith

module _ (n fewer : ℕ) where
  abbrev Least : ℕ → Type 0
  Least v = fewer < v - n → is_length 64 (n + fewer) ≡ false

  least48 : 32 < n → Least (from48 n)
  least48 a = cond_both (leb n 48) 48 64 Least (λ y f. none48 (n + fewer) (omega arith) (omega arith)) (λ b f. let over = leb-false n 48 b in none64 (n + fewer) (omega arith) (omega arith))

  least32 : 24 < n → Least (from32 n)
  least32 a = cond_both (leb n 32) 32 (from48 n) Least (λ y f. none32 (n + fewer) (omega arith) (omega arith)) (λ b. least48 (leb-false n 32 b))

  least24 : 20 < n → Least (from24 n)
  least24 a = cond_both (leb n 24) 24 (from32 n) Least (λ y f. none24 (n + fewer) (omega arith) (omega arith)) (λ b. least32 (leb-false n 24 b))

  least20 : 16 < n → Least (from20 n)
  least20 a = cond_both (leb n 20) 20 (from24 n) Least (λ y f. none20 (n + fewer) (omega arith) (omega arith)) (λ b. least24 (leb-false n 20 b))

  least16 : 12 < n → Least (from16 n)
  least16 a = cond_both (leb n 16) 16 (from20 n) Least (λ y f. none16 (n + fewer) (omega arith) (omega arith)) (λ b. least20 (leb-false n 16 b))

  least12 : 8 < n → Least (from12 n)
  least12 a = cond_both (leb n 12) 12 (from16 n) Least (λ y f. none12 (n + fewer) (omega arith) (omega arith)) (λ b. least16 (leb-false n 12 b))

  least64 : Least (fitting n)
  unfolding fitting
  least64 = cond_both (leb n 8) n (from12 n) Least (λ y f. absurd (omega arith)) (λ b. least12 (leb-false n 8 b))

-- a length that a frame can have
fitting_short : (n : ℕ) → n ≤ 8 → fitting n ≡ n
unfolding fitting
fitting_short n l = cond-true (leb n 8) n (from12 n) (le-leb n 8 l)

abbrev IsFD : ℕ → Type 0
IsFD k = is_length 64 k ≡ true

short_is : (m n : ℕ) → IsFrameSize m → n ≤ 8 → is_length m n ≡ true
short_is m n s l = grind arith

fitting_fd : (n : ℕ) → n ≤ 64 → IsFD (fitting n)
unfolding fitting
fitting_fd n w =
    cond_both (leb n 8) n (from12 n) IsFD (λ y. short_is 64 n (inr refl) (leb-true n 8 y)) (λ _.
    cond_both (leb n 12) 12 (from16 n) IsFD (λ _. refl) (λ _.
    cond_both (leb n 16) 16 (from20 n) IsFD (λ _. refl) (λ _.
    cond_both (leb n 20) 20 (from24 n) IsFD (λ _. refl) (λ _.
    cond_both (leb n 24) 24 (from32 n) IsFD (λ _. refl) (λ _.
    cond_both (leb n 32) 32 (from48 n) IsFD (λ _. refl) (λ _.
    cond_both (leb n 48) 48 64 IsFD (λ _. refl) (λ _. refl)))))))

-- it is the least such length
fitting_is : (m n : ℕ) → IsFrameSize m → n ≤ m → is_length m (fitting n) ≡ true
fitting_is m n s l =
    elim s [
      | inl e ↦ let short : n ≤ 8 = omega arith in subst (λ k. is_length m k ≡ true) (sym (fitting_short n short)) (short_is m n (inl e) short)
      | inr e ↦ subst (λ k. is_length k (fitting n) ≡ true) (sym e) (fitting_fd n (omega arith))
    ]

fitting_least : (m n fewer : ℕ) → IsFrameSize m → n ≤ m → fewer < fitting n - n → is_length m (n + fewer) ≡ false
fitting_least m n fewer s l f =
    elim s [
      | inl e ↦ let same = fitting_short n (omega arith) in absurd (omega arith)
      | inr e ↦ subst (λ k. is_length k (n + fewer) ≡ false) (sym e) (least64 n fewer f)
    ]

pub least_padding : (m size : ℕ) → IsFrameSize m → IsLeastPadding m size (padding m size)
unfolding padding
least_padding m size s =
    let within = last_within m size s in
    let whole : fitting (last_size m size) ≡ last_size m size + (fitting (last_size m size) - last_size m size) = (let from = fitting_within m (last_size m size) s within in omega arith) in
    record { fits = subst (λ k. is_length m k ≡ true) whole (fitting_is m (last_size m size) s within); least = λ fewer. fitting_least m (last_size m size) fewer s within }

-- padding fills the last frame at most
pub padding_within : (m size : ℕ) → IsFrameSize m → last_size m size + padding m size ≤ m
unfolding padding
padding_within m size s =
    let within = fitting_within m (last_size m size) s (last_within m size s) in
    omega arith

-- a payload that goes in one frame goes there with its padding
pub single_fits : (m size : ℕ) → IsFrameSize m → size ≤ m - 1 → size + padding m size ≤ m - 1
single_fits m size s l =
    let within = padding_within m size s in
    let last = last_single m size l in
    omega arith

pub length_padded : (m : ℕ) (payload : List ℕ) → length (padded m payload) ≡ length payload + padding m (length payload)
length_padded m payload = length-append payload (replicate (padding m (length payload)) 0) ∙ ap (λ n. length payload + n) (length-replicate (padding m (length payload)) 0)

pub stream_single : (m : ℕ) (payload : List ℕ) → length payload ≤ m - 1 → stream m payload ≡ padded m payload
stream_single m payload l = cond-true (leb (length payload) (m - 1)) (padded m payload) (padded m payload ++ crc_bytes (padded m payload)) (le-leb (length payload) (m - 1) l)

pub stream_many : (m : ℕ) (payload : List ℕ) → m - 1 < length payload → stream m payload ≡ padded m payload ++ crc_bytes (padded m payload)
stream_many m payload l = cond-false (leb (length payload) (m - 1)) (padded m payload) (padded m payload ++ crc_bytes (padded m payload)) (lt-leb (length payload) (m - 1) l)

pub one_frame : (m : ℕ) (payload : List ℕ) → IsFrameSize m → length payload ≤ m - 1 → last_frame m payload ≡ 0
one_frame m payload s l =
    let size = ap length (stream_single m payload l) ∙ length_padded m payload in
    let fits = single_fits m (length payload) s l in
    none (length (stream m payload)) m s (omega arith)
  where
    none : (n m : ℕ) → IsFrameSize m → n ≤ m - 1 → (n - 1) / (m - 1) ≡ 0
    none n m s l = grind arith

pub more_frames : (m : ℕ) (payload : List ℕ) → IsFrameSize m → m - 1 < length payload → last_frame m payload ≡ (length payload + 1) / (m - 1)
more_frames m payload s l =
    let whole = padded m payload in
    let size = ap length (stream_many m payload l) ∙ (length-append whole (crc_bytes whole) ∙ ap (λ n. n + 2) (length_padded m payload)) in
    let within = padding_within m (length payload) s in
    let last = last_many m (length payload) l in
    ap (λ n. (n - 1) / (m - 1)) size ∙ same m (length payload) (padding m (length payload)) s (omega arith)
  where
    same : (m size count : ℕ) → IsFrameSize m → (size + 1) % (m - 1) + 2 + count ≤ m → (size + count + 2 - 1) / (m - 1) ≡ (size + 1) / (m - 1)
    same m size count s l = grind arith
