-- The bytes of a number, the highest first, as its hex digits.
use Rattle.std.proofs.Common.{◌≡◌, ℕ, suc, ◌*◌, ◌/◌, ◌%◌, ◌^◌, List, [], ◌∷◌, slice_index, refl, arith}
use Rattle.std.specs.Int.{byte_at, to_be_bytes, w16, w32, w64}
use Rattle.hex.specs.Hex.{encode_upper, encode_with, upper_digits}
use Rattle.value_text.specs.Words.{hex_digits}

-- one byte in front
two_more : (k b n : ℕ) (bytes : List ℕ) → b / 16 ≡ n / 2 ^ (4 * suc k) % 16 → b % 16 ≡ n / 2 ^ (4 * k) % 16 → encode_upper bytes ≡ hex_digits k n → encode_upper (b ∷ bytes) ≡ hex_digits (suc (suc k)) n
unfolding hex_digits encode_with
two_more k b n bytes high low more = λ i. slice_index upper_digits (high i) ∷ slice_index upper_digits (low i) ∷ more i

none : (n : ℕ) → encode_upper [] ≡ hex_digits 0 n
unfolding hex_digits encode_with
none n = refl

one_byte : (n : ℕ) → encode_upper (byte_at 0 n ∷ []) ≡ hex_digits 2 n
one_byte n = two_more 0 (byte_at 0 n) n [] (omega arith) (omega arith) (none n)

pub two_bytes : (n : ℕ) → encode_upper (to_be_bytes w16 n) ≡ hex_digits 4 n
two_bytes n = two_more 2 (byte_at 1 n) n _ (omega arith) (omega arith) (one_byte n)

three_bytes : (n : ℕ) → encode_upper (byte_at 2 n ∷ to_be_bytes w16 n) ≡ hex_digits 6 n
three_bytes n = two_more 4 (byte_at 2 n) n _ (omega arith) (omega arith) (two_bytes n)

pub four_bytes : (n : ℕ) → encode_upper (to_be_bytes w32 n) ≡ hex_digits 8 n
four_bytes n = two_more 6 (byte_at 3 n) n _ (omega arith) (omega arith) (three_bytes n)

five_bytes : (n : ℕ) → encode_upper (byte_at 4 n ∷ to_be_bytes w32 n) ≡ hex_digits 10 n
five_bytes n = two_more 8 (byte_at 4 n) n _ (omega arith) (omega arith) (four_bytes n)

six_bytes : (n : ℕ) → encode_upper (byte_at 5 n ∷ byte_at 4 n ∷ to_be_bytes w32 n) ≡ hex_digits 12 n
six_bytes n = two_more 10 (byte_at 5 n) n _ (omega arith) (omega arith) (five_bytes n)

seven_bytes : (n : ℕ) → encode_upper (byte_at 6 n ∷ byte_at 5 n ∷ byte_at 4 n ∷ to_be_bytes w32 n) ≡ hex_digits 14 n
seven_bytes n = two_more 12 (byte_at 6 n) n _ (omega arith) (omega arith) (six_bytes n)

pub eight_bytes : (n : ℕ) → encode_upper (to_be_bytes w64 n) ≡ hex_digits 16 n
eight_bytes n = two_more 14 (byte_at 7 n) n _ (omega arith) (omega arith) (seven_bytes n)
