-- Bytes of two hex digits each.
use Rattle.std.specs.Prelude.{◌≡◌, ℕ, ◌<◌, Bool, List, ◌++◌, ◌*◌, drop, length, slice_index}
use Rattle.cy_bits.specs.Bits.{bits, bits_of}
use Rattle.hex.specs.Hex.{encode_upper}

-- So many bytes are read of the line, and their bits are put.
pub record ScansBytes (n : ℕ) (before after : List ℕ) (old new : List Bool) : Type 0 where
  pub bytes : List ℕ
  pub small : (i : ℕ) → slice_index bytes i < 256
  pub count : length bytes ≡ n
  pub spelled : before ≡ encode_upper bytes ++ after
  pub put : new ≡ old ++ bits bytes

-- So many bytes stand in front of a text, of two hex digits each, and are the low bits of a number.
pub record AreInFront (n word : ℕ) (text : List ℕ) : Type 0 where
  pub bytes : List ℕ
  pub small : (i : ℕ) → slice_index bytes i < 256
  pub count : length bytes ≡ n
  pub spelled : text ≡ encode_upper bytes ++ drop (2 * n) text
  pub low : bits_of (8 * n) word ≡ bits bytes
