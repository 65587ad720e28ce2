-- The laws of the serialized form. They hold of each schema that is sound (`Sound.antt`), and so of
-- each that keeps the rules (`Rules.antt`).
use Rattle.std.specs.Prelude.{◌≡◌, ℕ, ◌/◌, ◌≤◌, length, Bool, true, List, ◌++◌, ◌⊎◌, take}
use Rattle.std.specs.Prelude.{replicate}
use Rattle.cy_bits.specs.Bits.{bits, bytes}
use Rattle.dsdl_types.specs.Schemas.{Sch, is_composite, extent_of}
use Rattle.dsdl_types.specs.Values.{Val}
use Rattle.dsdl_types.specs.Reading.{Got, Bad, Step, Why, own}
use Rattle.dsdl_types.specs.Encoding.{own_bits}
use Rattle.dsdl_types.specs.Fits.{Fits}
use Rattle.dsdl_types.specs.Cast.{cast}
use Rattle.dsdl_types.specs.Sound.{IsSound}
use Rattle.dsdl_types.specs.Zero.{zero_of}
use Rattle.dsdl_types.specs.Newer.{Newer, as_old, as_new}
use Rattle.dsdl_types.specs.DelimiterCounts.{CountsFit}

-- the bytes b read as the value v
abbrev pub Reads : Sch → List ℕ → Val → Type 0
Reads s b v = (p : ℕ) × (rest : List Bool) × (own s 0 (bits b) ≡ Got v p rest)

-- the bytes b can't be read: the path and the cause are the first in reading order
abbrev pub Unreadable : Sch → List ℕ → List Step → Why → Type 0
Unreadable s b path why = own s 0 (bits b) ≡ Bad path why

-- exactly one of the two holds, for one value or for one path and cause
pub record ReadsOnce (s : Sch) (b : List ℕ) : Type 0 where
  pub either : ((v : Val) × Reads s b v) ⊎ ((path : List Step) × (why : Why) × Unreadable s b path why)
  pub not_both : (v : Val) (path : List Step) (why : Why) → Reads s b v → Unreadable s b path why
      → ⊥
  pub one_value : (v w : Val) → Reads s b v → Reads s b w → v ≡ w
  pub one_path : (path path' : List Step) (why why' : Why) → Unreadable s b path why
      → Unreadable s b path' why' → path ≡ path'
  pub one_why : (path path' : List Step) (why why' : Why) → Unreadable s b path why
      → Unreadable s b path' why' → why ≡ why'

-- the serialized form of a value, as bytes
abbrev pub encoding : Sch → Val → List ℕ
encoding s v = bytes (own_bits s v)

-- with so many zero bytes behind them
abbrev pub with_zeros : List ℕ → ℕ → List ℕ
with_zeros b k = b ++ replicate k 0

-- The bytes of a value read as that value with its numbers in range, also with zeros behind.
abbrev pub RoundTrip : Sch → Type 0
RoundTrip s = IsSound s → (v : Val) → Fits s v → (k : ℕ) → Reads s (with_zeros (encoding s v) k) (cast s v)

-- No value of a composite has a serialized form that is longer than the extent.
abbrev pub WithinExtent : Sch → Type 0
WithinExtent s = IsSound s → is_composite s ≡ true → (v : Val) → Fits s v → length (encoding s v) ≤ extent_of s / 8

-- The zero of a schema is one of its values, and is what no bytes and zero bytes read as.
pub record ZeroReads (s : Sch) : Type 0 where
  pub fits : Fits s (zero_of s)
  pub reads : (k : ℕ) → Reads s (replicate k 0) (zero_of s)

-- The bytes read as the value, also with zeros behind, and of a composite also cut to so many
-- bytes.
pub record ReadsPadded (s : Sch) (b : List ℕ) (v : Val) (cut : ℕ) : Type 0 where
  pub plain : Reads s b v
  pub zeros : (k : ℕ) → Reads s (with_zeros b k) v
  pub zeros_cut : is_composite s ≡ true → (k : ℕ) → Reads s (take cut (with_zeros b k)) v

-- The bytes of a newer value read as that value without what was added, and the bytes of an older
-- value with zeros in place of what was added.
pub record Evolves (new old : Sch) : Type 0 where
  pub to_old : (v : Val) → Fits new v
      → ReadsPadded old (encoding new v) (as_old new old (cast new v)) (extent_of new / 8)
  pub to_new : (w : Val) → Fits old w
      → ReadsPadded new (encoding old w) (as_new new old (cast old w)) (extent_of new / 8)

-- Values of a newer and an older version of a type read as one another, at any depth.
abbrev pub Evolution : Type 0
Evolution = (new old : Sch) → IsSound new → IsSound old → Newer new old → Evolves new old

-- Bytes that read as a value read as the same value with zeros behind.
abbrev pub ZerosLaw : Sch → List ℕ → Type 0
ZerosLaw s b = (v : Val) → Reads s b v → (k : ℕ) → Reads s (with_zeros b k) v

-- the same value or the same refusal
pub record SameReading (s : Sch) (b c : List ℕ) : Type 0 where
  pub reads : (v : Val) → Reads s b v → Reads s c v
  pub refuses : (path : List Step) (why : Why) → Unreadable s b path why → Unreadable s c path why

-- Where no delimiter header counts more than its part's extent, bytes and the same cut to the
-- extent read as the same value, or are refused by the same path and cause.
abbrev pub CutLaw : Sch → List ℕ → Type 0
CutLaw s b = IsSound s → is_composite s ≡ true → CountsFit s 0 (bits b) → SameReading s b (take (extent_of s / 8) b)

-- Where no delimiter header counts more than its part's extent, a payload that can be read, the
-- same with zeros behind and that cut to the extent read as one value.
abbrev pub PaddedLaw : Sch → List ℕ → Type 0
PaddedLaw s b = IsSound s → is_composite s ≡ true → CountsFit s 0 (bits b) → (v : Val) → Reads s b v → (k : ℕ) → Reads s (with_zeros b k) v × Reads s (take (extent_of s / 8) (with_zeros b k)) v

-- What cutting a payload to the extent, and zeros behind it, keep of how it reads.
pub record KeepsReadings (s : Sch) : Type 0 where
  pub cut : (b : List ℕ) → CountsFit s 0 (bits b) → SameReading s b (take (extent_of s / 8) b)
  pub zeros : (b : List ℕ) (v : Val) → Reads s b v → (k : ℕ) → Reads s (with_zeros b k) v
  pub zeros_cut : (b : List ℕ) → CountsFit s 0 (bits b) → (v : Val) → Reads s b v → (k : ℕ)
      → Reads s (take (extent_of s / 8) (with_zeros b k)) v
