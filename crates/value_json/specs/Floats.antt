-- Floats, and the numbers that write them.
use Rattle.std.specs.Prelude.{◌≡◌, ℕ, zero, suc, ◌+◌, ◌*◌, ◌/◌, ◌%◌, ◌^◌, ◌==◌, nat_le, Bool}
use Rattle.std.specs.Prelude.{if◌then◌else◌, List, Some, from_bits}
use Rattle.std.specs.Float.{Float, Format, binary32, binary64, nan, inf}
use Rattle.std.specs.Float.Ieee.{round}
use Rattle.ryu.specs.Parse.{parse_float}
use Rattle.ryu.specs.Plain.{IsLaidOutNumber}

-- A float16 of a sign, an exponent field and a fraction field, as a float32, which holds each: a
-- multiple of 2^-24. The highest exponent field is that of the infinities and of NaN.
abbrev pub half_of : Bool → ℕ → ℕ → Float
half_of negative zero fraction = round binary32 negative fraction (2 ^ 24)
half_of negative (suc e) fraction =
    if suc e == 31
    then (if fraction == 0 then inf negative else nan)
    else round binary32 negative ((1024 + fraction) * 2 ^ e) (2 ^ 24)

-- the float16 of 16 bits
unfoldable pub half : ℕ → Float
half bits = half_of (nat_le 0x8000 bits) (bits / 1024 % 32) (bits % 1024)

-- the float of so many raw bits, of which there are 16, 32 or 64
unfoldable pub float_of : ℕ → ℕ → Float
float_of w bits = if w == 16 then half bits else if w == 32 then from_bits binary32 bits else from_bits binary64 bits

-- A float16 is written as a float32.
abbrev pub format_of : ℕ → Format
format_of w = if w == 16 then binary32 else if w == 32 then binary32 else binary64

-- From this many digits in front of the point on, and from this many zeros behind it on, a number
-- has an exponent.
abbrev pub most_digits : Format → ℕ
most_digits binary32 = 13
most_digits binary64 = 16

abbrev pub most_zeros : Format → ℕ
most_zeros binary32 = 5
most_zeros binary64 = 4

-- a decimal number that reads back as the float of so many bits, in the layout of `ryu`: `1.5`,
-- `1e16`, `-0.0`
pub record IsNumberOf (w : ℕ) (x : Float) (text : List ℕ) : Type 0 where
  pub reads_back : parse_float (format_of w) text ≡ Some x
  pub laid_out : IsLaidOutNumber (most_digits (format_of w)) (most_zeros (format_of w)) text
