-- What is told of a reading: its text, without its value.
use Rattle.std.specs.Prelude.{◌≡◌, ◌<◌, ◌^◌, ℕ, Bool, List, [], ◌∷◌, ◌++◌}
use Rattle.dsdl_types.specs.Reading.{Read, Got, Bad}
use Rattle.line_text.specs.Buffer.{text_of}
use Rattle.line_text.specs.declared.text_buffer.TextBuffer.{TextBuffer}
use Rattle.wire_values.specs.Reads.{behind}
use Rattle.value_put.specs.Counted.{counted}
use Rattle.value_put.specs.declared.bits.Bits.{Bits}

-- the text of what was read, with the place and the bits behind it, or nothing
pub data Told : Type 0 where
  No : Told
  Yes : List ℕ → ℕ → List Bool → Told

abbrev pub told : {A : Type 0} → (A → List ℕ) → Read A → Told
told text (Got v p rest) = Yes (text v) p rest
told text (Bad path why) = No

-- the same behind a text
abbrev pub after : List ℕ → Told → Told
after before No = No
after before (Yes text p rest) = Yes (before ++ text) p rest

-- what is told from where a reader is, behind the text so far
abbrev pub told_at : (ℕ → List Bool → Told) → Bits → TextBuffer → Told
told_at f at text = after (text_of text) (f at.place (behind (counted at) at.place))

-- all of that was put, and the reader is behind it
abbrev pub Puts : (ℕ → List Bool → Told) → Bits → TextBuffer → Bits → TextBuffer → Type 0
Puts f at text at' text' =
    told_at f at text ≡ Yes (text_of text') at'.place (behind (counted at') at'.place)

-- a text begins with another
pub record Begins (old new : List ℕ) : Type 0 where
  pub more : List ℕ
  pub is : new ≡ old ++ more

-- numbers below 256
abbrev pub AreBytes : List ℕ → Type 0
AreBytes [] = Unit {0}
AreBytes (x ∷ xs) = (x < 2 ^ 8) × AreBytes xs
