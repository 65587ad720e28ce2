-- What a line of a log says where its moment alone counts.
use Rattle.std.specs.Prelude.{ℕ, List, [], ◌∷◌, ◌++◌, ◌+◌, ◌*◌, ◌==◌, Option, Some, None}
use Rattle.std.specs.Prelude.{if◌then◌else◌, length, unwrap_or}
use Rattle.frame_log.specs.Line.{◌>>=◌, after, bus_of, cut, decimal_from, seconds_of}
use Rattle.frame_log.specs.Line.{without_return}

-- what a line says: it has no form, it is empty, or it has a moment and a text
pub data Said : Type 0 where
  NoForm : Said
  Nothing : Said
  Line : ℕ → List ℕ → Said

-- the bytes behind the spaces in front
abbrev pub behind_spaces : List ℕ → List ℕ
behind_spaces [] = []
behind_spaces (b ∷ s) = if b == 32 then behind_spaces s else b ∷ s

-- the same, where there is one space at least
abbrev pub spaced : List ℕ → Option (List ℕ)
spaced s = do
  behind ← after 32 s
  Some (behind_spaces behind)

-- MICROS, six digits
abbrev pub micros_of : List ℕ → Option ℕ
micros_of digits = if length digits == 6 then decimal_from 0 digits else None

-- the moment, in microseconds, of `(SECONDS.MICROS`
abbrev pub moment_of : List ℕ → Option ℕ
moment_of stamp = do
  digits ← after 40 stamp
  seconds ← seconds_of digits
  micros ← micros_of seconds.1
  Some (seconds.0 * 1_000_000 + micros)

-- a line with one space between its parts, and its newline
abbrev pub line_text : List ℕ → List ℕ → List ℕ → List ℕ
line_text stamp bus rest = stamp ++ (41 ∷ 32 ∷ []) ++ bus ++ (32 ∷ []) ++ rest ++ (10 ∷ [])

-- a line whose rest has one byte at least
abbrev pub with_rest : ℕ → List ℕ → List ℕ → List ℕ → Option Said
with_rest moment stamp bus rest =
    if length rest == 0 then None else Some (Line moment (line_text stamp bus rest))

-- `(SECONDS.MICROS)`, spaces, BUS, spaces, and a rest
abbrev pub form_of : List ℕ → Option Said
form_of text = do
  stamp ← cut 41 text
  moment ← moment_of stamp.0
  name ← spaced stamp.1
  bus ← bus_of name
  with_rest moment stamp.0 bus.0 (behind_spaces bus.1)

-- what a line says, of which a carriage return at the end is no part
abbrev pub said_of_text : List ℕ → Said
said_of_text text = if length text == 0 then Nothing else unwrap_or (form_of text) NoForm

abbrev pub said_of : List ℕ → Said
said_of line = said_of_text (without_return line)
