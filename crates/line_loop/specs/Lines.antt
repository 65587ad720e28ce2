-- The lines of some bytes: a line ends with a newline, and every other byte belongs to its line.
use Rattle.std.specs.Prelude.{ℕ, List, [], ◌∷◌, ◌++◌, ◌==◌, if◌then◌else◌, length, nat_lt}

-- the lines that end with a newline, and what stands behind the last newline
pub record Lines : Type 0 where
  pub ended : List (List ℕ)
  pub rest : List ℕ

-- a byte in front of lines, or of what stands behind where there is none
abbrev pub front_byte : ℕ → List (List ℕ) → List ℕ → Lines
front_byte b [] rest = record { ended = []; rest = b ∷ rest }
front_byte b (line ∷ lines) rest = record { ended = (b ∷ line) ∷ lines; rest = rest }

-- a newline in front of lines ends an empty one; another byte belongs to the first
abbrev pub with_byte : ℕ → Lines → Lines
with_byte b lines = if b == 10 then record lines { ended = [] ∷ lines.ended }
    else front_byte b lines.ended lines.rest

-- the lines of some bytes
abbrev pub lines_of : List ℕ → Lines
lines_of [] = record { ended = []; rest = [] }
lines_of (b ∷ bytes) = with_byte b (lines_of bytes)

-- what stands behind the last newline is a line where it has more bytes than this
abbrev pub last_line : ℕ → List ℕ → List (List ℕ)
last_line most rest = if nat_lt most (length rest) then rest ∷ [] else []

-- the lines that end with a newline, and the last line where it counts
abbrev pub with_last : ℕ → Lines → List (List ℕ)
with_last most lines = lines.ended ++ last_line most lines.rest
