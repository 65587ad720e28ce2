-- What a reader of lines holds, and what a read gives it.
use Rattle.std.specs.Prelude.{◌≡◌, ◌<◌, ◌≤◌, ◌+◌, ◌++◌, ℕ, List, [], Option, length}
use Rattle.line_loop.specs.Held.{bytes_of}
use Rattle.line_loop.specs.Input.{Took, IsEnd}
use Rattle.line_loop.specs.declared.reader.LineReader.{LineReader}
use Rattle.line_loop.specs.declared.reader.Came.{Came}
use Rattle.line_loop.specs.declared.reader.Came.TheVariants as came

-- the bytes that were taken and not yet answered
abbrev pub held_of : LineReader → List ℕ
held_of r = bytes_of r.held

-- how many bytes it may still take
abbrev pub left_of : LineReader → ℕ
left_of r = r.room

-- the number of lines before
abbrev pub count_of : LineReader → ℕ
count_of r = r.lines

-- some bytes came behind those that are held, no more than a block
pub record Grows (old new : LineReader) (left left_new : Option (List ℕ)) : Type 0 where
  pub bytes : List ℕ
  pub took : Took left left_new bytes
  pub held : held_of new ≡ held_of old ++ bytes
  pub some : 0 < length bytes
  pub few : length bytes ≤ 65536
  pub room : left_of new + length bytes ≡ left_of old

-- one byte came that doesn't count
pub record IsOver (old : LineReader) (left left_new : Option (List ℕ)) : Type 0 where
  pub bytes : List ℕ
  pub took : Took left left_new bytes
  pub one : length bytes ≡ 1
  pub full : left_of old ≡ 0

-- what a read gave
abbrev pub Reads : LineReader → LineReader → Option (List ℕ) → Option (List ℕ) → Came → Type 0
Reads old new left left_new came.Bytes = Grows old new left left_new
Reads old new left left_new came.End = Took left left_new [] × IsEnd left_new × (held_of new ≡ held_of old)
Reads old new left left_new came.Over = IsOver old left left_new
Reads old new left left_new came.Failed = left_new ≡ left
Reads old new left left_new came.NoMemory = left_new ≡ left
