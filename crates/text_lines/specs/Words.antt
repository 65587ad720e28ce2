-- The texts of words.
use Rattle.std.specs.Prelude.{ℕ, List, [], min, slice_index, take}
use Rattle.report_lines.specs.declared.line.Reading.{Reading}
use Rattle.report_lines.specs.declared.line.Reading.TheVariants.{Raw, Good, Bad}
use Rattle.text_lines.specs.declared.word.Word.{Word}

abbrev pub word_text : Word → List ℕ
word_text word = take word.len word.bytes

-- what counts of a block of eight bytes, the last of which is its length
abbrev pub block_text : List ℕ → List ℕ
block_text block = take (min (slice_index block 7) 8) block

-- what of a reading's text may be of any length
abbrev pub long_part : Reading → List ℕ
long_part Raw = []
long_part (Good value text) = text
long_part (Bad path why) = path
