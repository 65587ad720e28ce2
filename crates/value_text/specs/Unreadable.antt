-- The text of why bytes can't be read.
use Rattle.std.specs.Prelude.{ℕ, List, ◌++◌, codes, decimal}
use Rattle.dsdl_types.specs.declared.read_why.ReadWhy.{ReadWhy}
use Rattle.dsdl_types.specs.declared.read_why.ReadWhy.TheVariants as why

-- the word of a cause, with a space behind it
abbrev pub read_why_word : ReadWhy → List ℕ
read_why_word (why.BadTag n) = codes "BadTag "
read_why_word (why.BadLength n) = codes "BadLength "
read_why_word (why.BadDelimiter n) = codes "BadDelimiter "

-- the number that was read
abbrev pub read_why_number : ReadWhy → ℕ
read_why_number (why.BadTag n) = n
read_why_number (why.BadLength n) = n
read_why_number (why.BadDelimiter n) = n

-- the cause, the number that was read, and the path to the part that is refused
abbrev pub unreadable_text : List ℕ → ReadWhy → List ℕ
unreadable_text path why = read_why_word why ++ (decimal (read_why_number why) ++ (codes " at " ++ path))
