-- The table of the commands, as contracts see it, and how its rows are found.
use Rattle.std.specs.Prelude.{ℕ, List, [], ◌∷◌, ◌++◌, codes, Option, option_map}
use Rattle.std.specs.Borrow.{Bor}
use Rattle.std.specs.List.{find}
use Rattle.std.specs.Str.{bytes_eq}
use Rattle.command_words.specs.declared.command.Command.{Command}
use Rattle.command_words.specs.declared.table.TheConstants.{COMMANDS}
use Rattle.command_words.specs.Help.{text_of_help}

-- a text, and a list of texts, as a constant has them
abbrev pub Text : Type 0
Text = record { now : List ℕ }

abbrev pub Texts : Type 0
Texts = record { now : List Text }

-- a row of the table
abbrev pub Row : Type 0
Row = Command Text Texts

-- what is told of a command that a call handed out
abbrev pub text_of : Bor (List ℕ) → Text
text_of text = record { now = text.now }

abbrev pub texts_of : List (Bor (List ℕ)) → List Text
texts_of [] = []
texts_of (text ∷ rest) = text_of text ∷ texts_of rest

abbrev pub row_of : Command (Bor (List ℕ)) (Bor (List (Bor (List ℕ)))) → Row
row_of c = record {
  word = text_of c.word;
  arguments = record { now = texts_of c.arguments.now };
  options = record { now = texts_of c.options.now };
  group = text_of c.group;
  summary = text_of c.summary;
  help = c.help;
}

-- the row that a word names, if there is one
abbrev pub named : List ℕ → List Row → Option Row
named word rows = find (λ row. bytes_eq row.word.now word) rows

-- what `cyphal COMMAND --help` writes, for the word of a command
unfoldable pub help_of : List ℕ → Option (List ℕ)
help_of word = option_map (λ row. text_of_help row.help) (named word COMMANDS.now)

-- words, each with a space in front
abbrev pub spaced : List Text → List ℕ
spaced [] = []
spaced (word ∷ rest) = 32 ∷ (word.now ++ spaced rest)

-- options, each in brackets with a space in front
abbrev pub bracketed : List Text → List ℕ
bracketed [] = []
bracketed (option ∷ rest) = codes " [" ++ (option.now ++ (codes "]" ++ bracketed rest))

-- a command's word with its arguments, and its call with its options too
abbrev pub call_of : Row → List ℕ
call_of row = row.word.now ++ spaced row.arguments.now

abbrev pub usage_of : Row → List ℕ
usage_of row = codes "cyphal " ++ (call_of row ++ bracketed row.options.now)
