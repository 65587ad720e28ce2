-- What a line or a text is answered where it isn't read.
use Rattle.std.specs.Prelude.{ℕ}
use Rattle.dsdl_lex.specs.declared.line.LexError.{LexError}
use Rattle.dsdl_lex.specs.declared.line.LexError.TheVariants as lex
use Rattle.dsdl_parse.specs.declared.read_error.ReadError.{ReadError}
use Rattle.dsdl_parse.specs.declared.read_error.ReadError.TheVariants as read
use Rattle.dsdl_parse.specs.declared.syntax.SyntaxError.{SyntaxError}
use Rattle.dsdl_parse.specs.declared.syntax.SyntaxError.TheVariants as syntax

-- a line without tokens
abbrev pub without_tokens : LexError → ReadError
without_tokens (lex.Lex column) = read.Syntax
without_tokens lex.NoMemory = read.NoMemory

-- a text, where this line isn't read
abbrev pub at_line : ReadError → ℕ → SyntaxError
at_line read.Syntax line = syntax.Syntax line
at_line read.NoMemory line = syntax.NoMemory
