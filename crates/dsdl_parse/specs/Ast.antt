-- The statements of a text, and its first line that is none.
use Rattle.std.specs.Prelude.{◌≡◌, ℕ, ◌+◌, ◌⊎◌, List, [], ◌∷◌, ◌++◌, length}
use Rattle.dsdl_lex.specs.declared.token.Token.{Token}
use Rattle.dsdl_lex.specs.Tokens.{Lexes}
use Rattle.dsdl_parse.specs.declared.statement.Statement.{Statement}
use Rattle.dsdl_parse.specs.Lines.{AreLines}
use Rattle.dsdl_parse.specs.Statement.{IsStatement}
use Rattle.dsdl_parse.specs.Words.{words}

-- the tokens of a line are the statement's
abbrev pub IsLine : List ℕ → Statement → Type 0
IsLine line s = (tokens : List Token) × Lexes line 0 tokens × IsStatement (words line tokens) s

-- each line is a statement's, one after the other
pub data AreStatements : List (List ℕ) → List Statement → Type 0 where
  none : AreStatements [] []
  more : {line : List ℕ} {lines : List (List ℕ)} {s : Statement} {ss : List Statement} →
      IsLine line s → AreStatements lines ss → AreStatements (line ∷ lines) (s ∷ ss)

-- the lines of a text are these statements, one a line
abbrev pub IsAst : List ℕ → List Statement → Type 0
IsAst text ss = (lines : List (List ℕ)) × AreLines text lines × AreStatements lines ss

-- line n of a text, counted from 1, is the first that is no line of the grammar
pub record FirstBad (text : List ℕ) (n : ℕ) : Type 0 where
  pub before : List (List ℕ)
  pub bad : List ℕ
  pub after : List (List ℕ)
  pub are_lines : AreLines text (before ++ bad ∷ after)
  pub place : n ≡ length before + 1
  pub good : (ss : List Statement) × AreStatements before ss
  pub no_line : (s : Statement) → IsLine bad s → ⊥

-- a line has one statement at most; a text has either one list of statements or one first line that
-- is none
pub record IsParsedOneWay : Type 0 where
  pub either : (text : List ℕ)
      → ((ss : List Statement) × IsAst text ss) ⊎ ((n : ℕ) × FirstBad text n)
  pub one_statement : (line : List ℕ) (s t : Statement) → IsLine line s → IsLine line t → s ≡ t
  pub one_list : (text : List ℕ) (ss ts : List Statement) → IsAst text ss → IsAst text ts → ss ≡ ts
  pub one_place : (text : List ℕ) (m n : ℕ) → FirstBad text m → FirstBad text n → m ≡ n
  pub not_both : (text : List ℕ) (n : ℕ) (ss : List Statement) → FirstBad text n → IsAst text ss → ⊥
