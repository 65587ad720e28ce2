-- A line is a statement's in one way, or in none.
use Rattle.std.proofs.Common.{◌≡◌, ℕ, List, [], ◌∷◌, Option, Some, None, Err, Result, refl, sym, subst, ◌⊎◌, inl, inr, arith}
use Rattle.dsdl_lex.specs.declared.line.LexError.{LexError}
use Rattle.dsdl_lex.specs.declared.line.LexError.TheVariants as lex
use Rattle.dsdl_lex.specs.declared.token.Token.{Token}
use Rattle.dsdl_lex.specs.Tokens.{Lexes, Stuck, IsReadOneWay}
use Rattle.dsdl_parse.specs.declared.read_error.ReadError.{ReadError}
use Rattle.dsdl_parse.specs.declared.read_error.ReadError.TheVariants.{Syntax, NoMemory}
use Rattle.dsdl_parse.specs.declared.statement.Statement.{Statement}
use Rattle.dsdl_parse.specs.Answers.{Refuses}
use Rattle.dsdl_parse.specs.LineAnswers.{without_tokens}
use Rattle.dsdl_parse.specs.Ast.{IsLine}
use Rattle.dsdl_parse.specs.Statement.{IsStatement}
use Rattle.dsdl_parse.specs.StatementReading.{read_statement}
use Rattle.dsdl_parse.specs.Words.{Word, words}
use Rattle.dsdl_parse.proofs.StatementReads.{one_statement, none_read, not_all_read, all_read}

pub syntax_refused : {A : Type 0} (e : ReadError) (o : Option A) → Refuses e o → e ≡ Syntax → o ≡ None
syntax_refused Syntax o h e = h
syntax_refused NoMemory o h e = absurd (cc)

module _ (one_way : IsReadOneWay) (line : List ℕ) where
  pub no_tokens : (why : LexError) → without_tokens why ≡ Syntax → ((column : ℕ) → ◌≡◌ {A = Result (Unit {0}) LexError} (Err why) (Err (lex.Lex column)) → Stuck line 0 column) →
      (x : Statement) → IsLine line x → ⊥
  no_tokens (lex.Lex column) e h x (tokens, d, is) = one_way.not_both line column tokens (h column refl) d
  no_tokens lex.NoMemory e h x d = absurd (cc)

  pub no_statement : (tokens : List Token) → Lexes line 0 tokens → ((x : Statement) → IsStatement (words line tokens) x → ⊥) → (x : Statement) → IsLine line x → ⊥
  no_statement tokens d h x (others, f, is) = h x (subst (λ t. IsStatement (words line t) x) (sym (one_way.one_list line tokens others d f)) is)

  pub one_line : (x y : Statement) → IsLine line x → IsLine line y → x ≡ y
  one_line x y (tokens, d, is) (others, f, is') = one_statement is (subst (λ t. IsStatement (words line t) y) (sym (one_way.one_list line tokens others d f)) is')

  -- a line is a statement's, or no statement's
  decided : (o : Option (Statement × List Word)) (tokens : List Token) → Lexes line 0 tokens → read_statement (words line tokens) ≡ o → ((s : Statement) × IsLine line s) ⊎ ((s : Statement) → IsLine line s → ⊥)
  decided None tokens d e = inr (no_statement tokens d (none_read (words line tokens) e))
  decided (Some (s, [])) tokens d e = inl (s, (tokens, d, all_read (words line tokens) [] s e refl))
  decided (Some (s, w ∷ ws)) tokens d e = inr (no_statement tokens d (not_all_read (words line tokens) (w ∷ ws) s e (λ h. omega arith)))

  pub line_or_none : ((s : Statement) × IsLine line s) ⊎ ((s : Statement) → IsLine line s → ⊥)
  line_or_none = elim (one_way.either line) [
    | inl t ↦ decided (read_statement (words line t.0)) t.0 t.1 refl
    | inr b ↦ inr (λ s d. one_way.not_both line b.0 d.0 b.1 d.1)
  ]
