use Rattle.std.proofs.Common.{◌≡◌, sym, ap, ◌∙◌}
use Rattle.std.proofs.lemmas.Result.{err_from_is_err_and}
use Rattle.dsdl_parse.specs.declared.read_error.ReadError.TheVariants.{Syntax}
use Rattle.dsdl_parse.specs.StatementReading.{read_statement}
use Rattle.dsdl_parse.specs.Words.{words}
use Rattle.dsdl_parse.proofs.LineReads.{syntax_refused, no_tokens, no_statement}
use Rattle.dsdl_parse.proofs.StatementReads.{none_read, not_all_read, all_read}
use Rattle.dsdl_parse.proofs.line.line_of.Goals as goal

pub returns-in_err-lex_line-clause-refused : goal.returns-in_err-lex_line-clause-refused
returns-in_err-lex_line-clause-refused c e x d =
    let p = err_from_is_err_and c.from_residual.result c.from_residual.ensures.1 in
    let same : p.0 ≡ Syntax = cc in
    no_tokens c.one_reading.ensures c.args.line.now c.in_err-lex_line.field-0.0 (sym p.2 ∙ same) c.in_err-lex_line.ensures.refused x d

pub returns-in_err-statement-clause-refused : goal.returns-in_err-statement-clause-refused
returns-in_err-statement-clause-refused c e x d =
    let p = err_from_is_err_and c.from_residual-in_err-statement.result c.from_residual-in_err-statement.ensures.1 in
    let same : c.in_err-statement.field-0.0 ≡ Syntax = cc in
    let words_are : c.new-words.result ≡ words c.args.line.now c.lex_line.new.tokens = c.new-words.ensures ∙ ap (words c.args.line.now) c.as_slice.ensures in
    no_statement c.one_reading.ensures c.args.line.now c.lex_line.new.tokens c.in_ok-lex_line.ensures.tokens
    (none_read (words c.args.line.now c.lex_line.new.tokens) (ap read_statement (sym words_are) ∙ syntax_refused c.in_err-statement.field-0.0 _ c.in_err-statement.ensures same)) x d

pub returns-then-len-eq0-clause-statement : goal.returns-then-len-eq0-clause-statement
returns-then-len-eq0-clause-statement c =
    let words_are : c.new-words.result ≡ words c.args.line.now c.lex_line.new.tokens = c.new-words.ensures ∙ ap (words c.args.line.now) c.as_slice.ensures in (
      c.lex_line.new.tokens,
      c.in_ok-lex_line.ensures.tokens,
      all_read (words c.args.line.now c.lex_line.new.tokens) _ c.in_ok-statement.statement (ap read_statement (sym words_are) ∙ c.in_ok-statement.ensures) (sym c.len.ensures ∙ c.if-len-eq0.true),
    )

pub returns-else-len-eq0-clause-refused : goal.returns-else-len-eq0-clause-refused
returns-else-len-eq0-clause-refused c e x d =
    let words_are : c.new-words.result ≡ words c.args.line.now c.lex_line.new.tokens = c.new-words.ensures ∙ ap (words c.args.line.now) c.as_slice.ensures in
    no_statement c.one_reading.ensures c.args.line.now c.lex_line.new.tokens c.in_ok-lex_line.ensures.tokens
    (not_all_read (words c.args.line.now c.lex_line.new.tokens) _ c.in_ok-statement.statement (ap read_statement (sym words_are) ∙ c.in_ok-statement.ensures) (λ h. c.if-len-eq0.false (c.len.ensures ∙ h))) x d
