use Rattle.std.proofs.Common.{sym, ◌∙◌, eq-eqb}
use Rattle.dsdl_lex.proofs.Blanks.{end_nothing, end_other}
use Rattle.dsdl_lex.proofs.split.is_blank_from.Goals as goal

pub returns-then-end-line : goal.returns-then-end-line
returns-then-end-line c = eq-eqb _ _ c.if-end-line.true ∙ sym (end_nothing c.args.line.now c.args.from c.blanks_end-end.result c.blanks_end-end.ensures c.if-end-line.true)

pub returns-else-end-line : goal.returns-else-end-line
returns-else-end-line c = sym (end_other c.args.line.now c.args.from c.blanks_end-end.result c.blanks_end-end.ensures c.if-end-line.false)
