use Rattle.std.proofs.Common.{Err, ap, subst}
use Rattle.dsdl_parse.specs.Ast.{FirstBad}
use Rattle.dsdl_resolve.proofs.valuing.statements_of.Goals as goal

pub unreachable-requires : goal.unreachable-requires
unreachable-requires c =
    let line = c.in-Err-Syntax.field-0-0 in
    let bad : FirstBad c.as_slice.result.now line = c.in-Err-Syntax.ensures.refused line (ap Err c.in-Err-Syntax.field-0-is) in
    c.one_parsing.ensures.not_both c.args.file.now.text line c.requires.text.0 (subst (λ t. FirstBad t line) c.as_slice.ensures bad) c.requires.text.1
