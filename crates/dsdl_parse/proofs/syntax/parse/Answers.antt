use Rattle.std.proofs.Common.{◌≡◌, ℕ, ◌+◌, Err, refl, sym, ap, ◌∙◌, subst}
use Rattle.dsdl_parse.specs.declared.read_error.ReadError.{ReadError}
use Rattle.dsdl_parse.specs.declared.read_error.ReadError.TheVariants as read
use Rattle.dsdl_parse.specs.declared.syntax.SyntaxError.TheVariants.{Syntax}
use Rattle.dsdl_parse.specs.LineAnswers.{at_line}
use Rattle.dsdl_parse.specs.Ast.{FirstBad, IsAst}
use Rattle.dsdl_parse.proofs.Parsed.{Going, begun, gone, ended, refused}
use Rattle.dsdl_parse.proofs.syntax.parse.Goals as goal

named : (why : ReadError) (n line : ℕ) → at_line why n ≡ Syntax line → (why ≡ read.Syntax) × (n ≡ line)
named read.Syntax n line e = (refl, cc)
named read.NoMemory n line e = absurd (cc)

pub loop-line-init : goal.loop-line-init
loop-line-init c = subst (Going c.args.text.now c.args.text.now) (sym c.empty-lines.ensures) (begun c.args.text.now)

pub loop-line-preserved : goal.loop-line-preserved
loop-line-preserved c =
    subst (Going c.args.text.now c.in-Some.behind.now) (sym c.in_ok-push-in-Ok.ensures.ok)
    (gone c.args.text.now c.loop-line.rest.now c.in-Some.line.now c.in-Some.behind.now c.loop-line.lines c.in-Ok.statement c.loop-line.invariant c.in-Some.ensures c.in-Ok.ensures.statement)

pub returns-in-Err-clause-refused : goal.returns-in-Err-clause-refused
returns-in-Err-clause-refused c line e =
    let same : c.at_line.result ≡ Syntax line = cc in
    let (why, place) = named c.in-Err.error (c.len.result + 1) line (sym c.at_line.ensures ∙ same) in
    subst (FirstBad c.args.text.now) (ap (λ n. n + 1) (sym c.len.ensures) ∙ place)
    (refused c.args.text.now c.loop-line.rest.now c.in-Some.line.now c.in-Some.behind.now c.loop-line.lines c.loop-line.invariant c.in-Some.ensures (c.in-Err.ensures.refused (ap Err why)))

pub returns-clause-ast : goal.returns-clause-ast
returns-clause-ast c =
    subst (IsAst c.args.text.now) (sym c.without_room.ensures)
    (ended c.args.text.now c.loop-line.rest.now c.loop-line.lines c.loop-line.invariant c.in_default.ensures)
