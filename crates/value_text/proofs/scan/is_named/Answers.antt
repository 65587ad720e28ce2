use Rattle.std.proofs.Common.{◌∙◌, ◌∷◌, drop}
use Rattle.std.proofs.lemmas.Slice.Eq.{starts_is}
use Rattle.std.proofs.lemmas.Bool.Decides.{Decides-eqb}
use Rattle.value_text.proofs.Scans.{named_there}
use Rattle.value_text.proofs.scan.is_named.Goals as goal

pub returns-then-starts_with-clause-named : goal.returns-then-starts_with-clause-named
returns-then-starts_with-clause-named c h =
    let s = (starts_is Decides-eqb c.behind-rest.result.now c.args.name.now _ c.starts_with.ensures.value).0 c.if-starts_with.true in
    named_there c.args.name.now (drop c.args.at c.args.line.now) c.behind-rest.result.now c.peek.result c.behind-rest.ensures s c.peek.ensures h

pub returns-else-starts_with-clause-other : goal.returns-else-starts_with-clause-other
returns-else-starts_with-clause-other c rest e =
    (starts_is Decides-eqb c.behind-rest.result.now c.args.name.now _ c.starts_with.ensures.value).1 (58 ∷ rest) (c.behind-rest.ensures ∙ e)
