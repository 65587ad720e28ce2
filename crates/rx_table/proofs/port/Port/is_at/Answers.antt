use Rattle.std.proofs.Common.{◌∙◌, ap, sym, Some}
use Rattle.std.proofs.lemmas.Bool.{eqb-true}
use Rattle.rx_table.proofs.KnownSources.{sources-get}
use Rattle.rx_table.proofs.port.Port.is_at.Goals as goal

pub returns-in-Some : goal.returns-in-Some
returns-in-Some g c y =
    sources-get c.args.self.now.sessions.entries c.args.index (c.in-Some.key.now, c.in-Some.field-0-1.now) (sym c.in-Some.ensures.entry)
    ∙ ap Some (eqb-true c.in-Some.key.now c.args.source y)
