use Rattle.std.proofs.Common.{◌∙◌, sym, ap}
use Rattle.std.specs.Option.{option_map}
use Rattle.rx_table.proofs.FirstSources.{sources-next, sources-all}
use Rattle.rx_table.proofs.port.Port.first_sources.Goals as goal

pub loop-index-preserved : goal.loop-index-preserved
loop-index-preserved g c =
    sources-next c.args.self.now.sessions.entries c.loop-index.index (c.unwrap.result.0.now, c.unwrap.result.1.now) c.loop-index.list c.push.new.self
    (sym c.get_index.ensures.entry ∙ ap (option_map (λ p. (p.0.now, p.1.now))) c.unwrap.ensures) c.loop-index.invariant c.push.ensures

pub returns : goal.returns
returns g c =
    c.loop-index.invariant ∙ sources-all c.args.self.now.sessions.entries c.len.result c.min-count.result c.loop-index.index c.len.ensures.len c.min-count.ensures c.loop-index-test.false c.loop-index.auto.index-end
