use Rattle.std.proofs.Common.{◌+◌, ap}
use Rattle.dsdl_resolve.specs.Opens.{said_of}
use Rattle.dsdl_resolve.specs.declared.counts.Counts.{Counts}
use Rattle.dsdl_resolve.proofs.Counting.{section_counts}
use Rattle.dsdl_resolve.proofs.open_section.OpenSection.counts.Goals as goal

pub returns : goal.returns
returns c = λ constants.
    let totals = c.args.self.now.before.totals in
    let counts : Counts = record { nodes = 1 + totals.nodes; nesting = 1 + totals.nesting; fields = c.args.fields } in
    section_counts counts (said_of c.args.self.now constants) (ap (λ n. 1 + n) c.requires.ready.totals.nodes) (ap (λ n. 1 + n) c.requires.ready.totals.nesting)
