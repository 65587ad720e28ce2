use Rattle.std.proofs.Common.{◌∙◌, sym, ap, min}
use Rattle.rx_session.specs.Extents.{extent_bytes}
use Rattle.rx_table.specs.Table.{states}
use Rattle.rx_table.proofs.Buffered.{held_of-states}
use Rattle.rx_table.proofs.Counted.{held-is, held-within}
use Rattle.rx_table.proofs.table.Table.held.Goals as goal

pub returns-clause-sum : goal.returns-clause-sum
returns-clause-sum g c =
    c.args.self.now.sum ∙ ap (λ n. min n 18446744073709551615) (sym (held_of-states (extent_bytes g.S.Shape.shape) c.args.self.now.ports.items))

pub returns-clause-held : goal.returns-clause-held
returns-clause-held g c log st =
    held-is c.args.self.now.timeout c.args.self.now.held log (states (extent_bytes g.S.Shape.shape) c.args.self.now.ports.items) st
    (c.args.self.now.sum ∙ ap (λ n. min n 18446744073709551615) (sym (held_of-states (extent_bytes g.S.Shape.shape) c.args.self.now.ports.items)))

pub returns-clause-bound : goal.returns-clause-bound
returns-clause-bound g c log st =
    held-within c.args.self.now.timeout c.args.self.now.held log (states (extent_bytes g.S.Shape.shape) c.args.self.now.ports.items) st
    (c.args.self.now.sum ∙ ap (λ n. min n 18446744073709551615) (sym (held_of-states (extent_bytes g.S.Shape.shape) c.args.self.now.ports.items)))
