use Rattle.line_loop.proofs.Inputs.{took_read}
use Rattle.line_loop.proofs.held.read_some.Goals as goal

pub returns-clause-took : goal.returns-clause-took
returns-clause-took g c = took_read (g.L.Source.left c.args.input.now) (g.L.Source.left c.read_over.new.self) c.args.piece.now c.read_over.new.buf c.in-Ok.n c.in-Ok.ensures.takes
