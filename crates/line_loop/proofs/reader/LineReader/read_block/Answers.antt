use Rattle.std.proofs.Common.{arith}
use Rattle.std.proofs.lemmas.Grind.{common_steps}
use Rattle.line_loop.proofs.reader.LineReader.read_block.Goals as goal

pub returns-clause-reads : goal.returns-clause-reads
returns-clause-reads g c =
    let f = c.in-Ok.ensures.fills in record {
      bytes = f.came;
      took = f.took;
      held = f.bytes;
      some = grind (arith, common_steps);
      few = omega (arith, f.count, f.few);
      room = omega (arith, f.count, f.within);
    }
