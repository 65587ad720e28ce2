use Rattle.std.proofs.Common.{arith}
use Rattle.std.proofs.lemmas.Bool.Decides.{nat_tests}
use Rattle.line_order.proofs.FrontLemmas.{front-stored}
use Rattle.line_order.proofs.front.Front.is_at.Goals as goal

pub returns : goal.returns
returns c e = let f = c.args.self.now in front-stored c.args.line.now f.text f.len c.equal_before.result f.seconds (grind (arith, nat_tests, e)) f.short c.equal_before.ensures.same f.is
