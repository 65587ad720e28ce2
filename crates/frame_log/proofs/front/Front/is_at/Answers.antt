use Rattle.std.proofs.Common.{arith}
use Rattle.std.proofs.lemmas.Bool.Decides.{nat_tests}
use Rattle.frame_log.specs.Reads.{front_of}
use Rattle.frame_log.proofs.ReadsLemmas.{reads-stored}
use Rattle.frame_log.proofs.front.Front.is_at.Goals as goal

pub returns : goal.returns
returns c e = let f = c.args.self.now in
    reads-stored front_of c.args.s.now f.text f.len c.equal_before.result f.seconds (grind (arith, nat_tests, e)) f.short c.equal_before.ensures.same f.reads
