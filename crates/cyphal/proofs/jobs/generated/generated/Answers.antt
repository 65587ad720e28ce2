use Rattle.std.proofs.Common.{refl}
use Rattle.cyphal.proofs.statuses.Gen.{one_of, ok_of, no_usage, no_read}
use Rattle.cyphal.proofs.jobs.generated.generated.Goals as goal

pub returns-clause-answer : goal.returns-clause-answer
returns-clause-answer g c fault =
    ok_of c.run_gen.result (one_of c.args.number c.run_gen.result _ _ c.run_gen.ensures.written) fault

pub returns-clause-cause : goal.returns-clause-cause
returns-clause-cause g c tree =
    let o = one_of c.args.number c.run_gen.result _ _ c.run_gen.ensures.written in
    record {
      usage = no_usage c.run_gen.result o;
      read = λ e. absurd (no_read c.run_gen.result o e);
      write = c.run_gen.ensures.write;
      unwritten = c.run_gen.ensures.unwritten;
      kept = λ e. refl;
    }
