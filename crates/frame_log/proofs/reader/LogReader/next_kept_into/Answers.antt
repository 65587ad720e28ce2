use Rattle.std.proofs.Common.{◌≡◌, ◌++◌, [], subst, arith}
use Rattle.frame_log.specs.declared.reader.step.Step.{Step}
use Rattle.frame_log.specs.Log.{with_record}
use Rattle.frame_log.specs.Steps.{IsStep}
use Rattle.frame_log.specs.Reader.{place_of, buses_of, kept_bytes_of, bytes_left, log_behind}
use Rattle.frame_log.proofs.OrderLemmas.{ahead-first, ahead-from}
use Rattle.frame_log.proofs.FitLemmas.{fit-first, fit-from}
use Rattle.frame_log.proofs.reader.LogReader.next_kept_into.Goals as goal

-- the log before, where nothing comes behind what is kept
written : (c : goal.In-Record) → log_behind c.args.self.now [] ≡ with_record c.from_kept.new.written (log_behind c.from_kept.new.self [])
written c = subst (λ (s : Step). IsStep (log_behind c.args.self.now []) s c.from_kept.new.written (log_behind c.from_kept.new.self [])) c.in-Record.is (c.from_kept.ensures.next [])

pub returns-in-Record-clause-order : goal.returns-in-Record-clause-order
returns-in-Record-clause-order c =
    let old = c.args.self.now in
    let new = c.from_kept.new.self in
    ahead-first old.last old.lines (log_behind old []) (log_behind new []) c.from_kept.new.written (ahead-from (buses_of old) (bytes_left old) (kept_bytes_of old ++ []) (place_of old)) (written c)

pub returns-in-Record-clause-fit : goal.returns-in-Record-clause-fit
returns-in-Record-clause-fit c =
    let old = c.args.self.now in
    let new = c.from_kept.new.self in
    let at = c.from_kept.ensures.at c.in-Record.is in (
      fit-first (buses_of old) (log_behind old []) (log_behind new []) c.from_kept.new.written (fit-from (buses_of old) (bytes_left old) (kept_bytes_of old ++ []) (place_of old)) (written c),
      omega (arith, at.0, new.within),
    )
