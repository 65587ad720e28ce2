use Rattle.std.proofs.Common.{◌+◌, ◌++◌, ◌^◌, List, ℕ, ap₂, length}
use Rattle.frame_log.specs.Log.{log_from, start}
use Rattle.frame_log.proofs.reader.LogReader.new.Goals as goal

pub returns-clause-log : goal.returns-clause-log
returns-clause-log c rest = ap₂ (λ (b : List (List ℕ)) (h : List ℕ). log_from b ((2 ^ 28) + length h) (h ++ rest) start) c.new.ensures c.in_ok-new.ensures
