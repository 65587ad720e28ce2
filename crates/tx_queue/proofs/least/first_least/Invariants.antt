use Rattle.std.specs.List.{IsFirstBest}
use Rattle.tx_queue.specs.Waiting.{is_less}
use Rattle.tx_queue.proofs.least.first_least.Given as goal

-- the least of the frames before the place
abbrev pub invariant-loop-place : goal.invariant-loop-place
invariant-loop-place l = IsFirstBest is_less l.frames l.place l.least
