use Rattle.std.proofs.Common.{◌≡◌, ◌++◌, take, drop, Some}
use Rattle.frame_log.specs.Line.{cut, ◌>>=◌}
use Rattle.frame_log.proofs.digits.cut.Given as goal

-- the first b stands in what is left
abbrev pub invariant-loop-i : goal.invariant-loop-i
invariant-loop-i l = cut l.b l.s ≡ (cut l.b (drop l.i l.s) >>= (λ p. Some (take l.i l.s ++ p.0, p.1)))
