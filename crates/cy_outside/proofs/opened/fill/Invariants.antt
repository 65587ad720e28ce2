use Rattle.std.proofs.Common.{◌≡◌, ◌≤◌, ◌-◌, length, take, drop}
use Rattle.std.specs.Io.KnownBytes.{Consumes}
use Rattle.cy_outside.proofs.opened.fill.Given as goal

abbrev pub invariant-pieces : goal.invariant-pieces
invariant-pieces g l = record {
  within : l.done ≤ length l.buf;
  room : length l.buf ≡ length l.fn.buf;
  behind : drop l.done l.buf ≡ drop l.done l.fn.buf;
  taken : Consumes (g.F.Read.remaining l.fn.file) (g.F.Read.remaining l.file) (take l.done l.buf);
}

abbrev pub decreases-pieces : goal.decreases-pieces
decreases-pieces g l = length l.buf - l.done
