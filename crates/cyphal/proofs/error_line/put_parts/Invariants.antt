use Rattle.std.proofs.Common.{◌≡◌, take, List, ℕ, Bor}
use Rattle.std.specs.List.{flat_map}
use Rattle.cy_outside.specs.Written.{behind}
use Rattle.cyphal.proofs.error_line.put_parts.Given as goal

abbrev pub invariant-loop-part : goal.invariant-loop-part
invariant-loop-part g l = let e = g.E.Sink in record {
  written : e.written l.err ≡ behind (e.written l.fn.err) (flat_map (λ (part : Bor (List ℕ)). part.now) (take l.part-index l.parts));
  faults : e.faults l.err ≡ e.faults l.fn.err;
}
