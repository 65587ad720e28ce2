use Rattle.std.proofs.Common.{◌*◌}
use Rattle.bit_length.specs.Runs.{Adds}
use Rattle.bit_length.proofs.RunLemmas.{InClasses}
use Rattle.bit_length.proofs.parts.push_classes.Given as goal

abbrev pub invariant-loop-class : goal.invariant-loop-class
invariant-loop-class l =
    Adds (l.step * l.many) l.initial.parts.items l.parts.items (InClasses l.step l.many l.class l.run)
