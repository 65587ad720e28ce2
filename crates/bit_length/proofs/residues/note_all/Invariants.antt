use Rattle.std.proofs.Common.{take}
use Rattle.bit_length.specs.Moved.{Moved}
use Rattle.bit_length.specs.Residues.{AreAtMost, Notes}
use Rattle.bit_length.specs.Runs.{InSome}
use Rattle.bit_length.proofs.residues.note_all.Given as goal

abbrev pub invariant-loop-run : goal.invariant-loop-run
invariant-loop-run l = record {
  notes : Notes l.step l.initial.reaches l.reaches (Moved l.by (InSome l.step (take l.run-index l.runs)));
  most : AreAtMost l.reaches l.round;
}
