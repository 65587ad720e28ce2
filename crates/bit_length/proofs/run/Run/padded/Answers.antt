use Rattle.std.proofs.Common.{arith}
use Rattle.bit_length.proofs.SumLemmas.{padded_residue, pads_run, pads_is_run}
use Rattle.bit_length.proofs.run.Run.padded.Goals as goal
use Rattle.bit_length.proofs.run.Run.padded.Goals.{then-residue-step, else-residue-step}

pub returns-clause-run : goal.returns-clause-run
returns-clause-run c =
    let s = c.args.step in
    let r = c.args.self.now in
    let most = padded_residue c.args.to s r.residue c.requires.positive c.requires.multiple c.requires.run.0 in
    pads_is_run s c.args.to r c.if-residue-step.carry c.requires.positive c.requires.multiple c.requires.run c.requires.short (elim c.if-residue-step.branch [ then-residue-step w ↦ let e = w.carry-is in rw e (omega arith) | else-residue-step w ↦ let e = w.carry-is in rw e (omega arith) ]) (elim c.if-residue-step.branch [ then-residue-step w ↦ let e = w.carry-is in rw e (omega arith) | else-residue-step w ↦ let e = w.carry-is in rw e (omega arith) ])

pub returns-clause-pads : goal.returns-clause-pads
returns-clause-pads c =
    pads_run c.args.step c.args.to c.args.self.now c.if-residue-step.carry c.requires.positive c.requires.multiple (elim c.if-residue-step.branch [ then-residue-step w ↦ let e = w.carry-is in rw e (omega arith) | else-residue-step w ↦ let e = w.carry-is in rw e (omega arith) ])
