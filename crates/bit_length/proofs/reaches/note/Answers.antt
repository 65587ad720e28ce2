use Rattle.std.proofs.Common.{◌≡◌, ◌+◌, ◌-◌, ◌*◌, ◌%◌, length, min, refl, sym, ap, ◌∙◌, subst, arith, set}
use Rattle.bit_length.specs.Moved.{Moved}
use Rattle.bit_length.specs.Residues.{AreAtMost, Notes}
use Rattle.bit_length.specs.Runs.{InRun}
use Rattle.bit_length.proofs.ReachLemmas.{notes_run, most_set}
use Rattle.bit_length.proofs.reaches.note.Goals as goal

pub returns-clause-notes : goal.returns-clause-notes
returns-clause-notes c =
    let run = c.args.run.now in
    let old = c.args.reaches.now in
    let at = (c.args.by + c.member.result) % length c.args.reaches.now in
    let size : c.count.result ≡ c.args.run.now.last + 1 - c.args.run.now.first = omega arith in
    let count : c.min.result ≡ min (c.args.run.now.last + 1 - c.args.run.now.first) c.args.round = c.min.ensures ∙ ap (λ n. min n c.args.round) size in
    let here : (c.args.by + c.member.result) % length c.args.reaches.now ≡ (c.args.by + (c.args.run.now.residue + c.args.step * c.args.run.now.first)) % length c.args.reaches.now = ap (λ m. (c.args.by + m) % length c.args.reaches.now) c.member.ensures.value in
    subst (λ m. Notes c.args.step old (set old at m) (Moved c.args.by (InRun c.args.step run))) (sym c.max.ensures) (notes_run c.args.step (length old) c.args.by c.args.round at c.min.result run old c.requires.some refl c.requires.round c.requires.again c.requires.run.1 count here)

pub returns-clause-most : goal.returns-clause-most
returns-clause-most c =
    let old = c.args.reaches.now in
    let at = (c.args.by + c.member.result) % length c.args.reaches.now in
    subst (λ m. AreAtMost (set old at m) c.args.round) (sym c.max.ensures) (most_set old at c.min.result c.args.round (omega arith) c.requires.most (omega arith))
