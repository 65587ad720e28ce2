use Rattle.std.proofs.Common.{◌≡◌, ◌*◌, ◌/◌, ◌%◌, ◌∷◌, length, inl, inr, ap, ◌∙◌}
use Rattle.std.proofs.lemmas.Result.{IfOk-weaker}
use Rattle.bit_length.specs.Moved.{Moved}
use Rattle.bit_length.specs.Residues.{AreResidues, marked_of}
use Rattle.bit_length.specs.Runs.{InRun, InSome}
use Rattle.bit_length.proofs.MovedLemmas.{moved_either, short_run}
use Rattle.bit_length.proofs.ResidueLemmas.{marked_residues, round_is}
use Rattle.bit_length.proofs.residues.residues.Goals as goal

pub note-requires-clause-short : goal.note-requires-clause-short
note-requires-clause-short c =
    let s = c.args.step in
    let last = c.args.last.now in
    short_run c.args.by s last (InSome s (last ∷ c.args.others.now)) c.requires.last (λ n h. inl h) c.requires.short

pub note-requires-clause-round : goal.note-requires-clause-round
note-requires-clause-round c =
    (round_is c.args.step (length c.args.marks.now) c.common_divisor.result c.requires.some c.common_divisor.ensures.left c.common_divisor.ensures.right).0

pub note-requires-clause-again : goal.note-requires-clause-again
note-requires-clause-again c =
    let whole = round_is c.args.step (length c.args.marks.now) c.common_divisor.result c.requires.some c.common_divisor.ensures.left c.common_divisor.ensures.right in
    ap (λ m. c.args.step * (length c.args.marks.now / c.common_divisor.result) % m) c.requires.same ∙ whole.1

pub note_all-requires-clause-short : goal.note_all-requires-clause-short
note_all-requires-clause-short c = λ n h. c.requires.short n (inr h)

pub note_all-requires-clause-round : goal.note_all-requires-clause-round
note_all-requires-clause-round c =
    (round_is c.args.step (length c.args.marks.now) c.common_divisor.result c.requires.some c.common_divisor.ensures.left c.common_divisor.ensures.right).0

pub note_all-requires-clause-again : goal.note_all-requires-clause-again
note_all-requires-clause-again c =
    let whole = round_is c.args.step (length c.args.marks.now) c.common_divisor.result c.requires.some c.common_divisor.ensures.left c.common_divisor.ensures.right in
    ap (λ m. c.args.step * (length c.args.marks.now / c.common_divisor.result) % m) (c.note.auto.reaches ∙ c.requires.same) ∙ whole.1

pub returns : goal.returns
returns c =
    let s = c.args.step in
    let by = c.args.by in
    let marks = c.args.marks.now in
    let last = c.args.last.now in
    let others = c.args.others.now in
    let one = Moved by (InRun s last) in
    let rest = Moved by (InSome s others) in
    let all = Moved by (InSome s (last ∷ others)) in
    let parts = moved_either by (InRun s last) (InSome s others) (InSome s (last ∷ others)) (λ n. (λ h. h, λ h. h)) in
    IfOk-weaker c.marked.result (λ numbers. numbers ≡ marked_of c.mark_reached.new.marks) (λ numbers. AreResidues numbers (length marks) all) (marked_residues s one rest all c.args.reaches.now c.note.new.reaches c.note_all.new.reaches c.mark_reached.new.marks (length marks) parts c.requires.same c.note.auto.reaches c.mark_reached.auto.marks c.requires.reaches c.note.ensures.notes c.note_all.ensures.notes c.mark_reached.ensures) c.marked.ensures
