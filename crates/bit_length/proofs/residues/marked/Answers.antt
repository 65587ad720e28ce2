use Rattle.std.proofs.Common.{◌∙◌}
use Rattle.bit_length.specs.Residues.{is_marked}
use Rattle.bit_length.proofs.ResidueLemmas.{next_in, next_out, none_below}
use Rattle.bit_length.proofs.residues.marked.Goals as goal
use Rattle.bit_length.proofs.residues.marked.Goals.{then-is_marked+in_ok-push, else-is_marked}

pub loop-number-init : goal.loop-number-init
loop-number-init c = c.empty-numbers.ensures ∙ none_below (is_marked c.args.marks.now)

pub loop-number-preserved : goal.loop-number-preserved
loop-number-preserved c = elim c.if-is_marked.branch [
  | then-is_marked+in_ok-push w ↦ w.numbers-is ∙ w.in_ok-push.ensures.ok ∙ next_in (is_marked c.args.marks.now) c.loop-number.number c.loop-number.numbers c.loop-number.invariant w.if-is_marked.true
  | else-is_marked w ↦ w.numbers-is ∙ next_out (is_marked c.args.marks.now) c.loop-number.number c.loop-number.numbers c.loop-number.invariant w.if-is_marked.false
]
