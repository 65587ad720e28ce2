use Rattle.std.proofs.Common.{◌+◌, sym, ◌∙◌, subst}
use Rattle.dsdl_lex.proofs.Scanned as scanned
use Rattle.dsdl_lex.proofs.Scanned.{Scanned}
use Rattle.dsdl_lex.proofs.scan.scan.Goals as goal
use Rattle.dsdl_lex.proofs.scan.scan.Goals.{in-Some, in_default}

pub loop-i-init : goal.loop-i-init
loop-i-init c = scanned.begins c.args.start c.args.text.now c.requires.fresh c.requires.alive

pub returns-then-is_dead-clause-best : goal.returns-then-is_dead-clause-best
returns-then-is_dead-clause-best c =
    scanned.dead_best c.args.start c.args.text.now c.loop-i.i c.loop-i-test.true c.loop-i.state c.step-state.result c.loop-i.best c.loop-i.invariant c.step-state.ensures (sym c.is_dead.ensures ∙ c.if-is_dead.true)

pub returns-then-is_dead-clause-reach : goal.returns-then-is_dead-clause-reach
returns-then-is_dead-clause-reach c =
    scanned.dead_reach c.args.start c.args.text.now c.loop-i.i c.loop-i-test.true c.loop-i.state c.step-state.result c.loop-i.best c.loop-i.invariant c.step-state.ensures

pub loop-i-preserved-then-is_word : goal.loop-i-preserved-then-is_word
loop-i-preserved-then-is_word c =
    scanned.scan_name c.args.start c.args.text.now c.loop-i.i c.loop-i-test.true c.loop-i.state c.loop-i.best c.loop-i.invariant (sym c.is_in_name.ensures ∙ c.if-is_in_name.true) (sym c.is_word.ensures ∙ c.if-is_word.true)

pub loop-i-preserved : goal.loop-i-preserved
loop-i-preserved c = elim c.match-kind_at.branch [
  | in-Some w ↦ subst (Scanned c.args.start c.args.text.now (c.loop-i.i + 1) c.step-state.result) (sym w.best-is)
      (scanned.scan_better c.args.start c.args.text.now c.loop-i.i c.loop-i-test.true c.loop-i.state c.step-state.result c.loop-i.best c.loop-i.invariant c.step-state.ensures w.in-Some.kind
      (sym c.is_dead.ensures ∙ c.if-is_dead.false) (sym c.kind_at.ensures ∙ w.in-Some.is))
  | in_default w ↦ subst (Scanned c.args.start c.args.text.now (c.loop-i.i + 1) c.step-state.result) (sym w.best-is)
      (scanned.scan_kept c.args.start c.args.text.now c.loop-i.i c.loop-i-test.true c.loop-i.state c.step-state.result c.loop-i.best c.loop-i.invariant c.step-state.ensures
      (sym c.is_dead.ensures ∙ c.if-is_dead.false) (sym c.kind_at.ensures ∙ w.in_default.is))
]
