use Rattle.std.proofs.Common.{sym, ◌∙◌, arith}
use Rattle.const_expr.proofs.WithinLemmas.{at_end, at_less, at_equal, at_greater}
use Rattle.const_expr.proofs.compare.set_in_set.Goals as goal

pub returns-then-other-ys : goal.returns-then-other-ys
returns-then-other-ys c = sym (c.loop-place.invariant.left ∙ at_end c.args.xs.now c.args.ys.now c.loop-place.place c.loop-place.other (omega arith) (omega arith))

pub returns-in-Less : goal.returns-in-Less
returns-in-Less c = sym (c.loop-place.invariant.left ∙ at_less c.args.xs.now c.args.ys.now c.loop-place.place c.loop-place.other c.index-xs-place.result c.index-ys-other.result c.requires.left c.requires.right (omega arith) (omega arith) c.index-xs-place.is c.index-ys-other.is (sym c.in-Less.ensures))

pub loop-place-preserved-in-Equal : goal.loop-place-preserved-in-Equal
loop-place-preserved-in-Equal c = record {
  place = omega arith;
  other = omega arith;
  left = c.loop-place.invariant.left ∙ at_equal c.args.xs.now c.args.ys.now c.loop-place.place c.loop-place.other c.index-xs-place.result c.index-ys-other.result c.requires.left c.requires.right (omega arith) (omega arith) c.index-xs-place.is c.index-ys-other.is (sym c.in-Equal.ensures);
}

pub loop-place-preserved : goal.loop-place-preserved
loop-place-preserved c = record {
  place = c.loop-place.invariant.place;
  other = omega arith;
  left = c.loop-place.invariant.left ∙ at_greater c.args.xs.now c.args.ys.now c.loop-place.place c.loop-place.other c.index-xs-place.result c.index-ys-other.result c.requires.left c.requires.right (omega arith) (omega arith) c.index-xs-place.is c.index-ys-other.is (sym c.in-Greater.ensures);
}
