use Rattle.std.proofs.Common.{rules, arith}
use Rattle.cy_outside.proofs.Taken.{taken_more, left_behind}
use Rattle.cy_outside.proofs.opened.fill.Goals as goal

pub pieces-preserved : goal.pieces-preserved
pieces-preserved g c = record {
  within = search rules;
  room = search rules;
  behind = left_behind c.pieces.buf c.read_piece.new.buf c.args.buf.now c.pieces.done c.in_ok-n.n _ c.pieces.invariant.within (omega arith) c.in_ok-n.ensures.behind c.pieces.invariant.behind;
  taken = taken_more _ _ _ c.pieces.buf c.read_piece.new.buf _ c.pieces.done c.in_ok-n.n _ c.pieces.invariant.within c.in_ok-n.ensures.within c.read_piece.auto.buf c.pieces.invariant.taken c.in_ok-n.ensures.bytes.0;
}
