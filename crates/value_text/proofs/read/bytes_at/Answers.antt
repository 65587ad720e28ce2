use Rattle.std.proofs.Common.{◌∙◌, drop, sym, ap, subst, arith}
use Rattle.dsdl_types.specs.Views.{vals}
use Rattle.dsdl_types.specs.Values.{count}
use Rattle.value_text.specs.Loose.{GivesBytes}
use Rattle.value_text.proofs.ReadItems.{bytes_next, bytes_over, bytes_all, bytes_pushed, count_pushed, BytesLeft}
use Rattle.value_text.specs.Texts.{are_bytes}
use Rattle.value_text.proofs.read.bytes_at.Goals as goal

pub returns-then-are_all_bytes : goal.returns-then-are_all_bytes
returns-then-are_all_bytes c =
    subst (λ l. GivesBytes c.args.exact c.args.len (drop c.args.at.now c.args.line.now) (drop c.loop.at c.args.line.now) (vals l)) (sym c.new.ensures)
    (bytes_over c.args.exact c.args.len c.loop.counter (vals c.loop.values.items) _ _ c.loop-test.true c.loop.invariant.made c.loop.invariant.bytes (sym c.if-are_all_bytes.ensures) c.loop.invariant.left)

pub returns : goal.returns
returns c =
    subst (λ l. GivesBytes c.args.exact c.args.len (drop c.args.at.now c.args.line.now) (drop c.loop.at c.args.line.now) (vals l)) (sym c.new-2.ensures)
    (bytes_all c.args.exact c.args.len c.loop.counter (vals c.loop.values.items) _ _ c.loop-test.false c.loop.invariant.most c.loop.invariant.made c.loop.invariant.bytes c.loop.invariant.left)

pub loop-preserved : goal.loop-preserved
loop-preserved c =
    let items = c.in_ok-push.ensures.items in
    record {
      most = omega (arith, c.loop-test.true);
      made = ap (λ l. count (vals l)) items ∙ count_pushed c.loop.values.items c.byte_at.result c.loop.counter c.loop.invariant.made;
      bytes = ap (λ l. are_bytes (vals l)) items ∙ bytes_pushed c.loop.values.items c.byte_at.result c.loop.invariant.bytes c.byte_at.ensures.byte;
      left = subst (λ l. BytesLeft c.args.exact c.args.len (vals l) (drop c.args.at.now c.args.line.now) (drop c.byte_at.new.at c.args.line.now)) (sym items)
          (bytes_next c.args.exact c.args.len c.loop.counter c.loop.values.items c.byte_at.result _ _ _ c.loop-test.true c.loop.invariant.made (sym c.if-are_all_bytes.ensures) c.byte_at.ensures.reads c.loop.invariant.left);
    }
