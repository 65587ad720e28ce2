use Rattle.std.proofs.Common.{◌≡◌, Some, length, drop, get_or, set, sym, ap, ◌∙◌, subst, arith, rules}
use Rattle.dsdl_resolve.specs.Placing.{Places}
use Rattle.dsdl_resolve.proofs.Placement.{places_step, front_less}
use Rattle.dsdl_resolve.proofs.in_order.place.Goals as goal

pub loop-definition-preserved : goal.loop-definition-preserved
loop-definition-preserved c =
    let left = c.pop.new.self.items in
    let x = c.in-Some.definition in
    let p = front_less c.args.definitions.items c.loop-definition.left.items left x c.loop-definition.invariant.front c.in-Some.ensures.items in
    let count : c.len.result ≡ length left = search rules in
    record {
      few = omega (arith, p.0, c.loop-definition.invariant.few);
      front = p.1;
      placed = λ done h.
          subst (Places (drop (length left) done) c.args.slots.now.items) (sym (c.put.ensures ∙ ap (λ k. set c.loop-definition.slots.items (get_or c.args.numbers.now k 0) (Some x)) count))
          (places_step done c.args.numbers.now c.args.definitions.items h (length left) x p.2 p.3 c.args.slots.now.items c.loop-definition.slots.items
          (subst (λ k. Places (drop k done) c.args.slots.now.items c.loop-definition.slots.items) p.0 (c.loop-definition.invariant.placed done h)));
    }
