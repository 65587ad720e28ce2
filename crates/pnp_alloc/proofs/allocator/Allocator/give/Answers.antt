use Rattle.std.proofs.Common.{◌≡◌, ◌+◌, ◌<◌, true, length, ap, ◌∙◌, arith}
use Rattle.std.proofs.lemmas.List.{length-set, length_push}
use Rattle.pnp_alloc.specs.Used.{is_open}
use Rattle.pnp_alloc.proofs.Greatest.{greatest_some}
use Rattle.pnp_alloc.proofs.Kept.{top_above, above_given}
use Rattle.pnp_alloc.proofs.Owned.{owner}
use Rattle.pnp_alloc.proofs.allocator.Allocator.give.Goals as goal

pub bounds-self-node : goal.bounds-self-node
bounds-self-node c = let g = greatest_some (is_open c.args.self.now.used) 125 c.args.node c.requires in omega (arith, g.high)

pub overflow_sub-self : goal.overflow_sub-self
overflow_sub-self c = let g = greatest_some (is_open c.args.self.now.used) 125 c.args.node c.requires in omega (arith, g.low)

pub push-requires : goal.push-requires
push-requires c =
    let s = c.args.self.now in
    let g = greatest_some (is_open s.used) 125 c.args.node c.requires in
    let room : length s.owners < 125 = omega (arith, s.room, g.low, top_above s.top c.args.node s.used s.above c.requires) in
    (omega arith, room)

pub invariant_of-self : goal.invariant_of-self
invariant_of-self c =
    let s = c.args.self.now in
    let g = greatest_some (is_open s.used) 125 c.args.node c.requires in
    let longer : length c.push.new.self ≡ length s.owners + 1 = ap length c.push.ensures ∙ length_push s.owners (owner c.args.uid c.args.node) in
    record {
      full = length-set s.used c.args.node true ∙ s.full;
      room = omega (arith, s.room, g.low, longer, top_above s.top c.args.node s.used s.above c.requires);
      above = above_given c.args.node s.used c.requires;
    }
