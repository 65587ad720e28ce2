use Rattle.std.proofs.Common.{arith}
use Rattle.layout_text.proofs.Ascending.{listed_start, listed_more, listed_end}
use Rattle.layout_text.proofs.set.push_members.Goals as goal

pub loop-n-init : goal.loop-n-init
loop-n-init c = record { listed = listed_start _ _; short = omega arith }

pub overflow_add-from : goal.overflow_add-from
overflow_add-from c = let le = c.max-greatest.ensures.greatest.1 c.in-Some.n c.in-Some.ensures.0 in omega (arith, c.max-greatest.ensures.short)

pub loop-n-preserved : goal.loop-n-preserved
loop-n-preserved c =
    let le = c.max-greatest.ensures.greatest.1 c.in-Some.n c.in-Some.ensures.0 in
    record {
      listed = listed_more c.args.set.now _ _ _ c.loop-n.from c.in-Some.n c.max-greatest.result c.requires c.max-greatest.ensures.greatest c.loop-n.invariant.listed c.in-Some.ensures c.in_ok-push_member.ensures;
      short = omega arith;
    }

pub returns : goal.returns
returns c = listed_end c.args.set.now _ _ c.loop-n.from c.loop-n.invariant.listed c.in_default.ensures
