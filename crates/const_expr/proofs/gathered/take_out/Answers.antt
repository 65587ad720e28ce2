use Rattle.std.proofs.Common.{◌≡◌, ◌++◌, ◌∷◌, [], true, false, sym, ap, ◌∙◌, subst, rules}
use Rattle.const_expr.specs.Binary.{without}
use Rattle.const_expr.specs.Constants.{IsAscending}
use Rattle.const_expr.proofs.SetChanges.{less, less_is, member_out, other_out}
use Rattle.const_expr.proofs.gathered.take_out.Goals as goal

pub loop-constant-init : goal.loop-constant-init
loop-constant-init c =
    let items : c.into_iter-constant-iterator.result.rest.items ≡ c.args.constants = c.into_iter-constant-iterator.ensures.into_iter_gives.0 ∙ c.into_vec-constant-items.ensures in
    record {
      set = c.requires.set;
      rest = subst IsAscending (sym items) c.requires.constants;
      left = ap (less c.args.set.now.keys) items ∙ less_is c.args.set.now.keys c.args.constants;
      others = ap (λ l. l ++ without c.into_iter-constant-iterator.result.rest.items c.args.set.now.keys) c.empty-others.ensures ∙ ap (λ l. without l c.args.set.now.keys) items;
    }

pub loop-constant-preserved-in-Continue-1 : goal.loop-constant-preserved-in-Continue-1
loop-constant-preserved-in-Continue-1 c =
    let y = c.in-Some.constant in
    let next : c.loop-constant.constant-iterator.rest.items ≡ y ∷ c.next.new.self.rest.items = c.in-Some.ensures.steps.0 in
    let absent : c.remove.result ≡ false = search rules in
    let pushed : c.push.new.self ≡ c.loop-constant.others ++ y ∷ [] = search rules in
    let g = other_out _ _ _ _ _ (record { set_up = c.loop-constant.invariant.set; rest_up = c.loop-constant.invariant.rest; left = c.loop-constant.invariant.left; whole = c.loop-constant.invariant.others }) y _ _ next c.remove.ensures.keys (sym c.remove.ensures.test ∙ absent) in
    record {
      set = g.set_up;
      rest = g.rest_up;
      left = g.left;
      others = ap (λ l. l ++ without c.next.new.self.rest.items c.remove.new.self.keys) pushed ∙ g.whole;
    }

pub loop-constant-preserved-else-not-remove : goal.loop-constant-preserved-else-not-remove
loop-constant-preserved-else-not-remove c =
    let y = c.in-Some.constant in
    let next : c.loop-constant.constant-iterator.rest.items ≡ y ∷ c.next.new.self.rest.items = c.in-Some.ensures.steps.0 in
    let present : c.remove.result ≡ true = search rules in
    let g = member_out _ _ _ _ _ (record { set_up = c.loop-constant.invariant.set; rest_up = c.loop-constant.invariant.rest; left = c.loop-constant.invariant.left; whole = c.loop-constant.invariant.others }) y _ _ next c.remove.ensures.keys (sym c.remove.ensures.test ∙ present) in
    record { set = g.set_up; rest = g.rest_up; left = g.left; others = g.whole }

pub loop-constant-preserved-else-not-remove-2 : goal.loop-constant-preserved-else-not-remove-2
loop-constant-preserved-else-not-remove-2 c =
    let y = c.in-Some.constant in
    let next : c.loop-constant.constant-iterator.rest.items ≡ y ∷ c.next.new.self.rest.items = c.in-Some.ensures.steps.0 in
    let present : c.remove.result ≡ true = search rules in
    let g = member_out _ _ _ _ _ (record { set_up = c.loop-constant.invariant.set; rest_up = c.loop-constant.invariant.rest; left = c.loop-constant.invariant.left; whole = c.loop-constant.invariant.others }) y _ _ next c.remove.ensures.keys (sym c.remove.ensures.test ∙ present) in
    record { set = g.set_up; rest = g.rest_up; left = g.left; others = g.whole }

pub loop-constant-preserved-else-not-remove-3 : goal.loop-constant-preserved-else-not-remove-3
loop-constant-preserved-else-not-remove-3 c =
    let y = c.in-Some.constant in
    let next : c.loop-constant.constant-iterator.rest.items ≡ y ∷ c.next.new.self.rest.items = c.in-Some.ensures.steps.0 in
    let present : c.remove.result ≡ true = search rules in
    let g = member_out _ _ _ _ _ (record { set_up = c.loop-constant.invariant.set; rest_up = c.loop-constant.invariant.rest; left = c.loop-constant.invariant.left; whole = c.loop-constant.invariant.others }) y _ _ next c.remove.ensures.keys (sym c.remove.ensures.test ∙ present) in
    record { set = g.set_up; rest = g.rest_up; left = g.left; others = g.whole }

pub loop-constant-preserved-else-not-remove-4 : goal.loop-constant-preserved-else-not-remove-4
loop-constant-preserved-else-not-remove-4 c =
    let y = c.in-Some.constant in
    let next : c.loop-constant.constant-iterator.rest.items ≡ y ∷ c.next.new.self.rest.items = c.in-Some.ensures.steps.0 in
    let present : c.remove.result ≡ true = search rules in
    let g = member_out _ _ _ _ _ (record { set_up = c.loop-constant.invariant.set; rest_up = c.loop-constant.invariant.rest; left = c.loop-constant.invariant.left; whole = c.loop-constant.invariant.others }) y _ _ next c.remove.ensures.keys (sym c.remove.ensures.test ∙ present) in
    record { set = g.set_up; rest = g.rest_up; left = g.left; others = g.whole }

pub loop-constant-preserved : goal.loop-constant-preserved
loop-constant-preserved c =
    let y = c.in-Some.constant in
    let next : c.loop-constant.constant-iterator.rest.items ≡ y ∷ c.next.new.self.rest.items = c.in-Some.ensures.steps.0 in
    let present : c.remove.result ≡ true = search rules in
    let g = member_out _ _ _ _ _ (record { set_up = c.loop-constant.invariant.set; rest_up = c.loop-constant.invariant.rest; left = c.loop-constant.invariant.left; whole = c.loop-constant.invariant.others }) y _ _ next c.remove.ensures.keys (sym c.remove.ensures.test ∙ present) in
    record { set = g.set_up; rest = g.rest_up; left = g.left; others = g.whole }

pub loop-constant-preserved-else-not-remove-5 : goal.loop-constant-preserved-else-not-remove-5
loop-constant-preserved-else-not-remove-5 c =
    let y = c.in-Some.constant in
    let next : c.loop-constant.constant-iterator.rest.items ≡ y ∷ c.next.new.self.rest.items = c.in-Some.ensures.steps.0 in
    let present : c.remove.result ≡ true = search rules in
    let g = member_out _ _ _ _ _ (record { set_up = c.loop-constant.invariant.set; rest_up = c.loop-constant.invariant.rest; left = c.loop-constant.invariant.left; whole = c.loop-constant.invariant.others }) y _ _ next c.remove.ensures.keys (sym c.remove.ensures.test ∙ present) in
    record { set = g.set_up; rest = g.rest_up; left = g.left; others = g.whole }
