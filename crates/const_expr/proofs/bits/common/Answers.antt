use Rattle.std.proofs.Common.{◌≡◌, ◌++◌, [], filter, sym, ap, ◌∙◌}
use Rattle.const_expr.specs.Constants.{has, with_all}
use Rattle.const_expr.proofs.SetLemmas.{some_ascend}
use Rattle.const_expr.proofs.SetChanges.{append_nil, set_of_ascending}
use Rattle.const_expr.proofs.bits.common.Goals as goal

pub returns : goal.returns
returns c =
    let all : c.loop-member.both ≡ filter (λ x. has c.args.ys.now x) c.args.set.keys =
    sym (append_nil c.loop-member.both)
    ∙ ap (λ l. c.loop-member.both ++ filter (λ x. has c.args.ys.now x) l) (sym c.in-None.ensures.steps.0)
    ∙ c.loop-member.invariant
    in
    c.in_ok-ordered.ensures ∙ ap (with_all []) all ∙ set_of_ascending _ (some_ascend (λ x. has c.args.ys.now x) c.args.set.keys c.requires.left)
