use Rattle.std.proofs.Common.{◌<◌, get_or, take, arith, refl, ap, sym, subst, ◌∙◌, length}
use Rattle.std.proofs.lemmas.List.{take_more, take_all}
use Rattle.std.proofs.lemmas.List.Elements.{All-get_or}
use Rattle.bit_length.specs.Runs.{IsRun, IsAtMost}
use Rattle.bit_length.proofs.SetLemmas.{no_run}
use Rattle.bit_length.proofs.MergeLemmas.{merge_none, merge_all, order_from, takes_at}
use Rattle.bit_length.proofs.merge.merge_sorted.Goals as goal

pub loop-at-init : goal.loop-at-init
loop-at-init c =
    let runs = c.args.runs.now in
    let first = get_or runs 0 no_run in
    record {
      within = omega arith;
      len = refl;
      rest = λ k d low. refl;
      merges = λ step all. rw (take_more runs 0 no_run c.requires.some) (merge_none step first (All-get_or (IsRun step) runs 0 no_run c.requires.some all));
      order = λ k d low len. order_from runs 0 first no_run c.requires.order c.requires.some refl (omega arith) k d (omega arith) len;
    }

pub take_run-count-requires-clause-order : goal.take_run-count-requires-clause-order
take_run-count-requires-clause-order c =
    let i = c.loop-at.at in
    let lt : i < length c.args.runs.now = omega (arith, c.loop-at-test.true, c.loop-at.invariant.len) in
    subst (IsAtMost c.loop-at.last) (sym (c.loop-at.invariant.rest i no_run (omega arith))) (c.loop-at.invariant.order i no_run (omega arith) lt)

pub loop-at-preserved : goal.loop-at-preserved
loop-at-preserved c =
    let runs = c.args.runs.now in
    let now = c.loop-at.runs in
    let i = c.loop-at.at in
    let kept = take c.loop-at.kept now in
    let last = c.loop-at.last in
    let next = get_or now i no_run in
    let is = c.loop-at.invariant.rest i no_run (omega arith) in
    let lt : i < length runs = omega (arith, c.loop-at-test.true, c.loop-at.invariant.len) in
    let most = subst (IsAtMost last) (sym is) (c.loop-at.invariant.order i no_run (omega arith) lt) in
    let taken = c.take_run-count.ensures in
    record {
      within = omega (arith, taken.kept, c.loop-at.invariant.within);
      len = taken.len ∙ c.loop-at.invariant.len;
      rest = λ k d low. taken.rest k d (omega (arith, c.loop-at.invariant.within)) ∙ c.loop-at.invariant.rest k d (omega arith);
      merges = λ step all. takes_at runs kept (take c.take_run-count.result.0 c.take_run-count.new.runs) i last next c.take_run-count.result.1 lt is most taken.takes step all (c.loop-at.invariant.merges step all);
      order = λ k d low len. order_from runs i c.take_run-count.result.1 no_run c.requires.order lt (taken.order.0 ∙ ap (λ r. r.residue) is) (omega (arith, taken.order.1, ap (λ r. r.first) is)) k d (omega arith) len;
    }

pub returns-clause-merged : goal.returns-clause-merged
returns-clause-merged c = λ step all.
    let runs = c.args.runs.now in
    let kept = take c.loop-at.kept c.loop-at.runs in
    merge_all step runs kept c.loop-at.last (rw (take_all c.loop-at.at runs (omega (arith, c.loop-at-test.false, c.loop-at.invariant.len))) at (c.loop-at.invariant.merges step all))

pub returns-clause-len : goal.returns-clause-len
returns-clause-len c = c.loop-at.invariant.len
