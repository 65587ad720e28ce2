use Rattle.std.proofs.Common.{◌<◌, AllPairs, ◌+◌, ◌++◌, ◌∷◌, [], get_or, length, arith, ap, ◌∙◌, sym, subst}
use Rattle.bit_length.specs.Members.{runs_of}
use Rattle.bit_length.specs.Runs.{AreRuns, members_of}
use Rattle.bit_length.proofs.CountLemmas.{counted_first, counted_more, counted_short, counted_all}
use Rattle.bit_length.proofs.RunLemmas.{last_bound}
use Rattle.bit_length.proofs.SetLemmas.{members_ascend, members_short, front, other_run, last_run, no_run}
use Rattle.bit_length.proofs.run_set.RunSet.count.Goals as goal

pub loop-run-init : goal.loop-run-init
loop-run-init c = λ s last set e.
    let w = counted_first s last (last_run s c.deref-run-items.result.now last set) in omega arith

pub count-count-requires-in-loop-run : goal.count-count-requires-in-loop-run
count-count-requires-in-loop-run c =
    let set = subst (λ xs. AreRuns c.self.inside.step (xs ++ c.self.inside.last ∷ [])) (sym c.deref-run-items.ensures.value) c.self.invariant in
    let run = other_run c.self.inside.step c.deref-run-items.result.now c.self.inside.last c.loop-run.run-index set c.loop-run-test.true in
    record { order = run.1; short = last_bound c.self.inside.step (get_or c.deref-run-items.result.now c.loop-run.run-index no_run) run }

pub overflow_add-count : goal.overflow_add-count
overflow_add-count c =
    let s = c.self.inside.step in
    let items = c.deref-run-items.result.now in
    let last = c.self.inside.last in
    let i = c.loop-run.run-index in
    let set = subst (λ xs. AreRuns s (xs ++ last ∷ [])) (sym c.deref-run-items.ensures.value) c.self.invariant in
    let so_far = c.loop-run.invariant s last set c.count-count.ensures in
    let more = counted_more s items last i set c.loop-run-test.true in
    let short = counted_short s (front items last (i + 1)) in
    omega (arith, c.count-count-in-loop-run.ensures)

pub loop-run-preserved : goal.loop-run-preserved
loop-run-preserved c = λ s last set e.
    let items = c.deref-run-items.result.now in
    let i = c.loop-run.run-index in
    let so_far = c.loop-run.invariant s last set e in
    let more = counted_more s items last i set c.loop-run-test.true in
    omega (arith, c.count-count-in-loop-run.ensures)

pub returns-clause-count : goal.returns-clause-count
returns-clause-count c =
    let s = c.self.inside.step in
    let items = c.deref-run-items.result.now in
    let last = c.self.inside.last in
    let set = subst (λ xs. AreRuns s (xs ++ last ∷ [])) (sym c.deref-run-items.ensures.value) c.self.invariant in
    c.loop-run.invariant s last set c.count-count.ensures ∙ counted_all s items last c.loop-run.run-index c.loop-run-test.false ∙ ap (λ xs. length (members_of s (xs ++ last ∷ []))) c.deref-run-items.ensures.value ∙ ap length c.self.view_is

pub returns-clause-ascending : goal.returns-clause-ascending
returns-clause-ascending c = subst (AllPairs (λ a b. a < b)) c.self.view_is (members_ascend c.self.inside.step (runs_of c.self.inside))

pub returns-clause-short : goal.returns-clause-short
returns-clause-short c = members_short c.self.inside.step (runs_of c.self.inside) c.args.self.now c.self.view_is
