use Rattle.std.proofs.Common.{◌%◌, ◌==◌, arith, sym, ◌∙◌, subst, inl, inr}
use Rattle.std.proofs.lemmas.Bool.{eqb-true}
use Rattle.bit_length.specs.Lengths.{Has}
use Rattle.bit_length.specs.Runs.{AreRuns}
use Rattle.bit_length.proofs.MemberLemmas.{InRun-from_test}
use Rattle.bit_length.proofs.SetLemmas.{last_run, last_member, not_found, others_set, value_parts}
use Rattle.bit_length.proofs.WithinLemmas.{reach_of}
use Rattle.bit_length.proofs.run_set.RunSet.reach.Goals as goal

pub returns-then-has : goal.returns-then-has
returns-then-has c =
    let s = c.self.inside.step in
    let last = c.self.inside.last in
    let run = last_run s c.self.inside.others.items last c.self.invariant in
    reach_of s c.args.n c.args.stride last (Has c.args.self.now) run (last_member s c.self.inside.others.items last c.args.self.now c.self.invariant c.self.view_is) (InRun-from_test s last c.args.n (omega (arith, run.0)) (sym c.has.ensures ∙ c.if-has.true)) (c.args.stride % s == 0) (λ h. eqb-true (c.args.stride % s) 0 h) c.end.result c.end.ensures

pub run_with-requires-clause-runs : goal.run_with-requires-clause-runs
run_with-requires-clause-runs c =
    subst (AreRuns c.self.inside.step) (sym c.as_slice.ensures.value) (others_set c.self.inside.step c.self.inside.others.items c.self.inside.last c.self.invariant)

pub end-requires-in-Some : goal.end-requires-in-Some
end-requires-in-Some c = c.in-Some.ensures.run

pub returns-in-Some : goal.returns-in-Some
returns-in-Some c =
    let s = c.self.inside.step in
    let others = c.self.inside.others.items in
    let found = rw c.as_slice.ensures.value at c.in-Some.ensures in
    reach_of s c.args.n c.args.stride c.in-Some.run' (Has c.args.self.now) c.in-Some.ensures.run (λ k h. (value_parts s others c.self.inside.last c.args.self.now c.self.invariant c.self.view_is k).1 (inr (found.within k h))) c.in-Some.ensures.has (c.args.stride % s == 0) (λ h. eqb-true (c.args.stride % s) 0 h) c.end-in-Some.result c.end-in-Some.ensures

pub returns-in-None : goal.returns-in-None
returns-in-None c =
    let s = c.self.inside.step in
    let others = c.self.inside.others.items in
    let last = c.self.inside.last in
    let none = rw c.as_slice.ensures.value at c.in-None.ensures in
    λ h. elim ((value_parts s others last c.args.self.now c.self.invariant c.self.view_is c.args.n).0 h) [
      | inl k ↦ not_found s last c.args.n (last_run s others last c.self.invariant) (sym c.has.ensures ∙ c.if-has.false) k
      | inr k ↦ none k
    ]
