use Rattle.std.proofs.Common.{◌≡◌, ◌+◌, ◌*◌, refl, rules, sym, subst, arith}
use Rattle.std.proofs.lemmas.Result.{IfOk-weaker}
use Rattle.bit_length.specs.Lengths.{Has, Same, Pads, padded}
use Rattle.bit_length.specs.Runs.{InRun, InSome}
use Rattle.bit_length.proofs.SetLemmas.{done, some_of, pads_alike, some_pad, same_join}
use Rattle.bit_length.proofs.run_set.RunSet.pad_within.Goals as goal

pub pads-requires-clause-short : goal.pads-requires-clause-short
pads-requires-clause-short c =
    rw c.deref.ensures.value (λ n (m, x, e). c.requires.short n (m, (c.in_ok-runs_at.ensures.runs.same m).0 x, e))

pub from_runs-requires-clause-some : goal.from_runs-requires-clause-some
from_runs-requires-clause-some c =
    let s = c.step_for-step.result in
    let a = c.in_ok-runs_at.field-0.items in
    let pads = rw c.deref.ensures.value at c.in_ok-runs.ensures in
    some_of s c.in_ok-runs.runs.items (Pads (InSome s a) c.args.to) pads (some_pad (InSome s a) c.args.to (some_of s a (Has c.args.self.now) c.in_ok-runs_at.ensures.runs c.in_ok-runs_at.ensures.some))

pub returns : goal.returns
returns c =
    let s = c.step_for-step.result in
    let a = c.in_ok-runs_at.field-0.items in
    let pads = rw c.deref.ensures.value at c.in_ok-runs.ensures in
    done c.from_runs.result (InSome s c.in_ok-runs.runs.items) (Pads (Has c.args.self.now) c.args.to) (same_join (InSome s c.in_ok-runs.runs.items) (Pads (InSome s a) c.args.to) (Pads (Has c.args.self.now) c.args.to) pads.same (pads_alike (InSome s a) (Has c.args.self.now) c.args.to c.in_ok-runs_at.ensures.runs.same)) c.from_runs.ensures

pub padded-requires-clause-short : goal.padded-requires-clause-short
padded-requires-clause-short c =
    let run = c.in-Some.run' in
    let greatest = run.residue + c.step_for-step.result * run.last in
    c.requires.short (padded c.args.to greatest) (greatest, (c.in-Some.ensures.members greatest).0 (run.last, c.in-Some.ensures.run.1, omega arith, refl), refl)

pub returns-in-Some : goal.returns-in-Some
returns-in-Some c =
    let s = c.step_for-step.result in
    same_join (Has c.one.result) (InRun s c.padded.result) (Pads (Has c.args.self.now) c.args.to) c.one.ensures
    (same_join (InRun s c.padded.result) (Pads (InRun s c.in-Some.run') c.args.to) (Pads (Has c.args.self.now) c.args.to) c.padded.ensures.pads
    (pads_alike (InRun s c.in-Some.run') (Has c.args.self.now) c.args.to c.in-Some.ensures.members))

pub returns-then-is_padded : goal.returns-then-is_padded
returns-then-is_padded c =
    let has = Has c.args.self.now in
    IfOk-weaker c.copy_to.result (λ s. s ≡ c.args.self.now) (λ s. Same (Has s) (Pads has c.args.to))
    (λ s e. subst (λ l. Same (Has l) (Pads has c.args.to)) (sym e) (c.if-is_padded.ensures (search rules))) c.copy_to.ensures
