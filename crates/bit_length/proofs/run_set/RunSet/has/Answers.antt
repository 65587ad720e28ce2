use Rattle.std.proofs.Common.{ℕ, ◌≡◌, inl, inr, Bool, IsTrue, List, sym, ◌∙◌, subst, Option, Some, None, MatchOption, rules}
use Rattle.std.specs.Option.{is_some}
use Rattle.std.proofs.lemmas.Bool.{false≢true}
use Rattle.bit_length.specs.declared.run.Run.{Run}
use Rattle.bit_length.specs.Runs.{AreRuns, InSome, IsRunOf}
use Rattle.bit_length.proofs.SetLemmas.{found_last, not_found, last_run, others_set, value_parts}
use Rattle.bit_length.proofs.run_set.RunSet.has.Goals as goal

told : (s : ℕ) (runs : List Run) (n : ℕ) (o : Option Run) (b : Bool) → b ≡ is_some o → MatchOption o (InSome s runs n → ⊥) (IsRunOf s runs n) → (IsTrue b → InSome s runs n) × (InSome s runs n → IsTrue b)
told s runs n (Some r) b e found = (λ _. found.within n found.has, λ _. e)
told s runs n None b e none = (λ h. absurd (false≢true (sym e ∙ h)), λ h. absurd (none h))

pub returns-then-has : goal.returns-then-has
returns-then-has c =
    (λ _. found_last c.self.inside.step c.self.inside.others.items c.self.inside.last c.args.self.now c.args.n c.self.invariant c.self.view_is (sym c.has.ensures ∙ c.if-has.true), λ _. search rules)

pub run_with-requires-clause-runs : goal.run_with-requires-clause-runs
run_with-requires-clause-runs c =
    subst (AreRuns c.self.inside.step) (sym c.as_slice.ensures.value) (others_set c.self.inside.step c.self.inside.others.items c.self.inside.last c.self.invariant)

pub returns : goal.returns
returns c =
    let s = c.self.inside.step in
    let others = c.self.inside.others.items in
    let last = c.self.inside.last in
    let whole = value_parts s others last c.args.self.now c.self.invariant c.self.view_is c.args.n in
    let found = rw c.as_slice.ensures.value at c.run_with.ensures in
    let told' = told s others c.args.n c.run_with.result c.is_some.result c.is_some.ensures found in (
      λ e. whole.1 (inr (told'.0 e)),
      λ h. elim (whole.0 h) [
        | inl k ↦ absurd (not_found s last c.args.n (last_run s others last c.self.invariant) (sym c.has.ensures ∙ c.if-has.false) k)
        | inr k ↦ told'.1 k
      ],
    )
