use Rattle.std.proofs.Common.{◌≡◌, ◌∷◌, length, ◌∙◌, ap}
use Rattle.std.proofs.lemmas.Result.{IfOk-weaker}
use Rattle.bit_length.specs.Lengths.{Has}
use Rattle.bit_length.specs.Moved.{Moved, moved}
use Rattle.bit_length.specs.Residues.{AreResidues, residues_of}
use Rattle.bit_length.specs.Runs.{InSome}
use Rattle.bit_length.proofs.MovedLemmas.{has_moved, moved_same}
use Rattle.bit_length.proofs.SetLemmas.{same_join, value_parts}
use Rattle.bit_length.proofs.run_set.RunSet.residues.Goals as goal

pub residues-requires-clause-short : goal.residues-requires-clause-short
residues-requires-clause-short c =
    let parts = value_parts c.self.inside.step c.self.inside.others.items c.self.inside.last c.args.self.now c.self.invariant c.self.view_is in
    rw c.as_slice-others.ensures.value (λ n h. c.requires.short n ((parts n).1 h))

pub returns : goal.returns
returns c =
    let s = c.self.inside.step in
    let by = c.args.by in
    let others = c.self.inside.others.items in
    let last = c.self.inside.last in
    let v = c.args.self.now in
    let all = Moved by (InSome s (last ∷ others)) in
    let are = rw c.as_slice-others.ensures.value at c.residues.ensures in
    let same = same_join (Has (moved by v)) (Moved by (Has v)) all (has_moved by v) (moved_same by (Has v) (InSome s (last ∷ others)) (value_parts s others last v c.self.invariant c.self.view_is)) in
    let size : length c.deref_mut.result.now ≡ c.args.k =
    ap length c.deref_mut.ensures.value ∙ c.in_ok-marks.ensures.count in
    IfOk-weaker c.residues.result (λ residues. AreResidues residues (length c.deref_mut.result.now) all) (λ residues. residues ≡ residues_of (moved by v) c.args.k) (λ residues h. h (moved by v) same ∙ ap (residues_of (moved by v)) size) are
