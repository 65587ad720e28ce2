use Rattle.std.proofs.Common.{◌≡◌, ◌∙◌, [], ◌∷◌, None, Some, IsSome, cond, nat_eq, refl, sym, ap, subst, arith}
use Rattle.std.specs.Map.{lookup}
use Rattle.tail_frame.specs.Frames.{seen}
use Rattle.bus_survey.specs.Counts.{kept_frames}
use Rattle.bus_survey.specs.Flows.{flow_of, of_flow}
use Rattle.bus_survey.specs.Ranks.{rank, IsRanked}
use Rattle.bus_survey.specs.declared.flow.Flow.{Flow}
use Rattle.bus_survey.proofs.FlowLemmas.{few_of, short_of, kept_of, known, unknown, heard, at_error}
use Rattle.bus_survey.proofs.flow_table.FlowTable.hear.Goals as goal

pub returns-in-Some-clause-heard : goal.returns-in-Some-clause-heard
returns-in-Some-clause-heard c = λ past few short is.
    let f = seen c.args.frame.now in
    let k : Flow = flow_of f in
    let entries = c.args.self.now.counts.entries in
    let ranked : IsRanked k = subst IsRanked c.flow_of-flow.ensures c.rank-rank.ensures.ranked in
    let number : c.rank-rank.result ≡ rank k = c.rank-rank.ensures.value ∙ ap rank c.flow_of-flow.ensures in
    let old = c.in-Some.known.now in
    let at : lookup (nat_eq (rank k)) entries ≡ Some old =
    ap (λ n. lookup (nat_eq n) entries) (sym number) ∙ sym c.in-Some.ensures.value in
    let was : old ≡ (k, kept_of past k) = known past entries is c.get_mut.ensures.unique k ranked old at in
    let counted : c.add.new.self ≡ kept_frames (f ∷ of_flow k past) =
    c.add.ensures (of_flow k past) (omega (arith, few, few_of k past)) (short_of k past short) (ap (λ v. v.1) was) in
    let written = c.get_mut.follows.holds (old.0, c.add.new.self) in
    let updates = written.3 (subst IsSome c.in-Some.ensures.value refl) in
    heard past entries is c.get_mut.ensures.unique f ranked _ written.4
    (λ n. updates.0 n ∙ (λ i. cond (nat_eq (number i) n) (Some ((was i).0, counted i)) (lookup (nat_eq n) entries)))

pub returns-in_ok-insert-in-None-clause-heard : goal.returns-in_ok-insert-in-None-clause-heard
returns-in_ok-insert-in-None-clause-heard c = λ past few short is.
    let f = seen c.args.frame.now in
    let k : Flow = flow_of f in
    let entries = c.args.self.now.counts.entries in
    let flow = c.flow_of-flow.ensures in
    let ranked : IsRanked k = subst IsRanked flow c.rank-rank.ensures.ranked in
    let number : c.rank-rank.result ≡ rank k = c.rank-rank.ensures.value ∙ ap rank flow in
    let at : lookup (nat_eq (rank k)) entries ≡ None =
    ap (λ n. lookup (nat_eq n) entries) (sym number) ∙ sym c.in-None.ensures.value in
    let new : of_flow k past ≡ [] = unknown past entries is c.get_mut.ensures.unique k ranked at in
    let counted : c.first_counts.result ≡ kept_frames (f ∷ of_flow k past) =
    c.first_counts.ensures ∙ ap (λ fs. kept_frames (f ∷ fs)) (sym new) in
    let inserted = c.in_ok-insert-in-None.ensures {u = tt} in
    heard past entries is c.get_mut.ensures.unique f ranked _ inserted.unique
    (λ n. inserted.updates.0 n ∙ (λ i. cond (nat_eq (number i) n) (Some (flow i, counted i)) (lookup (nat_eq n) (c.get_mut.follows.holds-at-none i).entries)))

pub returns-in_err-insert-in-None-clause-memory : goal.returns-in_err-insert-in-None-clause-memory
returns-in_err-insert-in-None-clause-memory c =
    let k : Flow = flow_of (seen c.args.frame.now) in
    let entries = c.args.self.now.counts.entries in
    let number : c.rank-rank.result ≡ rank k = c.rank-rank.ensures.value ∙ ap rank c.flow_of-flow.ensures in
    at_error _ (ap (λ n. lookup (nat_eq n) entries) (sym number) ∙ sym c.in-None.ensures.value)
