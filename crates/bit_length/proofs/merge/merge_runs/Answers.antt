use Rattle.std.proofs.Common.{◌≡◌, ◌++◌, ◌∷◌, [], ◌∙◌, arith, subst, sym, take, drop, length}
use Rattle.std.proofs.lemmas.List.{take_at}
use Rattle.std.proofs.lemmas.List.Sorted.{length_permutation}
use Rattle.bit_length.specs.Runs.{IsMerged}
use Rattle.bit_length.proofs.MergeLemmas.{merged_in_order}
use Rattle.bit_length.proofs.merge.merge_runs.Goals as goal

pub merge_sorted-kept-requires-clause-some : goal.merge_sorted-kept-requires-clause-some
merge_sorted-kept-requires-clause-some c =
    let e = length_permutation c.args.runs.items c.sorted-runs.result.items c.sorted-runs.ensures.permutation in rw c.as_mut_slice.ensures.value (omega (arith, c.args.runs.ok.0))

pub returns : goal.returns
returns c =
    let sorted = c.sorted-runs.result.items in
    let len = c.sorted-runs.result.len in
    let kept = c.merge_sorted-kept.result.0 in
    let last = c.merge_sorted-kept.result.1 in
    let new = c.merge_sorted-kept.new.runs in
    let whole = take len (new ++ drop (length new) sorted) in
    let same : whole ≡ new = take_at new (drop (length new) sorted) len (c.merge_sorted-kept.ensures.len ∙ c.as_mut_slice.ensures.len) in
    let merged : IsMerged sorted (take kept new ++ last ∷ []) = subst (λ xs. IsMerged xs (take kept new ++ last ∷ [])) c.as_mut_slice.ensures.value c.merge_sorted-kept.ensures.merged in
    rw c.first_runs.ensures (merged_in_order c.args.runs.items sorted c.sorted-runs.ensures.permutation (take kept whole ++ last ∷ []) (subst (λ xs. IsMerged sorted (take kept xs ++ last ∷ [])) (sym same) merged))
