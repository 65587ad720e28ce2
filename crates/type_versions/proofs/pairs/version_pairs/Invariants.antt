use Rattle.std.proofs.Common.{◌≡◌, map, take, drop}
use Rattle.std.specs.List.{filter, zip}
use Rattle.type_versions.specs.Pairs.{has_versions, pair_of}
use Rattle.type_versions.proofs.pairs.version_pairs.Given as goal

abbrev pub invariant-loop-at : goal.invariant-loop-at
invariant-loop-at l =
    let ds = map (λ d. d.now) l.sorted in
    map pair_of l.pairs.items ≡ filter has_versions (take l.at (zip (drop 1 ds) ds))
