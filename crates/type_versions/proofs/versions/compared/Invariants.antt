use Rattle.std.proofs.Common.{◌≡◌, map, take}
use Rattle.std.specs.List.{flat_map}
use Rattle.type_versions.specs.Lines.{pair_line, pair_verdict, first_refusal}
use Rattle.type_versions.specs.Pairs.{pair_of}
use Rattle.type_versions.proofs.versions.compared.Given as goal

abbrev pub invariant-loop-pair : goal.invariant-loop-pair
invariant-loop-pair l =
    let done = map pair_of (take l.pair-index l.pairs) in
    (l.versions.lines.items ≡ flat_map pair_line done) × (l.versions.first ≡ first_refusal (map pair_verdict done))
