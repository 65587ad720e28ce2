use Rattle.std.proofs.Common.{◌∙◌, ◌-◌, ◌++◌, ap}
use Rattle.cy_bits.specs.Bits.{bits_of}
use Rattle.value_scan.proofs.WordLemmas.{joined, joined_bits}
use Rattle.value_scan.proofs.words.behind_low.Goals as goal

pub overflow_add-result : goal.overflow_add-result
overflow_add-result c = let small = (joined c.from.result c.args.value c.args.low c.requires).small in record { fits = small }

pub returns : goal.returns
returns c =
    joined_bits c.from.result c.args.value c.args.low _ c.requires (joined c.from.result c.args.value c.args.low c.requires)
    ∙ ap (λ b. bits_of c.args.low b ++ bits_of (64 - c.args.low) c.args.value) c.from.ensures
