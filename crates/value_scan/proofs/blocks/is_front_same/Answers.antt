use Rattle.std.proofs.Common.{◌≡◌, rules}
use Rattle.std.specs.Int.{to_le_bytes, w64}
use Rattle.value_scan.proofs.BlockLemmas.{halves_meet, same_blocks}
use Rattle.value_scan.proofs.blocks.is_front_same.Goals as goal

pub returns-then-eight : goal.returns-then-eight
returns-then-eight c = λ e.
    let front = same_blocks (to_le_bytes w64) _ _ _ _ c.eight.ensures c.eight-2.ensures c.if-eight.true in
    let last : c.eight-then-eight.result ≡ c.eight-then-eight-2.result = search rules in
    let back = same_blocks (to_le_bytes w64) _ _ _ _ c.eight-then-eight.ensures c.eight-then-eight-2.ensures last in
    halves_meet c.args.one.now c.args.other.now c.requires.one c.requires.other front back
