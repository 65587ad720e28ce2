use Rattle.std.proofs.Common.{◌≡◌, true, arith, rules}
use Rattle.std.specs.Int.{to_le_bytes, w32, w64}
use Rattle.value_scan.proofs.BlockLemmas.{ends_meet, same_blocks}
use Rattle.value_scan.proofs.blocks.is_same.Goals as goal

pub returns-then-four : goal.returns-then-four
returns-then-four c = λ e.
    let same = c.requires in
    let front = same_blocks (to_le_bytes w32) _ _ _ _ c.four.ensures c.four-then-len-lt8.ensures c.if-four.true in
    let last : c.four-then-four.result ≡ c.four-then-four-2.result = search rules in
    let back = same_blocks (to_le_bytes w32) _ _ _ _ c.four-then-four.ensures c.four-then-four-2.ensures last in
    ends_meet 4 c.args.one.now c.args.other.now same (omega arith) (omega arith) front back

pub returns-then-eight : goal.returns-then-eight
returns-then-eight c = λ e.
    let same = c.requires in
    let front = same_blocks (to_le_bytes w64) _ _ _ _ c.eight.ensures c.eight-then-len-le16.ensures c.if-eight.true in
    let last : c.eight-then-eight.result ≡ c.eight-then-eight-2.result = search rules in
    let back = same_blocks (to_le_bytes w64) _ _ _ _ c.eight-then-eight.ensures c.eight-then-eight-2.ensures last in
    ends_meet 8 c.args.one.now c.args.other.now same (omega arith) (omega arith) front back

pub returns-then-is_front_same : goal.returns-then-is_front_same
returns-then-is_front_same c = λ e.
    let last : c.is_front_same-then-is_front_same.result ≡ true = search rules in
    ends_meet 16 c.args.one.now c.args.other.now c.requires (omega arith) (omega arith) (c.is_front_same.ensures c.if-is_front_same.true) (c.is_front_same-then-is_front_same.ensures last)
