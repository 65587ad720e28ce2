use Rattle.std.proofs.Common.{◌≡◌, ◌+◌, ◌*◌, arith, subst}
use Rattle.line_loop.proofs.Newlines.{block_at, clear_block, found_in_block}
use Rattle.line_loop.proofs.Splits.{IsClearTo}
use Rattle.line_loop.proofs.newline.near_newline.Goals as goal

pub loop-block-preserved : goal.loop-block-preserved
loop-block-preserved c =
    let s = c.args.bytes.now in
    let i = 16 * c.loop-block.block in
    let on : i + 16 ≡ 16 * (c.loop-block.block + 1) = omega arith in
    subst (λ n. IsClearTo s n) on (clear_block s _ i (block_at s i (omega arith)) c.loop-block.invariant c.in_default.ensures)

pub returns-in-Some : goal.returns-in-Some
returns-in-Some c =
    let s = c.args.bytes.now in
    let i = 16 * c.loop-block.block in
    found_in_block s _ i c.in-Some.n (block_at s i (omega arith)) c.loop-block.invariant (omega arith) c.in-Some.ensures
