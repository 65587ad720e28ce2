use Rattle.std.proofs.Common.{◌≡◌, ◌≤◌, ◌∙◌, ◌+◌, ◌-◌, ◌++◌, List, ℕ, length, take, ap, arith}
use Rattle.std.specs.List.{refill}
use borrow.Rule.Slice.PartMut.{put_mid}
use Rattle.tail_frame.proofs.Blocks.{block_put}
use Rattle.tail_frame.proofs.frame_data.FrameData.put.Goals as goal

pub returns : goal.returns
returns c =
    let a = c.self.inside.size in
    let n = c.args.n in
    let xs = c.self.inside.room.items in
    let written = c.copy_from_slice.new.self in
    let fits : a + (a + 8 - a) ≤ length xs = omega (arith, c.self.invariant) in
    let few : n ≤ a + 8 - a = omega (arith, c.requires.few) in
    let whole : length written ≡ a + 8 - a = omega (arith, c.copy_from_slice.ensures.len) in
    ap (λ (t : List ℕ). take (a + n) (refill (length xs) xs (put_mid a (a + 8 - a) t written))) c.as_mut_slice.ensures.value
    ∙ block_put a (a + 8 - a) n xs written fits few whole
    ∙ ap (λ (t : List ℕ). t ++ take n written) c.self.view_is
    ∙ ap (λ (t : List ℕ). c.args.self.now ++ take n t) c.copy_from_slice.ensures.after
