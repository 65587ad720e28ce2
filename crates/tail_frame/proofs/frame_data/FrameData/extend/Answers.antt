use Rattle.std.proofs.Common.{◌≡◌, ◌≤◌, ◌∙◌, ◌+◌, ◌-◌, ◌++◌, List, ℕ, length, take, ap, sym, arith}
use Rattle.std.specs.List.{refill}
use Rattle.std.proofs.lemmas.List.{length-take-le}
use borrow.Rule.Slice.PartMut.{put_mid}
use Rattle.tail_frame.proofs.Blocks.{all_put}
use Rattle.tail_frame.proofs.frame_data.FrameData.extend.Goals as goal

pub returns : goal.returns
returns c =
    let a = c.self.inside.size in
    let xs = c.self.inside.room.items in
    let bytes = c.args.bytes.now in
    let end = a + length bytes in
    let written = c.copy_from_slice.new.self in
    let within : a ≤ length xs = omega (arith, c.self.invariant) in
    let before : length c.args.self.now ≡ a = ap length (sym c.self.view_is) ∙ length-take-le a xs within in
    let fits : a + (end - a) ≤ length xs = omega (arith, c.self.invariant, c.requires, before) in
    let whole : length written ≡ end - a = omega (arith, c.copy_from_slice.ensures.len) in
    ap (λ (t : List ℕ). take end (refill (length xs) xs (put_mid a (end - a) t written))) c.as_mut_slice.ensures.value
    ∙ all_put a (end - a) end xs written fits (omega arith) whole
    ∙ ap (λ (t : List ℕ). t ++ written) c.self.view_is
    ∙ ap (λ (t : List ℕ). c.args.self.now ++ t) c.copy_from_slice.ensures.after
