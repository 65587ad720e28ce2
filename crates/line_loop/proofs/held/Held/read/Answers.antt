use Rattle.std.proofs.Common.{◌≡◌, ◌∙◌, ◌≤◌, ◌+◌, ◌-◌, ◌++◌, ℕ, List, length, take, drop, arith, sym, ap}
use Rattle.std.proofs.lemmas.Grind.{common_steps}
use borrow.Rule.Slice.PartMut.{put_mid}
use Rattle.line_loop.specs.Held.{bytes_of, room_of}
use Rattle.line_loop.proofs.Buffers.{read_part, kept_part, whole_part, length_part}
use Rattle.line_loop.proofs.held.Held.read.Goals as goal

pub returns-in_default-clause-err : goal.returns-in_default-clause-err
unfolding bytes_of room_of
returns-in_default-clause-err g c =
    let h = c.args.self.now in
    let xs = c.deref_mut.result.now in
    let ys = c.read_some.new.piece in
    let k = (h.end + c.min-room.result) - h.end in
    let z = put_mid h.end k xs ys in
    let inside : h.end ≤ length xs = grind (arith, common_steps) in
    let count : length ys ≡ k = grind (arith, common_steps) in
    let fits : h.end + k ≤ length xs = grind (arith, common_steps) in
    let len : h.buffer.len ≡ length xs = grind (arith, common_steps) in
    let same : xs ≡ h.buffer.items = grind (arith, common_steps) in
    let size : h.buffer.len ≡ length z = len ∙ sym (length_part xs ys h.end k fits count) in (
      ap (λ (t : List ℕ). take (h.end - h.start) (drop h.start t)) (sym (whole_part z (drop (length z) h.buffer.items) h.buffer.len size))
          ∙ (kept_part xs ys h.start h.end k h.order inside ∙ ap (λ (t : List ℕ). take (h.end - h.start) (drop h.start t)) same),
      c.in_default.ensures.err,
    )

pub returns-clause-fills : goal.returns-clause-fills
unfolding bytes_of room_of
returns-clause-fills g c =
    let h = c.args.self.now in
    let xs = c.deref_mut.result.now in
    let ys = c.read_some.new.piece in
    let k = (h.end + c.min-room.result) - h.end in
    let z = put_mid h.end k xs ys in
    let inside : h.end ≤ length xs = grind (arith, common_steps) in
    let few : c.in-Ok.n ≤ length ys = grind (arith, common_steps) in
    let count : length ys ≡ k = grind (arith, common_steps) in
    let fits : h.end + k ≤ length xs = grind (arith, common_steps) in
    let len : h.buffer.len ≡ length xs = grind (arith, common_steps) in
    let same : xs ≡ h.buffer.items = grind (arith, common_steps) in
    let size : h.buffer.len ≡ length z = len ∙ sym (length_part xs ys h.end k fits count) in record {
      came = take c.in-Ok.n ys;
      took = c.in-Ok.ensures.took;
      bytes = ap (λ (t : List ℕ). take ((h.end + c.in-Ok.n) - h.start) (drop h.start t)) (sym (whole_part z (drop (length z) h.buffer.items) h.buffer.len size))
          ∙ (read_part xs ys h.start h.end k c.in-Ok.n h.order inside few ∙ ap (λ (t : List ℕ). take (h.end - h.start) (drop h.start t) ++ take c.in-Ok.n ys) same);
      count = grind (arith, common_steps);
      within = grind (arith, common_steps);
      few = grind (arith, common_steps);
      end = λ e some. c.in-Ok.ensures.end e (grind (arith, common_steps));
    }
