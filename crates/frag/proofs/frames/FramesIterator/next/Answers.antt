use Rattle.std.proofs.Common.{arith, ◌≡◌, ◌++◌, ◌∷◌, ◌-◌, drop, length, not, false, ap, sym, ◌∙◌}
use Rattle.frag.specs.Cut.{cut}
use Rattle.frag.proofs.Cuts.{fewer, both_parts, rest_part, next_frame}
use Rattle.frag.proofs.frames.FramesIterator.next.Goals as goal

pub returns-clause-steps : goal.returns-clause-steps
returns-clause-steps c =
    let f = c.self.inside in
    let more = c.saturating_sub-more.result in
    let row = c.behind-trailer.result.now in
    let row_is : row ≡ drop f.place f.trailer = c.behind-trailer.ensures ∙ ap (drop f.place) c.as_slice.ensures.value in
    let bytes = both_parts f.room more f.place f.payload.now f.trailer row c.new-bytes.result c.take_from-self-inside.new.list c.take_from-rest.new.list c.new-bytes.ensures c.take_from-self-inside.ensures.taken c.take_from-rest.ensures.taken c.saturating_sub-more.ensures row_is in
    let rest = rest_part f.room more f.place f.payload.now f.trailer row c.take_from-rest.result.now c.take_from-rest.ensures.left c.saturating_sub-more.ensures row_is in
    sym c.self.view_is
    ∙ (next_frame f.room f.tid f.place f.left f.payload.now f.trailer f.start f.toggle c.take_from-rest.new.list c.take_from-rest.result.now c.to_byte.result (omega arith) bytes rest c.to_byte.ensures.value
    ∙ (ap (λ x. x ∷ cut f.room f.tid (drop f.room f.payload.now ++ drop (length f.trailer - length c.take_from-rest.result.now) f.trailer) false (not f.toggle) (f.left - 1)) (sym c.push.ensures)
    ∙ (ap (λ xs. c.push.new.self ∷ cut f.room f.tid (xs ++ drop (length f.trailer - length c.take_from-rest.result.now) f.trailer) false (not f.toggle) (f.left - 1)) (sym c.take_from-self-inside.ensures.left)
    ∙ ap (λ n. c.push.new.self ∷ cut f.room f.tid (c.take_from-self-inside.result.now ++ drop (n - length c.take_from-rest.result.now) f.trailer) false (not f.toggle) (f.left - 1)) (sym c.len.ensures.value))))

-- there is one frame fewer
pub returns-clause-goes : goal.returns-clause-goes
returns-clause-goes c = record { on = λ _. (tt, tt, fewer _ _ _ (returns-clause-steps c)); keeps = tt; rests = λ _. tt }
