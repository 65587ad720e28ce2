use Rattle.std.proofs.Common.{◌∙◌, ◌++◌, ℕ, List, ap, arith}
use Rattle.line_text.specs.Buffer.{text_of}
use Rattle.line_order.specs.declared.queued.Queued.{Queued}
use Rattle.line_order.proofs.Rows.{added}
use Rattle.line_order.proofs.line_queue.LineQueue.add.Goals as goal

pub invariant_of-self-2 : goal.invariant_of-self-2
invariant_of-self-2 c =
    let old = c.args.self.now in
    let line = c.args.line.now in
    let q : Queued = record { place = c.args.place; len = c.in-Some.len } in
    let a = added old.lines.items c.push.new.self.items q old.first old.start (text_of old.text) (text_of c.put_slice.new.self) (text_of c.put_slice-2.new.self) line old.within old.bytes c.in-Ok.ensures.items
    (c.put_slice.ensures.text ∙ ap (λ (t : List ℕ). t ++ line) c.reserve.ensures.text) c.put_slice-2.ensures.text (omega (arith, c.in-Some.ensures)) in record {
      within = a.within;
      bytes = a.bytes;
    }

pub returns-clause-held : goal.returns-clause-held
returns-clause-held c =
    let old = c.args.self.now in
    let line = c.args.line.now in
    let q : Queued = record { place = c.args.place; len = c.in-Some.len } in
    (added old.lines.items c.push.new.self.items q old.first old.start (text_of old.text) (text_of c.put_slice.new.self) (text_of c.put_slice-2.new.self) line old.within old.bytes c.in-Ok.ensures.items
    (c.put_slice.ensures.text ∙ ap (λ (t : List ℕ). t ++ line) c.reserve.ensures.text) c.put_slice-2.ensures.text (omega (arith, c.in-Some.ensures))).row

pub returns-clause-more : goal.returns-clause-more
returns-clause-more c =
    let old = c.args.self.now in
    let line = c.args.line.now in
    let q : Queued = record { place = c.args.place; len = c.in-Some.len } in
    (added old.lines.items c.push.new.self.items q old.first old.start (text_of old.text) (text_of c.put_slice.new.self) (text_of c.put_slice-2.new.self) line old.within old.bytes c.in-Ok.ensures.items
    (c.put_slice.ensures.text ∙ ap (λ (t : List ℕ). t ++ line) c.reserve.ensures.text) c.put_slice-2.ensures.text (omega (arith, c.in-Some.ensures))).more
