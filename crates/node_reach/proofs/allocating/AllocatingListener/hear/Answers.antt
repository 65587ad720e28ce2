use Rattle.std.proofs.Common.{◌≡◌, ◌∙◌, sym, ap, subst₂, arith}
use Rattle.line_text.specs.Buffer.{text_of}
use Rattle.line_text.specs.declared.text_buffer.TextBuffer.{TextBuffer}
use Rattle.log_loop.proofs.Plain.{plain_heard}
use Rattle.node_reach.specs.Allocated.{event_of, step_text, last_text}
use Rattle.node_reach.specs.declared.allocating.Allocating.{Allocating}
use Rattle.node_reach.proofs.Allocates.{TakesRecord, takes_none, takes_event}
use Rattle.node_reach.proofs.allocating.AllocatingListener.hear.Goals as goal
use Rattle.node_reach.proofs.allocating.AllocatingListener.hear.Goals.{in-Some+in_ok-take, in_default}

pub returns-clause-heard : goal.returns-clause-heard
returns-clause-heard c = plain_heard (λ first. step_text first.own) (λ first. last_text first.own) _ _ _ _ _ _ (λ first past h.
    let own = first.own in
    let rec = c.args.rec.now in
    let now = c.args.self.now in
    let before = text_of c.args.gathered.now in
    let is : c.in_ok-event.event ≡ event_of own rec = (c.in_ok-event.ensures {u = tt}).event ∙ ap (λ o. event_of o rec) h.answered.same in
    let taken : TakesRecord own rec past now c.match-event.self before (text_of c.match-event.gathered) =
    elim c.match-event.branch [
      | in-Some+in_ok-take w ↦
          let took = w.in_ok-take.ensures {u = tt} in
          subst₂ (λ (it : Allocating) (text : TextBuffer). TakesRecord own rec past now it before (text_of text)) (sym w.self-is) (sym w.gathered-is)
          (takes_event own rec past w.in-Some.event now w.take.new.self before (text_of w.take.new.gathered) (sym w.in-Some.is ∙ is) h.answered took.answered took.text took.records)
      | in_default w ↦
          subst₂ (λ (it : Allocating) (text : TextBuffer). TakesRecord own rec past now it before (text_of text)) (sym w.self-is) (sym w.gathered-is) (takes_none own rec past now before (sym w.in_default.is ∙ is) h.answered)
    ] in (
      record {
        answered = record { same = taken.answered.same; stands = taken.answered.stands; tid = taken.answered.tid };
        records = omega (arith, taken.records, h.records);
      },
      taken.text,
    ))
