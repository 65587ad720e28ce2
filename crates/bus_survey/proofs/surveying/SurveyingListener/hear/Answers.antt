use Rattle.std.proofs.Common.{◌≡◌, ◌∙◌, ◌<◌, ◌^◌, List, ◌∷◌, length, Some, None, option_map, append-nil, sym, ap, subst, arith}
use Rattle.log_loop.proofs.Plain.{plain_heard}
use Rattle.tail_frame.specs.Frames.{FrameOf, frame_of, seen}
use Rattle.bus_survey.specs.Counts.{AreShort}
use Rattle.bus_survey.specs.Flows.{frames}
use Rattle.bus_survey.specs.Ranks.{IsTableOf}
use Rattle.bus_survey.specs.Sources.{AreSources}
use Rattle.bus_survey.specs.Surveyed.{step_text, last_text}
use Rattle.bus_survey.proofs.SurveyLemmas.{frames_few, frames_none, frames_some, discarded_none, discarded_some}
use Rattle.bus_survey.proofs.surveying.SurveyingListener.hear.Goals as goal

pub returns-in_default-clause-heard : goal.returns-in_default-clause-heard
returns-in_default-clause-heard c = plain_heard (λ first. step_text) (λ first. last_text first.names) _ _ _ _ _ _ (λ first past h.
    let rec = c.args.rec.now in
    let count : c.args.self.now.records < 2 ^ 28 = c.requires.count in
    let few : length past < 2 ^ 28 = omega (arith, count, h.records_are) in
    let none : frame_of rec ≡ None = sym c.frame_of-frame.ensures.value ∙ ap (option_map seen) c.in_default.is in
    let same : frames past ≡ frames (rec ∷ past) = sym (frames_none rec past none) in (
      record {
        names_are = h.names_are;
        buses_are = c.add.ensures past few h.buses_are;
        flows_are = subst (λ (fs : List FrameOf). IsTableOf fs c.args.self.now.flows.counts.entries) same h.flows_are;
        sources_are = subst (λ (fs : List FrameOf). AreSources fs c.args.self.now.sources.heard) same h.sources_are;
        records_are = omega (arith, h.records_are);
        discarded_are = discarded_none rec past c.args.self.now.discarded _ few none h.discarded_are c.saturating_add-self.ensures;
        short = subst AreShort same h.short;
      },
      sym (append-nil _),
    ))

pub returns-clause-heard : goal.returns-clause-heard
returns-clause-heard c = plain_heard (λ first. step_text) (λ first. last_text first.names) _ _ _ _ _ _ (λ first past h.
    let rec = c.args.rec.now in
    let f = seen c.in-Some.frame in
    let count : c.args.self.now.records < 2 ^ 28 = c.requires.count in
    let few : length past < 2 ^ 28 = omega (arith, count, h.records_are) in
    let some : frame_of rec ≡ Some f = sym c.frame_of-frame.ensures.value ∙ ap (option_map seen) c.in-Some.is in
    let more : f ∷ frames past ≡ frames (rec ∷ past) = sym (frames_some rec past f some) in
    let ranges = rw c.in-Some.is at c.frame_of-frame.ensures.ranges in
    let short : AreShort (f ∷ frames past) = (ranges.1, h.short) in (
      record {
        names_are = h.names_are;
        buses_are = c.add.ensures past few h.buses_are;
        flows_are =
            subst (λ (fs : List FrameOf). IsTableOf fs c.hear.new.self.counts.entries) more
            ((c.in_ok-hear.ensures {u = tt}).heard (frames past) (omega (arith, few, frames_few past)) h.short h.flows_are);
        sources_are = subst (λ (fs : List FrameOf). AreSources fs c.add-2.new.self.heard) more (c.add-2.ensures (frames past) h.sources_are);
        records_are = omega (arith, h.records_are);
        discarded_are = h.discarded_are ∙ discarded_some rec past f some;
        short = subst AreShort more short;
      },
      sym (append-nil _),
    ))
