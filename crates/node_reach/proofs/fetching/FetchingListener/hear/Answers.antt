use Rattle.std.proofs.Common.{◌≡◌, ◌∙◌, ℕ, List, ◌∷◌, ◌++◌, Some, None, option_map, append-nil, sym, ap, subst}
use Rattle.line_text.specs.Buffer.{text_of}
use Rattle.file_client.specs.Fetch.{Event, State}
use Rattle.file_client.specs.Laws.{end_after}
use Rattle.file_client.specs.Stands.{Keeps, event_of}
use Rattle.log_loop.proofs.Plain.{plain_heard}
use Rattle.node_reach.specs.Ears.{Hears}
use Rattle.node_reach.specs.Fetched.{file_limit, file_ears, events, events_before, step_text, last_text}
use Rattle.node_reach.specs.Fetches.{event_in, HasAsked, Fetches}
use Rattle.node_reach.specs.declared.client.Client.{Client}
use Rattle.node_reach.specs.declared.fetching.Fetching.{Fetching}
use Rattle.node_reach.specs.declared.responses.Responses.{Responses}
use Rattle.node_reach.proofs.Heard.{reply_is, fetches_next, said_none, said_some}
use Rattle.node_reach.proofs.Lates.{ended_with, not_ended, record_stays, record_quiet}
use Rattle.node_reach.proofs.Results.{on_both}
use Rattle.node_reach.proofs.fetching.FetchingListener.hear.Goals as goal

pub returns-then-has_ended-clause-heard : goal.returns-then-has_ended-clause-heard
returns-then-has_ended-clause-heard c = plain_heard (λ first. step_text first.asking.client) (λ first. last_text first.asking.client) _ _ _ _ _ _ (λ first past h.
    let client = first.asking.client in
    let old = text_of c.args.gathered.now in
    let end = ended_with (end_after file_limit (events client past)) (c.if-has_ended.ensures.ended (events client past) h.asked) in
    let stays = record_stays client c.args.rec.now past end.0 end.1 in (
      record {
        same = h.same;
        asked = subst (λ (s : State). Keeps file_limit s c.args.self.now.asking.fetch) (sym stays) h.asked;
        waits = λ none. let both : None ≡ Some end.0 = sym none ∙ (ap (λ (s : State). s.end) stays ∙ end.1) in absurd cc;
      },
      sym (append-nil old) ∙ ap (λ (t : List ℕ). old ++ t) (sym (record_quiet c.fetch_laws.ensures client c.args.rec.now past end.0 end.1)),
    ))

pub returns-in-None-clause-heard : goal.returns-in-None-clause-heard
returns-in-None-clause-heard c = plain_heard (λ first. step_text first.asking.client) (λ first. last_text first.asking.client) _ _ _ _ _ _ (λ first past h.
    let now = c.args.self.now in
    let a = now.asking.client in
    let rec = c.args.rec.now in
    let old = text_of c.args.gathered.now in
    let said = text_of c.wait.new.gathered in
    let new : Fetching = record {
      asking = c.wait.new.self.asking;
      responses = c.hear.new.self;
      first = c.wait.new.self.first;
      tick = c.wait.new.self.tick;
    } in
    let next : Fetches a now past → Fetches a new (rec ∷ past) × (said ≡ old ++ step_text a rec past) = λ k.
    let waits = k.waits (not_ended (end_after file_limit (events a past)) (c.if-has_ended.ensures.ended (events a past) k.asked)) in
    let ear = subst (λ (r : Responses). Hears (file_ears a.own) r.ear past) (sym c.wait.ensures.responses) waits.hears in
    let ticked = (c.in_ok-wait.ensures {u = tt}).ticks past waits.ticked in
    let is = reply_is a c.wait.new.self.asking.client rec past _ None c.wait.ensures.client ((c.in_ok-response.ensures {u = tt}).reply a.own past ear) (ap (option_map event_in) c.in-None.is) in (
      fetches_next a rec past None is new c.wait.ensures.client ((c.in_ok-wait.ensures {u = tt}).asked past waits.ticked k.asked) (record { first = ticked.first; tick = ticked.tick }) ((c.in_ok-response.ensures {u = tt}).hears (file_ears a.own) past ear),
      said_none a rec past old said is ((c.in_ok-wait.ensures {u = tt}).text past waits.ticked k.asked),
    ) in
    subst (λ (b : Client). Fetches b now past → Fetches b new (rec ∷ past) × (said ≡ old ++ step_text b rec past)) h.same next h)

pub returns-in-Some-clause-heard : goal.returns-in-Some-clause-heard
returns-in-Some-clause-heard c = on_both _ _ _ c.take.result (λ taken told. plain_heard (λ first. step_text first.asking.client) (λ first. last_text first.asking.client) _ _ _ _ _ _ (λ first past h.
    let now = c.args.self.now in
    let a = now.asking.client in
    let rec = c.args.rec.now in
    let old = text_of c.args.gathered.now in
    let said = text_of c.take.new.gathered in
    let new : Fetching = record {
      asking = c.take.new.self;
      responses = c.hear.new.self;
      first = c.wait.new.self.first;
      tick = c.wait.new.self.tick;
    } in
    let next : Fetches a now past → Fetches a new (rec ∷ past) × (said ≡ old ++ step_text a rec past) = λ k.
    let before = events_before a rec past in
    let waits = k.waits (not_ended (end_after file_limit (events a past)) (c.if-has_ended.ensures.ended (events a past) k.asked)) in
    let ear = subst (λ (r : Responses). Hears (file_ears a.own) r.ear past) (sym c.wait.ensures.responses) waits.hears in
    let ticked = (c.in_ok-wait.ensures {u = tt}).ticks past waits.ticked in
    let e = event_in c.in-Some.response in
    let is = reply_is a c.wait.new.self.asking.client rec past _ (Some e) c.wait.ensures.client ((c.in_ok-response.ensures {u = tt}).reply a.own past ear) (ap (option_map event_in) c.in-Some.is) in
    let asked = (c.in_ok-wait.ensures {u = tt}).asked past waits.ticked k.asked in (
      fetches_next a rec past (Some e) is new (c.take.ensures.client ∙ c.wait.ensures.client)
          (subst (λ (f : Event). HasAsked (f ∷ before) c.take.new.self) c.event.ensures.event (taken before asked))
          (record { first = ticked.first; tick = ticked.tick })
          ((c.in_ok-response.ensures {u = tt}).hears (file_ears a.own) past ear),
      said_some a c.wait.new.self.asking.client rec past old (text_of c.wait.new.gathered) said e (event_of c.event.result) c.wait.ensures.client c.event.ensures.event is
          ((c.in_ok-wait.ensures {u = tt}).text past waits.ticked k.asked)
          (told before asked),
    ) in
    subst (λ (b : Client). Fetches b now past → Fetches b new (rec ∷ past) × (said ≡ old ++ step_text b rec past)) h.same next h)) c.take.ensures.asked c.take.ensures.text
