-- One more record for a client that waits.
use Rattle.std.proofs.Common.{◌≡◌, ◌∙◌, ℕ, List, ◌∷◌, ◌++◌, Option, Some, None, append_assoc, append-nil, sym, ap, subst}
use Rattle.tail_frame.specs.declared.logged.Record.{Record}
use Rattle.file_client.specs.Fetch.{Event}
use Rattle.node_reach.specs.Ears.{Hears}
use Rattle.node_reach.specs.Fetched.{file_ears, reply_at, with_reply, events_before, event_text, ticks_text, reply_text, step_text}
use Rattle.node_reach.specs.Fetches.{HasAsked, HasTicked, Fetches}
use Rattle.node_reach.specs.declared.client.Client.{Client}
use Rattle.node_reach.specs.declared.fetching.Fetching.{Fetching}

-- what was heard of a client's server is what was heard of the server
pub reply_is : (a b : Client) (rec : Record) (past : List Record) (o p : Option Event) → b ≡ a → o ≡ reply_at a.own b.server rec past → o ≡ p → reply_at a.own a.server rec past ≡ p
reply_is a b rec past o p same heard is = ap (λ (x : Client). reply_at a.own x.server rec past) (sym same) ∙ (sym heard ∙ is)

module _ (a : Client) (rec : Record) (past : List Record) (o : Option Event) (is : reply_at a.own a.server rec past ≡ o) where
  pub fetches_next : (new : Fetching) → new.asking.client ≡ a → HasAsked (with_reply o (events_before a rec past)) new.asking → HasTicked new (rec ∷ past)
      → Hears (file_ears a.own) new.responses.ear (rec ∷ past) → Fetches a new (rec ∷ past)
  fetches_next new same asked ticked hears = record {
    same = same;
    asked = subst (λ (p : Option Event). HasAsked (with_reply p (events_before a rec past)) new.asking) (sym is) asked;
    waits = λ _. record {
      ticked = ticked;
      hears = subst (λ (b : Client). Hears (file_ears b.own) new.responses.ear (rec ∷ past)) (sym same) hears;
    };
  }

  pub said_next : (old new : List ℕ) → new ≡ old ++ (ticks_text a rec past ++ reply_text a rec.moment o (events_before a rec past)) → new ≡ old ++ step_text a rec past
  said_next old new said = said ∙ ap (λ (p : Option Event). old ++ (ticks_text a rec past ++ reply_text a rec.moment p (events_before a rec past))) (sym is)

-- no reply adds nothing to what is said
pub said_none : (a : Client) (rec : Record) (past : List Record) (old new : List ℕ) → reply_at a.own a.server rec past ≡ None → new ≡ old ++ ticks_text a rec past → new ≡ old ++ step_text a rec past
said_none a rec past old new is said =
    said_next a rec past None is old new (said ∙ ap (λ (t : List ℕ). old ++ t) (sym (append-nil (ticks_text a rec past))))

-- and a reply what is said on it
pub said_some : (a b : Client) (rec : Record) (past : List Record) (old mid new : List ℕ) (e f : Event) → b ≡ a → f ≡ e → reply_at a.own a.server rec past ≡ Some e
    → mid ≡ old ++ ticks_text a rec past → new ≡ mid ++ event_text b rec.moment f (events_before a rec past) → new ≡ old ++ step_text a rec past
said_some a b rec past old mid new e f same event is ticks said =
    said_next a rec past (Some e) is old new
    (said
    ∙ ((λ i. ticks i ++ event_text (same i) rec.moment (event i) (events_before a rec past))
    ∙ append_assoc old (ticks_text a rec past) (event_text a rec.moment e (events_before a rec past))))
