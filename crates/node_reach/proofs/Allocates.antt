-- One more record for an allocator.
use Rattle.std.proofs.Common.{◌≡◌, ◌∙◌, ℕ, List, ◌∷◌, ◌++◌, Option, Some, None, append-nil, refl, sym, ap, subst}
use Rattle.pnp_alloc.specs.declared.event.AllocEvent.{AllocEvent}
use Rattle.tail_frame.specs.declared.logged.Record.{Record}
use Rattle.node_reach.specs.Allocated.{event_of, events, event_text, step_text, with_event}
use Rattle.node_reach.specs.Allocates.{HasAnswered, Takes, Says}
use Rattle.node_reach.specs.declared.allocating.Allocating.{Allocating}

-- an allocator met the event of a record, if it is one, and this was said
pub record TakesRecord (own : ℕ) (rec : Record) (past : List Record) (old new : Allocating) (before after : List ℕ) : Type 0 where
  pub answered : HasAnswered own new (events own (rec ∷ past))
  pub text : after ≡ before ++ step_text own rec past
  pub records : new.records ≡ old.records

pub takes_none : (own : ℕ) (rec : Record) (past : List Record) (now : Allocating) (text : List ℕ) → None ≡ event_of own rec → HasAnswered own now (events own past) → TakesRecord own rec past now now text text
takes_none own rec past now text is h = record {
  answered = subst (λ (o : Option AllocEvent). HasAnswered own now (with_event o (events own past))) is h;
  text = sym (append-nil text) ∙ ap (λ (o : Option AllocEvent). text ++ event_text own rec.moment o (events own past)) is;
  records = refl;
}

pub takes_event : (own : ℕ) (rec : Record) (past : List Record) (event : AllocEvent) (old new : Allocating) (before after : List ℕ) → Some event ≡ event_of own rec → HasAnswered own old (events own past) → Takes event old new
    → Says rec.moment event old before after → new.records ≡ old.records → TakesRecord own rec past old new before after
takes_event own rec past event old new before after is h takes says same = record {
  answered = subst (λ (o : Option AllocEvent). HasAnswered own new (with_event o (events own past))) is (takes own (events own past) h);
  text = says own (events own past) h ∙ ap (λ (o : Option AllocEvent). before ++ event_text own rec.moment o (events own past)) is;
  records = same;
}
