-- One who hears the records alone.
use Rattle.std.proofs.Common.{◌≡◌, ◌∙◌, ℕ, List, ◌∷◌, ◌++◌, map-id, refl, sym}
use Rattle.tail_frame.specs.declared.logged.Record.{Record}
use Rattle.log_loop.specs.Met.{Met, HasHeard, Comes}
use Rattle.log_loop.specs.Voice.{AreEventsOf, plain_voice}

-- each record may come
pub plain_comes : (step : Record → List Record → List ℕ) (last : List Record → List ℕ) (rec : Record) (past : List Record) → Comes (plain_voice step last) rec past
plain_comes step last rec past = record { event = rec; of = refl; may = tt }

-- what was heard of a record
pub plain_heard : {S : Type 0} (step : S → Record → List Record → List ℕ) (last : S → List Record → List ℕ) (heard : Met S Record) (old new : S) (rec : Record) (before after : List ℕ)
    → ((first : S) (past : List Record) → heard first old past → heard first new (rec ∷ past) × (after ≡ before ++ step first rec past))
    → HasHeard (λ first. plain_voice (step first) (last first)) heard old new rec before after
plain_heard step last heard old new rec before after h = record {
  event = rec;
  of = λ first. refl;
  goes = λ first past k. let both = h first past k in record { may = tt; hears = both.0; text = both.1 };
}

-- the events are the records
pub plain_events : (step : Record → List Record → List ℕ) (last : List Record → List ℕ) (records events : List Record) → AreEventsOf (plain_voice step last) records events → events ≡ records
plain_events step last records events e = sym (map-id events) ∙ e.records_are
