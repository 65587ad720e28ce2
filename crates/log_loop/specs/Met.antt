-- What comes of a record at a listener.
use Rattle.std.specs.Prelude.{◌≡◌, ◌++◌, ◌∷◌, ℕ, List}
use Rattle.tail_frame.specs.declared.logged.Record.{Record}
use Rattle.log_loop.specs.Voice.{Voice}

-- what a listener was at first, what it is, and the events that it met in between, so far
abbrev pub Met : (S E : Type 0) → Type 1
Met S E = S → S → List E → Type 0

-- a listener that met some events heard one more: it may come behind them, and this is said on it
pub record Hears {S E : Type 0} (voice : S → Voice E) (heard : Met S E) (old new : S) (event : E)
    (first : S) (past : List E) (before after : List ℕ) : Type 0 where
  pub may : (voice first).may_come event past
  pub hears : heard first new (event ∷ past)
  pub text : after ≡ before ++ (voice first).step event past

-- there is an event of a record that a listener heard, whatever it met before
pub record HasHeard {S E : Type 0} (voice : S → Voice E) (heard : Met S E) (old new : S) (rec : Record)
    (before after : List ℕ) : Type 0 where
  pub event : E
  pub of : (first : S) → (voice first).record_of event ≡ rec
  pub goes : (first : S) (past : List E) → heard first old past
      → Hears voice heard old new event first past before after

-- a listener that met some events broke off on one more, of a record, which may come behind them
pub record Breaks {S E : Type 0} (voice : S → Voice E) (broke : Met S E) (new : S) (rec : Record)
    (first : S) (past : List E) : Type 0 where
  pub event : E
  pub of : (voice first).record_of event ≡ rec
  pub may : (voice first).may_come event past
  pub breaks : broke first new (event ∷ past)

-- a listener broke off on a record, whatever it met before
abbrev pub HasBroken : {S E : Type 0} → (S → Voice E) → Met S E → Met S E → S → S → Record → Type 0
HasBroken {S} {E} voice heard broke old new rec =
    (first : S) (past : List E) → heard first old past → Breaks voice broke new rec first past

-- each record may come behind some events, as one of these at least
pub record Comes {E : Type 0} (v : Voice E) (rec : Record) (past : List E) : Type 0 where
  pub event : E
  pub of : v.record_of event ≡ rec
  pub may : v.may_come event past
