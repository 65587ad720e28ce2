-- An allocator that hears a log.
use Rattle.std.specs.Prelude.{◌≡◌, ◌%◌, ◌++◌, ℕ, List, ◌∷◌, length, Some}
use Rattle.pnp_alloc.specs.Stands.{Stands}
use Rattle.pnp_alloc.specs.declared.event.AllocEvent.{AllocEvent}
use Rattle.tail_frame.specs.declared.logged.Record.{Record}
use Rattle.node_reach.specs.Allocated.{events, answers, event_text}
use Rattle.node_reach.specs.declared.allocating.Allocating.{Allocating}

-- it heard these events, and has the transfer-ID of its next answer
pub record HasAnswered (own : ℕ) (now : Allocating) (past : List AllocEvent) : Type 0 where
  pub same : now.own ≡ own
  pub stands : Stands own past now.allocator
  pub tid : now.tid ≡ answers own past % 32

-- after an event it heard that too
abbrev pub Takes : AllocEvent → Allocating → Allocating → Type 0
Takes event old new = (own : ℕ) (past : List AllocEvent) → HasAnswered own old past → HasAnswered own new (event ∷ past)

-- what it says on the event at this moment stands behind a text
abbrev pub Says : ℕ → AllocEvent → Allocating → List ℕ → List ℕ → Type 0
Says moment event now before after =
    (own : ℕ) (past : List AllocEvent) → HasAnswered own now past → after ≡ before ++ event_text own moment (Some event) past

-- it heard these records
pub record Allocates (own : ℕ) (now : Allocating) (past : List Record) : Type 0 where
  pub answered : HasAnswered own now (events own past)
  pub records : now.records ≡ length past
