-- A frame that leaves the list of a bus.
use Rattle.std.specs.Prelude.{◌≡◌, ℕ, List, [], Option, get_or, set}
use Rattle.tx_queue.specs.Waiting.{leaving, staying}
use Rattle.tx_queue.specs.declared.frame.OutFrame.{OutFrame}
use Rattle.node_core.specs.Queues.{Queue}
use Rattle.node_core.specs.Steps.{Kept}

-- the list of a bus
abbrev pub queue_at : List Queue → ℕ → Queue
queue_at qs bus = get_or qs bus (record { mtu = 0; rate = 0; places = 0; waiting = [] })

-- the lists where these wait on a bus
abbrev pub with_waiting : List Queue → ℕ → List OutFrame → List Queue
with_waiting qs bus fs = set qs bus (record (queue_at qs bus) { waiting = fs })

-- the lists once the first of the frames with the least identifier left one
abbrev pub popped : List Queue → ℕ → List Queue
popped qs bus = with_waiting qs bus (staying (queue_at qs bus).waiting)

-- that frame leaves the list of a bus; none where nothing waits there
pub record Pops (bus : ℕ) (old new : Kept) (frame : Option OutFrame) : Type 0 where
  pub leaves : frame ≡ leaving (queue_at old.queues bus).waiting
  pub others : new ≡ record old { queues = popped old.queues bus }
