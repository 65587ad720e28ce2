-- A table of the code as the definitions see it, and what a frame does to it.
use Rattle.std.specs.Prelude.{◌≡◌, ◌≤◌, ◌&&◌, ◌==◌, ℕ, false, List, Option, Some, None, map, Result}
use Rattle.std.specs.Prelude.{IfOk, OnOk, OnErr}
use Rattle.std.specs.List.{position}
use Rattle.can_id.specs.declared.key.Kind.{Kind}
use Rattle.can_id.specs.declared.key.Key.{Key}
use Rattle.dsdl_types.specs.Schemas.{Sch}
use Rattle.tail_frame.specs.Frames.{FrameOf, seen}
use Rattle.tail_frame.specs.declared.frame.Frame.{Frame}
use Rattle.rx_session.specs.Extents.{extent_bytes}
use Rattle.rx_session.specs.Seen.{record_of}
use Rattle.rx_table.specs.Keys.{KeyedFrame, same_kind}
use Rattle.rx_table.specs.Ports.{Port, PortState, Answer, ports_of, is_of_session}
use Rattle.rx_table.specs.Places.{table_answer, feed_nth, answer_nth, AddsNth, source_at}
use Rattle.rx_table.specs.Places.{NamesSession}
use Rattle.rx_table.specs.Table.{states, StandsFor, HeardBy, logged, fed_answer, Told, Opens}
use Rattle.rx_table.specs.declared.table.Table.{Table}
use Rattle.rx_table.specs.declared.fed.Fed as code_fed
use Rattle.rx_table.specs.declared.fed.Met as code_met

-- the place of a subscription
abbrev pub place_in : {S : Type 0} → Kind → ℕ → Table S → Option ℕ
place_in kind port t = position (λ p. same_kind kind p.kind && (port == p.port)) t.ports.items

module _ {S : Type 0} (shape : S → Sch) where
  -- its subscriptions with their sources
  abbrev pub states_of : Table S → List PortState
  states_of t = states (extent_bytes shape) t.ports.items

  -- its subscriptions
  abbrev pub subscriptions : Table S → List Port
  subscriptions t = ports_of (states_of t)

  -- it stands for a log, the newest frame first
  abbrev pub IsOfLog : Table S → List KeyedFrame → Type 0
  IsOfLog t log = StandsFor t.timeout log (states_of t)

  -- none of its sessions heard a frame after this moment
  abbrev pub HasHeardBy : ℕ → Table S → Type 0
  HasHeardBy now t = HeardBy now (states_of t)

  -- what a frame met, told with the payload lent from the frame or from a session
  abbrev pub told_by : Table S → Frame → code_met.Met → Answer
  told_by t frame met = table_answer (states_of t) (record_of frame) met

  -- its subscriptions after a frame of a source on the one at a place, what is answered, and
  -- whether that opens a session
  abbrev pub states_after : Table S → ℕ → ℕ → Frame → List PortState
  states_after t place source frame = feed_nth t.timeout (states_of t) place source (record_of frame)

  abbrev pub answer_after : Table S → ℕ → ℕ → Frame → Answer
  answer_after t place source frame = answer_nth t.timeout (states_of t) place source (record_of frame)

  abbrev pub OpensAtPlace : Table S → ℕ → ℕ → Frame → Type 0
  OpensAtPlace t place source frame = AddsNth (states_of t) place source (record_of frame)

  -- what a frame with this key met names the place of its port, and there that of its source's
  -- session
  abbrev pub IsMetAt : Table S → Table S → Key → code_met.Met → Type 0
  IsMetAt old new key code_met.TheVariants.NoPort = place_in key.kind key.port new ≡ None
  IsMetAt old new key (code_met.TheVariants.Anonymous front) = key.source ≡ None
  IsMetAt old new key (code_met.TheVariants.Port place met) =
      (place_in key.kind key.port new ≡ Some place)
      × NamesSession key.source (source_at (states_of old) place) (source_at (states_of new) place)
      met

  -- the timeout, the subscriptions and their shapes stay
  pub record Keeps (old new : Table S) : Type 0 where
    pub timeout : new.timeout ≡ old.timeout
    pub ports : subscriptions new ≡ subscriptions old
    pub shapes : map (λ p. p.shape) new.ports.items ≡ map (λ p. p.shape) old.ports.items

  -- the sessions stay
  abbrev pub KeepsSessions : Table S → Table S → Type 0
  KeepsSessions old new = states_of new ≡ states_of old

  -- after a frame a table stands for the log with that frame
  abbrev pub TakesIn : FrameOf → Table S → Table S → Type 0
  TakesIn f old new =
      (log : List KeyedFrame) → IsOfLog old log → StandsFor old.timeout (logged f log) (states_of new)

  -- an answer is what the log says that a table stands for
  abbrev pub Answers : Table S → FrameOf → Answer → Type 0
  Answers t f answer =
      (log : List KeyedFrame) → IsOfLog t log → Told t.timeout (subscriptions t) f log answer

  -- a frame opens a session
  abbrev pub OpensOne : Table S → FrameOf → Type 0
  OpensOne t f = (log : List KeyedFrame) → IsOfLog t log → Opens (subscriptions t) f log

  -- what no session answers leaves the sessions as they were
  abbrev pub IsIdleAt : Answer → Table S → Table S → Type 0
  IsIdleAt answer old new = is_of_session answer ≡ false → KeepsSessions old new

  -- what is fed to a table: it keeps its subscriptions, has heard the frame, and stands for the log
  -- with it; at want of memory the sessions stay
  abbrev pub IsFed : {E : Type 0} → Frame → Table S → Result code_fed.Fed E → Table S → Type 0
  IsFed frame old result new =
      Keeps old new
      × ((now : ℕ) → frame.moment ≤ now → HasHeardBy now new)
      × OnOk result (TakesIn (seen frame) old new)
      × IfOk result (λ fed. IsIdleAt (fed_answer fed) old new)
      × OnErr result (KeepsSessions old new)
