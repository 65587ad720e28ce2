-- What is kept of heartbeats and of messages of time.
use Rattle.std.specs.Prelude.{◌≡◌, ℕ, List, ◌∷◌, length, Option, option_map}
use Rattle.dsdl_types.specs.Views.{sch}
use Rattle.net_monitor.specs.Beats.{Beat}
use Rattle.net_monitor.specs.Renewals.{renewal_by}
use Rattle.net_monitor.specs.Stands.{Stands}
use Rattle.net_monitor.specs.declared.renewal.Renewal.{Renewal}
use Rattle.wire_values.specs.Payloads.{payload_value}
use Rattle.std_types.specs.Types.{schema_of}
use Rattle.std_types.specs.declared.std_name.StdName.TheVariants.{Heartbeat, Synchronization}
use Rattle.tail_frame.specs.declared.logged.Record.{Record}
use Rattle.time_sync.specs.Pairs.{Message}
use Rattle.time_sync.specs.Stands.{Stands as StandsFor}
use Rattle.node_reach.specs.Ears.{Hears}
use Rattle.node_reach.specs.Monitored.{latest_beat, latest_message, add_message, beat_in, beat_of}
use Rattle.node_reach.specs.Monitored.{with_beat, with_message, last_moment, monitor_ears, beats}
use Rattle.node_reach.specs.Monitored.{beat_at, messages}
use Rattle.node_reach.specs.Transfers.{Transfer, HasBegun, HasBegunBy}
use Rattle.node_reach.specs.declared.monitoring.Monitoring.{Monitoring}
use Rattle.node_reach.specs.declared.network.Network.{Network}

-- these heartbeats and these messages of time are known
pub record Knows (network : Network) (beats : List Beat) (messages : List Message) : Type 0 where
  pub beats_are : Stands beats network.monitor
  pub messages_are : StandsFor messages network.sync
  pub beat_typed : sch network.beat_type.schema ≡ schema_of Heartbeat
  pub message_typed : sch network.message_type.schema ≡ schema_of Synchronization
  pub latest_beat_is : network.latest_beat ≡ latest_beat beats
  pub latest_message_is : network.latest_message ≡ latest_message messages

-- heartbeats with one more, if there is one, and these messages of time are known, and that is what
-- the heartbeat made of its node
abbrev pub Renews : Option Beat → List Beat → List Message → Network → Option Renewal → Type 0
Renews beat beats messages new renewal =
    Knows new (with_beat beat beats) messages × (renewal ≡ option_map (λ e. renewal_by e beats) beat)

-- who takes a transfer that ended at this moment, if one did, knows it too
abbrev pub Learns : ℕ → Option Transfer → Network → Network → Option Renewal → Type 0
Learns moment t old new renewal =
    (beats : List Beat) (messages : List Message) → HasBegunBy moment t → Knows old beats messages
    → Renews (beat_of t beats) beats (with_message t messages) new renewal

-- the same of a payload as a heartbeat, and as a message of time
abbrev pub LearnsBeat : Transfer → Network → Network → Option Renewal → Type 0
LearnsBeat t old new renewal =
    (beats : List Beat) (messages : List Message) → Knows old beats messages
    → Renews (option_map (beat_in t beats) (payload_value (schema_of Heartbeat) t.payload)) beats messages new renewal

abbrev pub LearnsMessage : ℕ → Transfer → Network → Network → Type 0
LearnsMessage moment t old new =
    (beats : List Beat) (messages : List Message) → HasBegun moment t → Knows old beats messages
    → Knows new beats (add_message t messages (payload_value (schema_of Synchronization) t.payload))

-- a monitor with this node-ID heard these records
pub record Monitors (own : ℕ) (now : Monitoring) (past : List Record) : Type 0 where
  pub hears : Hears (monitor_ears own) now.ear past
  pub knows : Knows now.network (beats own past) (messages own past)
  pub latest : now.ear.latest ≡ last_moment past
  pub records : now.records ≡ length past

-- what the heartbeat made of its node that ends at a record, if one does
abbrev pub renewal_at : ℕ → Record → List Record → Option Renewal
renewal_at own rec past = option_map (λ e. renewal_by e (beats own past)) (beat_at own rec past)

-- a monitor that takes a record heard it too, and tells what the heartbeat made of its node
abbrev pub TakesRecord : Record → Monitoring → Monitoring → Option Renewal → Type 0
TakesRecord rec old new renewal =
    (own : ℕ) (past : List Record) → Monitors own old past
    → Monitors own new (rec ∷ past) × (renewal ≡ renewal_at own rec past)
