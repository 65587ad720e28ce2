-- What `monitor` says of a log: who is online, and the network's time. Heartbeats, messages of time
-- and records are lists with the newest first; `past` is what came before.
use Rattle.std.specs.Prelude.{ℕ, max, ◌==◌, if◌then◌else◌, List, [], ◌∷◌, ◌++◌, length, codes}
use Rattle.std.specs.Prelude.{Option, Some, None, option_map}
use Rattle.dsdl_types.specs.Values.{Val}
use Rattle.log_loop.specs.Voice.{Voice, plain_voice}
use Rattle.net_monitor.specs.Beats.{Beat}
use Rattle.net_monitor.specs.Online.{heard, online}
use Rattle.net_monitor.specs.declared.node_state.NodeState.{NodeState}
use Rattle.wire_values.specs.Payloads.{payload_value}
use Rattle.std_types.specs.Node.{heartbeat_of}
use Rattle.std_types.specs.Ports.{heartbeat_subject, synchronization_subject}
use Rattle.std_types.specs.Times.{synchronization_of}
use Rattle.std_types.specs.Types.{schema_of}
use Rattle.std_types.specs.declared.std_name.StdName.TheVariants.{Heartbeat, Synchronization}
use Rattle.tail_frame.specs.declared.logged.Record.{Record}
use Rattle.time_sync.specs.Pairs.{Message}
use Rattle.time_sync.specs.Times.{estimate}
use Rattle.time_sync.specs.declared.sync.Estimate.{Estimate}
use Rattle.node_reach.specs.Lines.{node_line, offline_line, time_line, no_time_line, end_line}
use Rattle.node_reach.specs.Transfers.{Transfer, Ears, subject, transfer_at}

-- it listens to heartbeats and to the network's time
abbrev pub monitor_ears : ℕ → Ears
monitor_ears own = record {
  own = own;
  timeout = 2000000;
  ports = subject heartbeat_subject (schema_of Heartbeat)
      ∷ subject synchronization_subject (schema_of Synchronization) ∷ [];
}

-- the greatest moment of these
abbrev pub latest_beat : List Beat → ℕ
latest_beat [] = 0
latest_beat (beat ∷ past) = max beat.moment (latest_beat past)

abbrev pub latest_message : List Message → ℕ
latest_message [] = 0
latest_message (message ∷ past) = max message.moment (latest_message past)

-- a heartbeat is heard at its own moment, but not before an earlier one
abbrev pub beat_in : Transfer → List Beat → Val → Beat
beat_in t past v = record { moment = max (latest_beat past) t.moment; node = t.key.source; beat = heartbeat_of v }

-- the heartbeat that a transfer is, behind earlier ones: where its payload reads as one
abbrev pub beat_of : Option Transfer → List Beat → Option Beat
beat_of None past = None
beat_of (Some t) past = if t.key.port == heartbeat_subject then option_map (beat_in t past) (payload_value (schema_of Heartbeat) t.payload) else None

-- heartbeats with one more, if there is one
abbrev pub with_beat : Option Beat → List Beat → List Beat
with_beat None past = past
with_beat (Some beat) past = beat ∷ past

-- the heartbeats in records
abbrev pub beats : ℕ → List Record → List Beat
beats own [] = []
beats own (rec ∷ past) = with_beat (beat_of (transfer_at (monitor_ears own) rec past) (beats own past)) (beats own past)

-- the heartbeat that ends at a record, if one does
abbrev pub beat_at : ℕ → Record → List Record → Option Beat
beat_at own rec past = beat_of (transfer_at (monitor_ears own) rec past) (beats own past)

-- so with messages of time
abbrev pub message_in : Transfer → List Message → Val → Message
message_in t past v = record {
  moment = max (latest_message past) t.moment;
  source = t.key.source;
  tid = t.tid;
  stamp = (synchronization_of v).previous_transmission_timestamp_microsecond;
}

abbrev pub add_message : Transfer → List Message → Option Val → List Message
add_message t past None = past
add_message t past (Some v) = message_in t past v ∷ past

abbrev pub with_message : Option Transfer → List Message → List Message
with_message None past = past
with_message (Some t) past = if t.key.port == synchronization_subject then add_message t past (payload_value (schema_of Synchronization) t.payload) else past

abbrev pub messages : ℕ → List Record → List Message
messages own [] = []
messages own (rec ∷ past) = with_message (transfer_at (monitor_ears own) rec past) (messages own past)

-- the moment of the last record, 0 of none
abbrev pub last_moment : List Record → ℕ
last_moment [] = 0
last_moment (rec ∷ past) = rec.moment

-- how a node is among those online, if it is one of them
abbrev pub state_in : ℕ → List NodeState → Option NodeState
state_in node [] = None
state_in node (state ∷ states) = if state.node == node then Some state else state_in node states

abbrev pub state_line : ℕ → Option NodeState → List ℕ
state_line node None = offline_line node
state_line node (Some state) = node_line state

-- the lines of these nodes
abbrev pub node_lines : List NodeState → List ℕ → List ℕ
node_lines states [] = []
node_lines states (node ∷ nodes) = state_line node (state_in node states) ++ node_lines states nodes

abbrev pub estimate_line : Option Estimate → List ℕ
estimate_line None = no_time_line
estimate_line (Some e) = time_line e

-- the last lines, by the heartbeats and the messages of time so far, at this moment
abbrev pub lines_at : ℕ → ℕ → List Beat → List Message → List ℕ
lines_at moment records beats messages =
    node_lines (online moment beats) (heard beats)
    ++ estimate_line (estimate moment messages)
    ++ end_line records (codes "online") (length (online moment beats))

abbrev pub last_text : ℕ → List Record → List ℕ
last_text own past = lines_at (last_moment past) (length past) (beats own past) (messages own past)

-- nothing is said before the end of a log
abbrev pub step_text : Record → List Record → List ℕ
step_text rec past = []

-- what a monitor with this node-ID says over a log
abbrev pub monitor_voice : ℕ → Voice Record
monitor_voice own = plain_voice step_text (last_text own)
