-- What `nodes` says of a log: what changes among its nodes, as it happens. Records are a list with
-- the newest first; `past` is what came before. The heartbeats are those of `monitor`.
use Rattle.std.specs.Prelude.{ℕ, max, List, [], ◌∷◌, ◌++◌, length, Option, Some, None}
use Rattle.log_loop.specs.Voice.{Voice, plain_voice}
use Rattle.net_monitor.specs.Beats.{Beat}
use Rattle.net_monitor.specs.Changes.{Change, gone, downs, beat_changes, restarts_in}
use Rattle.net_monitor.specs.Online.{heard}
use Rattle.tail_frame.specs.declared.logged.Record.{Record}
use Rattle.node_reach.specs.ChangeLines.{change_lines, nodes_end}
use Rattle.node_reach.specs.Monitored.{beats, beat_at}

-- a number that is no node's: who has it for its own leaves no node out
abbrev pub nobody : ℕ
nobody = 128

-- the greatest moment of records, which in a log is that of the last one
abbrev pub clock : List Record → ℕ
clock [] = 0
clock (rec ∷ past) = max (clock past) rec.moment

-- what a heartbeat changes at the moment m, if there is one
abbrev pub changes_by : ℕ → Option Beat → List Beat → List Change
changes_by m None past = []
changes_by m (Some e) past = beat_changes m e past

-- what changes at a record: first who was online at the record before and is so no more, by the
-- heartbeats before it; then what the heartbeat changes that ends at it
abbrev pub changes_at : Record → List Record → List Change
changes_at rec past =
    downs (gone (clock past) (clock (rec ∷ past)) (beats nobody past))
    ++ changes_by (clock (rec ∷ past)) (beat_at nobody rec past) (beats nobody past)

-- what changed so far, the oldest first
abbrev pub changes : List Record → List Change
changes [] = []
changes (rec ∷ past) = changes past ++ changes_at rec past

-- what is said on a record has its moment
abbrev pub watch_text : Record → List Record → List ℕ
watch_text rec past = change_lines rec.moment (changes_at rec past)

abbrev pub watch_end : List Record → List ℕ
watch_end past = nodes_end (length past) (length (heard (beats nobody past))) (restarts_in (changes past))

-- what `nodes` says over a log
abbrev pub nodes_voice : Voice Record
nodes_voice = plain_voice watch_text watch_end
