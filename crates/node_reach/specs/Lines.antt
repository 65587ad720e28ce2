-- The lines that are written.
use Rattle.std.specs.Prelude.{ℕ, ℤ, pos, negsuc, ◌+◌, ◌/◌, ◌%◌, List, [], ◌∷◌, ◌++◌, codes, decimal}
use Rattle.hex.specs.Hex.{encode_upper}
use Rattle.line_text.specs.Text.{moment_text, line_of}
use Rattle.line_text.specs.TxLine.{tx_text}
use Rattle.net_monitor.specs.declared.node_state.NodeState.{NodeState}
use Rattle.time_sync.specs.declared.sync.Estimate.{Estimate}

-- the lines of these frames that are sent on a bus, the first one first
abbrev pub tx_on : ℕ → ℕ → List ℕ → List (List ℕ) → List ℕ
tx_on moment ident bus [] = []
tx_on moment ident bus (bytes ∷ frames) = tx_text moment bus ident bytes ++ tx_on moment ident bus frames

-- and on each of these buses
abbrev pub tx_lines : ℕ → ℕ → List (List ℕ) → List (List ℕ) → List ℕ
tx_lines moment ident frames [] = []
tx_lines moment ident frames (bus ∷ buses) = tx_on moment ident bus frames ++ tx_lines moment ident frames buses

-- the low 48 bits of a unique id, the highest byte first
abbrev pub uid_bytes : ℕ → List ℕ
uid_bytes uid =
    uid / 0x10000000000 % 256 ∷ uid / 0x100000000 % 256 ∷ uid / 0x1000000 % 256
    ∷ uid / 0x10000 % 256 ∷ uid / 0x100 % 256 ∷ uid % 256 ∷ []

-- as 12 hex digits
abbrev pub uid_text : ℕ → List ℕ
uid_text uid = encode_upper (uid_bytes uid)

-- a unique id is given a node-ID
abbrev pub given_line : ℕ → ℕ → ℕ → List ℕ
given_line moment node uid = line_of (codes "given" ∷ moment_text moment ∷ decimal node ∷ uid_text uid ∷ [])

-- no node-ID is free for a unique id
abbrev pub full_line : ℕ → ℕ → List ℕ
full_line moment uid = line_of (codes "full" ∷ moment_text moment ∷ uid_text uid ∷ [])

-- how a node is that is online
abbrev pub node_line : NodeState → List ℕ
node_line state = line_of (
    codes "node" ∷ decimal state.node ∷ codes "uptime" ∷ decimal state.beat.uptime
    ∷ codes "health" ∷ decimal state.beat.health.value ∷ codes "mode" ∷ decimal state.beat.mode.value
    ∷ codes "code" ∷ decimal state.beat.vendor_specific_status_code ∷ codes "restarts" ∷ decimal state.restarts ∷ [])

-- a node that was heard and isn't online
abbrev pub offline_line : ℕ → List ℕ
offline_line node = line_of (codes "offline" ∷ decimal node ∷ [])

-- a whole number, with a minus sign where it is below 0; `negsuc n` is -(n + 1)
abbrev pub signed : ℤ → List ℕ
signed (pos n) = decimal n
signed (negsuc n) = 45 ∷ decimal (n + 1)

-- the network's time by its master, and that nobody tells it
abbrev pub time_line : Estimate → List ℕ
time_line e = line_of (codes "time" ∷ decimal e.source ∷ signed e.offset ∷ [])

abbrev pub no_time_line : List ℕ
no_time_line = line_of (codes "time" ∷ codes "-" ∷ [])

-- the last line: so many records, and so many of something
abbrev pub end_line : ℕ → List ℕ → ℕ → List ℕ
end_line records word count =
    line_of (codes "end" ∷ codes "records" ∷ decimal records ∷ word ∷ decimal count ∷ [])
