-- What holds of every such log, whatever the payloads are and however each transfer stands on each
-- bus.
use Rattle.std.specs.Prelude.{◌≡◌, ℕ, ◌+◌, ◌*◌, ◌<◌, ◌≤◌, List, length, reverse, All, None}
use Rattle.can_id.specs.declared.key.Kind.TheVariants.{Message as message}
use Rattle.tail_frame.specs.declared.logged.Record.{Record}
use Rattle.rx_table.specs.Heard.{heard_as, frames_of, records_of as heard_of}
use Rattle.rx_table.specs.Keys.{SessionKey, history}
use Rattle.frag.specs.Raw.{WireExplainsOf}
use Rattle.frag.specs.declared.sent.Pair.{Pair}
use Rattle.frag.specs.declared.sent.Sent.{Sent}
use Rattle.frame_log.specs.Log.{log_of}
use Rattle.log_text.specs.Written.{records_text}
use Rattle.log_gen.specs.Rows.{key_of, pairs_of, records_of, rows, sent_of}
use Rattle.log_gen.specs.Rules.{all_rows, bus_names, log_text, origin_by, payload_of, sent_by}
use Rattle.log_gen.specs.declared.way.Way.{Way}

-- the session of a source, counted from 0
abbrev pub session_of : ℕ → SessionKey
session_of s = record { kind = message; port = 100; source = s + 1 }

-- a source's sent list explains, with these pairs, what node 10 hears of it in a log, the newest
-- record first; the transfer-ID timeout is 2 seconds
abbrev pub ExplainsSource : Sent → ℕ → List Pair → List Record → Type 0
ExplainsSource sent s origin recs =
    WireExplainsOf 2000000 sent (key_of s) origin
    (heard_of (heard_as 10) (session_of s) recs)
    (history (session_of s) (frames_of (heard_as 10) recs))

-- each source's transfers explain the log
abbrev pub EachIsExplained : Type 0
EachIsExplained =
    (payload : ℕ → List ℕ) (way : ℕ → ℕ → Way) (n s : ℕ) → s < 4
    → let all = rows payload way (4 * n) in
    ExplainsSource (sent_of payload n s) s (pairs_of s all) (records_of payload all)

-- payloads of at most 39 bytes
abbrev pub ArePayloads : (ℕ → List ℕ) → Type 0
ArePayloads payload = (j : ℕ) → (length (payload j) ≤ 39) × All (λ b. b < 256) (payload j)

-- the text of up to 20,000 transfers reads as their records, the oldest first, and none of its
-- lines is refused
abbrev pub EachReads : Type 0
EachReads =
    (payload : ℕ → List ℕ) (way : ℕ → ℕ → Way) (n : ℕ) → ArePayloads payload → n ≤ 20000
    → let recs = records_of payload (rows payload way n) in
    log_of bus_names (records_text bus_names recs)
    ≡ record { records = reverse recs; refusal = None }

-- the records of the log of a number, the newest first
abbrev pub records_by : ℕ → List Record
records_by number = records_of (payload_of number) (all_rows number)

-- what each source sent explains that log
abbrev pub IsExplained : ℕ → Type 0
IsExplained number =
    (s : ℕ) → s < 4 → ExplainsSource (sent_by number s) s (origin_by number s) (records_by number)

-- and its text reads as these records, none of which is refused
abbrev pub IsRead : ℕ → Type 0
IsRead number =
    log_of bus_names (log_text number) ≡ record { records = reverse (records_by number); refusal = None }
