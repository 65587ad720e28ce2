-- Explained logs in the words of the records as they were received: by identifier and data.
use Rattle.std.specs.Prelude.{◌≡◌, ◌≢◌, option_map, ℕ, List, [], Option, Some}
use Rattle.tail_frame.specs.Frames.{frame_of, key_record}
use Rattle.tail_frame.specs.declared.logged.Record.{Record}
use Rattle.rx_table.specs.Keys.{SessionKey, KeyedFrame, history}
use Rattle.rx_table.specs.Heard.{frames_of, records_of}
use Rattle.frag.specs.declared.sent.Pair.{Pair}
use Rattle.frag.specs.Raw.{WireExplainsOf, IsRecordOf}
use Rattle.frag.specs.declared.sent.Sent.{Sent}
use Rattle.delivery_theorems.specs.Report.{Explains}

-- `keyed` says which frame of which key a record is, if it is one
module _ (keyed : Record → Option KeyedFrame) where
  -- a sent list of a key explains the records that are frames of it, and there is no chance match
  abbrev pub WireExplains : ℕ → Sent → SessionKey → List Pair → List Record → Type 0
  WireExplains timeout sent key origin past = WireExplainsOf timeout sent (record { kind = key.kind; port = key.port; source = Some key.source }) origin (records_of keyed key past) (history key (frames_of keyed past))

-- what explains a key's records by identifier and data explains them by their fields
abbrev pub WireExplainsFields : Type 0
WireExplainsFields =
    (keyed : Record → Option KeyedFrame) → ((rec : Record) (f : KeyedFrame) → keyed rec ≡ Some f → IsRecordOf rec f.rec)
    → (timeout : ℕ) (sent : Sent) (key : SessionKey) (origin : List Pair) (past : List Record)
    → WireExplains keyed timeout sent key origin past → Explains timeout sent key origin (history key (frames_of keyed past))

-- a log and a sent list that meet these premises, where each record that is a frame is a frame of
-- the key
abbrev pub all_of : SessionKey → Record → Option KeyedFrame
all_of key rec = option_map (λ f. record { key = key; rec = key_record f }) (frame_of rec)

pub record WireExample : Type 0 where
  pub timeout : ℕ
  pub sent : Sent
  pub key : SessionKey
  pub origin : List Pair
  pub past : List Record
  pub explains : WireExplains (all_of key) timeout sent key origin past
  pub some_log : frames_of (all_of key) past ≢ []
