-- The frames of transfers as they stand in a log. Rows, and the records that they are, have the
-- newest first.
use Rattle.std.specs.Prelude.{ℕ, zero, suc, ◌+◌, ◌*◌, ◌/◌, ◌%◌, ◌==◌, if◌then◌else◌, List, [], ◌∷◌}
use Rattle.std.specs.Prelude.{◌++◌, length, replicate, map, Some, None}
use Rattle.std.specs.List.{range_with_len}
use Rattle.can_id.specs.Identifiers.{bits}
use Rattle.can_id.specs.declared.ident.Ident.TheVariants.{Message}
use Rattle.can_id.specs.declared.key.Kind.TheVariants.{Message as message}
use Rattle.can_id.specs.declared.key.Key.{Key}
use Rattle.tail_frame.specs.declared.logged.Record.{Record}
use Rattle.frag.specs.Wire.{last_frame, frame_at}
use Rattle.frag.specs.declared.sent.Pair.{Pair}
use Rattle.frag.specs.declared.sent.Sent.{Sent}
use Rattle.frag.specs.declared.sent.Transfer.{Transfer}
use Rattle.log_gen.specs.declared.row.Row.{Row}
use Rattle.log_gen.specs.declared.way.Way.{Way}
use Rattle.log_gen.specs.declared.way.Way.TheVariants as way

-- how often a frame of a transfer stands in the log, by its number
abbrev pub copies : Way → ℕ → ℕ
copies way.Missing i = 0
copies way.Headless zero = 0
copies way.Headless (suc i) = 1
copies way.Twice zero = 2
copies way.Twice (suc i) = 1
copies way.Whole i = 1

-- frame i of transfer j on a bus
abbrev pub row : ℕ → ℕ → ℕ → Row
row j bus i = record { transfer = j; bus = bus; frame = i }

-- the first n frames of transfer j on a bus where it stands in this way, behind what came before
abbrev pub on_bus : Way → ℕ → ℕ → ℕ → List Row → List Row
on_bus way j bus zero past = past
on_bus way j bus (suc i) past = replicate (copies way i) (row j bus i) ++ on_bus way j bus i past

-- the number of transfer j among those of its source: four sources take turns
abbrev pub place_of : ℕ → ℕ
place_of j = j / 4

-- the source of transfer j, counted from 0
abbrev pub source_of : ℕ → ℕ
source_of j = j % 4

-- the transfer-ID of transfer j
abbrev pub tid_of : ℕ → ℕ
tid_of j = place_of j % 32

-- the pair of a frame
abbrev pub pair_of : Row → Pair
pair_of r = record { j = place_of r.transfer; i = r.frame }

-- the record of a frame, on a line, with these bytes: a millisecond lies between two transfers, and
-- 300 microseconds between two buses
abbrev pub record_with : Row → ℕ → List ℕ → Record
record_with r line bytes = record {
  line = line;
  moment = 1000 * r.transfer + 300 * r.bus;
  bus = r.bus;
  ident = bits (Message 4 100 (source_of r.transfer + 1));
  bytes = bytes;
}

-- the key of a source's transfers: they are messages on subject 100, and the nodes count from 1
abbrev pub key_of : ℕ → Key
key_of s = record { kind = message; port = 100; source = Some (s + 1) }

-- the payload of each transfer
module _ (payload : ℕ → List ℕ) where
  -- the number of frames of transfer j, of at most 8 bytes each
  abbrev pub frame_count : ℕ → ℕ
  frame_count j = last_frame 8 (payload j) + 1

  -- the data bytes of a frame
  abbrev pub bytes_of : Row → List ℕ
  bytes_of r = frame_at 8 (payload r.transfer) (tid_of r.transfer) r.frame

  -- the record of a frame behind others
  abbrev pub record_of : Row → List Row → Record
  record_of r past = record_with r (length past + 1) (bytes_of r)

  -- the records of these frames
  abbrev pub records_of : List Row → List Record
  records_of [] = []
  records_of (r ∷ past) = record_of r past ∷ records_of past

  -- transfer j as it was submitted
  abbrev pub transfer : ℕ → Transfer
  transfer j = record {
    priority = 4;
    tid = tid_of j;
    moment = 1000 * j;
    destination = None;
    payload = payload j;
  }

  -- the first n transfers of a source
  abbrev pub sent_of : ℕ → ℕ → Sent
  sent_of n s = record {
    key = key_of s;
    sizes = 8 ∷ 8 ∷ 8 ∷ [];
    transfers = map (λ k. transfer (4 * k + s)) (range_with_len 0 n);
  }

-- the payload of each transfer, and how it stands on a bus: by its place among those of its source,
-- and the bus
module _ (payload : ℕ → List ℕ) (way : ℕ → ℕ → Way) where
  -- the frames of transfer j on the first n buses, behind what came before
  abbrev pub on_buses : ℕ → ℕ → List Row → List Row
  on_buses j zero past = past
  on_buses j (suc bus) past =
      on_bus (way (place_of j) bus) j bus (frame_count payload j) (on_buses j bus past)

  -- the frames of the first n transfers, each on three buses
  abbrev pub rows : ℕ → List Row
  rows zero = []
  rows (suc j) = on_buses j 3 (rows j)

-- the pairs of a source's frames, in order: each frame by its transfer's place among those of its
-- source
abbrev pub pairs_of : ℕ → List Row → List Pair
pairs_of s [] = []
pairs_of s (r ∷ past) =
    if source_of r.transfer == s then pairs_of s past ++ pair_of r ∷ [] else pairs_of s past
