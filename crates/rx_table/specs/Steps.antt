-- What ends at one record: a delivery, a transfer with a bad CRC, or nothing.
use Rattle.std.specs.Prelude.{ℕ, Bool, false, not, ◌&&◌, ◌||◌, ◌==◌, if◌then◌else◌, List, ◌∷◌}
use Rattle.std.specs.Prelude.{length, Option, Some, None}
use Rattle.tail_frame.specs.Chains.{KeyRecord, follows, tip, chain_bytes, closes_at, without_crc}
use Rattle.rx_table.specs.Received.{Delivery, Run, begins, received}

-- the deliveries with one more, if there is one
abbrev pub add : Option Delivery → List Delivery → List Delivery
add None ds = ds
add (Some d) ds = d ∷ ds

-- whether r goes on with the chain of a run
abbrev pub goes_on : KeyRecord → Option Run → Bool
goes_on r None = false
goes_on r (Some run) = follows run.first (tip run.first run.since) r

module _ (crc : List ℕ → ℕ) (timeout : ℕ) where
  -- what r ends of a run that began before
  abbrev pub of_run : KeyRecord → List KeyRecord → Option Run → Option Delivery
  of_run r past None = None
  of_run r past (Some run) =
      if closes_at run.first run.since r && (crc (chain_bytes run.first (r ∷ run.since)) == 0)
      then Some (record { first = run.first; last = r; place = length past; content = without_crc (chain_bytes run.first (r ∷ run.since)) })
      else None

  -- the delivery that ends at r
  abbrev pub delivery_at : KeyRecord → List KeyRecord → Option Delivery
  delivery_at r past =
      if begins timeout r past (received crc timeout past).delivered
      then (if r.end then Some (record { first = r; last = r; place = length past; content = r.body }) else None)
      else of_run r past (received crc timeout past).begun

  -- whether r closes the chain of a run, and its bytes have another CRC than 0
  abbrev pub fails_at : KeyRecord → Option Run → Bool
  fails_at r None = false
  fails_at r (Some run) = closes_at run.first run.since r && not (crc (chain_bytes run.first (r ∷ run.since)) == 0)

  -- whether a transfer with a bad CRC ends at r
  abbrev pub is_bad : KeyRecord → List KeyRecord → Bool
  is_bad r past = not (begins timeout r past (received crc timeout past).delivered) && fails_at r (received crc timeout past).begun

  -- whether r begins a chain or goes on with one, without ending it
  abbrev pub is_held : KeyRecord → List KeyRecord → Bool
  is_held r past =
      let got = received crc timeout past in
      not r.end && (begins timeout r past got.delivered || goes_on r got.begun)
