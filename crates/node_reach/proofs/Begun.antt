-- A transfer began with one of the records, so no later than the last of them, and with a transfer-ID.
use Rattle.std.proofs.Common.{◌≡◌, ℕ, ◌-◌, ◌<◌, ◌≤◌, ◌==◌, ◌&&◌, cond, List, [], ◌∷◌, length, take, Option, Some, None, refl, subst, arith}
use Rattle.std.specs.Prelude.{⊤}
use Rattle.std.proofs.lemmas.Bool.{cond_both}
use Rattle.std.specs.Option.{option_and_then}
use Rattle.can_id.specs.Identifiers.{ident_of, key_of}
use Rattle.can_id.specs.declared.ident.Ident.{Ident}
use Rattle.can_id.specs.declared.key.Kind.{Kind}
use Rattle.tail_frame.specs.Chains.{KeyRecord, chain_bytes, closes_at, without_crc}
use Rattle.tail_frame.specs.Frames.{FrameOf, framed, last_byte, is_discarded, tail_of, frame_of, key_record}
use Rattle.tail_frame.specs.declared.logged.Record.{Record}
use Rattle.transfer_crc.specs.Crc.{crc_of}
use Rattle.rx_table.specs.Heard.{is_for, if_for, frame_for, with_frame, frames}
use Rattle.rx_table.specs.Keys.{SessionKey, KeyedFrame, EachFrame, bears_on, history}
use Rattle.rx_table.specs.Ports.{Port, is_admitted}
use Rattle.rx_table.specs.Received.{Delivery, Run, Got, begins, received, alone, not_begun}
use Rattle.rx_table.specs.Steps.{delivery_at, of_run}
use Rattle.rx_table.specs.Table.{with_source, log_with, port_on}
use Rattle.node_reach.specs.Ears.{AllUpTo}
use Rattle.node_reach.specs.Transfers.{HasBegunBy, Ears, of_delivery, on_port, of_frame, transfer_at}

-- a frame of a record has its moment, and a transfer-ID
record IsOf (rec : Record) (f : FrameOf) : Type 0 where
  moment : f.moment ≡ rec.moment
  tid : f.tail.tid < 32

of_byte : (rec : Record) (ident : Ident) (byte : Option ℕ) (f : FrameOf) → option_and_then (framed rec ident) byte ≡ Some f → IsOf rec f
of_byte rec ident None f e = cc
of_byte rec ident (Some byte) f e =
    let g : FrameOf = record {
      line = rec.line;
      moment = rec.moment;
      bus = rec.bus;
      ident = ident;
      tail = tail_of byte;
      body = take (length rec.bytes - 1) rec.bytes;
    } in
    cond_both (is_discarded ident (tail_of byte) (length rec.bytes - 1)) None (Some g) (λ o. o ≡ Some f → IsOf rec f)
    (λ _ n. cc) (λ _ n. let it : g ≡ f = cc in subst (IsOf rec) it (record { moment = refl; tid = omega arith })) e

of_ident : (rec : Record) (ident : Option Ident) (f : FrameOf) → option_and_then (λ i. option_and_then (framed rec i) (last_byte rec.bytes)) ident ≡ Some f → IsOf rec f
of_ident rec None f e = cc
of_ident rec (Some ident) f e = of_byte rec ident (last_byte rec.bytes) f e

of_node : (node : ℕ) (rec : Record) (heard : Option FrameOf) (f : FrameOf) → ((g : FrameOf) → heard ≡ Some g → IsOf rec g) → if_for node heard ≡ Some f → IsOf rec f
of_node node rec None f is e = cc
of_node node rec (Some g) f is e = cond_both (is_for node g.ident) (Some g) None (λ o. o ≡ Some f → IsOf rec f) (λ _ n. is f n) (λ _ n. cc) e

is_of : (node : ℕ) (rec : Record) (f : FrameOf) → frame_for node rec ≡ Some f → IsOf rec f
is_of node rec f e = of_node node rec (frame_of rec) f (λ g. of_ident rec (ident_of rec.ident) g) e

unit : Unit {0}
unit = tt

-- what holds of the records of a key holds of the first one of each delivery
module _ (P : KeyRecord → Type 0) where
  abbrev Each : List KeyRecord → Type 0
  Each [] = ⊤
  Each (r ∷ past) = P r × Each past

  abbrev RunIs : Option Run → Type 0
  RunIs None = ⊤
  RunIs (Some run) = P run.first

  abbrev DeliveryIs : Option Delivery → Type 0
  DeliveryIs None = ⊤
  DeliveryIs (Some d) = P d.first

  module _ (crc : List ℕ → ℕ) (timeout : ℕ) where
    not_begun_is : (r : KeyRecord) (past : List KeyRecord) (o : Option Run) (ds : List Delivery) → RunIs o → RunIs (not_begun crc timeout r past o ds).begun
    not_begun_is r past None ds h = tt
    not_begun_is r past (Some run) ds h = h

    begun_is : (past : List KeyRecord) → Each past → RunIs (received crc timeout past).begun
    begun_is [] h = tt
    begun_is (r ∷ past) h =
        let got = received crc timeout past in
        let first : Got = record { begun = Some (record { first = r; since = [] }); delivered = alone crc timeout r past got.delivered } in
        cond_both (begins timeout r past got.delivered) first (not_begun crc timeout r past got.begun got.delivered) (λ (g : Got). RunIs g.begun)
        (λ _. h.0) (λ _. not_begun_is r past got.begun got.delivered (begun_is past h.1))

    of_run_is : (r : KeyRecord) (past : List KeyRecord) (o : Option Run) → RunIs o → DeliveryIs (of_run crc timeout r past o)
    of_run_is r past None h = tt
    of_run_is r past (Some run) h =
        let bytes = chain_bytes run.first (r ∷ run.since) in
        let d : Delivery = record { first = run.first; last = r; place = length past; content = without_crc bytes } in
        cond_both (closes_at run.first run.since r && (crc bytes == 0)) (Some d) None DeliveryIs (λ _. h) (λ _. unit)

    delivery_is : (r : KeyRecord) (past : List KeyRecord) → P r → Each past → DeliveryIs (delivery_at crc timeout r past)
    delivery_is r past h hs =
        let got = received crc timeout past in
        let d : Delivery = record { first = r; last = r; place = length past; content = r.body } in
        cond_both (begins timeout r past got.delivered) (cond r.end (Some d) None) (of_run crc timeout r past got.begun) DeliveryIs
        (λ _. cond_both r.end (Some d) None DeliveryIs (λ _. h) (λ _. unit)) (λ _. of_run_is r past got.begun (begun_is past hs))

  history_is : (key : SessionKey) (log : List KeyedFrame) → EachFrame (λ f. P f.rec) log → Each (history key log)
  history_is key [] h = tt
  history_is key (f ∷ log) h =
      cond_both (bears_on key f) (f.rec ∷ history key log) (history key log) Each (λ _. (h.0, history_is key log h.1)) (λ _. history_is key log h.1)

-- a record of a key at this moment or before it, with a transfer-ID
abbrev IsIn : ℕ → KeyRecord → Type 0
IsIn m r = (r.moment ≤ m) × (r.tid < 32)

is_in : (m : ℕ) (rec : Record) (f : FrameOf) → rec.moment ≤ m → IsOf rec f → IsIn m (key_record f)
is_in m rec f le is = (let e = is.moment in omega arith, is.tid)

keyed_in : (m : ℕ) (kind : Kind) (port : ℕ) (source : Option ℕ) (f : FrameOf) (log : List KeyedFrame) → IsIn m (key_record f) → EachFrame (λ g. IsIn m g.rec) log → EachFrame (λ g. IsIn m g.rec) (log_with (with_source kind port source f) log)
keyed_in m kind port None f log h hs = hs
keyed_in m kind port (Some source) f log h hs = (h, hs)

frame_in : (m node : ℕ) (rec : Record) (log : List KeyedFrame) (o : Option FrameOf) → frame_for node rec ≡ o → rec.moment ≤ m → EachFrame (λ g. IsIn m g.rec) log → EachFrame (λ g. IsIn m g.rec) (with_frame o log)
frame_in m node rec log None e le hs = hs
frame_in m node rec log (Some f) e le hs =
    let key = key_of f.ident in keyed_in m key.kind key.port key.source f log (is_in m rec f le (is_of node rec f e)) hs

frames_in : (m node : ℕ) (past : List Record) → AllUpTo m past → EachFrame (λ g. IsIn m g.rec) (frames node past)
frames_in m node [] h = tt
frames_in m node (rec ∷ past) h = frame_in m node rec (frames node past) (frame_for node rec) refl h.0 (frames_in m node past h.1)

of_delivery_is : (m extent : ℕ) (key : SessionKey) (d : Option Delivery) → DeliveryIs (IsIn m) d → HasBegunBy m (of_delivery extent key d)
of_delivery_is m extent key None h = tt
of_delivery_is m extent key (Some d) h = record { tid = h.1; early = h.0 }

on_port_is : (m timeout : ℕ) (log : List KeyedFrame) (o : Option Port) (kind : Kind) (port : ℕ) (source : Option ℕ) (f : FrameOf) → IsIn m (key_record f) → EachFrame (λ g. IsIn m g.rec) log
    → HasBegunBy m (on_port timeout log o (with_source kind port source f))
on_port_is m timeout log None kind port source f h hs = tt
on_port_is m timeout log (Some p) kind port None f h hs = tt
on_port_is m timeout log (Some p) kind port (Some source) f h hs =
    let key : SessionKey = record { kind = kind; port = port; source = source } in
    let k : KeyedFrame = record { key = key; rec = key_record f } in
    cond_both (is_admitted p k log) (of_delivery p.extent key (delivery_at crc_of timeout (key_record f) (history key log))) None (HasBegunBy m)
    (λ _. of_delivery_is m p.extent key _ (delivery_is (IsIn m) crc_of timeout (key_record f) (history key log) h (history_is (IsIn m) key log hs))) (λ _. unit)

frame_begun : (m : ℕ) (ears : Ears) (rec : Record) (log : List KeyedFrame) (o : Option FrameOf) → frame_for ears.own rec ≡ o → rec.moment ≤ m → EachFrame (λ g. IsIn m g.rec) log → HasBegunBy m (of_frame ears log o)
frame_begun m ears rec log None e le hs = tt
frame_begun m ears rec log (Some f) e le hs =
    let key = key_of f.ident in on_port_is m ears.timeout log (port_on ears.ports f) key.kind key.port key.source f (is_in m rec f le (is_of ears.own rec f e)) hs

-- the transfer that ends at a record, behind records that aren't later
pub transfer_begun : (ears : Ears) (rec : Record) (past : List Record) → AllUpTo rec.moment past → HasBegunBy rec.moment (transfer_at ears rec past)
transfer_begun ears rec past h =
    frame_begun rec.moment ears rec (frames ears.own past) (frame_for ears.own rec) refl (omega arith) (frames_in rec.moment ears.own past h)
