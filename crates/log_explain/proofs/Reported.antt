-- The lines on a table's sessions are those of its log.
use Rattle.std.proofs.Common.{◌≡◌, ◌∙◌, ℕ, suc, zero, ◌+◌, ◌*◌, ◌-◌, ◌<◌, ◌≤◌, cond, not, ◌&&◌, List, [], ◌∷◌, ◌++◌, length, take, Option, Some, None, unwrap_or, refl, sym, ap, subst, slice_get, length-append, arith}
use Rattle.std.specs.Prelude.{⊤}
use Rattle.std.specs.Option.{option_and_then}
use Rattle.std.proofs.lemmas.Bool.{cond_both}
use Rattle.can_id.specs.Identifiers.{field, ident_of, is_discarded as is_no_ident, is_set, key_of as key_of_ident, message_of, service_of}
use Rattle.can_id.specs.declared.ident.Ident.{Ident}
use Rattle.can_id.specs.declared.ident.Ident.TheVariants as ident
use Rattle.can_id.specs.declared.key.Kind.{Kind}
use Rattle.tail_frame.specs.Frames.{FrameOf, frame_of, framed, is_discarded, last_byte, tail_of}
use Rattle.tail_frame.specs.declared.logged.Record.{Record}
use Rattle.transfer_crc.specs.Crc.{crc_of}
use Rattle.rx_session.specs.declared.session.Session.{Session as CodeSession}
use Rattle.rx_table.specs.Admitted.{admitted, has, is_on, key_of, sources}
use Rattle.rx_table.specs.Heard.{frames, if_for, is_for, with_frame}
use Rattle.rx_table.specs.Keys.{EachFrame, KeyedFrame}
use Rattle.rx_table.specs.Laws.{EachPort}
use Rattle.rx_table.specs.Ports.{EachStands, Port, TableStands, ports_of, sources_of}
use Rattle.rx_table.specs.Table.{IsPort, entries_of, log_with, port_of, states, with_source}
use Rattle.rx_table.specs.declared.port.Port as code
use Rattle.rx_table.proofs.Admissions.{admitted_few}
use Rattle.rx_table.proofs.Entries.{length_sources}
use Rattle.rx_table.proofs.NewSources.{length-entries}
use Rattle.log_explain.specs.Reasons.{Listens}
use Rattle.log_explain.specs.Counts.{counts}
use Rattle.log_explain.specs.Lines.{lines, sessions_of, sessions_on, tally}
use Rattle.log_explain.specs.Places.{slot_at}
use Rattle.log_explain.specs.SessionLines.{count_in, sessions_at, sessions_from, tally_at}
use Rattle.log_explain.specs.Sessions.{Session}
use Rattle.log_explain.specs.Slots.{AreCounted}
use Rattle.log_explain.specs.declared.tally.Tally.{Tally}

some_is : {X : Type 0} (x y : X) → Some x ≡ Some y → x ≡ y
some_is x y h = cc

-- the node-IDs that identifiers say are below 128
abbrev IsSmall : Option ℕ → Type 0
IsSmall None = ⊤
IsSmall (Some s) = s < 128

abbrev SaysSmall : Ident → Type 0
SaysSmall i = IsSmall (key_of_ident i).source

low_seven : (n : ℕ) → field n 0 7 < 128
low_seven n = omega arith

service_small : (n : ℕ) → SaysSmall (service_of n)
service_small n = low_seven n

message_small : (n : ℕ) → SaysSmall (message_of n)
message_small n =
    cond_both (is_set n 24) (ident.Anonymous (field n 26 3) (field n 8 13) (field n 0 7)) (ident.Message (field n 26 3) (field n 8 13) (field n 0 7)) SaysSmall (λ _. tt) (λ _. low_seven n)

ident_small : (n : ℕ) (i : Ident) → ident_of n ≡ Some i → SaysSmall i
ident_small n i e =
    cond_both (is_no_ident n) None (cond (is_set n 25) (Some (service_of n)) (Some (message_of n))) (λ (o : Option Ident). o ≡ Some i → SaysSmall i)
    (λ _ n. absurd cc)
    (λ _. cond_both (is_set n 25) (Some (service_of n)) (Some (message_of n)) (λ (o : Option Ident). o ≡ Some i → SaysSmall i)
    (λ _ x. subst SaysSmall (some_is (service_of n) i x) (service_small n))
    (λ _ x. subst SaysSmall (some_is (message_of n) i x) (message_small n)))
    e

-- the identifier of a frame is that of its record
ident_byte : (rec : Record) (i : Ident) (byte : Option ℕ) (f : FrameOf) → option_and_then (framed rec i) byte ≡ Some f → f.ident ≡ i
ident_byte rec i None f e = absurd cc
ident_byte rec i (Some byte) f e =
    let g : FrameOf = record { line = rec.line; moment = rec.moment; bus = rec.bus; ident = i; tail = tail_of byte; body = take (length rec.bytes - 1) rec.bytes } in
    cond_both (is_discarded i (tail_of byte) (length rec.bytes - 1)) None (Some g) (λ (o : Option FrameOf). o ≡ Some f → f.ident ≡ i)
    (λ _ n. absurd cc) (λ _ n. ap (λ (x : FrameOf). x.ident) (sym (some_is g f n))) e

ident_in : (rec : Record) (o : Option Ident) (f : FrameOf) → option_and_then (λ i. option_and_then (framed rec i) (last_byte rec.bytes)) o ≡ Some f → o ≡ Some f.ident
ident_in rec None f e = absurd cc
ident_in rec (Some i) f e = ap Some (sym (ident_byte rec i (last_byte rec.bytes) f e))

frame_small : (rec : Record) (f : FrameOf) → frame_of rec ≡ Some f → SaysSmall f.ident
frame_small rec f e = ident_small rec.ident f.ident (ident_in rec (ident_of rec.ident) f e)

-- and so are the sources of frames
abbrev Small : KeyedFrame → Type 0
Small k = k.key.source < 128

keyed_small : (f : FrameOf) (kind : Kind) (port : ℕ) (source : Option ℕ) (log : List KeyedFrame) → IsSmall source → EachFrame Small log → EachFrame Small (log_with (with_source kind port source f) log)
keyed_small f kind port None log s each = each
keyed_small f kind port (Some source) log s each = (s, each)

for_small : (own : ℕ) (o : Option FrameOf) (log : List KeyedFrame) → ((f : FrameOf) → o ≡ Some f → SaysSmall f.ident) → EachFrame Small log → EachFrame Small (with_frame (if_for own o) log)
for_small own None log s each = each
for_small own (Some f) log s each =
    let q = key_of_ident f.ident in
    cond_both (is_for own f.ident) (Some f) None (λ (o : Option FrameOf). EachFrame Small (with_frame o log)) (λ _. keyed_small f q.kind q.port q.source log (s f refl) each) (λ _. each)

frames_small : (own : ℕ) (past : List Record) → EachFrame Small (frames own past)
frames_small own [] = tt
frames_small own (rec ∷ past) = for_small own (frame_of rec) (frames own past) (λ f. frame_small rec f) (frames_small own past)

abbrev AllSmall : List ℕ → Type 0
AllSmall [] = ⊤
AllSmall (s ∷ ss) = s < 128 × AllSmall ss

small_append : (xs : List ℕ) (x : ℕ) → AllSmall xs → x < 128 → AllSmall (xs ++ x ∷ [])
small_append [] x a s = (s, tt)
small_append (y ∷ xs) x a s = (a.0, small_append xs x a.1 s)

small_take : (n : ℕ) (xs : List ℕ) → AllSmall xs → AllSmall (take n xs)
small_take zero xs a = tt
small_take (suc n) [] a = tt
small_take (suc n) (x ∷ xs) a = (a.0, small_take n xs a.1)

sources_small : (kind : Kind) (port : ℕ) (log : List KeyedFrame) → EachFrame Small log → AllSmall (sources kind port log)
sources_small kind port [] each = tt
sources_small kind port (k ∷ log) each =
    let xs = sources kind port log in
    let rest = sources_small kind port log each.1 in
    cond_both (is_on kind port k && (k.rec.start && not (has k.key.source xs))) (xs ++ k.key.source ∷ []) xs AllSmall (λ _. small_append xs k.key.source rest each.0) (λ _. rest)

module _ (w : Listens) (by_slot : List Tally) (past : List Record) (c : AreCounted w.ports by_slot (lines w past)) where
  entry_lines : {S : Type 0} (p : Port) (place : ℕ) → slice_get w.ports place ≡ Some p → (es : List (ℕ × CodeSession S)) → EachStands crc_of w.timeout p (frames w.own past) (entries_of es) → AllSmall (sources_of (entries_of es))
      → sessions_at by_slot p.kind p.port place es ≡ sessions_of w past p (sources_of (entries_of es))
  entry_lines p place there [] st small = refl
  entry_lines p place there (e ∷ es) st small =
      let key = key_of p.kind p.port e.0 in
      let bus = st.0.bus in
      let count : tally_at by_slot (slot_at place e.0) ≡ tally w key past = ap (λ (o : Option Tally). unwrap_or o (counts [])) (c place e.0 p there small.0) in
      let rest = entry_lines p place there es st.2 small.1 in
      λ i. (let s : Session = record { key = key; bus = bus i; tally = count i } in s ∷ rest i)

  module _ {S : Type 0} (extent : S → ℕ) where
    pub port_lines : (items : List (code.Port S)) (place : ℕ) → TableStands crc_of w.timeout (frames w.own past) (states extent items) → ((i : ℕ) (p : Port) → slice_get (ports_of (states extent items)) i ≡ Some p → slice_get w.ports (place + i) ≡ Some p)
        → sessions_from by_slot place items ≡ sessions_on w past (ports_of (states extent items))
    port_lines [] place st there = refl
    port_lines (q ∷ items) place st there =
        let p = port_of extent q in
        let es = q.sessions.entries in
        let log = frames w.own past in
        let zero_is : place + 0 ≡ place = omega arith in
        let here : slice_get w.ports place ≡ Some p = subst (λ (n : ℕ). slice_get w.ports n ≡ Some p) zero_is (there 0 p refl) in
        let small : AllSmall (sources_of (entries_of es)) = subst AllSmall (sym st.0.sources_are) (small_take p.sources (sources p.kind p.port log) (sources_small p.kind p.port log (frames_small w.own past))) in
        let head = entry_lines p place here es st.0.sessions small ∙ ap (sessions_of w past p) st.0.sources_are in
        let rest = port_lines items (place + 1) st.1 (λ i o h. (let more : place + suc i ≡ place + 1 + i = omega arith in subst (λ (n : ℕ). slice_get w.ports n ≡ Some o) more (there (suc i) o h))) in
        λ i. head i ++ rest i

-- how many there are
length_sessions : (w : Listens) (past : List Record) (p : Port) (ss : List ℕ) → length (sessions_of w past p ss) ≡ length ss
length_sessions w past p [] = refl
length_sessions w past p (s ∷ ss) = ap suc (length_sessions w past p ss)

module _ (w : Listens) (past : List Record) {S : Type 0} (extent : S → ℕ) where
  pub counts_sessions : (items : List (code.Port S)) → TableStands crc_of w.timeout (frames w.own past) (states extent items) → count_in items ≡ length (sessions_on w past (ports_of (states extent items)))
  counts_sessions [] st = refl
  counts_sessions (q ∷ items) st =
      let p = port_of extent q in
      let es = q.sessions.entries in
      let ss = admitted p.kind p.port p.sources (frames w.own past) in
      let a : length es ≡ length (sessions_of w past p ss) = sym (length-entries es) ∙ (sym (length_sources (entries_of es)) ∙ (ap length st.0.sources_are ∙ sym (length_sessions w past p ss))) in
      let b = counts_sessions items st.1 in
      (λ i. a i + b i) ∙ sym (length-append (sessions_of w past p ss) (sessions_on w past (ports_of (states extent items))))

  pub few_sessions : (items : List (code.Port S)) → TableStands crc_of w.timeout (frames w.own past) (states extent items) → EachPort IsPort (ports_of (states extent items)) → count_in items ≤ 128 * length items
  few_sessions [] st each = omega arith
  few_sessions (q ∷ items) st each =
      let p = port_of extent q in
      let es = q.sessions.entries in
      let a : length es ≡ length (admitted p.kind p.port p.sources (frames w.own past)) = sym (length-entries es) ∙ (sym (length_sources (entries_of es)) ∙ ap length st.0.sources_are) in
      let b = admitted_few p.kind p.port p.sources (frames w.own past) in
      let d = each.0.few in
      let e = few_sessions items st.1 each.1 in omega arith
