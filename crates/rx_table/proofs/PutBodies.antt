-- The bytes of a whole transfer in front of the buffer of its session
use Rattle.std.proofs.Common.{◌≡◌, ◌∙◌, ℕ, ◌≤◌, false, List, [], ◌∷◌, zero, suc, Option, Some, None, length, take, slice_get, slice_set, refl, sym, ap, subst, arith}
use Rattle.std.proofs.lemmas.Bool.{true≢false}
use Rattle.std.specs.Map.{values_of}
use Rattle.indexmap.specs.IndexMap.{set_value_at}
use Rattle.tail_frame.specs.Chains.{KeyRecord}
use Rattle.cy_bits.specs.Put.{put_at}
use Rattle.transfer_crc.specs.Crc.{crc_of}
use Rattle.rx_session.specs.Session.{Session as Kept, Part, Delivered, put_idle, with_body}
use Rattle.rx_session.specs.Seen.{kept}
use Rattle.rx_session.specs.declared.session.Session.{Session}
use Rattle.rx_session.specs.declared.outcome.Step.TheVariants as step
use Rattle.rx_session.proofs.Buffers.{length_put}
use Rattle.rx_table.specs.Keys.{KeyedFrame}
use Rattle.rx_table.specs.Received.{Run}
use Rattle.rx_table.specs.Stands.{PartIs}
use Rattle.rx_table.specs.Ports.{Port, Entry, PortState, OfSession, is_of_session, sources_of, ports_of, EachStands, TableStands}
use Rattle.rx_table.specs.Places.{buffer_nth, met_nth, put_entry, put_nth, put_some, put_met, whole_index, table_answer}
use Rattle.rx_table.specs.Table.{EntriesHeard, HeardBy, IsTable, StandsFor, entries_of, port_of, state_of, states}
use Rattle.rx_table.specs.declared.port.Port as code
use Rattle.rx_table.specs.declared.fed.Met as code_met
use Rattle.rx_table.specs.declared.fed.PortMet as code_port_met
use Rattle.rx_table.proofs.NthPorts.{state_path}
use Rattle.rx_table.proofs.Simulation.{idle_part}

some_is : {X : Type 0} (x y : X) → Some x ≡ Some y → x ≡ y
some_is x y h = cc

length_idle : (part : Option Part) (buffer bytes : List ℕ) → length (put_idle part buffer bytes) ≡ length buffer
length_idle None buffer bytes = length_put buffer 0 bytes
length_idle (Some p) buffer bytes = refl

-- one session of a port

module _ {S : Type 0} (r : KeyRecord) where
  pub entries-put : (es : List (ℕ × Session S)) (i : ℕ) (w v : Session S) → slice_get (values_of es) i ≡ Some v
      → kept w ≡ with_body (kept v) r → entries_of (set_value_at es i w) ≡ put_entry (entries_of es) i r
  entries-put [] i w v h k = refl
  entries-put (e ∷ es) zero w v h k =
      ap (λ (s : Kept). record { source = e.0; session = s } ∷ entries_of es) (k ∙ ap (λ (x : Session S). with_body (kept x) r) (sym (some_is _ _ h)))
  entries-put (e ∷ es) (suc i) w v h k = ap (λ (t : List Entry). record { source = e.0; session = kept e.1 } ∷ t) (entries-put es i w v h k)

  pub entries-past : (es : List (ℕ × Session S)) (i : ℕ) → length es ≤ i → put_entry (entries_of es) i r ≡ entries_of es
  entries-past [] i le = refl
  entries-past (e ∷ es) zero le = absurd (omega arith)
  entries-past (e ∷ es) (suc i) le = ap (λ (t : List Entry). record { source = e.0; session = kept e.1 } ∷ t) (entries-past es i (omega arith))

module _ (r : KeyRecord) where
  sources-put : (es : List Entry) (i : ℕ) → sources_of (put_entry es i r) ≡ sources_of es
  sources-put [] i = refl
  sources-put (e ∷ es) zero = refl
  sources-put (e ∷ es) (suc i) = ap (λ (t : List ℕ). e.source ∷ t) (sources-put es i)

  buffer-put : (es : List Entry) (i : ℕ) → length (buffer_nth (put_entry es i r) i) ≡ length (buffer_nth es i)
  buffer-put [] i = refl
  buffer-put (e ∷ es) zero = length_idle e.session.part e.session.buffer r.body
  buffer-put (e ∷ es) (suc i) = buffer-put es i

  entries-heard : (now : ℕ) (es : List Entry) (i : ℕ) → EntriesHeard now es → EntriesHeard now (put_entry es i r)
  entries-heard now [] i x = tt
  entries-heard now (e ∷ es) zero x = x
  entries-heard now (e ∷ es) (suc i) x = (x.0, entries-heard now es i x.1)

  part-put : (part : Option Part) (buffer : List ℕ) (begun : Option Run) → PartIs crc_of part buffer begun → PartIs crc_of part (put_idle part buffer r.body) begun
  part-put None buffer begun h = idle_part crc_of None buffer (put_at buffer 0 r.body) begun refl h
  part-put (Some p) buffer begun h = h

  each-put : (timeout : ℕ) (p : Port) (log : List KeyedFrame) (es : List Entry) (i : ℕ) → EachStands crc_of timeout p log es → EachStands crc_of timeout p log (put_entry es i r)
  each-put timeout p log [] i x = tt
  each-put timeout p log (e ∷ es) zero x = (
    record { bus = x.0.bus; heard = x.0.heard; last = x.0.last; part = part-put e.session.part e.session.buffer _ x.0.part },
    length_idle e.session.part e.session.buffer r.body ∙ x.1,
    x.2,
  )
  each-put timeout p log (e ∷ es) (suc i) x = (x.0, x.1, each-put timeout p log es i x.2)

  -- all ports of a table

  ports-put : (ps : List PortState) (place i : ℕ) → ports_of (put_nth ps place i r) ≡ ports_of ps
  ports-put [] place i = refl
  ports-put (p ∷ ps) zero i = refl
  ports-put (p ∷ ps) (suc place) i = ap (λ (t : List Port). p.port ∷ t) (ports-put ps place i)

  heard-put : (now : ℕ) (ps : List PortState) (place i : ℕ) → HeardBy now ps → HeardBy now (put_nth ps place i r)
  heard-put now [] place i x = tt
  heard-put now (p ∷ ps) zero i x = (entries-heard now p.entries i x.0, x.1)
  heard-put now (p ∷ ps) (suc place) i x = (x.0, heard-put now ps place i x.1)

  table-put : (timeout : ℕ) (log : List KeyedFrame) (ps : List PortState) (place i : ℕ) → TableStands crc_of timeout log ps → TableStands crc_of timeout log (put_nth ps place i r)
  table-put timeout log [] place i x = tt
  table-put timeout log (p ∷ ps) zero i x = (
    record { sources_are = sources-put p.entries i ∙ x.0.sources_are; sessions = each-put timeout p.port log p.entries i x.0.sessions },
    x.1,
  )
  table-put timeout log (p ∷ ps) (suc place) i x = (x.0, table-put timeout log ps place i x.1)

  stands-nth : (timeout : ℕ) (log : List KeyedFrame) (ps : List PortState) (place i : ℕ) → StandsFor timeout log ps → StandsFor timeout log (put_nth ps place i r)
  stands-nth timeout log ps place i x = record {
    table = subst IsTable (sym (ports-put ps place i)) x.table;
    sessions = table-put timeout log ps place i x.sessions;
  }

  -- of a table of the code
  module _ {S : Type 0} (extent : S → ℕ) where
    pub set-put : (ports : List (code.Port S)) (i index : ℕ) (p q : code.Port S) → slice_get ports i ≡ Some p → port_of extent q ≡ port_of extent p → entries_of q.sessions.entries ≡ put_entry (entries_of p.sessions.entries) index r
        → states extent (slice_set ports i q) ≡ put_nth (states extent ports) i index r
    set-put [] i index p q h e f = absurd cc
    set-put (o ∷ ports) zero index p q h e f =
        ap (λ (s : PortState). s ∷ states extent ports) (state_path e f ∙ ap (λ (x : code.Port S). (let s : PortState = record { port = port_of extent x; entries = put_entry (entries_of x.sessions.entries) index r } in s)) (sym (some_is _ _ h)))
    set-put (o ∷ ports) (suc i) index p q h e f = ap (λ (t : List PortState). state_of extent o ∷ t) (set-put ports i index p q h e f)

    pub put-past : (ports : List (code.Port S)) (i index : ℕ) → length ports ≤ i → put_nth (states extent ports) i index r ≡ states extent ports
    put-past [] i index le = refl
    put-past (o ∷ ports) zero index le = absurd (omega arith)
    put-past (o ∷ ports) (suc i) index le = ap (λ (t : List PortState). state_of extent o ∷ t) (put-past ports i index (omega arith))

  -- by what the record came to

  abbrev ByMet : (List PortState → Type 0) → List PortState → code_met.Met → Type 0
  ByMet P ps met = P ps → ((place i : ℕ) → P (put_nth ps place i r)) → P (put_met ps r met)

  by-some : (P : List PortState → Type 0) (ps : List PortState) (place : ℕ) (o : Option ℕ) → P ps → ((place i : ℕ) → P (put_nth ps place i r)) → P (put_some ps place o r)
  by-some P ps place None x f = x
  by-some P ps place (Some i) x f = f place i

  by-met : (P : List PortState → Type 0) (ps : List PortState) (met : code_met.Met) → ByMet P ps met
  by-met P ps code_met.TheVariants.NoPort x f = x
  by-met P ps (code_met.TheVariants.Anonymous d) x f = x
  by-met P ps (code_met.TheVariants.Port place met) x f = by-some P ps place (whole_index met) x f

  pub stands-put : (timeout : ℕ) (log : List KeyedFrame) (ps : List PortState) (met : code_met.Met) → StandsFor timeout log ps → StandsFor timeout log (put_met ps r met)
  stands-put timeout log ps met x = by-met (StandsFor timeout log) ps met x (λ place i. stands-nth timeout log ps place i x)

  pub heard-met : (now : ℕ) (ps : List PortState) (met : code_met.Met) → HeardBy now ps → HeardBy now (put_met ps r met)
  heard-met now ps met x = by-met (HeardBy now) ps met x (λ place i. heard-put now ps place i x)

  -- it says the same of the record
  whole-told : (ps : List PortState) (place i : ℕ) → met_nth (put_nth ps place i r) place r (code_port_met.TheVariants.Session i step.Whole) ≡ met_nth ps place r (code_port_met.TheVariants.Session i step.Whole)
  whole-told [] place i = refl
  whole-told (p ∷ ps) zero i = ap (λ n. OfSession (Delivered r.bus r.priority r.tid r.line r.line r.moment (take n r.body))) (buffer-put p.entries i)
  whole-told (p ∷ ps) (suc place) i = whole-told ps place i

  opened-told : (ps : List PortState) (place i : ℕ) → met_nth (put_nth ps place i r) place r (code_port_met.TheVariants.Opened i step.Whole) ≡ met_nth ps place r (code_port_met.TheVariants.Opened i step.Whole)
  opened-told [] place i = refl
  opened-told (p ∷ ps) zero i = ap (λ n. OfSession (Delivered r.bus r.priority r.tid r.line r.line r.moment (take n r.body))) (buffer-put p.entries i)
  opened-told (p ∷ ps) (suc place) i = opened-told ps place i

  pub told-put : (ps : List PortState) (met : code_met.Met) → table_answer (put_met ps r met) r met ≡ table_answer ps r met
  told-put ps code_met.TheVariants.NoPort = refl
  told-put ps (code_met.TheVariants.Anonymous d) = refl
  told-put ps (code_met.TheVariants.Port place code_port_met.TheVariants.NoSession) = refl
  told-put ps (code_met.TheVariants.Port place code_port_met.TheVariants.Ignored) = refl
  told-put ps (code_met.TheVariants.Port place (code_port_met.TheVariants.Session i step.Ignored)) = refl
  told-put ps (code_met.TheVariants.Port place (code_port_met.TheVariants.Session i step.Held)) = refl
  told-put ps (code_met.TheVariants.Port place (code_port_met.TheVariants.Session i step.BadCrc)) = refl
  told-put ps (code_met.TheVariants.Port place (code_port_met.TheVariants.Session i step.Whole)) = whole-told ps place i
  told-put ps (code_met.TheVariants.Port place (code_port_met.TheVariants.Session i (step.Delivered b))) = refl
  told-put ps (code_met.TheVariants.Port place (code_port_met.TheVariants.Opened i step.Ignored)) = refl
  told-put ps (code_met.TheVariants.Port place (code_port_met.TheVariants.Opened i step.Held)) = refl
  told-put ps (code_met.TheVariants.Port place (code_port_met.TheVariants.Opened i step.BadCrc)) = refl
  told-put ps (code_met.TheVariants.Port place (code_port_met.TheVariants.Opened i step.Whole)) = opened-told ps place i
  told-put ps (code_met.TheVariants.Port place (code_port_met.TheVariants.Opened i (step.Delivered b))) = refl

  -- and where no session answers, nothing is put
  whole-idle : (ps : List PortState) (place i : ℕ) → is_of_session (met_nth ps place r (code_port_met.TheVariants.Session i step.Whole)) ≡ false → put_nth ps place i r ≡ ps
  whole-idle [] place i h = refl
  whole-idle (p ∷ ps) zero i h = absurd (true≢false h)
  whole-idle (p ∷ ps) (suc place) i h = ap (λ (t : List PortState). p ∷ t) (whole-idle ps place i h)

  opened-idle : (ps : List PortState) (place i : ℕ) → is_of_session (met_nth ps place r (code_port_met.TheVariants.Opened i step.Whole)) ≡ false → put_nth ps place i r ≡ ps
  opened-idle [] place i h = refl
  opened-idle (p ∷ ps) zero i h = absurd (true≢false h)
  opened-idle (p ∷ ps) (suc place) i h = ap (λ (t : List PortState). p ∷ t) (opened-idle ps place i h)

  pub idle-put : (ps : List PortState) (met : code_met.Met) → is_of_session (table_answer ps r met) ≡ false → put_met ps r met ≡ ps
  idle-put ps code_met.TheVariants.NoPort h = refl
  idle-put ps (code_met.TheVariants.Anonymous d) h = refl
  idle-put ps (code_met.TheVariants.Port place code_port_met.TheVariants.NoSession) h = refl
  idle-put ps (code_met.TheVariants.Port place code_port_met.TheVariants.Ignored) h = refl
  idle-put ps (code_met.TheVariants.Port place (code_port_met.TheVariants.Session i step.Ignored)) h = refl
  idle-put ps (code_met.TheVariants.Port place (code_port_met.TheVariants.Session i step.Held)) h = refl
  idle-put ps (code_met.TheVariants.Port place (code_port_met.TheVariants.Session i step.BadCrc)) h = refl
  idle-put ps (code_met.TheVariants.Port place (code_port_met.TheVariants.Session i step.Whole)) h = whole-idle ps place i h
  idle-put ps (code_met.TheVariants.Port place (code_port_met.TheVariants.Session i (step.Delivered b))) h = refl
  idle-put ps (code_met.TheVariants.Port place (code_port_met.TheVariants.Opened i step.Ignored)) h = refl
  idle-put ps (code_met.TheVariants.Port place (code_port_met.TheVariants.Opened i step.Held)) h = refl
  idle-put ps (code_met.TheVariants.Port place (code_port_met.TheVariants.Opened i step.BadCrc)) h = refl
  idle-put ps (code_met.TheVariants.Port place (code_port_met.TheVariants.Opened i step.Whole)) h = opened-idle ps place i h
  idle-put ps (code_met.TheVariants.Port place (code_port_met.TheVariants.Opened i (step.Delivered b))) h = refl
