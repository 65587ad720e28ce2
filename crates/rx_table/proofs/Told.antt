-- What a table tells of a frame, and what it stands for after it.
use Rattle.std.proofs.Common.{◌≡◌, ◌∙◌, ℕ, ◌+◌, ◌^◌, ◌<◌, List, [], ◌∷◌, Option, Some, None, refl, sym, ap, subst, arith}
use Rattle.can_id.specs.Identifiers.{key_of as key_of_ident}
use Rattle.can_id.specs.declared.key.Key.{Key}
use Rattle.tail_frame.specs.Frames.{FrameOf, key_record}
use Rattle.transfer_crc.specs.Crc.{crc_more, crc_of}
use Rattle.transfer_crc.proofs.Rows.{crc_more-append}
use Rattle.rx_table.specs.Keys.{KeyedFrame}
use Rattle.rx_table.specs.Admitted.{key_of}
use Rattle.rx_table.specs.Ports.{Port, PortState, Answer, NoPort, Anonymous, ports_of, port_at, feed_table, AnswerAt}
use Rattle.rx_table.specs.Laws.{EachPort}
use Rattle.rx_table.specs.Places.{feed_nth, answer_nth, AddsNth}
use Rattle.rx_table.specs.Table.{IsPort, IsTable, StandsFor, keyed, with_source, log_with, logged, whole, port_on, ToldAt, Told, OpensAt, Opens}
use Rattle.rx_table.proofs.Tables.{table_simulates, feeds_none}
use Rattle.rx_table.proofs.FoundPorts.{FoundAt, feed-found, answer-found, opens-found}

small-each : (ports : List Port) → EachPort IsPort ports → EachPort (λ p. p.extent + 2 < 2 ^ 64) ports
small-each [] x = tt
small-each (p ∷ ports) x = (let small = x.0.small in omega arith, small-each ports x.1)

-- after a frame with a key
module _ (timeout : ℕ) (log : List KeyedFrame) (ps : List PortState) (st : StandsFor timeout log ps) (k : KeyedFrame) where
  abbrev small : EachPort (λ p. p.extent + 2 < 2 ^ 64) (ports_of ps)
  small = small-each (ports_of ps) st.table.each

  stands-keyed : StandsFor timeout (k ∷ log) (feed_table crc_more 0xFFFF timeout ps k)
  stands-keyed =
      let x = table_simulates crc_more 0xFFFF timeout crc_more-append log ps k small st.sessions in
      record { table = subst (λ (ports : List Port). IsTable ports) (sym x.1) st.table; sessions = x.0 }

module _ (timeout : ℕ) (f : FrameOf) (key : Key) (is : key ≡ key_of_ident f.ident) (ps : List PortState) where
  keyed-some : (source : ℕ) → key.source ≡ Some source → keyed f ≡ Some (record { key = key_of key.kind key.port source; rec = key_record f })
  keyed-some source e =
      ap (λ (k : Key). with_source k.kind k.port k.source f) (sym is) ∙ ap (λ (o : Option ℕ). with_source key.kind key.port o f) e

  keyed-none : key.source ≡ None → keyed f ≡ None
  keyed-none e = ap (λ (k : Key). with_source k.kind k.port k.source f) (sym is) ∙ ap (λ (o : Option ℕ). with_source key.kind key.port o f) e

  on_port : port_on (ports_of ps) f ≡ port_at key.kind key.port (ports_of ps)
  on_port = ap (λ (k : Key). port_at k.kind k.port (ports_of ps)) (sym is)

  -- on no port
  told_nowhere : (o : Option KeyedFrame) (log : List KeyedFrame) → ToldAt timeout None f o log NoPort
  told_nowhere None log = refl
  told_nowhere (Some k) log = refl

  pub told-none : (log : List KeyedFrame) → port_at key.kind key.port (ports_of ps) ≡ None → Told timeout (ports_of ps) f log NoPort
  told-none log e = subst (λ (o : Option Port). ToldAt timeout o f (keyed f) log NoPort) (sym (on_port ∙ e)) (told_nowhere (keyed f) log)

  stands_nowhere : (log : List KeyedFrame) (source : Option ℕ) → port_at key.kind key.port (ports_of ps) ≡ None → StandsFor timeout log ps → StandsFor timeout (log_with (with_source key.kind key.port source f) log) ps
  stands_nowhere log None e st = st
  stands_nowhere log (Some source) e st =
      let k : KeyedFrame = record { key = key_of key.kind key.port source; rec = key_record f } in
      subst (λ (qs : List PortState). StandsFor timeout (k ∷ log) qs) (feeds_none crc_more 0xFFFF timeout ps k e) (stands-keyed timeout log ps st k)

  pub stands-none : (log : List KeyedFrame) → port_at key.kind key.port (ports_of ps) ≡ None → StandsFor timeout log ps → StandsFor timeout (logged f log) ps
  stands-none log e st =
      subst (λ (k : Key). StandsFor timeout (log_with (with_source k.kind k.port k.source f) log) ps) is (stands_nowhere log key.source e st)

  -- an anonymous frame
  pub stands-anonymous : (log : List KeyedFrame) → key.source ≡ None → StandsFor timeout log ps → StandsFor timeout (logged f log) ps
  stands-anonymous log e st = subst (λ (o : Option KeyedFrame). StandsFor timeout (log_with o log) ps) (sym (keyed-none e)) st

  pub told-anonymous : (log : List KeyedFrame) (p : Port) → key.source ≡ None → port_at key.kind key.port (ports_of ps) ≡ Some p → Told timeout (ports_of ps) f log (Anonymous (whole f p.extent))
  told-anonymous log p e at =
      subst (λ (o : Option Port). ToldAt timeout o f (keyed f) log (Anonymous (whole f p.extent))) (sym (on_port ∙ at))
      (subst (λ (o : Option KeyedFrame). ToldAt timeout (Some p) f o log (Anonymous (whole f p.extent))) (sym (keyed-none e)) refl)

  -- a frame with a source, on the port at a place
  module _ (log : List KeyedFrame) (i source : ℕ) (e : key.source ≡ Some source) (at : FoundAt key.kind key.port ps i) (st : StandsFor timeout log ps) where
    abbrev k : KeyedFrame
    k = record { key = key_of key.kind key.port source; rec = key_record f }

    pub stands-found : StandsFor timeout (logged f log) (feed_nth timeout ps i source (key_record f))
    stands-found =
        subst (λ (o : Option KeyedFrame). StandsFor timeout (log_with o log) (feed_nth timeout ps i source (key_record f))) (sym (keyed-some source e))
        (subst (λ (qs : List PortState). StandsFor timeout (k ∷ log) qs) (sym (feed-found timeout k ps i st.table.distinct at)) (stands-keyed timeout log ps st k))

    pub told-found : Told timeout (ports_of ps) f log (answer_nth timeout ps i source (key_record f))
    told-found =
        let x = table_simulates crc_more 0xFFFF timeout crc_more-append log ps k (small timeout log ps st k) st.sessions in
        subst (λ (o : Option KeyedFrame). ToldAt timeout (port_on (ports_of ps) f) f o log (answer_nth timeout ps i source (key_record f))) (sym (keyed-some source e))
        (subst (λ (o : Option Port). ToldAt timeout o f (Some k) log (answer_nth timeout ps i source (key_record f))) (sym on_port)
        (subst (λ (answer : Answer). AnswerAt crc_of timeout (port_at key.kind key.port (ports_of ps)) k log answer) (sym (answer-found timeout k ps i at)) x.2))

    pub opens_found : AddsNth ps i source (key_record f) → Opens (ports_of ps) f log
    opens_found a =
        subst (λ (o : Option KeyedFrame). OpensAt (port_on (ports_of ps) f) o log) (sym (keyed-some source e))
        (subst (λ (o : Option Port). OpensAt o (Some k) log) (sym on_port) (opens-found timeout k log ps i (small timeout log ps st k) st.sessions at a))
