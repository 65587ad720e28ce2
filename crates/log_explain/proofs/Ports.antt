-- What a port's sessions say of a frame is what its log says.
use Rattle.std.proofs.Common.{◌≡◌, ◌∙◌, ℕ, ◌+◌, ◌^◌, ◌<◌, Bool, true, false, cond, not, ◌&&◌, eqb, nat_lt, List, [], ◌∷◌, ◌++◌, length, zero, suc, Option, Some, None, refl, sym, ap, subst, inl, inr, position, nat_eq, slice_get}
use Rattle.std.proofs.lemmas.Bool.{cases_Bool, eqb-true, eq-eqb, and_from, and_left, and_right, or_left, or_right, cond-true, cond-false, ltb-true, not_from_true, not_from_false}
use Rattle.tail_frame.specs.Chains.{KeyRecord}
use Rattle.transfer_crc.specs.Crc.{crc_more, crc_of}
use Rattle.transfer_crc.proofs.Rows.{crc_more-append}
use Rattle.rx_session.specs.Session.{Session as KeptSession, advance}
use Rattle.rx_session.specs.Seen.{kept}
use Rattle.rx_session.specs.declared.session.Session.{Session}
use Rattle.rx_table.specs.Admitted.{has, is_on, sources, key_of}
use Rattle.rx_table.specs.Keys.{KeyedFrame, history}
use Rattle.rx_table.specs.Ports.{Port, Entry, open_session, sources_of, feed_port, is_admitted, advance_at, EachStands, PortStands}
use Rattle.rx_table.specs.Received.{received}
use Rattle.rx_table.specs.Stands.{Stands}
use Rattle.rx_table.specs.Table.{entries_of}
use Rattle.rx_table.proofs.Admissions.{admitted_lasts}
use Rattle.rx_table.proofs.Entries.{opened, port_step, sources_append, unknown}
use Rattle.rx_table.proofs.Positions.{position-further, position-here, position-lowered}
use Rattle.rx_table.proofs.Sources.{same_kind_refl, has_append, no_start, quiet}
use Rattle.log_explain.specs.Asked.{frame_on, IsLastOn}
use Rattle.log_explain.specs.Reasons.{begun_reason, last_line, no_change, of_key, of_source}
use Rattle.log_explain.specs.Told.{told, told_heard, told_new}
use Rattle.log_explain.specs.declared.reasons.reason.Reason.TheVariants.{NoSession, StrayNone, Unknown}
use Rattle.log_explain.proofs.Sessions.{told_is}

some_is : {X : Type 0} (x y : X) → Some x ≡ Some y → x ≡ y
some_is x y h = cc

-- the session at a place stands for the records of its source
pub stands_nth : {S : Type 0} (timeout : ℕ) (p : Port) (log : List KeyedFrame) (es : List (ℕ × Session S)) (i : ℕ) (e : ℕ × Session S) → EachStands crc_of timeout p log (entries_of es) → slice_get es i ≡ Some e → Stands crc_of timeout (history (key_of p.kind p.port e.0) log) (kept e.1)
stands_nth timeout p log [] i e st h = absurd cc
stands_nth {S} timeout p log (x ∷ es) zero e st h = subst (λ (d : ℕ × Session S). Stands crc_of timeout (history (key_of p.kind p.port d.0) log) (kept d.1)) (some_is x e h) st.0
stands_nth timeout p log (x ∷ es) (suc i) e st h = stands_nth timeout p log es i e st.2 h

-- the entry at the place of a source is that source's
pub key_nth : {S : Type 0} (source : ℕ) (es : List (ℕ × Session S)) (i : ℕ) (e : ℕ × Session S) → position (nat_eq source) (sources_of (entries_of es)) ≡ Some i → slice_get es i ≡ Some e → source ≡ e.0
key_nth source [] i e h g = absurd cc
key_nth {S} source (x ∷ es) i e h g = go (λ j k l. key_nth source es j e k l) (nat_eq source x.0) refl
  where
    go : ((j : ℕ) → position (nat_eq source) (sources_of (entries_of es)) ≡ Some j → slice_get es j ≡ Some e → source ≡ e.0) → (b : Bool) → nat_eq source x.0 ≡ b → source ≡ e.0
    go more true t =
        let at : i ≡ 0 = let k : Some 0 ≡ Some i = sym (position-here (nat_eq source) x.0 (sources_of (entries_of es)) t) ∙ h in cc in
        let here : slice_get (x ∷ es) 0 ≡ Some e = subst (λ (n : ℕ). slice_get (x ∷ es) n ≡ Some e) at g in
        eqb-true source x.0 t ∙ ap (λ (d : ℕ × Session S). d.0) (some_is x e here)
    go more false t =
        let k = position-lowered (position (nat_eq source) (sources_of (entries_of es))) i (sym (position-further (nat_eq source) x.0 (sources_of (entries_of es)) t) ∙ h) in
        more k.0 k.1 (subst (λ (n : ℕ). slice_get (x ∷ es) n ≡ Some e) k.2 g)

-- the source at a place has a session
pub has_nth : {S : Type 0} (es : List (ℕ × Session S)) (i : ℕ) (e : ℕ × Session S) → slice_get es i ≡ Some e → has e.0 (sources_of (entries_of es)) ≡ true
has_nth [] i e h = absurd cc
has_nth {S} (x ∷ es) zero e h = or_left (eqb x.0 e.0) (has e.0 (sources_of (entries_of es))) (eq-eqb x.0 e.0 (ap (λ (d : ℕ × Session S). d.0) (some_is x e h)))
has_nth (x ∷ es) (suc i) e h = or_right (eqb x.0 e.0) (has e.0 (sources_of (entries_of es))) (has_nth es i e h)

-- what a session says that has heard nothing
told_fresh : (timeout extent : ℕ) (r : KeyRecord) → r.start ≡ true → told timeout 0 (open_session extent) r ≡ begun_reason r no_change
told_fresh timeout extent r y =
    ap (λ (o : Option Bool). told_heard 0 (open_session extent) r o) (cond-true r.start (Some false) None y)
    ∙ cond-false (not r.start) StrayNone (begun_reason r no_change) (not_from_true r.start y)

module _ (timeout : ℕ) (p : Port) (small : p.extent + 2 < 2 ^ 64) (source : ℕ) (r : KeyRecord) (log : List KeyedFrame) (es : List Entry) (st : PortStands crc_of timeout p log es) where
  abbrev k : KeyedFrame
  k = frame_on p.kind p.port source r

  on : is_on p.kind p.port k ≡ true
  on = and_from _ (eqb p.port p.port) (same_kind_refl p.kind) (eq-eqb p.port p.port refl)

  known : has source (sources_of es) ≡ true → is_admitted p k log ≡ true
  known h = admitted_lasts.stays p.kind p.port p.sources source (k ∷ []) log (ap (has source) (sym st.sources_are) ∙ h)

  -- a source that has a session
  pub known_reason : (last : ℕ) (s : KeptSession) → has source (sources_of es) ≡ true → Stands crc_of timeout (history (key_of p.kind p.port source) log) s → IsLastOn timeout p k log last → told timeout last s r ≡ of_source timeout p k log
  known_reason last s h at l =
      told_is timeout last r (history k.key log) s at (l (ap (has source) (sym st.sources_are) ∙ h))
      ∙ sym (cond-true (is_admitted p k log) (of_key crc_of timeout r (history k.key log)) (cond r.start NoSession Unknown) (known h))

  -- a source that has none
  module _ (absent : has source (sources_of es) ≡ false) where
    abbrev new : Entry
    new = record { source = source; session = (advance crc_more 0xFFFF timeout (open_session p.extent) r).0 }

    abbrev opens : Bool
    opens = r.start && nat_lt (length es) p.sources

    fed_is : feed_port crc_more 0xFFFF timeout p es k ≡ cond opens (es ++ new ∷ []) es
    fed_is =
        cond-true (is_on p.kind p.port k) (cond (has source (sources_of es)) (advance_at crc_more 0xFFFF timeout source r es) (cond opens (es ++ new ∷ []) es)) es on
        ∙ cond-false (has source (sources_of es)) (advance_at crc_more 0xFFFF timeout source r es) (cond opens (es ++ new ∷ []) es) absent

    after : PortStands crc_of timeout p (k ∷ log) (cond opens (es ++ new ∷ []) es)
    after = subst (PortStands crc_of timeout p (k ∷ log)) fed_is (port_step crc_more 0xFFFF timeout crc_more-append p small log es k st)

    refused : opens ≡ false → is_admitted p k log ≡ false
    refused n = ap (has source) (sym after.sources_are) ∙ (ap (λ (t : List Entry). has source (sources_of t)) (cond-false opens (es ++ new ∷ []) es n) ∙ absent)

    opened_for : opens ≡ true → is_admitted p k log ≡ true
    opened_for y =
        ap (has source) (sym after.sources_are)
        ∙ (ap (λ (t : List Entry). has source (sources_of t)) (cond-true opens (es ++ new ∷ []) es y)
        ∙ (ap (has source) (sources_append es new) ∙ (has_append source source (sources_of es) ∙ or_right (has source (sources_of es)) (eqb source source) (eq-eqb source source refl))))

    first_reason : r.start ≡ true → nat_lt (length es) p.sources ≡ true → begun_reason r no_change ≡ of_key crc_of timeout r (history k.key log)
    first_reason y room =
        let h = history k.key log in
        let none : has source (sources p.kind p.port log) ≡ false = unknown p.sources source (sources p.kind p.port log) es st.sources_are (ltb-true (length es) p.sources room) absent in
        let at : Stands crc_of timeout h (open_session p.extent) = opened crc_more 0xFFFF timeout crc_more-append p small h (no_start p.kind p.port source log none) in
        let zero_is : 0 ≡ last_line (received crc_of timeout h).delivered = ap last_line (sym (quiet crc_of timeout p.kind p.port source log none)) in
        let fresh : told timeout 0 (open_session p.extent) r ≡ begun_reason r no_change =
        told_fresh timeout p.extent r y in
        sym fresh ∙ told_is timeout 0 r h (open_session p.extent) at zero_is

    pub new_reason : told_new (length es) p.sources r ≡ of_source timeout p k log
    new_reason =
        let lt = nat_lt (length es) p.sources in
        let of = of_key crc_of timeout r (history k.key log) in
        let adm = is_admitted p k log in
        elim (cases_Bool r.start) as (λ _. cond (not r.start) Unknown (cond lt (begun_reason r no_change) NoSession) ≡ cond adm of (cond r.start NoSession Unknown)) [
          | inr n ↦
              cond-true (not r.start) Unknown (cond lt (begun_reason r no_change) NoSession) (not_from_false r.start n)
              ∙ sym (cond-false adm of (cond r.start NoSession Unknown) (refused (and_left r.start lt n)) ∙ cond-false r.start NoSession Unknown n)
          | inl y ↦
              cond-false (not r.start) Unknown (cond lt (begun_reason r no_change) NoSession) (not_from_true r.start y)
              ∙ (elim (cases_Bool lt) as (λ _. cond lt (begun_reason r no_change) NoSession ≡ cond adm of (cond r.start NoSession Unknown)) [
                | inl room ↦
                    cond-true lt (begun_reason r no_change) NoSession room
                    ∙ (first_reason y room ∙ sym (cond-true adm of (cond r.start NoSession Unknown) (opened_for (and_from r.start lt y room))))
                | inr full ↦
                    cond-false lt (begun_reason r no_change) NoSession full
                    ∙ sym (cond-false adm of (cond r.start NoSession Unknown) (refused (and_right r.start lt full)) ∙ cond-true r.start NoSession Unknown y)
              ])
        ]
