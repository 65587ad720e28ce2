-- The sessions of one port keep what they stand for.
use Rattle.std.proofs.Common.{◌≡◌, ℕ, suc, ◌+◌, ◌^◌, ◌<◌, true, false, cond, not, ◌&&◌, eqb, ltb, List, [], ◌∷◌, ◌++◌, length, take, Some, None, refl, sym, ap, ◌∙◌, subst, inl, inr, take_all, length-append, length-take, arith}
use Rattle.std.proofs.lemmas.Bool.{eqb-true, eqb-false, eq-eqb, and_parts, and_from, and_left, and_right, and_cases, or_left, or_right, cond-true, cond-false, cond_both, both_ways, not_from_true, not_from_false, ltb-true, ltb-false}
use Rattle.std.proofs.lemmas.List.{take-append-le, length-replicate}
use Rattle.tail_frame.specs.Chains.{KeyRecord, AtEach}
use Rattle.rx_session.specs.Session.{Session, Outcome, Ignored, in_frame, after_hear, advance}
use Rattle.rx_table.specs.Keys.{KeyedFrame, bears_on, history}
use Rattle.rx_table.specs.Admitted.{has, is_on, sources, key_of}
use Rattle.rx_table.specs.Stands.{Stands}
use Rattle.rx_table.specs.Ports.{Port, Entry, open_session, sources_of, advance_at, feed_port, EachStands, PortStands}
use Rattle.rx_table.proofs.Simulation.{advances}
use Rattle.rx_table.proofs.Sources.{has_take, bears, not_bears, off_bears, no_start}

pub length_sources : (es : List Entry) → length (sources_of es) ≡ length es
length_sources [] = refl
length_sources (e ∷ es) = ap suc (length_sources es)

pub sources_append : (es : List Entry) (e : Entry) → sources_of (es ++ e ∷ []) ≡ sources_of es ++ e.source ∷ []
sources_append [] e = refl
sources_append (d ∷ es) e = ap (λ ss. d.source ∷ ss) (sources_append es e)

-- while there is room, a source without a session has no start frame
pub unknown : (count src : ℕ) (rest : List ℕ) (es : List Entry) → sources_of es ≡ take count rest → length es < count → has src (sources_of es) ≡ false → has src rest ≡ false
unknown count src rest es e room absent =
    let sized : length es ≡ length (take count rest) = sym (length_sources es) ∙ ap length e in
    let cut = length-take count rest in
    let whole : take count rest ≡ rest = take_all count rest (omega arith) in
    ap (has src) (sym whole ∙ sym e) ∙ absent

module _ (crc_more : ℕ → List ℕ → ℕ) (crc_start timeout : ℕ) (crc_append : (c : ℕ) (a b : List ℕ) → crc_more c (a ++ b) ≡ crc_more (crc_more c a) b) (port : Port) (small : port.extent + 2 < 2 ^ 64) where
  pub open_size : length (open_session port.extent).buffer ≡ port.extent
  open_size = length-replicate port.extent 0

  -- a session that was just opened stands for records with no start frame
  pub opened : (h : List KeyRecord) → AtEach (λ r _. r.start ≡ false) h → Stands (crc_more crc_start) timeout h (open_session port.extent)
  opened [] x = record { bus = refl; heard = refl; last = refl; part = refl }
  opened (r ∷ past) x =
      let st = advances crc_more crc_start timeout crc_append past r (open_session port.extent) (let size = open_size in omega arith) (opened past x.1) in
      let same : advance crc_more crc_start timeout (open_session port.extent) r ≡ (open_session port.extent, Ignored) =
      ap (λ o. in_frame (open_session port.extent).buffer r (after_hear crc_more crc_start timeout (open_session port.extent) o r)) (cond-false r.start (Some false) None x.0) in
      subst (λ (y : Session × Outcome). Stands (crc_more crc_start) timeout (r ∷ past) y.0) same st.0

  abbrev TheStands : List KeyedFrame → List Entry → Type 0
  TheStands log es = EachStands (crc_more crc_start) timeout port log es

  -- a frame of none of these sources
  pub each_same : (f : KeyedFrame) (log : List KeyedFrame) (es : List Entry) → ((s : ℕ) → has s (sources_of es) ≡ true → bears_on (key_of port.kind port.port s) f ≡ false) → TheStands log es → TheStands (f ∷ log) es
  each_same f log [] n x = tt
  each_same f log (e ∷ es) n x = (
    subst (λ h. Stands (crc_more crc_start) timeout h e.session) (sym (cond-false (bears_on (key_of port.kind port.port e.source) f) (f.rec ∷ history (key_of port.kind port.port e.source) log) (history (key_of port.kind port.port e.source) log) (n e.source (or_left (eqb e.source e.source) (has e.source (sources_of es)) (eq-eqb e.source e.source refl))))) x.0,
    x.1,
    each_same f log es (λ s h. n s (or_right (eqb e.source s) (has s (sources_of es)) h)) x.2,
  )

  -- a frame of one of them
  pub each_fed : (f : KeyedFrame) (log : List KeyedFrame) → is_on port.kind port.port f ≡ true → (es : List Entry) → TheStands log es → TheStands (f ∷ log) (advance_at crc_more crc_start timeout f.key.source f.rec es)
  each_fed f log on [] x = tt
  each_fed f log on (e ∷ es) x =
      let k = key_of port.kind port.port e.source in (
        cond_both (eqb e.source f.key.source) (record { source = e.source; session = (advance crc_more crc_start timeout e.session f.rec).0 }) e (λ (d : Entry). Stands (crc_more crc_start) timeout (history (key_of port.kind port.port d.source) (f ∷ log)) d.session)
            (λ y.
            subst (λ h. Stands (crc_more crc_start) timeout h (advance crc_more crc_start timeout e.session f.rec).0) (sym (cond-true (bears_on k f) (f.rec ∷ history k log) (history k log) (bears port.kind port.port e.source f on (sym (eqb-true e.source f.key.source y)))))
            (advances crc_more crc_start timeout crc_append (history k log) f.rec e.session (let size = x.1 in omega arith) x.0).0)
            (λ n.
            subst (λ h. Stands (crc_more crc_start) timeout h e.session) (sym (cond-false (bears_on k f) (f.rec ∷ history k log) (history k log) (not_bears port.kind port.port e.source f (λ q. eqb-false e.source f.key.source n (sym q))))) x.0),
        cond_both (eqb e.source f.key.source) (record { source = e.source; session = (advance crc_more crc_start timeout e.session f.rec).0 }) e (λ (d : Entry). length d.session.buffer ≡ port.extent)
            (λ _. (advances crc_more crc_start timeout crc_append (history k log) f.rec e.session (let size = x.1 in omega arith) x.0).1 ∙ x.1) (λ _. x.1),
        each_fed f log on es x.2,
      )

  pub sources_fed : (source : ℕ) (r : KeyRecord) (es : List Entry) → sources_of (advance_at crc_more crc_start timeout source r es) ≡ sources_of es
  sources_fed source r [] = refl
  sources_fed source r (e ∷ es) =
      cond_both (eqb e.source source) (record { source = e.source; session = (advance crc_more crc_start timeout e.session r).0 }) e (λ (d : Entry). d.source ∷ sources_of (advance_at crc_more crc_start timeout source r es) ≡ e.source ∷ sources_of es)
      (λ _. ap (λ ss. e.source ∷ ss) (sources_fed source r es)) (λ _. ap (λ ss. e.source ∷ ss) (sources_fed source r es))

  pub each_append : (log : List KeyedFrame) (es : List Entry) (e : Entry) → TheStands log es → Stands (crc_more crc_start) timeout (history (key_of port.kind port.port e.source) log) e.session → length e.session.buffer ≡ port.extent → TheStands log (es ++ e ∷ [])
  each_append log [] e x y z = (y, z, tt)
  each_append log (d ∷ es) e x y z = (x.0, x.1, each_append log es e x.2 y z)

  pub port_step : (log : List KeyedFrame) (es : List Entry) (f : KeyedFrame) → PortStands (crc_more crc_start) timeout port log es → PortStands (crc_more crc_start) timeout port (f ∷ log) (feed_port crc_more crc_start timeout port es f)
  port_step log es f st =
      let src = f.key.source in
      let rest = sources port.kind port.port log in
      let on = is_on port.kind port.port f in
      let grows = on && (f.rec.start && not (has src rest)) in
      let new : Entry = record { source = src; session = (advance crc_more crc_start timeout (open_session port.extent) f.rec).0 } in
      let stays = λ (g : grows ≡ false). st.sources_are ∙ ap (take port.sources) (sym (cond-false grows (rest ++ src ∷ []) rest g)) in
      let sized : length es ≡ length (take port.sources rest) = sym (length_sources es) ∙ ap length st.sources_are in
      let cut = length-take port.sources rest in
      cond_both on (cond (has src (sources_of es)) (advance_at crc_more crc_start timeout src f.rec es) (cond (f.rec.start && ltb (length es) port.sources) (es ++ new ∷ []) es)) es
      (PortStands (crc_more crc_start) timeout port (f ∷ log))
      (λ y.
      cond_both (has src (sources_of es)) (advance_at crc_more crc_start timeout src f.rec es) (cond (f.rec.start && ltb (length es) port.sources) (es ++ new ∷ []) es)
      (PortStands (crc_more crc_start) timeout port (f ∷ log))
      (λ there.
      let known = has_take src port.sources rest (ap (has src) (sym st.sources_are) ∙ there) in
      record {
        sources_are = sources_fed src f.rec es ∙ stays (and_right on (f.rec.start && not (has src rest)) (and_right f.rec.start (not (has src rest)) (not_from_true (has src rest) known)));
        sessions = each_fed f log y es st.sessions;
      })
      (λ absent.
      let others = each_same f log es (λ s h. not_bears port.kind port.port s f (λ q. both_ways (has src (sources_of es)) absent (subst (λ t. has t (sources_of es) ≡ true) (sym q) h))) st.sessions in
      cond_both (f.rec.start && ltb (length es) port.sources) (es ++ new ∷ []) es (PortStands (crc_more crc_start) timeout port (f ∷ log))
      (λ z.
      let p = and_parts f.rec.start (ltb (length es) port.sources) z in
      let room = ltb-true (length es) port.sources p.1 in
      let whole : take port.sources rest ≡ rest = take_all port.sources rest (omega arith) in
      let unknown : has src rest ≡ false = ap (has src) (sym whole ∙ sym st.sources_are) ∙ absent in
      let up = and_from on (f.rec.start && not (has src rest)) y (and_from f.rec.start (not (has src rest)) p.0 (not_from_false (has src rest) unknown)) in
      let k = key_of port.kind port.port src in
      let longer = length-append rest (src ∷ []) in
      record {
        sources_are =
            sources_append es new ∙ (ap (λ ss. ss ++ src ∷ []) (st.sources_are ∙ whole)
            ∙ (sym (take_all port.sources (rest ++ src ∷ []) (omega (arith, ap length whole))) ∙ ap (take port.sources) (sym (cond-true grows (rest ++ src ∷ []) rest up))));
        sessions =
            each_append (f ∷ log) es new others
            (subst (λ h. Stands (crc_more crc_start) timeout h new.session) (sym (cond-true (bears_on k f) (f.rec ∷ history k log) (history k log) (bears port.kind port.port src f y refl)))
            (advances crc_more crc_start timeout crc_append (history k log) f.rec (open_session port.extent) (let size = open_size in omega arith) (opened (history k log) (no_start port.kind port.port src log unknown))).0)
            ((advances crc_more crc_start timeout crc_append (history k log) f.rec (open_session port.extent) (let size = open_size in omega arith) (opened (history k log) (no_start port.kind port.port src log unknown))).1 ∙ open_size);
      })
      (λ z.
      record {
        sources_are =
            elim (and_cases f.rec.start (ltb (length es) port.sources) z) [
              | inl n ↦ stays (and_right on (f.rec.start && not (has src rest)) (and_left f.rec.start (not (has src rest)) n))
              | inr full ↦
                  let le = ltb-false (length es) port.sources full in
                  st.sources_are ∙ sym (cond_both grows (rest ++ src ∷ []) rest (λ ss. take port.sources ss ≡ take port.sources rest) (λ _. take-append-le port.sources rest (src ∷ []) (omega arith)) (λ _. refl))
            ];
        sessions = others;
      })))
      (λ n.
      record {
        sources_are = stays (and_left on (f.rec.start && not (has src rest)) n);
        sessions = each_same f log es (λ s _. off_bears port.kind port.port s f n) st.sessions;
      })
