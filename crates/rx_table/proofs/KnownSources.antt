-- A source by its place among a port's sources.
use Rattle.std.proofs.Common.{◌≡◌, ◌∙◌, ℕ, List, [], ◌∷◌, ◌||◌, Bool, true, false, eqb, Some, None, refl, sym, ap, map, option_map, position, nat_eq, zero, suc, slice_get}
use Rattle.std.specs.List.{IsDistinct, AllByRecursion}
use Rattle.std.proofs.lemmas.Bool.{eqb-true, eq-eqb, eqb-false, ne_eqb, cond-true, cond-false, or_left, or_right}
use Rattle.tail_frame.specs.Chains.{KeyRecord}
use Rattle.transfer_crc.specs.Crc.{crc_more}
use Rattle.rx_session.specs.declared.session.Session.{Session}
use Rattle.rx_session.specs.Session.{advance}
use Rattle.rx_table.specs.Admitted.{has}
use Rattle.rx_table.specs.Ports.{Entry, sources_of, advance_at, outcome_at}
use Rattle.rx_table.specs.Places.{step_nth, outcome_nth}
use Rattle.rx_table.specs.Table.{entries_of}
use Rattle.rx_table.proofs.Positions.{position-further, position-here, position-lowered, position-none_below}

some_is : {X : Type 0} (x y : X) → Some x ≡ Some y → x ≡ y
some_is x y h = cc

pub sources-keys : {S : Type 0} (es : List (ℕ × Session S)) → map (λ e. e.0) es ≡ sources_of (entries_of es)
sources-keys [] = refl
sources-keys (e ∷ es) = ap (λ ss. e.0 ∷ ss) (sources-keys es)

swapped : (a b : ℕ) (v : Bool) → eqb a b ≡ v → eqb b a ≡ v
swapped a b true e = eq-eqb b a (sym (eqb-true a b e))
swapped a b false e = ne_eqb b a (λ h. eqb-false a b e (sym h))

pub known-has : (source i : ℕ) (es : List Entry) → position (nat_eq source) (sources_of es) ≡ Some i → has source (sources_of es) ≡ true
known-has source i [] h = absurd cc
known-has source i (e ∷ es) h = go (λ j k. known-has source j es k) (nat_eq source e.source) refl
  where
    go : ((j : ℕ) → position (nat_eq source) (sources_of es) ≡ Some j → has source (sources_of es) ≡ true) → (b : Bool) → nat_eq source e.source ≡ b → has source (sources_of (e ∷ es)) ≡ true
    go more true t = or_left (eqb e.source source) (has source (sources_of es)) (swapped source e.source true t)
    go more false t =
        let k = position-lowered (position (nat_eq source) (sources_of es)) i (sym (position-further (nat_eq source) e.source (sources_of es) t) ∙ h) in
        or_right (eqb e.source source) (has source (sources_of es)) (more k.0 k.1)

pub unknown-has : (source : ℕ) (es : List Entry) → position (nat_eq source) (sources_of es) ≡ None → has source (sources_of es) ≡ false
unknown-has source [] h = refl
unknown-has source (e ∷ es) h = go (λ k. unknown-has source es k) (nat_eq source e.source) refl
  where
    go : (position (nat_eq source) (sources_of es) ≡ None → has source (sources_of es) ≡ false) → (b : Bool) → nat_eq source e.source ≡ b → has source (sources_of (e ∷ es)) ≡ false
    go more true t = absurd (let k : Some 0 ≡ None = sym (position-here (nat_eq source) e.source (sources_of es) t) ∙ h in cc)
    go more false t =
        let rest = more (position-none_below _ (sym (position-further (nat_eq source) e.source (sources_of es) t) ∙ h)) in
        ap (λ b. b || has source (sources_of es)) (swapped source e.source false t) ∙ rest

module _ (timeout source : ℕ) (r : KeyRecord) where
  abbrev fed_at : List Entry → List Entry
  fed_at es = advance_at crc_more 0xFFFF timeout source r es

  abbrev fed : Entry → Entry
  fed e = record { source = e.source; session = (advance crc_more 0xFFFF timeout e.session r).0 }

  -- no session of another source steps
  others : (x : ℕ) (es : List Entry) → x ≡ source → AllByRecursion (λ y. nat_eq x y ≡ false) (sources_of es) → fed_at es ≡ es
  others x [] s h = refl
  others x (e ∷ es) s h =
      let no : eqb e.source source ≡ false = swapped source e.source false (ap (λ n. nat_eq n e.source) (sym s) ∙ h.0) in
      ap (λ (d : Entry). d ∷ fed_at es) (cond-false (eqb e.source source) (fed e) e no) ∙ ap (λ (t : List Entry). e ∷ t) (others x es s h.1)

  pub known-entries : (i : ℕ) (es : List Entry) → IsDistinct nat_eq (sources_of es) → position (nat_eq source) (sources_of es) ≡ Some i → step_nth timeout es i r ≡ fed_at es
  unfolding IsDistinct
  known-entries i [] u h = absurd cc
  known-entries i (e ∷ es) u h = go (λ j k. known-entries j es u.1 k) (nat_eq source e.source) refl
    where
      go : ((j : ℕ) → position (nat_eq source) (sources_of es) ≡ Some j → step_nth timeout es j r ≡ fed_at es) → (b : Bool) → nat_eq source e.source ≡ b → step_nth timeout (e ∷ es) i r ≡ fed_at (e ∷ es)
      go more true t =
          let at : i ≡ 0 = let k : Some 0 ≡ Some i = sym (position-here (nat_eq source) e.source (sources_of es) t) ∙ h in cc in
          ap (λ n. step_nth timeout (e ∷ es) n r) at
          ∙ (ap (λ (t : List Entry). fed e ∷ t) (sym (others e.source es (sym (eqb-true source e.source t)) u.0))
          ∙ ap (λ (d : Entry). d ∷ fed_at es) (sym (cond-true (eqb e.source source) (fed e) e (swapped source e.source true t))))
      go more false t =
          let k = position-lowered (position (nat_eq source) (sources_of es)) i (sym (position-further (nat_eq source) e.source (sources_of es) t) ∙ h) in
          ap (λ n. step_nth timeout (e ∷ es) n r) k.2
          ∙ (ap (λ (t : List Entry). e ∷ t) (more k.0 k.1)
          ∙ ap (λ (d : Entry). d ∷ fed_at es) (sym (cond-false (eqb e.source source) (fed e) e (swapped source e.source false t))))

  pub known-outcome : (i : ℕ) (es : List Entry) → position (nat_eq source) (sources_of es) ≡ Some i → outcome_nth timeout es i r ≡ outcome_at crc_more 0xFFFF timeout source r es
  known-outcome i [] h = absurd cc
  known-outcome i (e ∷ es) h = go (λ j k. known-outcome j es k) (nat_eq source e.source) refl
    where
      go : ((j : ℕ) → position (nat_eq source) (sources_of es) ≡ Some j → outcome_nth timeout es j r ≡ outcome_at crc_more 0xFFFF timeout source r es) → (b : Bool) → nat_eq source e.source ≡ b → outcome_nth timeout (e ∷ es) i r ≡ outcome_at crc_more 0xFFFF timeout source r (e ∷ es)
      go more true t =
          let at : i ≡ 0 = let k : Some 0 ≡ Some i = sym (position-here (nat_eq source) e.source (sources_of es) t) ∙ h in cc in
          ap (λ n. outcome_nth timeout (e ∷ es) n r) at
          ∙ sym (cond-true (eqb e.source source) (advance crc_more 0xFFFF timeout e.session r).1 (outcome_at crc_more 0xFFFF timeout source r es) (swapped source e.source true t))
      go more false t =
          let k = position-lowered (position (nat_eq source) (sources_of es)) i (sym (position-further (nat_eq source) e.source (sources_of es) t) ∙ h) in
          ap (λ n. outcome_nth timeout (e ∷ es) n r) k.2
          ∙ (more k.0 k.1
          ∙ sym (cond-false (eqb e.source source) (advance crc_more 0xFFFF timeout e.session r).1 (outcome_at crc_more 0xFFFF timeout source r es) (swapped source e.source false t)))

-- a source whose place was found stands there
pub known-at : (source i : ℕ) (ks : List ℕ) → position (nat_eq source) ks ≡ Some i → slice_get ks i ≡ Some source
known-at source i [] h = absurd cc
known-at source i (k ∷ ks) h = go (λ j e. known-at source j ks e) (nat_eq source k) refl
  where
    go : ((j : ℕ) → position (nat_eq source) ks ≡ Some j → slice_get ks j ≡ Some source) → (b : Bool) → nat_eq source k ≡ b → slice_get (k ∷ ks) i ≡ Some source
    go more true t =
        let at : i ≡ 0 = let e : Some 0 ≡ Some i = sym (position-here (nat_eq source) k ks t) ∙ h in cc in
        ap (slice_get (k ∷ ks)) at ∙ ap Some (sym (eqb-true source k t))
    go more false t =
        let e = position-lowered (position (nat_eq source) ks) i (sym (position-further (nat_eq source) k ks t) ∙ h) in
        ap (slice_get (k ∷ ks)) e.2 ∙ more e.0 e.1

-- a source that stands at no place
pub absent-at : (source i : ℕ) (ks : List ℕ) → has source ks ≡ false → slice_get ks i ≡ Some source → ⊥
absent-at source i ks a e = let h = at_some i ks e in cc
  where
    at_some : (i : ℕ) (ks : List ℕ) → slice_get ks i ≡ Some source → has source ks ≡ true
    at_some i [] e = absurd cc
    at_some zero (k ∷ ks) e = or_left (eqb k source) (has source ks) (eq-eqb k source (some_is _ _ e))
    at_some (suc i) (k ∷ ks) e = or_right (eqb k source) (has source ks) (at_some i ks e)

-- a step leaves each source at its place
pub sources-step : (timeout : ℕ) (r : KeyRecord) (es : List Entry) (i : ℕ) → sources_of (step_nth timeout es i r) ≡ sources_of es
sources-step timeout r [] i = refl
sources-step timeout r (e ∷ es) zero = refl
sources-step timeout r (e ∷ es) (suc i) = ap (λ (ss : List ℕ). e.source ∷ ss) (sources-step timeout r es i)

-- the source at a place
pub sources-get : {S : Type 0} (es : List (ℕ × Session S)) (i : ℕ) (e : ℕ × Session S) → slice_get es i ≡ Some e → slice_get (sources_of (entries_of es)) i ≡ Some e.0
sources-get [] i e h = absurd cc
sources-get {S} (d ∷ es) zero e h = ap (λ (p : ℕ × Session S). Some p.0) (some_is _ _ h)
sources-get (d ∷ es) (suc i) e h = sources-get es i e h

apart : (k x i : ℕ) (ks : List ℕ) → AllByRecursion (λ y. nat_eq k y ≡ false) ks → slice_get ks i ≡ Some x → nat_eq k x ≡ false
apart k x i [] a h = absurd cc
apart k x zero (y ∷ ks) a h = ap (nat_eq k) (sym (some_is _ _ h)) ∙ a.0
apart k x (suc i) (y ∷ ks) a h = apart k x i ks a.1 h

-- a source that stands at a place stands at no earlier one
pub distinct-position : (source i : ℕ) (ks : List ℕ) → IsDistinct nat_eq ks → slice_get ks i ≡ Some source → position (nat_eq source) ks ≡ Some i
unfolding IsDistinct
distinct-position source i [] u h = absurd cc
distinct-position source zero (k ∷ ks) u h = position-here (nat_eq source) k ks (eq-eqb source k (sym (some_is _ _ h)))
distinct-position source (suc i) (k ∷ ks) u h =
    position-further (nat_eq source) k ks (swapped k source false (apart k source i ks u.0 h)) ∙ ap (option_map suc) (distinct-position source i ks u.1 h)
