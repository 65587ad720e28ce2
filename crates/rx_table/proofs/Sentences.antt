-- The deliveries and the bad CRCs are those that the sentences over places name.
use Rattle.std.proofs.Common.{◌≡◌, ℕ, ◌⊎◌, true, not, ◌&&◌, eqb, List, [], ◌∷◌, ◌++◌, length, Option, Some, None, refl, sym, ap, ◌∙◌, subst, inl, inr}
use Rattle.std.specs.Prelude.{◌≢◌, ⊤}
use Rattle.std.proofs.lemmas.Bool.{eqb-true, eqb-false, eq-eqb, ne_eqb, and_parts, and_from, cond-true, cond-false, cond_both, not-true, not_from_false, true≢false}
use Rattle.tail_frame.specs.Chains.{KeyRecord, chain_bytes, closes_at, without_crc}
use Rattle.rx_table.specs.Received.{Delivery, Run, Got, begins, alone, not_begun, received}
use Rattle.rx_table.specs.Meaning.{Since, IsBegun, IsNotBegun, Closes, IsDelivery, DeliveriesAre, IsBadCrc, BadCrcsAre}
use Rattle.rx_table.specs.Steps.{fails_at, is_bad}
use Rattle.rx_table.proofs.Runs.{begun_state}

module _ (crc : List ℕ → ℕ) (timeout : ℕ) where
  -- the state at a record that doesn't begin
  idle_state : (r : KeyRecord) (past : List KeyRecord) → IsNotBegun crc timeout r past → received crc timeout (r ∷ past) ≡ not_begun crc timeout r past (received crc timeout past).begun (received crc timeout past).delivered
  idle_state r past n =
      let g = received crc timeout past in
      cond-false (begins timeout r past g.delivered) (record { begun = Some (record { first = r; since = [] }); delivered = alone crc timeout r past g.delivered }) (not_begun crc timeout r past g.begun g.delivered) n

  -- the last begun start frame
  last_begun : (p : KeyRecord) (older : List KeyRecord) → IsBegun crc timeout p older → (since : List KeyRecord) → Since (IsNotBegun crc timeout) since p older → (received crc timeout (since ++ p ∷ older)).begun ≡ Some (record { first = p; since = since })
  last_begun p older b [] n = ap (λ (g : Got). g.begun) (begun_state crc timeout p older b)
  last_begun p older b (r ∷ since) n =
      ap (λ (g : Got). g.begun) (idle_state r (since ++ p ∷ older) n.0)
      ∙ ap (λ o. (not_begun crc timeout r (since ++ p ∷ older) o (received crc timeout (since ++ p ∷ older)).delivered).begun) (last_begun p older b since n.1)

  -- what the state says of the last begun start frame
  record BegunAt (h : List KeyRecord) (run : Run) : Type 0 where
    older : List KeyRecord
    split : h ≡ run.since ++ run.first ∷ older
    begun : IsBegun crc timeout run.first older
    no_other : Since (IsNotBegun crc timeout) run.since run.first older

  abbrev IfBegun : List KeyRecord → Option Run → Type 0
  IfBegun h None = ⊤
  IfBegun h (Some run) = BegunAt h run

  on : (r : KeyRecord) (past : List KeyRecord) (begun : Option Run) (ds : List Delivery) → IfBegun past begun → IsNotBegun crc timeout r past → IfBegun (r ∷ past) (not_begun crc timeout r past begun ds).begun
  on r past None ds i n = tt
  on r past (Some run) ds i n = record { older = i.older; split = ap (λ h. r ∷ h) i.split; begun = i.begun; no_other = (subst (IsNotBegun crc timeout r) i.split n, i.no_other) }

  begun_at : (h : List KeyRecord) → IfBegun h (received crc timeout h).begun
  begun_at [] = tt
  begun_at (r ∷ past) =
      let g = received crc timeout past in
      cond_both (begins timeout r past g.delivered) (record { begun = Some (record { first = r; since = [] }); delivered = alone crc timeout r past g.delivered }) (not_begun crc timeout r past g.begun g.delivered) (λ (w : Got). IfBegun (r ∷ past) w.begun)
      (λ b. record { older = past; split = refl; begun = b; no_other = tt })
      (λ n. on r past g.begun g.delivered (begun_at past) n)

  -- the records that the split names
  abbrev Gives : Delivery → List KeyRecord → Type 0
  Gives d [] = ⊤
  Gives d (q ∷ past) = d.last ≡ q → d.place ≡ length past → (received crc timeout (q ∷ past)).delivered ≡ d ∷ (received crc timeout past).delivered

  delivery_path : (d : Delivery) (q : KeyRecord) (n : ℕ) (content : List ℕ) → d.last ≡ q → d.place ≡ n → d.content ≡ content → (record { first = d.first; last = q; place = n; content = content }) ≡ d
  delivery_path d q n content l m c = λ i. record { first = d.first; last = sym l i; place = sym m i; content = sym c i }

  gives : (d : Delivery) (older since : List KeyRecord) → IsBegun crc timeout d.first older → Since (IsNotBegun crc timeout) since d.first older → Closes crc timeout d.first since d.content → Gives d (since ++ d.first ∷ older)
  gives d older [] b n c = λ last place.
      let ds = (received crc timeout older).delivered in
      let p = d.first in
      ap (λ (g : Got). g.delivered) (begun_state crc timeout p older b)
      ∙ (cond-true p.end (record { first = p; last = p; place = length older; content = p.body } ∷ ds) ds c.0
      ∙ ap (λ e. e ∷ ds) (delivery_path d p (length older) p.body last place c.1))
  gives d older (q ∷ since) b n c = λ last place.
      let past = since ++ d.first ∷ older in
      let ds = (received crc timeout past).delivered in
      let p = d.first in
      let bytes = chain_bytes p (q ∷ since) in
      ap (λ (g : Got). g.delivered) (idle_state q past n.0)
      ∙ (ap (λ o. (not_begun crc timeout q past o ds).delivered) (last_begun p older b since n.1)
      ∙ (cond-true (closes_at p since q && eqb (crc bytes) 0) (record { first = p; last = q; place = length past; content = without_crc bytes } ∷ ds) ds (and_from (closes_at p since q) (eqb (crc bytes) 0) c.0 (eq-eqb (crc bytes) 0 c.1))
      ∙ ap (λ e. e ∷ ds) (delivery_path d q (length past) (without_crc bytes) last place c.2)))

  abbrev OneOrNone : KeyRecord → List KeyRecord → List Delivery → Type 0
  OneOrNone q past es = (es ≡ (received crc timeout past).delivered) ⊎ ((d : Delivery) × IsDelivery crc timeout d q past × (es ≡ d ∷ (received crc timeout past).delivered))

  none_or : (q : KeyRecord) (past : List KeyRecord) (begun : Option Run) → IfBegun past begun → IsNotBegun crc timeout q past → OneOrNone q past (not_begun crc timeout q past begun (received crc timeout past).delivered).delivered
  none_or q past None i n = inl refl
  none_or q past (Some run) i n =
      let ds = (received crc timeout past).delivered in
      let bytes = chain_bytes run.first (q ∷ run.since) in
      let d : Delivery = record { first = run.first; last = q; place = length past; content = without_crc bytes } in
      cond_both (closes_at run.first run.since q && eqb (crc bytes) 0) (d ∷ ds) ds (OneOrNone q past)
      (λ y.
      let p = and_parts (closes_at run.first run.since q) (eqb (crc bytes) 0) y in
      inr (d, record { since = q ∷ run.since; older = i.older; split = ap (λ h. q ∷ h) i.split; begun = i.begun; no_other = (subst (IsNotBegun crc timeout q) i.split n, i.no_other); closes = (p.0, eqb-true (crc bytes) 0 p.1, refl); last = refl; place = refl }, refl))
      (λ _. inl refl)

  one_or_none : (q : KeyRecord) (past : List KeyRecord) → OneOrNone q past (received crc timeout (q ∷ past)).delivered
  one_or_none q past =
      let g = received crc timeout past in
      let d : Delivery = record { first = q; last = q; place = length past; content = q.body } in
      cond_both (begins timeout q past g.delivered) (record { begun = Some (record { first = q; since = [] }); delivered = alone crc timeout q past g.delivered }) (not_begun crc timeout q past g.begun g.delivered) (λ (w : Got). OneOrNone q past w.delivered)
      (λ b. cond_both q.end (d ∷ g.delivered) g.delivered (OneOrNone q past)
      (λ y. inr (d, record { since = []; older = past; split = refl; begun = b; no_other = tt; closes = (y, refl); last = refl; place = refl }, refl)) (λ _. inl refl))
      (λ n. none_or q past g.begun (begun_at past) n)

  -- a chain that fails is that of the last begun start frame
  is_bad_of : (q : KeyRecord) (past : List KeyRecord) (begun : Option Run) → IfBegun past begun → IsNotBegun crc timeout q past → fails_at crc timeout q begun ≡ true → IsBadCrc crc timeout q past
  is_bad_of q past None i n f = absurd (true≢false (sym f))
  is_bad_of q past (Some run) i n f =
      let bytes = chain_bytes run.first (q ∷ run.since) in
      let p = and_parts (closes_at run.first run.since q) (not (eqb (crc bytes) 0)) f in
      record {
        first = run.first;
        since = run.since;
        older = i.older;
        split = i.split;
        begun = i.begun;
        no_other = (subst (IsNotBegun crc timeout q) i.split n, i.no_other);
        closes = p.0;
        unfit = eqb-false (crc bytes) 0 (not-true (eqb (crc bytes) 0) p.1);
      }

  fails : (q p : KeyRecord) (older since : List KeyRecord) → IsBegun crc timeout p older → Since (IsNotBegun crc timeout) (q ∷ since) p older → closes_at p since q ≡ true → crc (chain_bytes p (q ∷ since)) ≢ 0 → is_bad crc timeout q (since ++ p ∷ older) ≡ true
  fails q p older since b n c u =
      let past = since ++ p ∷ older in
      let g = received crc timeout past in
      let bytes = chain_bytes p (q ∷ since) in
      and_from (not (begins timeout q past g.delivered)) (fails_at crc timeout q g.begun) (not_from_false (begins timeout q past g.delivered) n.0)
      (ap (fails_at crc timeout q) (last_begun p older b since n.1) ∙ and_from (closes_at p since q) (not (eqb (crc bytes) 0)) c (not_from_false (eqb (crc bytes) 0) (ne_eqb (crc bytes) 0 u)))

pub deliveries_are : (crc : List ℕ → ℕ) (timeout : ℕ) → DeliveriesAre crc timeout
deliveries_are crc timeout q past = (
  λ d x. (subst (Gives crc timeout d) (sym x.split) (gives crc timeout d x.older x.since x.begun x.no_other x.closes)) x.last x.place,
  one_or_none crc timeout q past,
)

pub bad_crcs_are : (crc : List ℕ → ℕ) (timeout : ℕ) → BadCrcsAre crc timeout
bad_crcs_are crc timeout q past = (
  λ b.
      let g = received crc timeout past in
      let p = and_parts (not (begins timeout q past g.delivered)) (fails_at crc timeout q g.begun) b in
      is_bad_of crc timeout q past g.begun (begun_at crc timeout past) (not-true (begins timeout q past g.delivered) p.0) p.1,
  λ x. subst (λ h. is_bad crc timeout q h ≡ true) (sym x.split) (fails crc timeout q x.first x.older x.since x.begun x.no_other x.closes x.unfit),
)
