-- The transfer whose frame stands on the line of a delivery is one of the sent list
use Rattle.std.proofs.Common.{◌≡◌, ◌∙◌, ℕ, ◌<◌, ◌&&◌, false, eqb, List, [], ◌∷◌, length, Option, Some, None, refl, sym}
use Rattle.std.proofs.lemmas.Bool.{cond_both, eq-eqb, true≢false}
use Rattle.tail_frame.specs.Chains.{KeyRecord, chain_bytes, closes_at, without_crc}
use Rattle.transfer_crc.specs.Crc.{crc_of}
use Rattle.rx_table.specs.Received.{Delivery, Got, Run, alone, begins, not_begun, received}
use Rattle.frag.specs.Sent.{Explained, IsExplainedAt, pair_at}
use Rattle.frag.specs.declared.sent.Pair.{Pair}
use Rattle.frag.specs.declared.sent.Sent.{Sent}
use Rattle.delivery_theorems.specs.Report.{pair_on}
use Rattle.delivery_theorems.specs.Selected.{Each}

module _ (timeout : ℕ) (sent : Sent) (origin : List Pair) where
  abbrev pub IsKnown : List KeyRecord → ℕ → Type 0
  IsKnown records line = (pair_on origin records line).j < length sent.transfers

  abbrev IsExplained : KeyRecord → List KeyRecord → Type 0
  IsExplained = IsExplainedAt timeout sent (pair_at origin)

  known_here : (r : KeyRecord) (past : List KeyRecord) → IsExplained r past → IsKnown (r ∷ past) r.line
  known_here r past x =
      cond_both (eqb r.line r.line) (pair_at origin (length past)) (pair_on origin past r.line) (λ (o : Pair). o.j < length sent.transfers)
      (λ _. x.is_sent.known) (λ n. absurd (unequal r.line n))
    where
      unequal : (n : ℕ) → eqb n n ≡ false → ⊥
      unequal n e = true≢false (sym (eq-eqb n n refl) ∙ e)

  known_more : (r : KeyRecord) (past : List KeyRecord) → IsExplained r past → (line : ℕ) → IsKnown past line → IsKnown (r ∷ past) line
  known_more r past x line k =
      cond_both (eqb r.line line) (pair_at origin (length past)) (pair_on origin past line) (λ (o : Pair). o.j < length sent.transfers)
      (λ _. x.is_sent.known) (λ _. k)

  abbrev pub AreKnown : List KeyRecord → List Delivery → Type 0
  AreKnown h ds = Each (λ d. IsKnown h d.last.line) ds

  all_more : (r : KeyRecord) (past : List KeyRecord) → IsExplained r past → (ds : List Delivery) → AreKnown past ds → AreKnown (r ∷ past) ds
  all_more r past x [] k = tt
  all_more r past x (d ∷ ds) k = (known_more r past x d.last.line k.0, all_more r past x ds k.1)

  all_on : (r : KeyRecord) (past : List KeyRecord) → IsExplained r past → (o : Option Run) (ds : List Delivery) → AreKnown (r ∷ past) ds → AreKnown (r ∷ past) (not_begun crc_of timeout r past o ds).delivered
  all_on r past x None ds k = k
  all_on r past x (Some run) ds k =
      let d : Delivery = record { first = run.first; last = r; place = length past; content = without_crc (chain_bytes run.first (r ∷ run.since)) } in
      cond_both (closes_at run.first run.since r && eqb (crc_of (chain_bytes run.first (r ∷ run.since))) 0) (d ∷ ds) ds (AreKnown (r ∷ past))
      (λ _. (known_here r past x, k)) (λ _. k)

  pub are_known : (h : List KeyRecord) → Explained timeout sent (pair_at origin) h → AreKnown h (received crc_of timeout h).delivered
  are_known [] x = tt
  are_known (r ∷ past) x =
      let g = received crc_of timeout past in
      let d : Delivery = record { first = r; last = r; place = length past; content = r.body } in
      let k = all_more r past x.0 g.delivered (are_known past x.1) in
      cond_both (begins timeout r past g.delivered) (record { begun = Some (record { first = r; since = [] }); delivered = alone crc_of timeout r past g.delivered }) (not_begun crc_of timeout r past g.begun g.delivered) (λ (w : Got). AreKnown (r ∷ past) w.delivered)
      (λ _. cond_both r.end (d ∷ g.delivered) g.delivered (AreKnown (r ∷ past)) (λ _. (known_here r past x.0, k)) (λ _. k))
      (λ _. all_on r past x.0 g.begun g.delivered k)
