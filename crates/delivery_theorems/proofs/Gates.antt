-- What a delivery leaves behind: from then on each record is of a later transfer, or the bus and the transfer-ID tell
use Rattle.std.proofs.Common.{◌≡◌, ℕ, ◌+◌, ◌<◌, ◌≤◌, ◌⊎◌, true, false, List, [], ◌∷◌, length, Some, sym, ap, ◌∙◌, subst, inl, inr, le_trans, le_refl, arith}
use Rattle.std.proofs.lemmas.Bool.{and_right, cond-true, cond_both, cases_Bool, cases_lt}
use Rattle.tail_frame.specs.Chains.{KeyRecord, AtEach}
use Rattle.redundancy.specs.Force.{force, heard, last_heard, late}
use Rattle.rx_table.specs.Received.{Delivery}
use Rattle.frag.specs.Sent.{transfer_at, IsUpTo, IsSentList, IsExplainedAt}
use Rattle.frag.specs.declared.sent.Pair.{Pair}
use Rattle.frag.specs.declared.sent.Sent.{Sent}
use Rattle.delivery_theorems.specs.Selected.{IsOfSent}
use Rattle.redundancy.proofs.Forces.{force_heard, some_inj, force_kept, late_far}

pub up_to_j : (a b : Pair) → IsUpTo a b → a.j ≤ b.j
up_to_j a b u = elim u [ inl l ↦ omega arith | inr e ↦ omega arith ]

pub at_each_map : (P Q : KeyRecord → List KeyRecord → Type 0) → ((r : KeyRecord) (past : List KeyRecord) → P r past → Q r past) → (h : List KeyRecord) → AtEach P h → AtEach Q h
at_each_map P Q f [] x = tt
at_each_map P Q f (r ∷ past) x = (f r past x.0, at_each_map P Q f past x.1)

module _ (timeout : ℕ) (sent : Sent) (origin : ℕ → Pair) where
  -- the submission moment of the transfer that is named at a place
  abbrev pub submitted : ℕ → ℕ
  submitted n = (transfer_at sent (origin n).j).moment

  -- no record from now on is of the delivered transfer
  abbrev pub Passed : Delivery → List KeyRecord → Type 0
  Passed d h = (t : ℕ) → AtEach (λ e _. e.moment ≤ t) h → submitted d.place + timeout ≤ t

  -- the bus that it came on is in force
  pub record Still (d : Delivery) (h : List KeyRecord) : Type 0 where
    pub in_force : force timeout h ≡ Some d.last.bus
    pub since : (t : ℕ) → last_heard timeout h ≡ Some t → submitted d.place ≤ t

  pub record Gate (d : Delivery) (h : List KeyRecord) : Type 0 where
    pub of_sent : IsOfSent sent origin d
    pub known : (origin d.place).j < length sent.transfers
    pub named : (p : Pair) → AtEach (λ e older. e.bus ≡ d.last.bus → IsUpTo (origin (length older)) p) h → (origin d.place).j ≤ p.j
    pub seen : (t : ℕ) → AtEach (λ e _. e.moment ≤ t) h → submitted d.place ≤ t
    pub state : Passed d h ⊎ Still d h

  pub late_passes : (d : Delivery) (r : KeyRecord) (past : List KeyRecord) → Gate d past → late timeout r past ≡ true → Passed d (r ∷ past)
  late_passes d r past g l t m =
      elim g.state [
        | inl p ↦ p t m.1
        | inr s ↦ let far = late_far timeout r past l in let from = s.since far.0 far.1 in let below : r.moment ≤ t = m.0 in omega arith
      ]

  still_step : (d : Delivery) (r : KeyRecord) (past : List KeyRecord) → Gate d past → Still d past → AtEach (λ e _. e.moment ≤ r.moment) past → late timeout r past ≡ false → Still d (r ∷ past)
  still_step d r past g s in_time n = record {
    in_force = force_kept timeout r past d.last.bus s.in_force (and_right r.start (late timeout r past) n);
    since = λ t.
        cond_both (heard timeout r past) (Some r.moment) (last_heard timeout past) (λ o. o ≡ Some t → submitted d.place ≤ t)
        (λ y e. subst (λ m. submitted d.place ≤ m) (some_inj r.moment t e) (g.seen r.moment in_time))
        (λ y e. s.since t e);
  }

  -- a record that delivers nothing
  pub gate_step : (d : Delivery) (r : KeyRecord) (past : List KeyRecord) → Gate d past → AtEach (λ e _. e.moment ≤ r.moment) past → Gate d (r ∷ past)
  gate_step d r past g in_time = record {
    of_sent = g.of_sent;
    known = g.known;
    named = λ p m. g.named p m.1;
    seen = λ t m. g.seen t m.1;
    state =
        elim (cases_Bool (late timeout r past)) [
          | inl y ↦ inl (late_passes d r past g y)
          | inr n ↦ elim g.state [ inl p ↦ inl (λ t m. p t m.1) | inr s ↦ inr (still_step d r past g s in_time n) ]
        ];
  }

  -- the record that delivers
  pub gate_new : (d : Delivery) (r : KeyRecord) (past : List KeyRecord) → d.last ≡ r → d.place ≡ length past → IsOfSent sent origin d → IsExplainedAt timeout sent origin r past → force timeout (r ∷ past) ≡ Some r.bus → Gate d (r ∷ past)
  gate_new d r past is_r at_r of x f =
      let sub : submitted d.place ≤ r.moment = subst (λ n. submitted n ≤ r.moment) (sym at_r) x.is_sent.since in
      record {
        of_sent = of;
        known = subst (λ n. (origin n).j < length sent.transfers) (sym at_r) x.is_sent.known;
        named = λ p m. subst (λ n. (origin n).j ≤ p.j) (sym at_r) (up_to_j (origin (length past)) p (m.0 (ap (λ (e : KeyRecord). e.bus) (sym is_r))));
        seen = λ t m. le_trans sub m.0;
        state = inr (record {
          in_force = f ∙ ap (λ (e : KeyRecord). Some e.bus) (sym is_r);
          since = λ t e. subst (λ m. submitted d.place ≤ m) (some_inj r.moment t (sym (cond-true (heard timeout r past) (Some r.moment) (last_heard timeout past) (force_heard timeout r past f)) ∙ e)) sub;
        });
      }

  -- what comes after a delivery is of a later transfer
  pub later : IsSentList sent → (d : Delivery) (r : KeyRecord) (past : List KeyRecord) → Gate d past → AtEach (λ e _. e.moment ≤ r.moment) past → IsExplainedAt timeout sent origin r past → force timeout (r ∷ past) ≡ Some r.bus → Passed d (r ∷ past) ⊎ (d.first.tid ≡ r.tid → ⊥) → (origin d.place).j < (origin (length past)).j
  later rising d r past g in_time x f apart =
      elim apart [
        | inl p ↦ passed p
        | inr ne ↦ elim (gate_step d r past g in_time).state [
          | inl p ↦ passed p
          | inr s ↦ same_bus ne (some_inj r.bus d.last.bus (sym f ∙ s.in_force))
        ]
      ]
    where
      passed : Passed d (r ∷ past) → (origin d.place).j < (origin (length past)).j
      passed p =
          let far = p r.moment (le_refl r.moment, in_time) in
          let until = x.is_sent.until in
          elim (cases_lt (origin d.place).j (origin (length past)).j) [
            | inl l ↦ l
            | inr ge ↦ let up = rising.moments (origin (length past)).j (origin d.place).j ge g.known in absurd (omega arith)
          ]

      same_bus : (d.first.tid ≡ r.tid → ⊥) → r.bus ≡ d.last.bus → (origin d.place).j < (origin (length past)).j
      same_bus ne b =
          let le = g.named (origin (length past)) (at_each_map (λ e older. e.bus ≡ r.bus → IsUpTo (origin (length older)) (origin (length past))) (λ e older. e.bus ≡ d.last.bus → IsUpTo (origin (length older)) (origin (length past))) (λ e older u q. u (q ∙ sym b)) past x.in_order) in
          elim (cases_lt (origin d.place).j (origin (length past)).j) [
            | inl l ↦ l
            | inr ge ↦
                let same : (origin d.place).j ≡ (origin (length past)).j = omega arith in
                absurd (ne (g.of_sent.tid ∙ ap (λ k. (transfer_at sent k).tid) same ∙ sym x.is_sent.frame.tid))
          ]
