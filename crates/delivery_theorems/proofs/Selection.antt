-- The deliveries are selected
use Rattle.std.proofs.Common.{◌≡◌, ℕ, ◌+◌, ◌-◌, ◌*◌, ◌/◌, ◌<◌, ◌≤◌, ◌⊎◌, true, false, ◌&&◌, ◌||◌, eqb, List, [], ◌∷◌, ◌++◌, length, take, drop, Option, Some, None, refl, sym, ap, ◌∙◌, subst, inl, inr, take_all, arith}
use Rattle.std.specs.Prelude.{⊤}
use Rattle.std.proofs.lemmas.Bool.{eqb-true, eqb-false, and_parts, and_right, and_cases, or_cases, or_parts, and_left, cond-true, cond-false, cond_both, both_ways, not-true, not-false, cases_Bool, cases_lt, true≢false}
use Rattle.tail_frame.specs.Chains.{KeyRecord, AtEach, follows, tip, chain_bytes, closes_at, without_crc}
use Rattle.redundancy.specs.Force.{force, heard, late, is_long_after, last_heard}
use Rattle.rx_table.specs.Received.{Delivery, Run, Got, is_fresh, begins, alone, not_begun, received}
use Rattle.frag.specs.Wire.{IsFrameSize, padded, stream, last_frame}
use Rattle.frag.specs.Sent.{transfer_at, size_on, data_on, IsSentList, IsFrame, InTime, IsExplainedAt, Explained, IsClear, NoChanceAt, NoChance}
use Rattle.frag.specs.declared.sent.Pair.{Pair}
use Rattle.frag.specs.declared.sent.Sent.{Sent}
use Rattle.frag.specs.declared.sent.Transfer.{Transfer}
use Rattle.transfer_crc.specs.Crc.{crc_of}
use Rattle.frag.proofs.Follows.{follows_parts}
use Rattle.frag.proofs.Sizes.{single_fits, length_padded, stream_single, more_frames}
use Rattle.delivery_theorems.specs.Selected.{Each, IsOfSent, Selected, Once}
use Rattle.redundancy.proofs.Forces.{heard_force, force_heard, force_kept}
use Rattle.delivery_theorems.proofs.Gates.{at_each_map, Passed, Gate, late_passes, gate_step, gate_new, later}

small_div : (n d : ℕ) → 0 < d → n / d ≡ 0 → n < d
small_div n d p e = grind arith

-- a frame that is first and last has all the data
alone_content : (x : Transfer) (m i : ℕ) (r : KeyRecord) → IsFrameSize m → IsFrame x m i r → r.start ≡ true → r.end ≡ true → r.body ≡ padded m x.payload
alone_content x m i r size f s e =
    let first : i ≡ 0 = eqb-true i 0 (sym f.start ∙ s) in
    let last : last_frame m x.payload ≡ 0 = sym (eqb-true i (last_frame m x.payload) (sym f.end ∙ e)) ∙ first in
    elim (cases_lt (m - 1) (length x.payload)) [
      | inl l ↦
          let more = more_frames m x.payload size l in
          let short = small_div (length x.payload + 1) (m - 1) (room m size) (sym more ∙ last) in
          absurd (omega arith)
      | inr g ↦
          let is_data = stream_single m x.payload g in
          let at : i * (m - 1) ≡ 0 = subst (λ n. n * (m - 1) ≡ 0) (sym first) (omega arith) in
          let fits = single_fits m (length x.payload) size g in
          let within : length (padded m x.payload) ≤ m - 1 = subst (λ n. n ≤ m - 1) (sym (length_padded m x.payload)) fits in
          f.body ∙ (ap (λ n. take (m - 1) (drop n (stream m x.payload))) at ∙ (ap (take (m - 1)) is_data ∙ take_all (m - 1) (padded m x.payload) within))
    ]
  where
    room : (m : ℕ) → IsFrameSize m → 0 < m - 1
    room m size = elim size [ inl e ↦ omega arith | inr e ↦ omega arith ]

-- P of the last delivery
abbrev HeadOf : (Delivery → Type 0) → List Delivery → Type 0
HeadOf P [] = ⊤
HeadOf P (d ∷ ds) = P d

each_map : (P Q : Delivery → Type 0) → ((d : Delivery) → P d → Q d) → (ds : List Delivery) → Each P ds → Each Q ds
each_map P Q f [] x = tt
each_map P Q f (d ∷ ds) x = (f d x.0, each_map P Q f ds x.1)

fresh_apart : (t : ℕ) (d : Delivery) (ds : List Delivery) → is_fresh t (d ∷ ds) ≡ true → d.first.tid ≡ t → ⊥
fresh_apart t d ds h = eqb-false d.first.tid t (not-true (eqb d.first.tid t) h)

stale_same : (t : ℕ) (d : Delivery) (ds : List Delivery) → is_fresh t (d ∷ ds) ≡ false → t ≡ d.first.tid
stale_same t d ds h = sym (eqb-true d.first.tid t (not-false (eqb d.first.tid t) h))

pub begins_parts : (timeout : ℕ) (r : KeyRecord) (past : List KeyRecord) (ds : List Delivery) → begins timeout r past ds ≡ true → record { start : r.start ≡ true; heard : heard timeout r past ≡ true; fresh : (late timeout r past ≡ true) ⊎ (is_fresh r.tid ds ≡ true) }
begins_parts timeout r past ds b =
    let p = and_parts r.start (heard timeout r past && (late timeout r past || is_fresh r.tid ds)) b in
    let q = and_parts (heard timeout r past) (late timeout r past || is_fresh r.tid ds) p.1 in
    record { start = p.0; heard = q.0; fresh = or_cases (late timeout r past) (is_fresh r.tid ds) q.1 }

-- a heard start frame that doesn't begin isn't late, and has the last transfer-ID
pub not_begins : (timeout : ℕ) (r : KeyRecord) (past : List KeyRecord) (ds : List Delivery) → begins timeout r past ds ≡ false → r.start ≡ true → heard timeout r past ≡ true → record { late : late timeout r past ≡ false; stale : is_fresh r.tid ds ≡ false }
not_begins timeout r past ds b s h =
    let no = elim (and_cases r.start (heard timeout r past && (late timeout r past || is_fresh r.tid ds)) b) as (λ _. (late timeout r past || is_fresh r.tid ds) ≡ false) [
      | inl n ↦ absurd (both_ways r.start n s)
      | inr p ↦ elim (and_cases (heard timeout r past) (late timeout r past || is_fresh r.tid ds) p) [ inl n ↦ absurd (both_ways (heard timeout r past) n h) | inr q ↦ q ]
    ] in
    let both = or_parts (late timeout r past) (is_fresh r.tid ds) no in
    record { late = both.0; stale = both.1 }

-- what doesn't begin is no late start frame
pub no_late_start : (timeout : ℕ) (r : KeyRecord) (past : List KeyRecord) (ds : List Delivery) → begins timeout r past ds ≡ false → (r.start && late timeout r past) ≡ false
no_late_start timeout r past ds b =
    elim (cases_Bool r.start) [
      | inr n ↦ and_left r.start (late timeout r past) n
      | inl s ↦ and_right r.start (late timeout r past)
          (elim (cases_Bool (heard timeout r past)) [
            | inl h ↦ (not_begins timeout r past ds b s h).late
            | inr n ↦ and_left (heard timeout r past) (is_long_after timeout (last_heard timeout past) r.moment) n
          ])
    ]

module _ (timeout : ℕ) (sent : Sent) (origin : ℕ → Pair) where
  abbrev ThePassed : Delivery → List KeyRecord → Type 0
  ThePassed = Passed timeout sent origin

  abbrev TheGate : Delivery → List KeyRecord → Type 0
  TheGate = Gate timeout sent origin

  abbrev TheSelected : List Delivery → Type 0
  TheSelected = Selected sent origin

  -- what is said of the last begun start frame, while its chain is open
  record Running (h : List KeyRecord) (ds : List Delivery) (run : Run) : Type 0 where
    older : List KeyRecord
    split : h ≡ run.since ++ run.first ∷ older
    start : run.first.start ≡ true
    in_force : force timeout h ≡ Some run.first.bus
    clear : (tip run.first run.since).end ≡ false → AtEach (λ e _. e.start ≡ true → e.bus ≡ run.first.bus → is_fresh e.tid ds ≡ false) run.since
    fresh : (tip run.first run.since).end ≡ false → HeadOf (λ d. ThePassed d h ⊎ (d.first.tid ≡ run.first.tid → ⊥)) ds

  abbrev IfRunning : List KeyRecord → List Delivery → Option Run → Type 0
  IfRunning h ds None = ⊤
  IfRunning h ds (Some run) = Running h ds run

  record Kept (h : List KeyRecord) (g : Got) : Type 0 where
    selected : TheSelected g.delivered
    gate : HeadOf (λ d. TheGate d h) g.delivered
    running : IfRunning h g.delivered g.begun

  -- a new delivery of a later transfer than the last one
  add : (d : Delivery) (ds : List Delivery) → IsOfSent sent origin d → HeadOf (λ e. (origin e.place).j < (origin d.place).j) ds → TheSelected ds → TheSelected (d ∷ ds)
  add d [] of l s = (of, tt, s)
  add d (e ∷ ds) of l s = (of, (l, each_map (λ f. (origin f.place).j < (origin e.place).j) (λ f. (origin f.place).j < (origin d.place).j) (λ f k. omega arith) ds s.1), s)

  gates : (ds : List Delivery) (r : KeyRecord) (past : List KeyRecord) → HeadOf (λ d. TheGate d past) ds → AtEach (λ e _. e.moment ≤ r.moment) past → HeadOf (λ d. TheGate d (r ∷ past)) ds
  gates [] r past g in_time = tt
  gates (d ∷ ds) r past g in_time = gate_step timeout sent origin d r past g in_time

  -- the last delivery is of an earlier transfer than r
  laters : IsSentList sent → (ds : List Delivery) (r : KeyRecord) (past : List KeyRecord) → HeadOf (λ d. TheGate d past) ds → AtEach (λ e _. e.moment ≤ r.moment) past → IsExplainedAt timeout sent origin r past → force timeout (r ∷ past) ≡ Some r.bus → HeadOf (λ d. ThePassed d (r ∷ past) ⊎ (d.first.tid ≡ r.tid → ⊥)) ds → HeadOf (λ e. (origin e.place).j < (origin (length past)).j) ds
  laters rising [] r past g in_time x f a = tt
  laters rising (d ∷ ds) r past g in_time x f a = later timeout sent origin rising d r past g in_time x f a

  begun_fresh : (ds : List Delivery) (r : KeyRecord) (past : List KeyRecord) → HeadOf (λ d. TheGate d past) ds → (late timeout r past ≡ true) ⊎ (is_fresh r.tid ds ≡ true) → HeadOf (λ d. ThePassed d (r ∷ past) ⊎ (d.first.tid ≡ r.tid → ⊥)) ds
  begun_fresh [] r past g f = tt
  begun_fresh (d ∷ ds) r past g f =
      elim f [ inl l ↦ inl (late_passes timeout sent origin d r past g l) | inr k ↦ inr (fresh_apart r.tid d ds k) ]

  run_fresh : (a : KeyRecord) (ds : List Delivery) (r : KeyRecord) (past : List KeyRecord) → HeadOf (λ d. ThePassed d past ⊎ (d.first.tid ≡ a.tid → ⊥)) ds → HeadOf (λ d. ThePassed d (r ∷ past) ⊎ (d.first.tid ≡ a.tid → ⊥)) ds
  run_fresh a [] r past f = tt
  run_fresh a (d ∷ ds) r past f = elim f [ inl p ↦ inl (λ t m. p t m.1) | inr n ↦ inr n ]

  tid_fresh : (a b : KeyRecord) (ds : List Delivery) (h : List KeyRecord) → a.tid ≡ b.tid → HeadOf (λ d. ThePassed d h ⊎ (d.first.tid ≡ a.tid → ⊥)) ds → HeadOf (λ d. ThePassed d h ⊎ (d.first.tid ≡ b.tid → ⊥)) ds
  tid_fresh a b [] h e f = tt
  tid_fresh a b (d ∷ ds) h e f = subst (λ t. ThePassed d h ⊎ (d.first.tid ≡ t → ⊥)) e f

  -- a clear run
  is_clear : (a : KeyRecord) (between : List KeyRecord) (ds : List Delivery) → AtEach (λ e _. e.start ≡ true → e.bus ≡ a.bus → is_fresh e.tid ds ≡ false) between → IsClear a between
  is_clear a between [] x = (0, at_each_map (λ e _. e.start ≡ true → e.bus ≡ a.bus → true ≡ false) (λ e _. e.start ≡ true → e.bus ≡ a.bus → e.tid ≡ 0) (λ e _ f s b. absurd (true≢false (f s b))) between x)
  is_clear a between (d ∷ ds) x = (d.first.tid, at_each_map (λ e _. e.start ≡ true → e.bus ≡ a.bus → is_fresh e.tid (d ∷ ds) ≡ false) (λ e _. e.start ≡ true → e.bus ≡ a.bus → e.tid ≡ d.first.tid) (λ e _ f s b. stale_same e.tid d ds (f s b)) between x)

  module _ (rising : IsSentList sent) where
    -- r begins
    begun_step : (r : KeyRecord) (past : List KeyRecord) (g : Got) → Kept past g → AtEach (λ e _. e.moment ≤ r.moment) past → IsExplainedAt timeout sent origin r past → begins timeout r past g.delivered ≡ true → Kept (r ∷ past) (record { begun = Some (record { first = r; since = [] }); delivered = alone crc_of timeout r past g.delivered })
    begun_step r past g k in_time x b =
        let parts = begins_parts timeout r past g.delivered b in
        let f = heard_force timeout r past parts.heard in
        let fresh = begun_fresh g.delivered r past k.gate parts.fresh in
        let d : Delivery = record { first = r; last = r; place = length past; content = r.body } in
        elim (cases_Bool r.end) [
          | inl e ↦
              let of : IsOfSent sent origin d = record { priority = x.is_sent.frame.priority; tid = x.is_sent.frame.tid; content = alone_content (transfer_at sent (origin (length past)).j) (size_on sent r.bus) (origin (length past)).i r (rising.sizes r.bus) x.is_sent.frame parts.start e } in
              subst (λ ds. Kept (r ∷ past) (record { begun = Some (record { first = r; since = [] }); delivered = ds })) (sym (cond-true r.end (d ∷ g.delivered) g.delivered e))
              (record {
                selected = add d g.delivered of (laters rising g.delivered r past k.gate in_time x f fresh) k.selected;
                gate = gate_new timeout sent origin d r past refl refl of x f;
                running = record { older = past; split = refl; start = parts.start; in_force = f; clear = λ _. tt; fresh = λ n. absurd (both_ways r.end n e) };
              })
          | inr n ↦
              subst (λ ds. Kept (r ∷ past) (record { begun = Some (record { first = r; since = [] }); delivered = ds })) (sym (cond-false r.end (d ∷ g.delivered) g.delivered n))
              (record {
                selected = k.selected;
                gate = gates g.delivered r past k.gate in_time;
                running = record { older = past; split = refl; start = parts.start; in_force = f; clear = λ _. tt; fresh = λ _. fresh };
              })
        ]

    -- the run goes on, and its chain may close
    run_step : (r : KeyRecord) (past : List KeyRecord) (run : Run) (ds : List Delivery) → Kept past (record { begun = Some run; delivered = ds }) → AtEach (λ e _. e.moment ≤ r.moment) past → IsExplainedAt timeout sent origin r past → NoChanceAt sent origin r past → begins timeout r past ds ≡ false → Kept (r ∷ past) (not_begun crc_of timeout r past (Some run) ds)
    run_step r past run ds k in_time x nc b =
        let a = run.first in
        let l = tip a run.since in
        let fit = closes_at a run.since r && eqb (crc_of (chain_bytes a (r ∷ run.since))) 0 in
        let d : Delivery = record { first = a; last = r; place = length past; content = without_crc (chain_bytes a (r ∷ run.since)) } in
        let f = force_kept timeout r past a.bus k.running.in_force (no_late_start timeout r past ds b) in
        let split : r ∷ past ≡ (r ∷ run.since) ++ a ∷ k.running.older = ap (λ h. r ∷ h) k.running.split in
        cond_both fit (d ∷ ds) ds (λ es. Kept (r ∷ past) (record { begun = Some (record { first = a; since = r ∷ run.since }); delivered = es }))
        (λ y.
        let p = and_parts (closes_at a run.since r) (eqb (crc_of (chain_bytes a (r ∷ run.since))) 0) y in
        let q = and_parts (follows a l r) r.end p.0 in
        let fp = follows_parts a l r q.0 in
        let f' = f ∙ ap (λ c. Some c) (sym fp.bus) in
        let closed : (tip a (r ∷ run.since)).end ≡ true = ap (λ (t : KeyRecord). t.end) (cond-true (follows a l r) r l q.0) ∙ q.1 in
        let of : IsOfSent sent origin d = record {
          priority = x.is_sent.frame.priority;
          tid = sym fp.tid ∙ x.is_sent.frame.tid;
          content =
              nc a run.since k.running.older k.running.split k.running.start p.0 (is_clear a run.since ds (k.running.clear fp.open_end)) (eqb-true (crc_of (chain_bytes a (r ∷ run.since))) 0 p.1)
              ∙ ap (λ c. data_on sent (origin (length past)).j c) fp.bus;
        } in
        record {
          selected = add d ds of (laters rising ds r past k.gate in_time x f' (tid_fresh a r ds (r ∷ past) (sym fp.tid) (run_fresh a ds r past (k.running.fresh fp.open_end)))) k.selected;
          gate = gate_new timeout sent origin d r past refl refl of x f';
          running = record { older = k.running.older; split = split; start = k.running.start; in_force = f; clear = λ o. absurd (both_ways (tip a (r ∷ run.since)).end o closed); fresh = λ o. absurd (both_ways (tip a (r ∷ run.since)).end o closed) };
        })
        (λ _.
        let still = cond_both (follows a l r) r l (λ t. t.end ≡ false → l.end ≡ false) (λ y e. (follows_parts a l r y).open_end) (λ n e. e) in
        record {
          selected = k.selected;
          gate = gates ds r past k.gate in_time;
          running = record {
            older = k.running.older;
            split = split;
            start = k.running.start;
            in_force = f;
            clear = λ o. (λ s e. (not_begins timeout r past ds b s (force_heard timeout r past (f ∙ ap (λ c. Some c) (sym e)))).stale, k.running.clear (still o));
            fresh = λ o. run_fresh a ds r past (k.running.fresh (still o));
          };
        })

    step : (r : KeyRecord) (past : List KeyRecord) (begun : Option Run) (ds : List Delivery) → Kept past (record { begun = begun; delivered = ds }) → AtEach (λ e _. e.moment ≤ r.moment) past → IsExplainedAt timeout sent origin r past → NoChanceAt sent origin r past → begins timeout r past ds ≡ false → Kept (r ∷ past) (not_begun crc_of timeout r past begun ds)
    step r past None ds k in_time x nc b = record { selected = k.selected; gate = gates ds r past k.gate in_time; running = tt }
    step r past (Some run) ds k in_time x nc b = run_step r past run ds k in_time x nc b

    kept : (h : List KeyRecord) → InTime h → Explained timeout sent origin h → NoChance sent origin h → Kept h (received crc_of timeout h)
    kept [] t x nc = record { selected = tt; gate = tt; running = tt }
    kept (r ∷ past) t x nc =
        let g = received crc_of timeout past in
        let k = kept past t.1 x.1 nc.1 in
        cond_both (begins timeout r past g.delivered) (record { begun = Some (record { first = r; since = [] }); delivered = alone crc_of timeout r past g.delivered }) (not_begun crc_of timeout r past g.begun g.delivered)
        (Kept (r ∷ past))
        (λ b. begun_step r past g k t.0 x.0 b)
        (λ b. step r past g.begun g.delivered k t.0 x.0 nc.0 b)

pub once_theorem : Once
once_theorem timeout sent origin records rising t x nc = (kept timeout sent origin rising records t x nc).selected
