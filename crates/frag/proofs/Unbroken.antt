-- A log in which no transfer is broken off is explained, and has no chance match.
use Rattle.std.proofs.Common.{◌≡◌, ℕ, ◌+◌, ◌-◌, ◌*◌, ◌<◌, ◌⊎◌, true, false, eqb, cond, List, [], ◌∷◌, ◌++◌, length, take, Option, Some, None, refl, sym, ap, ◌∙◌, subst, inl, inr, arith}
use Rattle.std.proofs.lemmas.Bool.{eqb-true, eqb-false, eq-eqb, ne_eqb, and_parts, both_ways, cond-true, cond-false, cases_Bool, cases_lt}
use Rattle.tail_frame.specs.Chains.{KeyRecord, AtEach, follows, tip, chain_bytes, closes_at, without_crc}
use Rattle.tail_frame.specs.declared.logged.Record.{Record}
use Rattle.frag.specs.Wire.{stream, last_frame, is_even}
use Rattle.frag.specs.Sent.{IsUpTo, transfer_at, size_on, data_on, IsSentList, IsFrame, IsSent, Explained, NoChanceAt, NoChance}
use Rattle.frag.specs.declared.sent.Pair.{Pair}
use Rattle.frag.specs.Raw.{EachRecord, WireExplained, AreRecordsOf}
use Rattle.frag.specs.Unbroken.{newest_on, MayFollow, Unbroken, UnbrokenIsExplained}
use Rattle.frag.specs.declared.sent.Sent.{Sent}
use Rattle.frag.specs.declared.sent.Transfer.{Transfer}
use Rattle.frag.proofs.Follows.{follows_parts, follows_from, not_behind_end, not_off_bus, not_alike}
use Rattle.frag.proofs.Rows.{first_bytes, more_bytes, all_bytes, without_crc_is, next_toggle, same_toggle}
use Rattle.frag.proofs.Seen.{record_place, same_length, explained_by_fields}

-- pairs never fall

up_to_trans : (a b c : Pair) → IsUpTo a b → IsUpTo b c → IsUpTo a c
up_to_trans a b c u v =
    elim u [
      | inl l ↦ elim v [ inl k ↦ inl (omega arith) | inr k ↦ inl (omega arith) ]
      | inr l ↦ elim v [ inl k ↦ inl (omega arith) | inr k ↦ inr (omega arith, omega arith) ]
    ]

follow_up : (sent : Sent) (bus : ℕ) (o p : Pair) → MayFollow sent bus (Some o) p → IsUpTo o p
follow_up sent bus o p m =
    elim m [
      | inl same ↦ inr (ap (λ (q : Pair). q.j) (sym same), (let e = ap (λ (q : Pair). q.i) same in omega arith))
      | inr other ↦ elim other [
        | inl next ↦ inr (ap (λ (q : Pair). q.j) (sym next.0), (let e = ap (λ (q : Pair). q.i) next.0 in omega arith))
        | inr later ↦ inl later.1
      ]
    ]

each_map : (P Q : Record → List Record → Type 0) → ((r : Record) (past : List Record) → P r past → Q r past) → (recs : List Record) → EachRecord P recs → EachRecord Q recs
each_map P Q f [] x = tt
each_map P Q f (r ∷ past) x = (f r past x.0, each_map P Q f past x.1)

-- the newest pair of records of a key
abbrev newest : (ℕ → Pair) → ℕ → List KeyRecord → Option Pair
newest origin bus [] = None
newest origin bus (r ∷ past) = cond (eqb r.bus bus) (Some (origin (length past))) (newest origin bus past)

newest_same : (origin : ℕ → Pair) (bus : ℕ) (recs : List Record) (records : List KeyRecord) → AreRecordsOf recs records → newest_on origin bus recs ≡ newest origin bus records
newest_same origin bus [] [] a = refl
newest_same origin bus [] (r ∷ records) a = absurd a
newest_same origin bus (rec ∷ recs) [] a = absurd a
newest_same origin bus (rec ∷ recs) (r ∷ records) a =
    ap (λ b. cond (eqb b bus) (Some (origin (length recs))) (newest_on origin bus recs)) (sym (record_place rec r a.0).0)
    ∙ (ap (λ n. cond (eqb r.bus bus) (Some (origin n)) (newest_on origin bus recs)) (same_length recs records a.1)
    ∙ ap (λ o. cond (eqb r.bus bus) (Some (origin (length records))) o) (newest_same origin bus recs records a.1))

module _ (timeout : ℕ) (sent : Sent) (origin : ℕ → Pair) where
  -- no pair of a bus is after one that may follow its newest
  on_bus : (bus : ℕ) (p : Pair) (past : List Record) → WireExplained timeout sent origin past → MayFollow sent bus (newest_on origin bus past) p → EachRecord (λ e older. e.bus ≡ bus → IsUpTo (origin (length older)) p) past
  on_bus bus p [] x m = tt
  on_bus bus p (e ∷ older) x m =
      let here = origin (length older) in
      let before = newest_on origin bus older in
      elim (cases_Bool (eqb e.bus bus)) [
        | inr other ↦ (
          λ b. absurd (eqb-false e.bus bus other b),
          on_bus bus p older x.1 (subst (λ o. MayFollow sent bus o p) (cond-false (eqb e.bus bus) (Some here) before other) m),
        )
        | inl same ↦
            let up = follow_up sent bus here p (subst (λ o. MayFollow sent bus o p) (cond-true (eqb e.bus bus) (Some here) before same) m) in (
              λ _. up,
              each_map (λ d rest. d.bus ≡ e.bus → IsUpTo (origin (length rest)) here) (λ d rest. d.bus ≡ bus → IsUpTo (origin (length rest)) p)
                  (λ d rest f b. up_to_trans (origin (length rest)) here p (f (b ∙ sym (eqb-true e.bus bus same))) up) older x.0.in_order,
            )
      ]

  explained : (recs : List Record) → Unbroken timeout sent origin recs → WireExplained timeout sent origin recs
  explained [] u = tt
  explained (rec ∷ past) u =
      let x = explained past u.1 in
      (record { is_sent = u.0.is_sent; in_order = on_bus rec.bus (origin (length past)) past x u.0.may_follow }, x)

  -- the same rule for the records of the key
  abbrev Follow : List KeyRecord → Type 0
  Follow records = AtEach (λ r past. MayFollow sent r.bus (newest origin r.bus past) (origin (length past))) records

  follow : (recs : List Record) (records : List KeyRecord) → AreRecordsOf recs records → Unbroken timeout sent origin recs → Follow records
  follow [] [] a u = tt
  follow [] (r ∷ records) a u = absurd a
  follow (rec ∷ recs) [] a u = absurd a
  follow (rec ∷ recs) (r ∷ records) a u =
      let place = (record_place rec r a.0).0 in
      let on = subst (λ b. MayFollow sent b (newest_on origin b recs) (origin (length recs))) (sym place) u.0.may_follow in
      let newer = subst (λ o. MayFollow sent r.bus o (origin (length recs))) (newest_same origin r.bus recs records a.1) on in
      (subst (λ n. MayFollow sent r.bus (newest origin r.bus records) (origin n)) (same_length recs records a.1) newer, follow recs records a.1 u.1)

  module _ (list : IsSentList sent) (a : KeyRecord) (older : List KeyRecord) where
    abbrev j : ℕ
    j = (origin (length older)).j

    abbrev x : Transfer
    x = transfer_at sent j

    abbrev m : ℕ
    m = size_on sent a.bus

    abbrev top : ℕ
    top = last_frame m x.payload

    abbrev the_stream : List ℕ
    the_stream = stream m x.payload

    abbrev pair : ℕ → Pair
    pair i = record { j = j; i = i }

    abbrev here : List KeyRecord → List KeyRecord
    here between = between ++ a ∷ older

    -- the chain of a has the transfer's frames up to number k, not the last, and this is the newest one on the bus
    record Open (between : List KeyRecord) : Type 0 where
      k : ℕ
      below : k < top
      open_end : (tip a between).end ≡ false
      toggle : (tip a between).toggle ≡ is_even k
      tid : a.tid ≡ x.tid
      bytes : chain_bytes a between ≡ take ((k + 1) * (m - 1)) the_stream
      latest : newest origin a.bus (here between) ≡ Some (pair k)

    -- or it is closed
    abbrev State : List KeyRecord → Type 0
    State between = Open between ⊎ ((tip a between).end ≡ true)

    -- the frame that a record of the bus is
    frame_is : (r : KeyRecord) (before : List KeyRecord) (i : ℕ) → IsSent timeout sent (origin (length before)) r → r.bus ≡ a.bus → origin (length before) ≡ pair i → IsFrame x m i r
    frame_is r before i s b e =
        subst (λ c. IsFrame x (size_on sent c) i r) b
        (subst (λ (o : Pair). IsFrame (transfer_at sent o.j) (size_on sent r.bus) o.i r) e s.frame)

    newest_is : (r : KeyRecord) (before : List KeyRecord) (i : ℕ) → r.bus ≡ a.bus → origin (length before) ≡ pair i → newest origin a.bus (r ∷ before) ≡ Some (pair i)
    newest_is r before i b e = cond-true (eqb r.bus a.bus) (Some (origin (length before))) (newest origin a.bus before) (eq-eqb r.bus a.bus b) ∙ ap (λ o. Some o) e

    first : a.start ≡ true → IsSent timeout sent (origin (length older)) a → State []
    first start s =
        let zero_of : (origin (length older)).i ≡ 0 = eqb-true (origin (length older)).i 0 (sym s.frame.start ∙ start) in
        let e : origin (length older) ≡ pair 0 = ap pair zero_of in
        let f = frame_is a older 0 s refl e in
        elim (cases_lt 0 top) [
          | inl l ↦ inl (record {
            k = 0;
            below = l;
            open_end = f.end ∙ ne_eqb 0 top (λ z. absurd (omega arith));
            toggle = f.toggle;
            tid = f.tid;
            bytes = first_bytes x m a f;
            latest = newest_is a older 0 refl e;
          })
          | inr g ↦ inr (f.end ∙ eq-eqb 0 top (omega arith))
        ]

    -- r isn't taken
    stay : (r : KeyRecord) (between : List KeyRecord) (o : Open between) → follows a (tip a between) r ≡ false → newest origin a.bus (r ∷ here between) ≡ Some (pair o.k) → Open (r ∷ between)
    stay r between o n latest =
        let l = tip a between in
        record {
          k = o.k;
          below = o.below;
          open_end = ap (λ (t : KeyRecord). t.end) (cond-false (follows a l r) r l n) ∙ o.open_end;
          toggle = ap (λ (t : KeyRecord). t.toggle) (cond-false (follows a l r) r l n) ∙ o.toggle;
          tid = o.tid;
          bytes = cond-false (follows a l r) (chain_bytes a between ++ r.body) (chain_bytes a between) n ∙ o.bytes;
          latest = latest;
        }

    -- the next frame follows
    next_follows : (r : KeyRecord) (between : List KeyRecord) (o : Open between) → IsFrame x m (o.k + 1) r → r.bus ≡ a.bus → follows a (tip a between) r ≡ true
    next_follows r between o f b =
        follows_from a (tip a between) r o.open_end (f.start ∙ ne_eqb (o.k + 1) 0 (λ z. absurd (omega arith))) b (f.tid ∙ sym o.tid)
        (next_toggle (tip a between) r o.k (o.k + 1) o.toggle f.toggle refl)

    bytes_with : (r : KeyRecord) (between : List KeyRecord) (o : Open between) → IsFrame x m (o.k + 1) r → r.bus ≡ a.bus → chain_bytes a (r ∷ between) ≡ take ((o.k + 1 + 1) * (m - 1)) the_stream
    bytes_with r between o f b =
        cond-true (follows a (tip a between) r) (chain_bytes a between ++ r.body) (chain_bytes a between) (next_follows r between o f b)
        ∙ more_bytes the_stream (chain_bytes a between) r.body o.k (o.k + 1) (m - 1) refl o.bytes f.body

    -- the next frame is taken, and may be the last
    extend : (r : KeyRecord) (between : List KeyRecord) (o : Open between) → IsSent timeout sent (origin (length (here between))) r → r.bus ≡ a.bus → origin (length (here between)) ≡ pair (o.k + 1) → State (r ∷ between)
    extend r between o s b e =
        let f = frame_is r (here between) (o.k + 1) s b e in
        let l = tip a between in
        let taken = cond-true (follows a l r) r l (next_follows r between o f b) in
        let end = ap (λ (t : KeyRecord). t.end) taken ∙ f.end in
        elim (cases_lt (o.k + 1) top) [
          | inl low ↦ inl (record {
            k = o.k + 1;
            below = low;
            open_end = end ∙ ne_eqb (o.k + 1) top (λ z. absurd (omega arith));
            toggle = ap (λ (t : KeyRecord). t.toggle) taken ∙ f.toggle;
            tid = o.tid;
            bytes = bytes_with r between o f b;
            latest = newest_is r (here between) (o.k + 1) b e;
          })
          | inr high ↦ inr (end ∙ eq-eqb (o.k + 1) top (let low = o.below in omega arith))
        ]

    -- what may follow an open chain on its bus: a copy, or the next frame
    abbrev Next : ℕ → Pair → Type 0
    Next k p = (p ≡ pair k) ⊎ (p ≡ pair (k + 1))

    next_of : (r : KeyRecord) (between : List KeyRecord) (o : Open between) (p : Pair) → r.bus ≡ a.bus → MayFollow sent r.bus (newest origin r.bus (here between)) p → Next o.k p
    next_of r between o p b may =
        let on = subst (λ c. MayFollow sent c (newest origin c (here between)) p) b may in
        let behind = subst (λ n. MayFollow sent a.bus n p) o.latest on in
        elim behind [
          | inl same ↦ inl same
          | inr other ↦ elim other [ inl next ↦ inr next.0 | inr later ↦ (let low = o.below in let end : o.k ≡ top = later.0 in absurd (omega arith)) ]
        ]

    copy : (r : KeyRecord) (between : List KeyRecord) (o : Open between) → IsSent timeout sent (origin (length (here between))) r → r.bus ≡ a.bus → origin (length (here between)) ≡ pair o.k → follows a (tip a between) r ≡ false
    copy r between o s b e = not_alike a (tip a between) r (same_toggle (tip a between) r o.k o.toggle (frame_is r (here between) o.k s b e).toggle)

    step : (r : KeyRecord) (between : List KeyRecord) → IsSent timeout sent (origin (length (here between))) r → MayFollow sent r.bus (newest origin r.bus (here between)) (origin (length (here between))) → State between → State (r ∷ between)
    step r between s may (inr closed) =
        let l = tip a between in
        inr (ap (λ (t : KeyRecord). t.end) (cond-false (follows a l r) r l (not_behind_end a l r closed)) ∙ closed)
    step r between s may (inl o) =
        elim (cases_Bool (eqb r.bus a.bus)) [
          | inr other ↦ inl (stay r between o (not_off_bus a (tip a between) r (eqb-false r.bus a.bus other)) (cond-false (eqb r.bus a.bus) (Some (origin (length (here between)))) (newest origin a.bus (here between)) other ∙ o.latest))
          | inl same ↦
              let b = eqb-true r.bus a.bus same in
              elim (next_of r between o (origin (length (here between))) b may) [
                | inl again ↦ inl (stay r between o (copy r between o s b again) (newest_is r (here between) o.k b again))
                | inr next ↦ extend r between o s b next
              ]
        ]

    state : a.start ≡ true → (between : List KeyRecord) → Explained timeout sent origin (here between) → Follow (here between) → State between
    state start [] ex may = first start ex.0.is_sent
    state start (r ∷ between) ex may = step r between ex.0.is_sent may.0 (state start between ex.1 may.1)

    -- where the chain closes, its bytes are those of the transfer
    closed_bytes : (q : KeyRecord) (between : List KeyRecord) → State between → closes_at a between q ≡ true → IsSent timeout sent (origin (length (here between))) q → MayFollow sent q.bus (newest origin q.bus (here between)) (origin (length (here between)))
        → without_crc (chain_bytes a (q ∷ between)) ≡ data_on sent (origin (length (here between))).j q.bus
    closed_bytes q between (inr closed) c s may = absurd (both_ways (follows a (tip a between) q) (not_behind_end a (tip a between) q closed) (and_parts (follows a (tip a between) q) q.end c).0)
    closed_bytes q between (inl o) c s may =
        let parts = and_parts (follows a (tip a between) q) q.end c in
        let b = (follows_parts a (tip a between) q parts.0).bus in
        elim (next_of q between o (origin (length (here between))) b may) [
          | inl again ↦ absurd (both_ways (follows a (tip a between) q) (copy q between o s b again) parts.0)
          | inr next ↦
              let f = frame_is q (here between) (o.k + 1) s b next in
              let last : o.k + 1 ≡ top = eqb-true (o.k + 1) top (sym f.end ∙ parts.1) in
              let whole = ap (λ n. take ((n + 1) * (m - 1)) the_stream) last ∙ all_bytes x m (list.sizes a.bus) in
              ap without_crc (bytes_with q between o f b ∙ whole)
              ∙ (without_crc_is x m (list.sizes a.bus) (omega arith)
              ∙ (ap (λ (p : Pair). data_on sent p.j a.bus) (sym next) ∙ ap (λ c. data_on sent (origin (length (here between))).j c) (sym b)))
        ]

  no_chance_at : IsSentList sent → (q : KeyRecord) (past : List KeyRecord) → Explained timeout sent origin (q ∷ past) → Follow (q ∷ past) → NoChanceAt sent origin q past
  no_chance_at list q past ex may a between older e start c clear zero_of =
      let here = between ++ a ∷ older in
      let ex' = subst (λ h. Explained timeout sent origin (q ∷ h)) e ex in
      let may' = subst (λ h. Follow (q ∷ h)) e may in
      closed_bytes list a older q between (state list a older start between ex'.1 may'.1) c ex'.0.is_sent may'.0
      ∙ ap (λ h. data_on sent (origin (length h)).j q.bus) (sym e)

  no_chance : IsSentList sent → (records : List KeyRecord) → Explained timeout sent origin records → Follow records → NoChance sent origin records
  no_chance list [] ex may = tt
  no_chance list (q ∷ past) ex may = (no_chance_at list q past ex may, no_chance list past ex.1 may.1)

pub unbroken : UnbrokenIsExplained
unbroken timeout sent source origin recs records has list a u =
    let x = explained timeout sent origin recs u in (
      x,
      no_chance timeout sent origin list records (explained_by_fields timeout sent source origin recs records has list a x) (follow timeout sent origin recs records a u),
    )
