-- In the log each frame may follow on the newest of its source on its bus.
use Rattle.std.proofs.Common.{◌≡◌, ℕ, zero, suc, ◌+◌, ◌*◌, ◌<◌, ◌≤◌, ◌⊎◌, Bool, true, false, cond, ◌&&◌, eqb, List, [], ◌∷◌, ◌++◌, replicate, Option, Some, None, refl, sym, ap, ◌∙◌, subst, inl, inr, add-one, le_refl, arith}
use Rattle.std.specs.Prelude.{⊤}
use Rattle.std.proofs.lemmas.Bool.{cond-true, cond-false, eq-eqb, eqb-true, ne_eqb, cases_Bool, and_parts, and_from, and_right}
use Rattle.std.proofs.lemmas.List.FromFn.{get_or-map-range_with_len}
use Rattle.frag.specs.Wire.{last_frame}
use Rattle.frag.specs.Sent.{size_on, transfer_at, last_on_bus, nothing}
use Rattle.frag.specs.Unbroken.{MayFollow}
use Rattle.frag.specs.declared.sent.Pair.{Pair}
use Rattle.log_gen.specs.Rows.{copies, row, on_bus, place_of, source_of, pair_of, frame_count, transfer, sent_of, on_buses, rows}
use Rattle.log_gen.specs.declared.row.Row.{Row}
use Rattle.log_gen.specs.declared.way.Way.{Way}
use Rattle.log_gen.specs.declared.way.Way.TheVariants as way

-- P of each frame and those before it
abbrev pub EachRow : (Row → List Row → Type 0) → List Row → Type 0
EachRow P [] = ⊤
EachRow P (r ∷ past) = P r past × EachRow P past

-- whether a frame is of a source, on a bus
abbrev pub is_on : ℕ → ℕ → Row → Bool
is_on s bus r = eqb (source_of r.transfer) s && eqb r.bus bus

-- the pair of the newest of them
abbrev pub newest_pair : ℕ → ℕ → List Row → Option Pair
newest_pair s bus [] = None
newest_pair s bus (r ∷ past) = cond (is_on s bus r) (Some (pair_of r)) (newest_pair s bus past)

-- the moment of the newest frame
abbrev pub newest_at : List Row → ℕ
newest_at [] = 0
newest_at (r ∷ past) = 1000 * r.transfer + 300 * r.bus

on_own_bus : (r : Row) → is_on (source_of r.transfer) r.bus r ≡ true
on_own_bus r = and_from (eqb (source_of r.transfer) (source_of r.transfer)) (eqb r.bus r.bus) (eq-eqb (source_of r.transfer) (source_of r.transfer) refl) (eq-eqb r.bus r.bus refl)

-- a frame that was missing was missing from the first one on
missing_before : (w : Way) (i : ℕ) → copies w (suc i) ≡ 0 → copies w i ≡ 0
missing_before way.Missing i e = refl
missing_before way.Headless i e = absurd (omega (arith, e))
missing_before way.Twice i e = absurd (omega (arith, e))
missing_before way.Whole i e = absurd (omega (arith, e))

module _ (payload : ℕ → List ℕ) (n : ℕ) where
  -- the number of the last frame of transfer k of a source
  abbrev pub last_of : ℕ → ℕ → ℕ
  last_of s k = last_frame 8 (payload (4 * k + s))

  -- a frame of the first 4 n transfers, on one of three buses, behind what may stand before it
  pub record IsInTurn (r : Row) (past : List Row) : Type 0 where
    pub known : r.transfer < 4 * n
    pub bus : r.bus < 3
    pub within : r.frame ≤ last_frame 8 (payload r.transfer)
    pub in_time : newest_at past ≤ 1000 * r.transfer + 300 * r.bus
    pub follows : MayFollow (sent_of payload n (source_of r.transfer)) r.bus (newest_pair (source_of r.transfer) r.bus past) (pair_of r)

  pub sizes_are : (s bus : ℕ) → size_on (sent_of payload n s) bus ≡ 8
  sizes_are s zero = refl
  sizes_are s (suc zero) = refl
  sizes_are s (suc (suc zero)) = refl
  sizes_are s (suc (suc (suc bus))) = refl

  pub transfers_are : (s k : ℕ) → k < n → transfer_at (sent_of payload n s) k ≡ transfer payload (4 * k + s)
  transfers_are s k l = get_or-map-range_with_len (λ k. transfer payload (4 * k + s)) 0 n k k nothing l (omega arith)

  last_is : (s k bus : ℕ) → k < n → last_on_bus (sent_of payload n s) k bus ≡ last_of s k
  last_is s k bus l =
      ap (λ m. last_frame m (transfer_at (sent_of payload n s) k).payload) (sizes_are s bus)
      ∙ ap (λ x. last_frame 8 x.payload) (transfers_are s k l)

  -- the newest frame of a source on a bus, if there is one, is the last of a transfer before number j
  abbrev Rests : ℕ → ℕ → Option Pair → Type 0
  Rests j s None = ⊤
  Rests j s (Some o) = (o.i ≡ last_of s o.j) × (4 * o.j + s < j)

  later : (j k s : ℕ) (o : Option Pair) → j ≤ k → Rests j s o → Rests k s o
  later j k s None l h = h
  later j k s (Some o) l h = (h.0, omega (arith, h.1))

  -- behind the end of an earlier transfer
  follows_rest : (s bus k i : ℕ) (o : Option Pair) → k < n → Rests (4 * k + s) s o → MayFollow (sent_of payload n s) bus o (record { j = k; i = i })
  follows_rest s bus k i None l h = tt
  follows_rest s bus k i (Some o) l h =
      let before : o.j < k = omega (arith, h.1) in inr (inr (h.0 ∙ sym (last_is s o.j bus (omega arith)), before))

  -- behind the frame before it
  follows_frame : (s bus k i : ℕ) (o : Option Pair) → k < n → suc i ≤ last_of s k → o ≡ Some (record { j = k; i = i }) → MayFollow (sent_of payload n s) bus o (record { j = k; i = suc i })
  follows_frame s bus k i o l at e =
      let P : Option Pair → Type 0 = λ q. MayFollow (sent_of payload n s) bus q (record { j = k; i = suc i }) in
      subst P (sym e) (inr (inl (ap (λ m. record { j = k; i = m }) (sym (add-one i)), (let e = last_is s k bus l in omega arith))))

  -- the same frame again
  again : (r : Row) (past : List Row) → IsInTurn r past → IsInTurn r (r ∷ past)
  again r past h =
      let s = source_of r.transfer in
      let P : Option Pair → Type 0 = λ q. MayFollow (sent_of payload n s) r.bus q (pair_of r) in
      record {
        known = h.known;
        bus = h.bus;
        within = h.within;
        in_time = le_refl (1000 * r.transfer + 300 * r.bus);
        follows = subst P (sym (cond-true (is_on s r.bus r) (Some (pair_of r)) (newest_pair s r.bus past) (on_own_bus r))) (inl refl);
      }

  several : (c : ℕ) (r : Row) (past : List Row) → (0 < c → IsInTurn r past) → EachRow IsInTurn past → EachRow IsInTurn (replicate c r ++ past)
  several zero r past h each = each
  several (suc zero) r past h each = (h (omega arith), each)
  several (suc (suc c)) r past h each =
      let t = several (suc c) r past (λ _. h (omega arith)) each in (again r (replicate c r ++ past) t.0, t)

  newest_several : (c : ℕ) (r : Row) (past : List Row) → 0 < c → newest_pair (source_of r.transfer) r.bus (replicate c r ++ past) ≡ Some (pair_of r)
  newest_several zero r past l = absurd (omega arith)
  newest_several (suc c) r past l =
      cond-true (is_on (source_of r.transfer) r.bus r) (Some (pair_of r)) (newest_pair (source_of r.transfer) r.bus (replicate c r ++ past)) (on_own_bus r)

  newest_other : (c : ℕ) (r : Row) (past : List Row) (t b : ℕ) → is_on t b r ≡ false → newest_pair t b (replicate c r ++ past) ≡ newest_pair t b past
  newest_other zero r past t b e = refl
  newest_other (suc c) r past t b e =
      cond-false (is_on t b r) (Some (pair_of r)) (newest_pair t b (replicate c r ++ past)) e ∙ newest_other c r past t b e

  time_several : (c : ℕ) (r : Row) (past : List Row) → newest_at past ≤ 1000 * r.transfer + 300 * r.bus → newest_at (replicate c r ++ past) ≤ 1000 * r.transfer + 300 * r.bus
  time_several zero r past h = h
  time_several (suc c) r past h = le_refl (1000 * r.transfer + 300 * r.bus)

  -- frames of one transfer on one bus
  module _ (w : Way) (j bus : ℕ) (past : List Row) where
    abbrev s : ℕ
    s = source_of j

    abbrev k : ℕ
    k = place_of j

    abbrev upto : ℕ → List Row
    upto i = on_bus w j bus i past

    -- what the newest frame is behind the first i frames
    abbrev State : ℕ → Type 0
    State zero = ⊤
    State (suc i) =
        ((copies w i ≡ 0) × (newest_pair s bus (upto (suc i)) ≡ newest_pair s bus past))
        ⊎ ((0 < copies w i) × (newest_pair s bus (upto (suc i)) ≡ Some (record { j = k; i = i })))

    -- the transfer may begin on the bus
    record Begins : Type 0 where
      known : j < 4 * n
      fits : bus < 3
      rests : Rests j s (newest_pair s bus past)
      time : newest_at past ≤ 1000 * j + 300 * bus

    same_transfer : 4 * k + s ≡ j
    same_transfer = omega arith

    begin : Begins → (i : ℕ) → MayFollow (sent_of payload n s) bus (newest_pair s bus past) (record { j = k; i = i })
    begin b i =
        let known : j < 4 * n = b.known in
        follows_rest s bus k i (newest_pair s bus past) (omega arith)
        (let P : ℕ → Type 0 = λ m. Rests m s (newest_pair s bus past) in subst P (sym same_transfer) b.rests)

    may_follow : Begins → (i : ℕ) → i ≤ last_frame 8 (payload j) → State i → MayFollow (sent_of payload n s) bus (newest_pair s bus (upto i)) (record { j = k; i = i })
    may_follow b zero l st = begin b 0
    may_follow b (suc i) l st =
        let P : Option Pair → Type 0 = λ q. MayFollow (sent_of payload n s) bus q (record { j = k; i = suc i }) in
        let Q : ℕ → Type 0 = λ m. suc i ≤ last_frame 8 (payload m) in
        let known : j < 4 * n = b.known in
        elim st [
          | inl h ↦ subst P (sym h.1) (begin b (suc i))
          | inr h ↦ follows_frame s bus k i (newest_pair s bus (upto (suc i))) (omega arith) (subst Q (sym same_transfer) l) h.1
        ]

    idle : (i : ℕ) → State i → copies w i ≡ 0 → newest_pair s bus (upto i) ≡ newest_pair s bus past
    idle zero st e = refl
    idle (suc i) st e =
        elim st [
          | inl h ↦ h.1
          | inr h ↦ (let none = missing_before w i e in let some : 0 < copies w i = h.0 in absurd (omega arith))
        ]

    next_by : (i c : ℕ) → copies w i ≡ c → State i → State (suc i)
    next_by i zero e st =
        inl (e, ap (λ c. newest_pair s bus (replicate c (row j bus i) ++ upto i)) e ∙ idle i st e)
    next_by i (suc c) e st =
        let some : 0 < copies w i = omega (arith, e) in inr (some, newest_several (copies w i) (row j bus i) (upto i) some)

    stand : Begins → EachRow IsInTurn past → (i : ℕ) → i ≤ suc (last_frame 8 (payload j)) → EachRow IsInTurn (upto i) × State i × (newest_at (upto i) ≤ 1000 * j + 300 * bus)
    stand b each zero l = (each, tt, b.time)
    stand b each (suc i) l =
        let t = stand b each i (omega arith) in
        let r = row j bus i in (
          several (copies w i) r (upto i) (λ _. record {
            known = b.known;
            bus = b.fits;
            within = omega arith;
            in_time = t.2;
            follows = may_follow b i (omega arith) t.1;
          }) t.0,
          next_by i (copies w i) refl t.1,
          time_several (copies w i) r (upto i) t.2,
        )

    -- the others' newest frames stay
    others : (t c i : ℕ) → is_on t c (row j bus 0) ≡ false → newest_pair t c (upto i) ≡ newest_pair t c past
    others t c zero e = refl
    others t c (suc i) e = newest_other (copies w i) (row j bus i) (upto i) t c e ∙ others t c i e

    -- behind the whole transfer
    rested : Begins → State (suc (last_frame 8 (payload j))) → Rests (suc j) s (newest_pair s bus (upto (suc (last_frame 8 (payload j)))))
    rested b st =
        let P : Option Pair → Type 0 = Rests (suc j) s in
        elim st [
          | inl h ↦ subst P (sym h.1) (later j (suc j) s (newest_pair s bus past) (omega arith) b.rests)
          | inr h ↦ subst P (sym h.1) (ap (λ m. last_frame 8 (payload m)) (sym same_transfer), omega (arith, same_transfer))
        ]

  -- frames of transfer j on the first buses
  record Stands (j buses : ℕ) (all : List Row) : Type 0 where
    each : EachRow IsInTurn all
    rests : (t bus : ℕ) → Rests (suc j) t (newest_pair t bus all)
    unused : (bus : ℕ) → buses ≤ bus → Rests j (source_of j) (newest_pair (source_of j) bus all)
    time : newest_at all ≤ 1000 * j + 300 * buses

  next_bus : (w : Way) (j bus : ℕ) (past : List Row) → j < 4 * n → bus < 3 → Stands j bus past → Stands j (suc bus) (on_bus w j bus (frame_count payload j) past)
  next_bus w j bus past known fits st =
      let last = last_frame 8 (payload j) in
      let all = on_bus w j bus (suc last) past in
      let b : Begins w j bus past = record { known = known; fits = fits; rests = st.unused bus (le_refl bus); time = st.time } in
      let t = stand w j bus past b st.each (suc last) (le_refl (suc last)) in
      let r = row j bus 0 in
      let R : ℕ → Option Pair → Type 0 = λ v. Rests (suc j) v in
      let stands : Stands j (suc bus) all = record {
        each = t.0;
        rests = λ v c.
            elim (cases_Bool (is_on v c r)) [
              | inl here ↦
                  (let both = and_parts (eqb (source_of j) v) (eqb bus c) here in
                  let P : ℕ → Type 0 = λ m. R m (newest_pair m c all) in
                  let Q : ℕ → Type 0 = λ m. R (source_of j) (newest_pair (source_of j) m all) in
                  subst P (eqb-true (source_of j) v both.0) (subst Q (eqb-true bus c both.1) (rested w j bus past b t.1)))
              | inr away ↦ subst (R v) (sym (others w j bus past v c (suc last) away)) (st.rests v c)
            ];
        unused = λ c l.
            (let away = and_right (eqb (source_of j) (source_of j)) (eqb bus c) (ne_eqb bus c (λ e. omega arith)) in
            let P : Option Pair → Type 0 = Rests j (source_of j) in
            subst P (sym (others w j bus past (source_of j) c (suc last) away)) (st.unused c (omega arith)));
        time = omega (arith, t.2);
      } in
      let P : ℕ → Type 0 = λ m. Stands j (suc bus) (on_bus w j bus m past) in subst P (sym (add-one last)) stands

  -- frames of the first transfers
  record AllStand (m : ℕ) (all : List Row) : Type 0 where
    each : EachRow IsInTurn all
    rests : (t bus : ℕ) → Rests m t (newest_pair t bus all)
    time : newest_at all ≤ 1000 * m

  all_stand : (way : ℕ → ℕ → Way) (m : ℕ) → m ≤ 4 * n → AllStand m (rows payload way m)
  all_stand way zero l = record { each = tt; rests = λ t bus. tt; time = omega arith }
  all_stand way (suc j) l =
      let before = all_stand way j (omega arith) in
      let past = rows payload way j in
      let none : Stands j 0 past = record {
        each = before.each;
        rests = λ t bus. later j (suc j) t (newest_pair t bus past) (omega arith) (before.rests t bus);
        unused = λ bus _. before.rests (source_of j) bus;
        time = omega (arith, before.time);
      } in
      let k = place_of j in
      let one = next_bus (way k 0) j 0 past (omega arith) (omega arith) none in
      let two = next_bus (way k 1) j 1 (on_buses payload way j 1 past) (omega arith) (omega arith) one in
      let three = next_bus (way k 2) j 2 (on_buses payload way j 2 past) (omega arith) (omega arith) two in
      record { each = three.each; rests = three.rests; time = omega (arith, three.time) }

  pub all_in_turn : (way : ℕ → ℕ → Way) (m : ℕ) → m ≤ 4 * n → EachRow IsInTurn (rows payload way m)
  all_in_turn way m l = (all_stand way m l).each
