-- What is due is delivered
use Rattle.std.proofs.Common.{◌≡◌, ℕ, ◌+◌, ◌-◌, ◌*◌, ◌/◌, ◌<◌, ◌≤◌, ◌⊎◌, true, false, ◌&&◌, ◌||◌, eqb, List, [], ◌∷◌, ◌++◌, length, take, Option, Some, None, refl, sym, ap, ◌∙◌, subst, inl, inr, le_trans, le_refl, arith}
use Rattle.std.proofs.lemmas.Bool.{eqb-true, eqb-false, eq-eqb, ne_eqb, and_parts, and_from, and_left, and_right, or_left, or_right, cond-true, cond-false, cond_both, cases_Bool, cases_lt}
use Rattle.tail_frame.specs.Chains.{KeyRecord, AtEach, follows, tip, chain_bytes, closes_at, without_crc}
use Rattle.redundancy.specs.Force.{force, heard, late, is_bus}
use Rattle.rx_table.specs.Received.{Delivery, Run, Got, is_fresh, begins, alone, completed, not_begun, after, received}
use Rattle.frag.specs.Wire.{IsFrameSize, padded, stream, last_frame, is_even}
use Rattle.frag.specs.Sent.{transfer_at, size_on, IsSentList, IsFrame, IsUpTo, IsExplainedAt, Explained}
use Rattle.frag.specs.declared.sent.Pair.{Pair}
use Rattle.frag.specs.declared.sent.Sent.{Sent}
use Rattle.frag.specs.declared.sent.Transfer.{Transfer}
use Rattle.transfer_crc.specs.Crc.{crc_of}
use Rattle.frag.proofs.Follows.{follows_from, not_off_bus, not_alike}
use Rattle.frag.proofs.Rows.{several, first_bytes, more_bytes, all_bytes, next_toggle, same_toggle}
use Rattle.frag.proofs.Sizes.{stream_many}
use Rattle.transfer_crc.proofs.Own.{crc_of-own}
use Rattle.frag.specs.Sent.{last_on_bus}
use Rattle.delivery_theorems.specs.Due.{Any, FromTo, SomeFromTo, DueIsDelivered}
use Rattle.redundancy.proofs.Forces.{force_heard}

-- lists of records from a place down to p

at_p : (P : KeyRecord → List KeyRecord → Type 0) (seg : List KeyRecord) (p : KeyRecord) (older : List KeyRecord) → AtEach P (seg ++ p ∷ older) → P p older
at_p P [] p older x = x.0
at_p P (r ∷ seg) p older x = at_p P seg p older x.1

from_to_map : (P Q : KeyRecord → List KeyRecord → Type 0) → ((r : KeyRecord) (before : List KeyRecord) → P r before → Q r before) → (seg : List KeyRecord) (p : KeyRecord) (older : List KeyRecord) → FromTo P seg p older → FromTo Q seg p older
from_to_map P Q f [] p older x = f p older x
from_to_map P Q f (r ∷ seg) p older x = (f r (seg ++ p ∷ older) x.0, from_to_map P Q f seg p older x.1)

from_to_both : (P Q : KeyRecord → List KeyRecord → Type 0) (seg : List KeyRecord) (p : KeyRecord) (older : List KeyRecord) → FromTo P seg p older → FromTo Q seg p older → FromTo (λ r before. P r before × Q r before) seg p older
from_to_both P Q [] p older x y = (x, y)
from_to_both P Q (r ∷ seg) p older x y = ((x.0, y.0), from_to_both P Q seg p older x.1 y.1)

from_to_all : (P : KeyRecord → List KeyRecord → Type 0) (seg : List KeyRecord) (p : KeyRecord) (older : List KeyRecord) → AtEach P (seg ++ p ∷ older) → FromTo P seg p older
from_to_all P [] p older x = x.0
from_to_all P (r ∷ seg) p older x = (x.0, from_to_all P seg p older x.1)

pick : {C : Type 0} (P Q : KeyRecord → List KeyRecord → Type 0) → ((r : KeyRecord) (before : List KeyRecord) → P r before → Q r before → C) → (seg : List KeyRecord) (p : KeyRecord) (older : List KeyRecord) → FromTo P seg p older → SomeFromTo Q seg p older → C
pick P Q f [] p older x y = f p older x y
pick P Q f (r ∷ seg) p older x y = elim y [ inl z ↦ f r (seg ++ p ∷ older) x.0 z | inr z ↦ pick P Q f seg p older x.1 z ]

shorter : (bound : ℕ) (seg : List KeyRecord) (p : KeyRecord) (older : List KeyRecord) → length (seg ++ p ∷ older) ≤ bound → FromTo (λ r before. length before < bound) seg p older
shorter bound [] p older l = l
shorter bound (r ∷ seg) p older l = (l, shorter bound seg p older (omega arith))

-- a delivery stays
some_after : (crc : List ℕ → ℕ) (timeout : ℕ) (P : Delivery → Type 0) (r : KeyRecord) (past : List KeyRecord) (begun : Option Run) (ds : List Delivery) → Any P ds → Any P (not_begun crc timeout r past begun ds).delivered
some_after crc timeout P r past None ds s = s
some_after crc timeout P r past (Some run) ds s =
    cond_both (closes_at run.first run.since r && eqb (crc (chain_bytes run.first (r ∷ run.since))) 0) (record { first = run.first; last = r; place = length past; content = without_crc (chain_bytes run.first (r ∷ run.since)) } ∷ ds) ds
    (Any P) (λ _. inr s) (λ _. s)

some_grows : (crc : List ℕ → ℕ) (timeout : ℕ) (P : Delivery → Type 0) (newer h : List KeyRecord) → Any P (received crc timeout h).delivered → Any P (received crc timeout (newer ++ h)).delivered
some_grows crc timeout P [] h s = s
some_grows crc timeout P (r ∷ newer) h s =
    let past = newer ++ h in
    let g = received crc timeout past in
    let s' = some_grows crc timeout P newer h s in
    cond_both (begins timeout r past g.delivered) (record { begun = Some (record { first = r; since = [] }); delivered = alone crc timeout r past g.delivered }) (not_begun crc timeout r past g.begun g.delivered) (λ (w : Got). Any P w.delivered)
    (λ _. cond_both r.end (record { first = r; last = r; place = length past; content = r.body } ∷ g.delivered) g.delivered (Any P) (λ _. inr s') (λ _. s'))
    (λ _. some_after crc timeout P r past g.begun g.delivered s')

-- one step of what is received

pub begun_state : (crc : List ℕ → ℕ) (timeout : ℕ) (r : KeyRecord) (past : List KeyRecord) → begins timeout r past (received crc timeout past).delivered ≡ true → received crc timeout (r ∷ past) ≡ record { begun = Some (record { first = r; since = [] }); delivered = alone crc timeout r past (received crc timeout past).delivered }
begun_state crc timeout r past b =
    let g = received crc timeout past in
    cond-true (begins timeout r past g.delivered) (record { begun = Some (record { first = r; since = [] }); delivered = alone crc timeout r past g.delivered }) (not_begun crc timeout r past g.begun g.delivered) b

pub run_state : (crc : List ℕ → ℕ) (timeout : ℕ) (r : KeyRecord) (past : List KeyRecord) (run : Run) (ds : List Delivery) → received crc timeout past ≡ record { begun = Some run; delivered = ds } → begins timeout r past ds ≡ false → received crc timeout (r ∷ past) ≡ record { begun = Some (record { first = run.first; since = r ∷ run.since }); delivered = completed crc timeout r past run ds }
run_state crc timeout r past run ds e b =
    ap (after crc timeout r past) e
    ∙ cond-false (begins timeout r past ds) (record { begun = Some (record { first = r; since = [] }); delivered = alone crc timeout r past ds }) (not_begun crc timeout r past (Some run) ds) b

pub not_closing : (crc : List ℕ → ℕ) (timeout : ℕ) (r : KeyRecord) (past : List KeyRecord) (run : Run) (ds : List Delivery) → closes_at run.first run.since r ≡ false → completed crc timeout r past run ds ≡ ds
not_closing crc timeout r past run ds n =
    cond-false (closes_at run.first run.since r && eqb (crc (chain_bytes run.first (r ∷ run.since))) 0) (record { first = run.first; last = r; place = length past; content = without_crc (chain_bytes run.first (r ∷ run.since)) } ∷ ds) ds
    (and_left (closes_at run.first run.since r) (eqb (crc (chain_bytes run.first (r ∷ run.since))) 0) n)

div_small : (n d : ℕ) → n < d → n / d ≡ 0
div_small n d l = grind arith

-- between two pairs of one transfer, and not the last
inside : (o lo hi : Pair) (at end : ℕ) {j top : ℕ} → lo.j ≡ j → hi.j ≡ j → hi.i ≡ top → IsUpTo o hi → IsUpTo lo o → (o.j ≡ j → o.i ≡ top → at ≡ end) → at < end → (o.j ≡ j) × (o.i < top)
inside o lo hi at end {j} {top} lj hj hi_i up from first before =
    let same : o.j ≡ j = elim up [ inl a ↦ elim from [ inl b ↦ absurd (omega arith) | inr b ↦ absurd (omega arith) ] | inr a ↦ omega arith ] in (
      same,
      elim up [
        | inl a ↦ elim from [ inl b ↦ absurd (omega arith) | inr b ↦ absurd (omega arith) ]
        | inr a ↦
            elim (cases_lt o.i top) [ inl l ↦ l | inr g ↦ (let e = first same (omega arith) in absurd (omega arith)) ]
      ],
    )

module _ (timeout : ℕ) (sent : Sent) (origin : ℕ → Pair) (j : ℕ) (p : KeyRecord) (older : List KeyRecord) where
  abbrev x : Transfer
  x = transfer_at sent j

  abbrev m : ℕ
  m = size_on sent p.bus

  abbrev top : ℕ
  top = last_frame m x.payload

  abbrev the_stream : List ℕ
  the_stream = stream m x.payload

  abbrev the_received : List KeyRecord → Got
  the_received = received crc_of timeout

  abbrev Named : ℕ → KeyRecord → List KeyRecord → Type 0
  Named i r before = (r.bus ≡ p.bus) × ((origin (length before)).j ≡ j) × ((origin (length before)).i ≡ i)

  abbrev Inside : KeyRecord → List KeyRecord → Type 0
  Inside r before = r.bus ≡ p.bus → ((origin (length before)).j ≡ j) × ((origin (length before)).i < top)

  abbrev Down : List KeyRecord → Type 0
  Down seg = (n k : ℕ) → n ≤ k → SomeFromTo (Named k) seg p older → SomeFromTo (Named n) seg p older

  -- after these records the transfer's frames up to number k are taken
  record Going (seg : List KeyRecord) : Type 0 where
    run : Run
    k : ℕ
    state : the_received (seg ++ p ∷ older) ≡ record { begun = Some run; delivered = (the_received older).delivered }
    bus : run.first.bus ≡ p.bus
    tid : run.first.tid ≡ x.tid
    toggle : (tip run.first run.since).toggle ≡ is_even k
    open_end : (tip run.first run.since).end ≡ false
    bytes : chain_bytes run.first run.since ≡ take ((k + 1) * (m - 1)) the_stream
    reached : SomeFromTo (Named k) seg p older
    most : (n : ℕ) → SomeFromTo (Named n) seg p older → n ≤ k

  -- the frame that a record of the transfer is
  frame_at : (r : KeyRecord) (before : List KeyRecord) → IsExplainedAt timeout sent origin r before → r.bus ≡ p.bus → (origin (length before)).j ≡ j → IsFrame x m (origin (length before)).i r
  frame_at r before e b ej =
      subst (λ c. IsFrame x (size_on sent c) (origin (length before)).i r) b
      (subst (λ k. IsFrame (transfer_at sent k) (size_on sent r.bus) (origin (length before)).i r) ej e.is_sent.frame)

  -- a start frame of the transfer begins it
  begin_at : (r : KeyRecord) (before : List KeyRecord) → IsFrame x m 0 r → 0 < top → r.bus ≡ p.bus → begins timeout r before (the_received before).delivered ≡ true → (the_received before).delivered ≡ (the_received older).delivered → (seg : List KeyRecord) → seg ++ p ∷ older ≡ r ∷ before → SomeFromTo (Named 0) seg p older → ((n : ℕ) → SomeFromTo (Named n) seg p older → n ≤ 0) → Going seg
  begin_at r before f l b y same seg e reached most = record {
    run = record { first = r; since = [] };
    k = 0;
    state =
        ap the_received e ∙ (begun_state crc_of timeout r before y
        ∙ ap (λ ds. record { begun = Some (record { first = r; since = [] }); delivered = ds })
        (cond-false r.end (record { first = r; last = r; place = length before; content = r.body } ∷ (the_received before).delivered) (the_received before).delivered (f.end ∙ ne_eqb 0 top (omega arith)) ∙ same));
    bus = b;
    tid = f.tid;
    toggle = f.toggle;
    open_end = f.end ∙ ne_eqb 0 top (omega arith);
    bytes = first_bytes x m r f;
    reached = reached;
    most = most;
  }

  -- r is not taken
  stay : (r : KeyRecord) (seg : List KeyRecord) (ih : Going seg) → begins timeout r (seg ++ p ∷ older) (the_received older).delivered ≡ false → follows ih.run.first (tip ih.run.first ih.run.since) r ≡ false → ((n : ℕ) → Named n r (seg ++ p ∷ older) → n ≤ ih.k) → Going (r ∷ seg)
  stay r seg ih b n most =
      let a = ih.run.first in
      let l = tip a ih.run.since in
      record {
        run = record { first = a; since = r ∷ ih.run.since };
        k = ih.k;
        state =
            run_state crc_of timeout r (seg ++ p ∷ older) ih.run (the_received older).delivered ih.state b
            ∙ ap (λ ds. record { begun = Some (record { first = a; since = r ∷ ih.run.since }); delivered = ds }) (not_closing crc_of timeout r (seg ++ p ∷ older) ih.run (the_received older).delivered (and_left (follows a l r) r.end n));
        bus = ih.bus;
        tid = ih.tid;
        toggle = ap (λ (t : KeyRecord). t.toggle) (cond-false (follows a l r) r l n) ∙ ih.toggle;
        open_end = ap (λ (t : KeyRecord). t.end) (cond-false (follows a l r) r l n) ∙ ih.open_end;
        bytes = cond-false (follows a l r) (chain_bytes a ih.run.since ++ r.body) (chain_bytes a ih.run.since) n ∙ ih.bytes;
        reached = inr ih.reached;
        most = λ i s. elim s [ inl z ↦ most i z | inr z ↦ ih.most i z ];
      }

  -- r is taken
  extend : (r : KeyRecord) (seg : List KeyRecord) (ih : Going seg) (i : ℕ) → begins timeout r (seg ++ p ∷ older) (the_received older).delivered ≡ false → follows ih.run.first (tip ih.run.first ih.run.since) r ≡ true → r.end ≡ false → IsFrame x m i r → i ≡ ih.k + 1 → Named i r (seg ++ p ∷ older) → Going (r ∷ seg)
  extend r seg ih i b y e f next named =
      let a = ih.run.first in
      let l = tip a ih.run.since in
      record {
        run = record { first = a; since = r ∷ ih.run.since };
        k = i;
        state =
            run_state crc_of timeout r (seg ++ p ∷ older) ih.run (the_received older).delivered ih.state b
            ∙ ap (λ ds. record { begun = Some (record { first = a; since = r ∷ ih.run.since }); delivered = ds }) (not_closing crc_of timeout r (seg ++ p ∷ older) ih.run (the_received older).delivered (and_right (follows a l r) r.end e));
        bus = ih.bus;
        tid = ih.tid;
        toggle = ap (λ (t : KeyRecord). t.toggle) (cond-true (follows a l r) r l y) ∙ f.toggle;
        open_end = ap (λ (t : KeyRecord). t.end) (cond-true (follows a l r) r l y) ∙ e;
        bytes = cond-true (follows a l r) (chain_bytes a ih.run.since ++ r.body) (chain_bytes a ih.run.since) y ∙ more_bytes the_stream (chain_bytes a ih.run.since) r.body ih.k i (m - 1) next ih.bytes f.body;
        reached = inl named;
        most = λ n s. elim s [ inl z ↦ (let e : (origin (length (seg ++ p ∷ older))).i ≡ n = z.2 in let e' : (origin (length (seg ++ p ∷ older))).i ≡ i = named.2 in omega arith) | inr z ↦ (let le = ih.most n z in omega arith) ];
      }

  -- the frame after the last one taken follows
  next_follows : (r : KeyRecord) (seg : List KeyRecord) (ih : Going seg) (i : ℕ) → IsFrame x m i r → i ≡ ih.k + 1 → r.bus ≡ p.bus → follows ih.run.first (tip ih.run.first ih.run.since) r ≡ true
  next_follows r seg ih i f next rb =
      follows_from ih.run.first (tip ih.run.first ih.run.since) r ih.open_end (f.start ∙ ne_eqb i 0 (λ z. absurd (omega arith))) (rb ∙ sym ih.bus) (f.tid ∙ sym ih.tid)
      (next_toggle (tip ih.run.first ih.run.since) r ih.k i ih.toggle f.toggle next)

  next_not_begins : (r : KeyRecord) (before : List KeyRecord) (ds : List Delivery) (k i : ℕ) → IsFrame x m i r → i ≡ k + 1 → begins timeout r before ds ≡ false
  next_not_begins r before ds k i f next = and_left r.start (heard timeout r before && (late timeout r before || is_fresh r.tid ds)) (f.start ∙ ne_eqb i 0 (λ z. absurd (omega arith)))

  off_bus : (r : KeyRecord) (seg : List KeyRecord) (ih : Going seg) → (r.bus ≡ p.bus → ⊥) → force timeout (r ∷ (seg ++ p ∷ older)) ≡ Some p.bus → Going (r ∷ seg)
  off_bus r seg ih rb f =
      let before = seg ++ p ∷ older in
      let ds = (the_received older).delivered in
      let a = ih.run.first in
      let l = tip a ih.run.since in
      let deaf : heard timeout r before ≡ false = ap (λ o. is_bus o r.bus) f ∙ ne_eqb p.bus r.bus (λ e. rb (sym e)) in
      stay r seg ih
      (and_right r.start (heard timeout r before && (late timeout r before || is_fresh r.tid ds)) (and_left (heard timeout r before) (late timeout r before || is_fresh r.tid ds) deaf))
      (not_off_bus a l r (λ e. rb (e ∙ ih.bus)))
      (λ n z. absurd (rb z.0))

  -- a repeat of the last frame that was taken
  repeat : (r : KeyRecord) (seg : List KeyRecord) (ih : Going seg) (i : ℕ) → IsFrame x m i r → i ≡ ih.k → i < top → r.bus ≡ p.bus → Named i r (seg ++ p ∷ older) → Going (r ∷ seg)
  repeat r seg ih i f at below rb named =
      let before = seg ++ p ∷ older in
      let ds = (the_received older).delivered in
      let a = ih.run.first in
      let l = tip a ih.run.since in
      let same : (the_received before).delivered ≡ ds = ap (λ (g : Got). g.delivered) ih.state in
      elim (cases_Bool (begins timeout r before ds)) [
        | inl y ↦
            let s = (and_parts r.start (heard timeout r before && (late timeout r before || is_fresh r.tid ds)) y).0 in
            let none : i ≡ 0 = eqb-true i 0 (sym f.start ∙ s) in
            begin_at r before (subst (λ n. IsFrame x m n r) none f) (omega arith) rb (subst (λ es. begins timeout r before es ≡ true) (sym same) y) same (r ∷ seg) refl (inl (rb, named.1, named.2 ∙ none))
            (λ n z. elim z [ inl u ↦ (let e : i ≡ n = sym named.2 ∙ u.2 in omega arith) | inr u ↦ (let le = ih.most n u in omega arith) ])
        | inr n ↦
            stay r seg ih n
            (not_alike a l r (same_toggle l r ih.k ih.toggle (f.toggle ∙ ap is_even at)))
            (λ q z. let e : i ≡ q = sym named.2 ∙ z.2 in omega arith)
      ]

  -- a record of the transfer comes after those of it before
  in_turn : (r : KeyRecord) (seg : List KeyRecord) → IsExplainedAt timeout sent origin r (seg ++ p ∷ older) → r.bus ≡ p.bus → (origin (length (seg ++ p ∷ older))).j ≡ j → (k : ℕ) → SomeFromTo (Named k) seg p older → k ≤ (origin (length (seg ++ p ∷ older))).i
  in_turn r seg e rb ej k s =
      pick (λ q b. q.bus ≡ r.bus → IsUpTo (origin (length b)) (origin (length (seg ++ p ∷ older)))) (Named k)
      (λ q b u z. elim (u (z.0 ∙ sym rb)) [ inl l ↦ (let e1 = z.1 in absurd (omega arith)) | inr o ↦ (let e2 = z.2 in omega arith) ])
      seg p older (from_to_all (λ q b. q.bus ≡ r.bus → IsUpTo (origin (length b)) (origin (length (seg ++ p ∷ older)))) seg p older e.in_order) s

  down_before : (r : KeyRecord) (seg : List KeyRecord) → IsExplainedAt timeout sent origin r (seg ++ p ∷ older) → Down (r ∷ seg) → Down seg
  down_before r seg e down n k le s =
      elim (down n k le (inr s)) [
        | inl z ↦
            let up = in_turn r seg e z.0 z.1 k s in
            let at : (origin (length (seg ++ p ∷ older))).i ≡ n = z.2 in
            let same : k ≡ n = omega arith in
            subst (λ t. SomeFromTo (Named t) seg p older) same s
        | inr z ↦ z
      ]

  -- the frames of a transfer come without a gap
  no_gap : (r : KeyRecord) (seg : List KeyRecord) (ih : Going seg) (i : ℕ) → Down (r ∷ seg) → Named i r (seg ++ p ∷ older) → i ≤ ih.k + 1
  no_gap r seg ih i down named =
      elim (cases_lt (ih.k + 1) i) [
        | inl l ↦ elim (down (ih.k + 1) i (omega arith) (inl named)) [
          | inl z ↦ (let e : i ≡ ih.k + 1 = sym named.2 ∙ z.2 in omega arith)
          | inr s ↦ (let le = ih.most (ih.k + 1) s in absurd (omega arith))
        ]
        | inr l ↦ l
      ]

  begins_fresh : (r : KeyRecord) (before : List KeyRecord) → r.start ≡ true → force timeout (r ∷ before) ≡ Some r.bus → (is_fresh r.tid (the_received before).delivered ≡ true) ⊎ (late timeout r before ≡ true) → begins timeout r before (the_received before).delivered ≡ true
  begins_fresh r before s inf fr =
      let ds = (the_received before).delivered in
      and_from r.start (heard timeout r before && (late timeout r before || is_fresh r.tid ds)) s
      (and_from (heard timeout r before) (late timeout r before || is_fresh r.tid ds) (force_heard timeout r before inf)
      (elim fr [ inl y ↦ or_right (late timeout r before) (is_fresh r.tid ds) y | inr y ↦ or_left (late timeout r before) (is_fresh r.tid ds) y ]))

  going : (seg : List KeyRecord) → Explained timeout sent origin (seg ++ p ∷ older) → FromTo (λ r before. force timeout (r ∷ before) ≡ Some p.bus) seg p older → FromTo Inside seg p older → Down seg → (origin (length older)).j ≡ j → (origin (length older)).i ≡ 0 → (is_fresh p.tid (the_received older).delivered ≡ true) ⊎ (late timeout p older ≡ true) → Going seg
  going [] ex inf ins down bj bi fr =
      let f = subst (λ n. IsFrame x m n p) bi (frame_at p older ex.0 refl bj) in
      let below = (ins refl).1 in
      begin_at p older f (omega arith) refl (begins_fresh p older f.start inf fr)
      refl [] refl (refl, bj, bi) (λ n z. let e = z.2 in omega arith)
  going (r ∷ seg) ex inf ins down bj bi fr =
      let before = seg ++ p ∷ older in
      let ih = going seg ex.1 inf.1 ins.1 (down_before r seg ex.0 down) bj bi fr in
      elim (cases_Bool (eqb r.bus p.bus)) [
        | inr other ↦ off_bus r seg ih (eqb-false r.bus p.bus other) inf.0
        | inl same ↦
            let rb = eqb-true r.bus p.bus same in
            let i = (origin (length before)).i in
            let inside = ins.0 rb in
            let below : i < top = inside.1 in
            let named : Named i r before = (rb, inside.0, refl) in
            let f = frame_at r before ex.0 rb inside.0 in
            let up = in_turn r seg ex.0 rb inside.0 ih.k ih.reached in
            let down_to = no_gap r seg ih i down named in
            elim (cases_lt ih.k i) [
              | inr l ↦ repeat r seg ih i f (omega arith) below rb named
              | inl l ↦
                  let next : i ≡ ih.k + 1 = omega arith in
                  extend r seg ih i (next_not_begins r before (the_received older).delivered ih.k i f next) (next_follows r seg ih i f next rb) (f.end ∙ ne_eqb i top (λ z. absurd (omega arith))) f next named
            ]
      ]

  -- the record that completes the transfer
  completes : (q : KeyRecord) (seg : List KeyRecord) (ih : Going seg) → IsFrameSize m → IsFrame x m top q → top ≡ ih.k + 1 → q.bus ≡ p.bus → Any (λ d. (d.place ≡ length (seg ++ p ∷ older)) × (d.last ≡ q)) (the_received (q ∷ (seg ++ p ∷ older))).delivered
  completes q seg ih size f next qb =
      let before = seg ++ p ∷ older in
      let ds = (the_received older).delivered in
      let a = ih.run.first in
      let l = tip a ih.run.since in
      let y = next_follows q seg ih top f next qb in
      let bytes : chain_bytes a (q ∷ ih.run.since) ≡ the_stream =
      cond-true (follows a l q) (chain_bytes a ih.run.since ++ q.body) (chain_bytes a ih.run.since) y
      ∙ (more_bytes the_stream (chain_bytes a ih.run.since) q.body ih.k top (m - 1) next ih.bytes f.body
      ∙ all_bytes x m size) in
      let zero_of : crc_of (chain_bytes a (q ∷ ih.run.since)) ≡ 0 = ap crc_of (bytes ∙ stream_many m x.payload (several x m size (omega arith))) ∙ crc_of-own (padded m x.payload) in
      let closed = and_from (closes_at a ih.run.since q) (eqb (crc_of (chain_bytes a (q ∷ ih.run.since))) 0) (and_from (follows a l q) q.end y (f.end ∙ eq-eqb top top refl)) (eq-eqb (crc_of (chain_bytes a (q ∷ ih.run.since))) 0 zero_of) in
      let d : Delivery = record { first = a; last = q; place = length before; content = without_crc (chain_bytes a (q ∷ ih.run.since)) } in
      let is : (the_received (q ∷ before)).delivered ≡ d ∷ ds =
      ap (λ (g : Got). g.delivered) (run_state crc_of timeout q before ih.run ds ih.state (next_not_begins q before ds ih.k top f next))
      ∙ cond-true (closes_at a ih.run.since q && eqb (crc_of (chain_bytes a (q ∷ ih.run.since))) 0) (d ∷ ds) ds closed in
      subst (Any (λ e. (e.place ≡ length before) × (e.last ≡ q))) (sym is) (inl (refl, refl))

  -- a transfer of one frame
  single : IsFrame x m 0 p → top ≡ 0 → force timeout (p ∷ older) ≡ Some p.bus → (is_fresh p.tid (the_received older).delivered ≡ true) ⊎ (late timeout p older ≡ true) → Any (λ d. (d.place ≡ length older) × (d.last ≡ p)) (the_received (p ∷ older)).delivered
  single f none inf fr =
      let ds = (the_received older).delivered in
      let d : Delivery = record { first = p; last = p; place = length older; content = p.body } in
      let b = begins_fresh p older f.start inf fr in
      let is : (the_received (p ∷ older)).delivered ≡ d ∷ ds = ap (λ (g : Got). g.delivered) (begun_state crc_of timeout p older b) ∙ cond-true p.end (d ∷ ds) ds (f.end ∙ eq-eqb 0 top (sym none)) in
      subst (Any (λ e. (e.place ≡ length older) × (e.last ≡ p))) (sym is) (inl (refl, refl))

  -- the pairs from p on are those of p or later
  from_p : (seg : List KeyRecord) → Explained timeout sent origin (seg ++ p ∷ older) → FromTo (λ r before. r.bus ≡ p.bus → IsUpTo (origin (length older)) (origin (length before))) seg p older
  from_p [] ex = λ b. inr (refl, le_refl (origin (length older)).i)
  from_p (r ∷ seg) ex = (λ b. at_p (λ e before. e.bus ≡ r.bus → IsUpTo (origin (length before)) (origin (length (seg ++ p ∷ older)))) seg p older ex.0.in_order (sym b), from_p seg ex.1)

  -- each record between the transfer's ends is of the transfer, and none is its last frame
  insides : (q : KeyRecord) (seg : List KeyRecord) → Explained timeout sent origin (q ∷ (seg ++ p ∷ older)) → q.bus ≡ p.bus → (origin (length older)).j ≡ j → (origin (length (seg ++ p ∷ older))).j ≡ j → (origin (length (seg ++ p ∷ older))).i ≡ top
      → FromTo (λ r before. r.bus ≡ p.bus → (origin (length before)).j ≡ j → (origin (length before)).i ≡ top → length before ≡ length (seg ++ p ∷ older)) seg p older
      → FromTo Inside seg p older
  insides q seg ex qb bj ej ei first =
      let upto = from_to_all (λ e before. e.bus ≡ q.bus → IsUpTo (origin (length before)) (origin (length (seg ++ p ∷ older)))) seg p older ex.0.in_order in
      let short = shorter (length (seg ++ p ∷ older)) seg p older (le_refl (length (seg ++ p ∷ older))) in
      from_to_map
      (λ r before. (r.bus ≡ q.bus → IsUpTo (origin (length before)) (origin (length (seg ++ p ∷ older)))) × ((r.bus ≡ p.bus → IsUpTo (origin (length older)) (origin (length before))) × ((r.bus ≡ p.bus → (origin (length before)).j ≡ j → (origin (length before)).i ≡ top → length before ≡ length (seg ++ p ∷ older)) × (length before < length (seg ++ p ∷ older)))))
      Inside
      (λ r before h rb. inside (origin (length before)) (origin (length older)) (origin (length (seg ++ p ∷ older))) (length before) (length (seg ++ p ∷ older)) bj ej ei (h.0 (rb ∙ sym qb)) (h.1.0 rb) (h.1.1.0 rb) h.1.1.1)
      seg p older
      (from_to_both _ _ seg p older upto (from_to_both _ _ seg p older (from_p seg ex.1) (from_to_both _ _ seg p older first short)))

  -- each frame up to one that stands stands
  downs : (q : KeyRecord) (seg : List KeyRecord) → Explained timeout sent origin (q ∷ (seg ++ p ∷ older)) → ((i : ℕ) → i ≤ top → SomeFromTo (Named i) (q ∷ seg) p older) → Down (q ∷ seg)
  downs q seg ex stands n k le s =
      stands n (le_trans le (pick (IsExplainedAt timeout sent origin) (Named k) (λ r b e z. subst (λ i. i ≤ top) z.2 (frame_at r b e z.0 z.1).within) (q ∷ seg) p older (from_to_all (IsExplainedAt timeout sent origin) (q ∷ seg) p older ex) s))

at_each_tail : (P : KeyRecord → List KeyRecord → Type 0) (newer h : List KeyRecord) → AtEach P (newer ++ h) → AtEach P h
at_each_tail P [] h x = x
at_each_tail P (r ∷ newer) h x = at_each_tail P newer h x.1

head_of : (a b : KeyRecord) (s t : List KeyRecord) → a ∷ s ≡ b ∷ t → a ≡ b
head_of a b s t e = cc

tail_of : (a b : KeyRecord) (s t : List KeyRecord) → a ∷ s ≡ b ∷ t → s ≡ t
tail_of a b s t e = cc

longer : (seg : List KeyRecord) (p : KeyRecord) (older : List KeyRecord) → length older < length (seg ++ p ∷ older)
longer [] p older = omega arith
longer (r ∷ seg) p older = let h = longer seg p older in omega arith

from_to_p : (P : KeyRecord → List KeyRecord → Type 0) (seg : List KeyRecord) (p : KeyRecord) (older : List KeyRecord) → FromTo P seg p older → P p older
from_to_p P [] p older x = x
from_to_p P (r ∷ seg) p older x = from_to_p P seg p older x.1

module _ (timeout : ℕ) (sent : Sent) (origin : ℕ → Pair) (rising : IsSentList sent) where
  ends : (j : ℕ) (p : KeyRecord) (older seg : List KeyRecord) (q : KeyRecord) (past : List KeyRecord) → q ∷ past ≡ seg ++ p ∷ older → Explained timeout sent origin (q ∷ past)
      → q.bus ≡ p.bus → (origin (length older)).j ≡ j → (origin (length older)).i ≡ 0 → (origin (length past)).j ≡ j → (origin (length past)).i ≡ last_on_bus sent j p.bus
      → FromTo (λ r before. r.bus ≡ p.bus → (origin (length before)).j ≡ j → (origin (length before)).i ≡ last_on_bus sent j p.bus → length before ≡ length past) seg p older
      → ((i : ℕ) → i ≤ last_on_bus sent j p.bus → SomeFromTo (λ r before. (r.bus ≡ p.bus) × ((origin (length before)).j ≡ j) × ((origin (length before)).i ≡ i)) seg p older)
      → FromTo (λ r before. force timeout (r ∷ before) ≡ Some p.bus) seg p older
      → (is_fresh p.tid (received crc_of timeout older).delivered ≡ true) ⊎ (late timeout p older ≡ true)
      → Any (λ d. (d.place ≡ length past) × (d.last ≡ q)) (received crc_of timeout (q ∷ past)).delivered
  ends j p older [] q past e ex qb bj bi ej ei first stands inf fr =
      let is_q = head_of q p past older e in
      let is_past = tail_of q p past older e in
      let none : last_on_bus sent j p.bus ≡ 0 = sym ei ∙ (ap (λ h. (origin (length h)).i) is_past ∙ bi) in
      let ex_p : IsExplainedAt timeout sent origin p older = (subst (Explained timeout sent origin) e ex).0 in
      let f = subst (λ n. IsFrame (transfer_at sent j) (size_on sent p.bus) n p) bi (frame_at timeout sent origin j p older p older ex_p refl bj) in
      subst (λ r. Any (λ d. (d.place ≡ length past) × (d.last ≡ r)) (received crc_of timeout (r ∷ past)).delivered) (sym is_q)
      (subst (λ h. Any (λ d. (d.place ≡ length h) × (d.last ≡ p)) (received crc_of timeout (p ∷ h)).delivered) (sym is_past)
      (single timeout sent origin j p older f none inf fr))
  ends j p older (s ∷ seg) q past e ex qb bj bi ej ei first stands inf fr =
      let is_q = head_of q s past (seg ++ p ∷ older) e in
      let is_past = tail_of q s past (seg ++ p ∷ older) e in
      let top = last_on_bus sent j p.bus in
      let here = seg ++ p ∷ older in
      let ex_s = subst (Explained timeout sent origin) e ex in
      let sb : s.bus ≡ p.bus = ap (λ (r : KeyRecord). r.bus) (sym is_q) ∙ qb in
      let sj : (origin (length here)).j ≡ j = ap (λ h. (origin (length h)).j) (sym is_past) ∙ ej in
      let si : (origin (length here)).i ≡ top = ap (λ h. (origin (length h)).i) (sym is_past) ∙ ei in
      let first_s = subst (λ h. FromTo (λ r before. r.bus ≡ p.bus → (origin (length before)).j ≡ j → (origin (length before)).i ≡ top → length before ≡ length h) seg p older) is_past first.1 in
      let inside_s = insides timeout sent origin j p older s seg ex_s sb bj sj si first_s in
      let down_s = downs timeout sent origin j p older s seg ex_s stands in
      let ih = going timeout sent origin j p older seg ex_s.1 inf.1 inside_s (down_before timeout sent origin j p older s seg ex_s.0 down_s) bj bi fr in
      let low : ih.k < top = pick (λ r before. r.bus ≡ p.bus → ((origin (length before)).j ≡ j) × ((origin (length before)).i < top)) (λ r before. (r.bus ≡ p.bus) × ((origin (length before)).j ≡ j) × ((origin (length before)).i ≡ ih.k)) (λ r before ins z. subst (λ i. i < top) z.2 (ins z.0).1) seg p older inside_s ih.reached in
      let high = no_gap timeout sent origin j p older s seg ih top down_s (sb, sj, si) in
      let f = subst (λ n. IsFrame (transfer_at sent j) (size_on sent p.bus) n s) si (frame_at timeout sent origin j p older s here ex_s.0 sb sj) in
      subst (λ r. Any (λ d. (d.place ≡ length past) × (d.last ≡ r)) (received crc_of timeout (r ∷ past)).delivered) (sym is_q)
      (subst (λ h. Any (λ d. (d.place ≡ length h) × (d.last ≡ s)) (received crc_of timeout (s ∷ h)).delivered) (sym is_past)
      (completes timeout sent origin j p older s seg ih (rising.sizes p.bus) f (omega arith) sb))

pub due_theorem : DueIsDelivered
due_theorem timeout sent origin records newer j p older q past rising ex e d =
    let ex' = at_each_tail (IsExplainedAt timeout sent origin) newer (q ∷ past) (subst (Explained timeout sent origin) e ex) in
    subst (λ h. Any (λ d. (d.place ≡ length past) × (d.last ≡ q)) (received crc_of timeout h).delivered) (sym e)
    (some_grows crc_of timeout (λ d. (d.place ≡ length past) × (d.last ≡ q)) newer (q ∷ past)
    (ends timeout sent origin rising j p older d.seg q past d.between ex' d.bus d.begin_j d.begin_i d.end_j d.end_i d.is_first d.stands d.in_force d.fresh))
