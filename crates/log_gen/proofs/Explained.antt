-- Each source's transfers explain the log.
use Rattle.std.proofs.Common.{◌≡◌, ℕ, ◌+◌, ◌*◌, ◌<◌, Bool, true, false, cond, ◌&&◌, eqb, List, [], ◌∷◌, ◌++◌, get_or, length, length-append, append_assoc, append-nil, Option, Some, refl, sym, ap, ◌∙◌, subst, inl, le_refl, arith}
use Rattle.std.proofs.lemmas.Bool.{cond-true, eqb-true}
use Rattle.std.proofs.lemmas.List.{get_or-append-add}
use Rattle.std.proofs.lemmas.List.FromFn.{length-map-range_with_len}
use Rattle.tail_frame.specs.Chains.{KeyRecord}
use Rattle.tail_frame.specs.Frames.{key_record}
use Rattle.tail_frame.specs.declared.logged.Record.{Record}
use Rattle.rx_table.specs.Heard.{heard_as, is_of, onto, frames_of, records_of as heard_of}
use Rattle.rx_table.specs.Keys.{KeyedFrame, bears_on, history}
use Rattle.frag.specs.Sent.{transfer_at, pair_at, IsSentList, IsWireFrame}
use Rattle.frag.specs.Raw.{FramesAreSeen, IsRecordOf, AreRecordsOf, IsWireSent}
use Rattle.frag.specs.Unbroken.{newest_on, MayFollow, IsNextSent, Unbroken, UnbrokenIsExplained}
use Rattle.frag.specs.declared.sent.Pair.{Pair}
use Rattle.frag.specs.declared.sent.Sent.{Sent}
use Rattle.log_gen.specs.Rows.{key_of, pair_of, pairs_of, place_of, record_of, records_of, rows, sent_of, source_of, tid_of, transfer}
use Rattle.log_gen.specs.Laws.{session_of, EachIsExplained}
use Rattle.log_gen.specs.declared.row.Row.{Row}
use Rattle.log_gen.proofs.Heard.{is_wire, is_heard, bears}
use Rattle.log_gen.proofs.Follows.{EachRow, newest_pair, IsInTurn, sizes_are, transfers_are, all_in_turn}

how_many : (payload : ℕ → List ℕ) (n s : ℕ) → length (sent_of payload n s).transfers ≡ n
how_many payload n s = length-map-range_with_len (λ k. transfer payload (4 * k + s)) 0 n

module _ (payload : ℕ → List ℕ) (n s : ℕ) where
  abbrev sent : Sent
  sent = sent_of payload n s

  -- the records of the source's frames
  abbrev mine : List Row → List Record
  mine [] = []
  mine (r ∷ past) = cond (eqb (source_of r.transfer) s) (record_of payload r past ∷ mine past) (mine past)

  -- they are those that node 10 hears of it
  heard_are : FramesAreSeen → (all : List Row) → EachRow (IsInTurn payload n) all → heard_of (heard_as 10) (session_of s) (records_of payload all) ≡ mine all
  heard_are law [] e = refl
  heard_are law (r ∷ past) e =
      let h = is_heard payload law r past e.0.within in
      let rec = record_of payload r past in
      let others = heard_of (heard_as 10) (session_of s) (records_of payload past) in
      ap (λ o. cond (is_of (session_of s) o) (rec ∷ others) others) h.1
      ∙ ap (λ b. cond b (rec ∷ others) others) (bears s (source_of r.transfer) h.0)
      ∙ ap (λ xs. cond (eqb (source_of r.transfer) s) (rec ∷ xs) xs) (heard_are law past e.1)

  -- there are as many pairs
  as_many : (all : List Row) → length (pairs_of s all) ≡ length (mine all)
  as_many [] = refl
  as_many (r ∷ past) = by_source (as_many past) (eqb (source_of r.transfer) s)
    where
      by_source : length (pairs_of s past) ≡ length (mine past) → (b : Bool) → length (cond b (pairs_of s past ++ pair_of r ∷ []) (pairs_of s past)) ≡ length (cond b (record_of payload r past ∷ mine past) (mine past))
      by_source e true = length-append (pairs_of s past) (pair_of r ∷ []) ∙ omega (arith, e)
      by_source e false = e

  -- the pairs of all frames
  module _ (origin : List Pair) where
    -- the pairs begin with those of these frames
    abbrev BeginsWith : List Row → Type 0
    BeginsWith all = (more : List Pair) × (origin ≡ pairs_of s all ++ more)

    earlier : (r : Row) (past : List Row) → BeginsWith (r ∷ past) → BeginsWith past
    earlier r past b = by_source (eqb (source_of r.transfer) s) b.0 b.1
      where
        by_source : (c : Bool) (more : List Pair) → origin ≡ cond c (pairs_of s past ++ pair_of r ∷ []) (pairs_of s past) ++ more → BeginsWith past
        by_source true more e = (pair_of r ∷ more, e ∙ append_assoc (pairs_of s past) (pair_of r ∷ []) more)
        by_source false more e = (more, e)

    -- the pair at a frame's place is its own
    at_place : (r : Row) (past : List Row) → eqb (source_of r.transfer) s ≡ true → BeginsWith (r ∷ past) → pair_at origin (length (mine past)) ≡ pair_of r
    at_place r past is b =
        let none : Pair = record { j = 0; i = 0 } in
        let front = pairs_of s past in
        let e : origin ≡ front ++ (pair_of r ∷ b.0) = b.1 ∙ ap (λ xs. xs ++ b.0) (cond-true (eqb (source_of r.transfer) s) (front ++ pair_of r ∷ []) front is) ∙ append_assoc front (pair_of r ∷ []) b.0 in
        ap (λ xs. get_or xs (length (mine past)) none) e
        ∙ ap (λ m. get_or (front ++ (pair_of r ∷ b.0)) m none) (sym (as_many past) ∙ (let m = length front in let add : m ≡ m + 0 = omega arith in add))
        ∙ get_or-append-add front (pair_of r ∷ b.0) 0 none

    -- the newest pairs are those of the newest frames
    newest_are : (bus : ℕ) (all : List Row) → BeginsWith all → newest_on (pair_at origin) bus (mine all) ≡ newest_pair s bus all
    newest_are bus [] b = refl
    newest_are bus (r ∷ past) b = by_source (newest_are bus past (earlier r past b)) (eqb (source_of r.transfer) s) refl
      where
        by_source : newest_on (pair_at origin) bus (mine past) ≡ newest_pair s bus past → (c : Bool) → eqb (source_of r.transfer) s ≡ c → newest_on (pair_at origin) bus (cond c (record_of payload r past ∷ mine past) (mine past)) ≡ cond (c && eqb r.bus bus) (Some (pair_of r)) (newest_pair s bus past)
        by_source before true e =
            ap (λ o. cond (eqb r.bus bus) (Some o) (newest_on (pair_at origin) bus (mine past))) (at_place r past e b)
            ∙ ap (λ o. cond (eqb r.bus bus) (Some (pair_of r)) o) before
        by_source before false e = before

    -- a frame is the one that its pair names
    is_sent : (r : Row) (past : List Row) → source_of r.transfer ≡ s → IsInTurn payload n r past → IsWireSent 2000000 sent (pair_of r) (record_of payload r past)
    is_sent r past of h =
        let j = r.transfer in
        let known : j < 4 * n = h.known in
        let bus : r.bus < 3 = h.bus in
        let k : place_of j < n = omega arith in
        let same : 4 * place_of j + s ≡ j = omega (arith, of) in
        let x : transfer_at sent (place_of j) ≡ transfer payload j = transfers_are payload n s (place_of j) k ∙ ap (transfer payload) same in
        let moment : (transfer_at sent (place_of j)).moment ≡ 1000 * j = ap (λ x. x.moment) x in
        let rec = record_of payload r past in
        record {
          known = (let e = how_many payload n s in omega arith);
          frame =
              subst (λ m. IsWireFrame (key_of s) (transfer_at sent (place_of j)) m r.frame rec) (sym (sizes_are payload n s r.bus))
              (subst (λ x. IsWireFrame (key_of s) x 8 r.frame rec) (sym x)
              (subst (λ t. IsWireFrame (key_of t) (transfer payload j) 8 r.frame rec) of (is_wire payload r past h.within)));
          since = omega (arith, moment);
          until = omega (arith, moment);
        }

    is_next : (r : Row) (past : List Row) → eqb (source_of r.transfer) s ≡ true → BeginsWith (r ∷ past) → IsInTurn payload n r past → IsNextSent 2000000 sent (pair_at origin) (record_of payload r past) (mine past)
    is_next r past is b h =
        let rec = record_of payload r past in
        let of = eqb-true (source_of r.transfer) s is in
        let at = at_place r past is b in
        let newest = newest_are r.bus past (earlier r past b) in
        let Follows : ℕ → Type 0 = λ t. MayFollow (sent_of payload n t) r.bus (newest_pair t r.bus past) (pair_of r) in
        record {
          is_sent = subst (λ o. IsWireSent 2000000 sent o rec) (sym at) (is_sent r past of h);
          may_follow =
              subst (λ o. MayFollow sent r.bus (newest_on (pair_at origin) r.bus (mine past)) o) (sym at)
              (subst (λ o. MayFollow sent r.bus o (pair_of r)) (sym newest) (subst Follows of h.follows));
        }

    unbroken : (all : List Row) → EachRow (IsInTurn payload n) all → BeginsWith all → Unbroken 2000000 sent (pair_at origin) (mine all)
    unbroken [] e b = tt
    unbroken (r ∷ past) e b = by_source (unbroken past e.1 (earlier r past b)) (eqb (source_of r.transfer) s) refl
      where
        by_source : Unbroken 2000000 sent (pair_at origin) (mine past) → (c : Bool) → eqb (source_of r.transfer) s ≡ c → Unbroken 2000000 sent (pair_at origin) (cond c (record_of payload r past ∷ mine past) (mine past))
        by_source before true is = (is_next r past is b e.0, before)
        by_source before false is = before

  sent_list : IsSentList sent
  sent_list = record {
    sizes = λ bus. inl (sizes_are payload n s bus);
    ranges = λ k l.
        (let x = transfers_are payload n s k (omega (arith, how_many payload n s)) in
        let priority : (transfer_at sent k).priority ≡ 4 = ap (λ x. x.priority) x in
        let tid : (transfer_at sent k).tid ≡ tid_of (4 * k + s) = ap (λ x. x.tid) x in (omega arith, omega arith));
    moments = λ a b l below.
        (let count = how_many payload n s in
        let x = transfers_are payload n s a (omega arith) in
        let y = transfers_are payload n s b (omega arith) in
        let first : (transfer_at sent a).moment ≡ 1000 * (4 * a + s) = ap (λ x. x.moment) x in
        let second : (transfer_at sent b).moment ≡ 1000 * (4 * b + s) = ap (λ x. x.moment) y in omega arith);
  }

  -- what node 10 hears of the source are records of its session
  are_records : FramesAreSeen → (all : List Row) → EachRow (IsInTurn payload n) all → AreRecordsOf (heard_of (heard_as 10) (session_of s) (records_of payload all)) (history (session_of s) (frames_of (heard_as 10) (records_of payload all)))
  are_records law [] e = tt
  are_records law (r ∷ past) e =
      let h = is_heard payload law r past e.0.within in
      let rec = record_of payload r past in
      let others = heard_of (heard_as 10) (session_of s) (records_of payload past) in
      let log = frames_of (heard_as 10) (records_of payload past) in
      let f : KeyedFrame = record { key = session_of (source_of r.transfer); rec = key_record h.0 } in
      let P : Option KeyedFrame → Type 0 = λ o. AreRecordsOf (cond (is_of (session_of s) o) (rec ∷ others) others) (history (session_of s) (onto o log)) in
      subst P (sym h.1) (by_key rec others (history (session_of s) log) f (record { frame = h.0; is_frame = h.2; taken_apart = refl }) (are_records law past e.1) (bears_on (session_of s) f))
    where
      by_key : (rec : Record) (others : List Record) (log : List KeyRecord) (f : KeyedFrame) → IsRecordOf rec f.rec → AreRecordsOf others log → (b : Bool) → AreRecordsOf (cond b (rec ∷ others) others) (cond b (f.rec ∷ log) log)
      by_key rec others log f is before true = (is, before)
      by_key rec others log f is before false = before

pub explained : FramesAreSeen → UnbrokenIsExplained → EachIsExplained
explained seen law payload way n s l =
    let all = rows payload way (4 * n) in
    let each = all_in_turn payload n way (4 * n) (le_refl (4 * n)) in
    let origin = pairs_of s all in
    let recs = heard_of (heard_as 10) (session_of s) (records_of payload all) in
    let same = heard_are payload n s seen all each in
    let steady = subst (Unbroken 2000000 (sent_of payload n s) (pair_at origin)) (sym same) (unbroken payload n s origin all each ([], sym (append-nil origin))) in
    let both = law 2000000 (sent_of payload n s) (s + 1) (pair_at origin) recs (history (session_of s) (frames_of (heard_as 10) (records_of payload all))) refl (sent_list payload n s) (are_records payload n s seen all each) steady in
    record {
      sent_list = sent_list payload n s;
      of_key = refl;
      one_each = as_many payload n s all ∙ ap length (sym same);
      explained = both.0;
      no_chance = both.1;
    }
