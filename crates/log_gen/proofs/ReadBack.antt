-- The text of a log reads as its records.
use Rattle.std.proofs.Common.{◌≡◌, ◌≢◌, ℕ, zero, suc, ◌+◌, ◌*◌, ◌<◌, ◌≤◌, List, [], ◌∷◌, length, replicate, Some, refl, ap, length-append, arith}
use Rattle.std.proofs.lemmas.List.Elements.{All-from_recursion}
use Rattle.std.proofs.lemmas.List.{length-replicate}
use Rattle.frame_log.specs.Line.{bus_at}
use Rattle.log_text.specs.Written.{name_at, IsBusName, IsWritten, newest_moment, InTurn, LogIsRead, TextIsShort}
use Rattle.log_gen.specs.Rows.{copies, frame_count, on_bus, on_buses, place_of, record_of, records_of, row, rows, tid_of}
use Rattle.log_gen.specs.Rules.{bus_names}
use Rattle.log_gen.specs.Laws.{ArePayloads, EachReads}
use Rattle.log_gen.specs.declared.row.Row.{Row}
use Rattle.log_gen.specs.declared.way.Way.{Way}
use Rattle.log_gen.specs.declared.way.Way.TheVariants as way
use Rattle.log_gen.proofs.Bytes.{frame_are_bytes, frame_size}
use Rattle.log_gen.proofs.Counts.{few_frames}
use Rattle.log_gen.proofs.Follows.{EachRow, newest_at, IsInTurn, all_in_turn}

-- the names of the buses
is_name : (d : ℕ) → 48 ≤ d → d ≤ 57 → IsBusName (99 ∷ 97 ∷ 110 ∷ d ∷ [])
is_name d l u = record {
  some = omega arith;
  most = omega arith;
  no_space = All-from_recursion (λ b. b ≢ 32) (99 ∷ 97 ∷ 110 ∷ d ∷ []) ((λ e. omega arith), ((λ e. omega arith), ((λ e. omega arith), ((λ e. omega arith), tt))));
  no_newline = All-from_recursion (λ b. b ≢ 10) (99 ∷ 97 ∷ 110 ∷ d ∷ []) ((λ e. omega arith), ((λ e. omega arith), ((λ e. omega arith), ((λ e. omega arith), tt))));
}

bus_is : (bus : ℕ) → bus < 3 → IsBusName (name_at bus_names bus) × (bus_at bus_names (name_at bus_names bus) ≡ Some bus)
bus_is zero l = (is_name 48 (omega arith) (omega arith), refl)
bus_is (suc zero) l = (is_name 49 (omega arith) (omega arith), refl)
bus_is (suc (suc zero)) l = (is_name 50 (omega arith) (omega arith), refl)
bus_is (suc (suc (suc bus))) l = absurd (omega arith)

few_copies : (w : Way) (i : ℕ) → copies w i ≤ 2
few_copies way.Missing i = omega arith
few_copies way.Headless zero = omega arith
few_copies way.Headless (suc i) = omega arith
few_copies way.Twice zero = omega arith
few_copies way.Twice (suc i) = omega arith
few_copies way.Whole i = omega arith

few_on_bus : (w : Way) (j bus n : ℕ) (past : List Row) → length (on_bus w j bus n past) ≤ 2 * n + length past
few_on_bus w j bus zero past = omega arith
few_on_bus w j bus (suc n) past =
    let before = few_on_bus w j bus n past in
    omega (arith, few_copies w n, length-append (replicate (copies w n) (row j bus n)) (on_bus w j bus n past), length-replicate (copies w n) (row j bus n))

module _ (payload : ℕ → List ℕ) (are : ArePayloads payload) where
  few_on_buses : (way : ℕ → ℕ → Way) (j buses : ℕ) (past : List Row) → length (on_buses payload way j buses past) ≤ 12 * buses + length past
  few_on_buses way j zero past = omega arith
  few_on_buses way j (suc bus) past =
      let before = few_on_buses way j bus past in
      let count = few_frames (payload j) (are j).0 in
      let here = few_on_bus (way (place_of j) bus) j bus (frame_count payload j) (on_buses payload way j bus past) in omega arith

  few_rows : (way : ℕ → ℕ → Way) (n : ℕ) → length (rows payload way n) ≤ 36 * n
  few_rows way zero = omega arith
  few_rows way (suc j) =
      let before = few_rows way j in
      let here = few_on_buses way j 3 (rows payload way j) in omega arith

  as_many : (all : List Row) → length (records_of payload all) ≡ length all
  as_many [] = refl
  as_many (r ∷ past) = ap suc (as_many past)

  newest_is : (all : List Row) → newest_moment (records_of payload all) ≡ newest_at all
  newest_is [] = refl
  newest_is (r ∷ past) = refl

  module _ (n : ℕ) (few : n ≤ 20000) where
    is_written : (r : Row) (past : List Row) → IsInTurn payload n r past → IsWritten bus_names (record_of payload r past)
    is_written r past h =
        let j = r.transfer in
        let known : j < 4 * n = h.known in
        let bus : r.bus < 3 = h.bus in
        let name = bus_is r.bus bus in
        record {
          moment = omega arith;
          ident = omega arith;
          size = frame_size (payload j) (tid_of j) r.frame;
          bytes = frame_are_bytes 8 (payload j) (tid_of j) r.frame (omega arith) (are j).1;
          name = name.0;
          first = name.1;
        }

    in_turn : (all : List Row) → EachRow (IsInTurn payload n) all → InTurn bus_names (records_of payload all)
    in_turn [] e = tt
    in_turn (r ∷ past) e =
        let known : r.transfer < 4 * n = e.0.known in
        let bus : r.bus < 3 = e.0.bus in
        let in_time : newest_at past ≤ 1000 * r.transfer + 300 * r.bus = e.0.in_time in (
          record {
            written = is_written r past e.0;
            line = omega (arith, as_many past);
            in_time = omega (arith, newest_is past);
            within = omega arith;
          },
          in_turn past e.1,
        )

pub reads : LogIsRead → TextIsShort → EachReads
reads is_read is_short payload way n are few =
    let all = rows payload way n in
    let recs = records_of payload all in
    let turn = in_turn payload are n few all (all_in_turn payload n way n (omega arith)) in
    let short = is_short bus_names recs turn in
    is_read bus_names recs turn (omega (arith, as_many payload are all, few_rows payload are way n))
