use Rattle.std.proofs.Common.{◌≡◌, ◌++◌, List, [], ℕ, arith, Bool, true, false, Ok, Err, Some, refl, inl, inr, ◌∙◌, ap, sym, subst}
use Rattle.frame_log.specs.declared.reader.LogReader.{LogReader}
use Rattle.frame_log.specs.declared.reader.turn.Turn.{Turn}
use Rattle.frame_log.specs.declared.reader.turn.Turn.TheVariants as turn
use Rattle.frame_log.specs.Log.{with_record}
use Rattle.frame_log.specs.Steps.{IsTurn}
use Rattle.frame_log.specs.Reader.{log_behind, place_of, buses_of, kept_bytes_of, bytes_left, room_of}
use Rattle.frame_log.specs.Used.{IsBefore, beyond}
use Rattle.frame_log.specs.UsedSteps.{IsBeforeTurn, beyond_turn}
use Rattle.frame_log.proofs.LogLemmas.{came-turn}
use Rattle.frame_log.proofs.UsedLemmas.{passes-to, came-later, before-refused, beyond-refused}
use Rattle.frame_log.proofs.OrderLemmas.{ahead-first, ahead-from}
use Rattle.frame_log.proofs.FitLemmas.{fit-first, fit-from}
use Rattle.frame_log.proofs.reader.LogReader.next_into.Goals as goal

-- a reader that isn't at the end
open_rest : (b : Bool) (rest : List ℕ) → b ≡ false → b ≡ true → rest ≡ []
open_rest b rest f t = absurd cc

pub turns-preserved : goal.turns-preserved
turns-preserved g c =
    let s = g.L.Source in
    let old = log_behind c.args.self.now in
    let new = log_behind c.turn.new.self in
    let w = c.turn.new.written in
    let again = c.turn.ensures.again c.in-Again.is in
    let m = came-turn (s.left c.args.input.now) (s.left c.turns.input) (s.left c.turn.new.input) old (log_behind c.turns.self) new (λ rest. c.turn.new.self.is_ended ≡ true → rest ≡ []) c.turn.result w
    c.turns.invariant.next c.turn.ensures.next in
    let mid = c.turns.self in
    let u = came-later (s.left c.args.input.now) (s.left c.turns.input) (s.left c.turn.new.input) (buses_of c.args.self.now) (buses_of mid) (place_of c.args.self.now) (place_of mid) (kept_bytes_of c.args.self.now) (kept_bytes_of mid)
    (IsBeforeTurn turn.Again w c.turn.new.self) (IsBeforeTurn turn.Again w c.turn.new.self) (room_of c.args.self.now) (room_of mid) (room_of c.turn.new.self) 0 0 (omega arith) c.turns.invariant.buses c.turns.invariant.used c.in-Again.ensures.used (λ at bytes t. t) in record {
      next = (m.0, m.1, λ rest. subst (λ (t : Turn). IsTurn (old (m.0 ++ rest)) t w (new rest)) c.in-Again.is (m.2 rest (open_rest c.turn.new.self.is_ended rest again.1)));
      used = (u.0, u.1, passes-to (buses_of c.args.self.now) (place_of c.args.self.now) (place_of c.turn.new.self) (kept_bytes_of c.args.self.now ++ u.0) (kept_bytes_of c.turn.new.self) u.2, omega (arith, u.3));
      ended = λ is_ended. let fixed = c.turns.invariant.ended is_ended in
          let here : c.turns.self.is_ended ≡ true = ap (λ (r : LogReader). r.is_ended) fixed.0 ∙ is_ended in
          let bad : true ≡ false = sym (c.turn.ensures.ended here).1 ∙ again.1 in absurd cc;
      reading = λ _. again.1;
      faults = c.turn.ensures.count (λ e. absurd (differ c.in-Again.is e)) ∙ c.turns.invariant.faults;
      done = c.turn.ensures.same.1 ∙ c.turns.invariant.done;
      buses = c.turn.ensures.same.0 ∙ c.turns.invariant.buses;
      within = omega (arith, c.turn.ensures.within, c.turns.invariant.within);
    }
  where
    differ : {t : Turn} → t ≡ turn.Again → t ≡ turn.Failed → ⊥
    differ e f = cc

pub returns-in-Record-clause-next : goal.returns-in-Record-clause-next
returns-in-Record-clause-next g c _ =
    let s = g.L.Source in
    let old = log_behind c.args.self.now in
    let new = log_behind c.turn.new.self in
    let w = c.turn.new.written in
    let m = came-turn (s.left c.args.input.now) (s.left c.turns.input) (s.left c.turn.new.input) old (log_behind c.turns.self) new (λ rest. c.turn.new.self.is_ended ≡ true → rest ≡ []) c.turn.result w
    c.turns.invariant.next c.turn.ensures.next in (m.0, m.1, λ rest e. subst (λ (t : Turn). IsTurn (old (m.0 ++ rest)) t w (new rest)) c.in-Record.is (m.2 rest e))

pub returns-in-Whole-turn-clause-next : goal.returns-in-Whole-turn-clause-next
returns-in-Whole-turn-clause-next g c _ =
    let s = g.L.Source in
    let old = log_behind c.args.self.now in
    let new = log_behind c.turn.new.self in
    let w = c.turn.new.written in
    let m = came-turn (s.left c.args.input.now) (s.left c.turns.input) (s.left c.turn.new.input) old (log_behind c.turns.self) new (λ rest. c.turn.new.self.is_ended ≡ true → rest ≡ []) c.turn.result w
    c.turns.invariant.next c.turn.ensures.next in (m.0, m.1, λ rest e. subst (λ (t : Turn). IsTurn (old (m.0 ++ rest)) t w (new rest)) c.in-Whole-turn.is (m.2 rest e))

pub returns-in-Refused-turn-clause-next : goal.returns-in-Refused-turn-clause-next
returns-in-Refused-turn-clause-next g c _ =
    let s = g.L.Source in
    let old = log_behind c.args.self.now in
    let new = log_behind c.turn.new.self in
    let w = c.turn.new.written in
    let m = came-turn (s.left c.args.input.now) (s.left c.turns.input) (s.left c.turn.new.input) old (log_behind c.turns.self) new (λ rest. c.turn.new.self.is_ended ≡ true → rest ≡ []) c.turn.result w
    c.turns.invariant.next c.turn.ensures.next in (m.0, m.1, λ rest e. inl (subst (λ (t : Turn). IsTurn (old (m.0 ++ rest)) t w (new rest)) c.in-Refused-turn.is (m.2 rest e)))

pub returns-in-Failed-clause-next : goal.returns-in-Failed-clause-next
returns-in-Failed-clause-next g c _ =
    let s = g.L.Source in
    let old = log_behind c.args.self.now in
    let new = log_behind c.turn.new.self in
    let w = c.turn.new.written in
    let m = came-turn (s.left c.args.input.now) (s.left c.turns.input) (s.left c.turn.new.input) old (log_behind c.turns.self) new (λ rest. c.turn.new.self.is_ended ≡ true → rest ≡ []) c.turn.result w
    c.turns.invariant.next c.turn.ensures.next in (m.0, m.1, λ rest e. inr (refl, subst (λ (t : Turn). IsTurn (old (m.0 ++ rest)) t w (new rest)) c.in-Failed.is (m.2 rest e)))

pub returns-in-Record-clause-order : goal.returns-in-Record-clause-order
returns-in-Record-clause-order g c =
    let s = g.L.Source in
    let self = c.args.self.now in
    let old = log_behind self in
    let new = log_behind c.turn.new.self in
    let w = c.turn.new.written in
    let m = came-turn (s.left c.args.input.now) (s.left c.turns.input) (s.left c.turn.new.input) old (log_behind c.turns.self) new (λ rest. c.turn.new.self.is_ended ≡ true → rest ≡ []) c.turn.result w
    c.turns.invariant.next c.turn.ensures.next in
    let is : old (m.0 ++ []) ≡ with_record w (new []) = subst (λ (t : Turn). IsTurn (old (m.0 ++ [])) t w (new [])) c.in-Record.is (m.2 [] (λ _. refl)) in
    ahead-first self.last self.lines (old (m.0 ++ [])) (new []) w (ahead-from (buses_of self) (bytes_left self) (kept_bytes_of self ++ (m.0 ++ [])) (place_of self)) is

pub returns-in-Record-clause-fit : goal.returns-in-Record-clause-fit
returns-in-Record-clause-fit g c =
    let s = g.L.Source in
    let self = c.args.self.now in
    let old = log_behind self in
    let new = log_behind c.turn.new.self in
    let w = c.turn.new.written in
    let m = came-turn (s.left c.args.input.now) (s.left c.turns.input) (s.left c.turn.new.input) old (log_behind c.turns.self) new (λ rest. c.turn.new.self.is_ended ≡ true → rest ≡ []) c.turn.result w
    c.turns.invariant.next c.turn.ensures.next in
    let is : old (m.0 ++ []) ≡ with_record w (new []) = subst (λ (t : Turn). IsTurn (old (m.0 ++ [])) t w (new [])) c.in-Record.is (m.2 [] (λ _. refl)) in
    let at = c.turn.ensures.at c.in-Record.is in (
      fit-first (buses_of self) (old (m.0 ++ [])) (new []) w (fit-from (buses_of self) (bytes_left self) (kept_bytes_of self ++ (m.0 ++ [])) (place_of self)) is,
      omega (arith, at.0, c.turn.new.self.within),
    )

pub returns-in-Record-clause-used : goal.returns-in-Record-clause-used
returns-in-Record-clause-used g c _ =
    let left = g.L.Source.left in
    let old = c.args.self.now in
    let mid = c.turns.self in
    let new = c.turn.new.self in
    let w = c.turn.new.written in
    came-later (left c.args.input.now) (left c.turns.input) (left c.turn.new.input) (buses_of old) (buses_of mid) (place_of old) (place_of mid) (kept_bytes_of old) (kept_bytes_of mid)
    (IsBeforeTurn turn.Record w new) (IsBefore (Ok (Some w)) new) (room_of old) (room_of mid) (room_of new) 0 0 (omega arith) c.turns.invariant.buses c.turns.invariant.used c.in-Record.ensures.used
    (λ at bytes t. t)

pub returns-in-Whole-turn-clause-used : goal.returns-in-Whole-turn-clause-used
returns-in-Whole-turn-clause-used g c _ =
    let left = g.L.Source.left in
    let old = c.args.self.now in
    let mid = c.turns.self in
    let new = c.turn.new.self in
    let w = c.turn.new.written in
    came-later (left c.args.input.now) (left c.turns.input) (left c.turn.new.input) (buses_of old) (buses_of mid) (place_of old) (place_of mid) (kept_bytes_of old) (kept_bytes_of mid)
    (IsBeforeTurn turn.Whole w new) _ (room_of old) (room_of mid) (room_of new) 0 0 (omega arith) c.turns.invariant.buses c.turns.invariant.used c.in-Whole-turn.ensures.used
    (λ at bytes t. tt)

pub returns-in-Refused-turn-clause-used : goal.returns-in-Refused-turn-clause-used
returns-in-Refused-turn-clause-used g c _ =
    let left = g.L.Source.left in
    let old = c.args.self.now in
    let mid = c.turns.self in
    let new = c.turn.new.self in
    let w = c.turn.new.written in
    let e = c.in-Refused-turn.e in
    came-later (left c.args.input.now) (left c.turns.input) (left c.turn.new.input) (buses_of old) (buses_of mid) (place_of old) (place_of mid) (kept_bytes_of old) (kept_bytes_of mid)
    (IsBeforeTurn (turn.Refused e) w new) _ (room_of old) (room_of mid) (room_of new) (beyond_turn (turn.Refused e)) (beyond (Err e)) (beyond-refused e) c.turns.invariant.buses c.turns.invariant.used c.in-Refused-turn.ensures.used
    (λ at bytes t. before-refused e _ at bytes (λ same. c.turn.ensures.input (c.in-Refused-turn.is ∙ ap turn.Refused same)))

pub returns-in-Failed-clause-used : goal.returns-in-Failed-clause-used
returns-in-Failed-clause-used g c _ =
    let left = g.L.Source.left in
    let old = c.args.self.now in
    let mid = c.turns.self in
    let new = c.turn.new.self in
    let w = c.turn.new.written in
    came-later (left c.args.input.now) (left c.turns.input) (left c.turn.new.input) (buses_of old) (buses_of mid) (place_of old) (place_of mid) (kept_bytes_of old) (kept_bytes_of mid)
    (IsBeforeTurn turn.Failed w new) _ (room_of old) (room_of mid) (room_of new) 0 0 (omega arith) c.turns.invariant.buses c.turns.invariant.used c.in-Failed.ensures.used
    (λ at bytes t. t)
