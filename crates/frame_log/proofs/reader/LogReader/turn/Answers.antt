use Rattle.std.proofs.Common.{◌≡◌, ◌∙◌, ◌<◌, ◌≤◌, ◌+◌, ◌++◌, List, [], ℕ, None, refl, subst, sym, length, length-append, append-nil, arith}
use Rattle.frame_log.specs.Input.{Took}
use Rattle.frame_log.specs.Line.{cut}
use Rattle.frame_log.specs.Log.{Log, Place}
use Rattle.frame_log.specs.declared.reader.step.Step.{Step}
use Rattle.frame_log.specs.Reader.{place_of, buses_of, room_of, log_behind}
use Rattle.frame_log.specs.Steps.{IsTurn}
use Rattle.frame_log.specs.Used.{Passes, Gives, Uses}
use Rattle.frame_log.specs.UsedSteps.{IsBeforeStep, IsBeforeTurn, beyond_turn}
use Rattle.frame_log.proofs.LogLemmas.{log_from-long, step-no_line, is_no_line, Took-none}
use Rattle.frame_log.proofs.UsedLemmas.{uses-here, uses-same, uses-none, passes-to, came-uses}
use Rattle.frame_log.proofs.reader.LogReader.turn.Goals as goal

pub returns-then-as_slice-gt4096-clause-next : goal.returns-then-as_slice-gt4096-clause-next
returns-then-as_slice-gt4096-clause-next g c =
    let old = c.args.self.now in
    let mid = c.from_kept.new.self in (
      [],
      Took-none (g.L.Source.left c.args.input.now),
      λ rest _.
          let none : cut 10 mid.kept_bytes ≡ None = c.from_kept.ensures.none (is_no_line c.from_kept.result c.in-Skipped.is c.from_kept.ensures.whole) in
          let long : 4096 < length mid.kept_bytes = subst (λ (s : List ℕ). 4096 < length s) c.as_slice.ensures.value c.if-as_slice-gt4096.true in
          step-no_line (log_behind old rest) (log_behind mid rest) c.from_kept.result c.from_kept.new.written c.in-Skipped.is (c.from_kept.ensures.next rest)
          ∙ log_from-long mid.buses mid.room mid.kept_bytes rest (place_of mid) none long,
    )

pub returns-then-self-clause-next : goal.returns-then-self-clause-next
returns-then-self-clause-next g c =
    let old = c.args.self.now in
    let mid = c.from_kept.new.self in
    let new = c.at_end.new.self in
    let same : log_behind old [] ≡ log_behind mid [] = step-no_line (log_behind old []) (log_behind mid []) c.from_kept.result c.from_kept.new.written c.in-Skipped.is (c.from_kept.ensures.next []) in
    let last : IsTurn (log_behind old []) c.at_end.result c.at_end.new.written (log_behind new []) = subst (λ (l : Log). IsTurn l c.at_end.result c.at_end.new.written (log_behind new [])) (sym same) c.at_end.ensures.next in (
      [],
      Took-none (g.L.Source.left c.args.input.now),
      λ rest e. subst (λ (r : List ℕ). IsTurn (log_behind old r) c.at_end.result c.at_end.new.written (log_behind new r)) (sym (e (c.at_end.ensures.same.1 ∙ c.if-self.true))) last,
    )

pub returns-then-as_slice-gt4096-clause-ended : goal.returns-then-as_slice-gt4096-clause-ended
unfolding returns-then-as_slice-gt4096-clause-next
returns-then-as_slice-gt4096-clause-ended g c is_ended =
    (refl, c.from_kept.ensures.same.2 ∙ is_ended, (returns-then-as_slice-gt4096-clause-next g c).2 [] (λ _. refl))

pub returns-in-Record-clause-next : goal.returns-in-Record-clause-next
returns-in-Record-clause-next g c = ([], Took-none (g.L.Source.left c.args.input.now), λ rest _. c.in-Record.ensures.next rest)

pub returns-in-Record-clause-used : goal.returns-in-Record-clause-used
returns-in-Record-clause-used g c =
    let old = c.args.self.now in
    let new = c.from_kept.new.self in
    let There : Place → List ℕ → Type 0 = λ at bytes. Gives (buses_of new) at bytes c.from_kept.new.written (place_of new) new.kept_bytes in (
      [],
      Took-none (g.L.Source.left c.args.input.now),
      uses-none (buses_of old) (place_of old) old.kept_bytes _ (uses-same (buses_of old) (place_of old) old.kept_bytes There _ (λ at bytes gives _. gives) c.in-Record.ensures.used),
      omega (arith, c.from_kept.ensures.same.1),
    )

pub returns-in-Refused-clause-used : goal.returns-in-Refused-clause-used
returns-in-Refused-clause-used g c =
    let old = c.args.self.now in
    let near : length (old.kept_bytes ++ []) ≤ 8192 = omega (arith, length-append old.kept_bytes [], old.near) in
    ([], Took-none (g.L.Source.left c.args.input.now), uses-here (buses_of old) (place_of old) (old.kept_bytes ++ []) _ near tt, omega (arith, c.from_kept.ensures.same.1))

pub returns-clause-used : goal.returns-clause-used
returns-clause-used g c =
    let old = c.args.self.now in
    let mid = c.from_kept.new.self in
    let left = g.L.Source.left in
    let step = c.from_kept.result in
    let new = c.read_turn.new.self in
    let none = is_no_line step c.in-Skipped.is c.from_kept.ensures.whole in
    let passes = passes-to (buses_of old) (place_of old) (place_of mid) old.kept_bytes mid.kept_bytes
    (subst (λ (s : Step). Uses (buses_of old) (place_of old) old.kept_bytes (IsBeforeStep s c.from_kept.new.written mid)) none c.from_kept.ensures.used) in
    let read = subst (λ (b : List (List ℕ)). (came : List ℕ) × Took (left c.args.input.now) (left c.read_turn.new.input) came × Uses b (place_of mid) (mid.kept_bytes ++ came) (IsBeforeTurn c.read_turn.result c.read_turn.new.written new)
    × (length came + room_of new ≤ room_of mid + beyond_turn c.read_turn.result))
    c.from_kept.ensures.same.0 c.read_turn.ensures.used in
    came-uses (left c.args.input.now) (left c.args.input.now) (left c.read_turn.new.input) (buses_of old) (place_of old) (place_of mid) old.kept_bytes mid.kept_bytes (IsBeforeTurn c.read_turn.result c.read_turn.new.written new)
    (room_of old) (room_of mid) (room_of new) (beyond_turn c.read_turn.result)
    ([], Took-none (left c.args.input.now), subst (λ (b : List ℕ). Passes (buses_of old) (place_of old) b (place_of mid) mid.kept_bytes) (sym (append-nil old.kept_bytes)) passes, omega (arith, c.from_kept.ensures.same.1)) read
