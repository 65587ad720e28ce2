-- What a node holds never falls.
use Rattle.std.proofs.Common.{◌≤◌, ℕ, ◌*◌, List, [], ◌∷◌, ◌++◌, length, take, Option, Some, None, not, ◌&&◌, arith, length-take, length-append}
use Rattle.std.proofs.lemmas.Bool.{cond_both}
use Rattle.can_id.specs.declared.key.Kind.{Kind}
use Rattle.tail_frame.specs.Frames.{FrameOf}
use Rattle.rx_table.specs.Admitted.{has, is_on, sources, admitted}
use Rattle.rx_table.specs.Keys.{KeyedFrame}
use Rattle.rx_table.specs.Ports.{Port, held}
use Rattle.rx_table.specs.Table.{keyed, log_with}
use Rattle.rx_table.specs.Heard.{frame_for, with_frame, frames}
use Rattle.node_core.specs.Heard.{ports_of}
use Rattle.node_core.specs.Held.{HeldRises}

more_behind : (n : ℕ) (xs ys : List ℕ) → length (take n xs) ≤ length (take n (xs ++ ys))
more_behind n xs ys = omega (arith, length-take n xs, length-take n (xs ++ ys), length-append xs ys)

more_admitted : (kind : Kind) (port count : ℕ) (f : KeyedFrame) (log : List KeyedFrame) → length (admitted kind port count log) ≤ length (admitted kind port count (f ∷ log))
more_admitted kind port count f log =
    let ss = sources kind port log in
    cond_both (is_on kind port f && (f.rec.start && not (has f.key.source ss))) (ss ++ f.key.source ∷ []) ss (λ (t : List ℕ). length (take count ss) ≤ length (take count t))
    (λ _. more_behind count ss (f.key.source ∷ [])) (λ _. omega arith)

times : (a b e : ℕ) → a ≤ b → a * e ≤ b * e
times a b e h = grind arith

more_held : (ports : List Port) (f : KeyedFrame) (log : List KeyedFrame) → held ports log ≤ held ports (f ∷ log)
more_held [] f log = omega arith
more_held (p ∷ ps) f log =
    omega (arith, more_held ps f log, times (length (admitted p.kind p.port p.sources log)) (length (admitted p.kind p.port p.sources (f ∷ log))) p.extent (more_admitted p.kind p.port p.sources f log))

more_logged : (ports : List Port) (o : Option KeyedFrame) (log : List KeyedFrame) → held ports log ≤ held ports (log_with o log)
more_logged ports None log = omega arith
more_logged ports (Some f) log = more_held ports f log

more_heard : (ports : List Port) (o : Option FrameOf) (log : List KeyedFrame) → held ports log ≤ held ports (with_frame o log)
more_heard ports None log = omega arith
more_heard ports (Some f) log = more_logged ports (keyed f) log

pub held_rises : HeldRises
held_rises plan rec past = more_heard (ports_of plan) (frame_for plan.node rec) (frames plan.node past)
