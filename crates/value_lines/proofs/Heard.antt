-- A line that was heard by a listener whose answers don't depend on what it heard before.
use Rattle.std.proofs.Common.{ℕ, List, Result, Ok, Err}
use Rattle.line_loop.specs.Heard.{HeardOn}
use Rattle.line_loop.specs.declared.listener.LineStop.{LineStop}
use Rattle.line_loop.specs.declared.listener.LineStop.TheVariants as stop

pub heard_on : {R U P : Type 0} (past : List (List ℕ)) (line : List ℕ) (r : Result U (LineStop R)) → P → HeardOn (λ lines. P) past line r
heard_on past line (Ok u) h = h
heard_on past line (Err (stop.Refused refusal)) h = h
heard_on past line (Err stop.NoMemory) h = tt
