-- How the log of the input ends a command.
use Rattle.std.proofs.Common.{◌≡◌, ◌∙◌, ℕ, true, List, Option, Some, None, is_some, refl, sym}
use Rattle.frame_log.specs.declared.error.LogWhy.{LogWhy}
use Rattle.frame_log.specs.declared.error.LogWhy.TheVariants as why
use Rattle.node_run.specs.Ran.{refused, refusal_of}
use Rattle.node_run.specs.declared.status.Status.{Status}
use Rattle.node_run.specs.declared.status.Status.TheVariants as status
use Rattle.cyphal.specs.LogEnds.{EndsAsLog}

-- the status of a line that is refused names it, and why
pub named : (n : ℕ) (w : LogWhy) → refused (refusal_of n w) ≡ status.Log n w
named n why.BadLine = refl
named n why.TimeBack = refl
named n why.UnknownBus = refl
named n why.TooFar = refl

-- where the input is told, a log has one end
pub one_log_end : (names : List (List ℕ)) (input : Option (List ℕ)) → is_some input ≡ true → (s t : Status) → EndsAsLog names input s → EndsAsLog names input t → s ≡ t
one_log_end names None h s t a b = absurd cc
one_log_end names (Some bytes) h s t a b = a ∙ sym b
