-- What a listener did with the log of an input.
use Rattle.std.specs.Prelude.{◌≡◌, ℕ, List, Option, IfSome}
use Rattle.frame_log.specs.Log.{log_of}
use Rattle.log_loop.specs.Gone.{Gone, Stages}
use Rattle.log_loop.specs.Streamed.{IsStreamed}
use Rattle.log_loop.specs.Taken.{IsOfTaken}
use Rattle.log_loop.specs.Voice.{Voice, AreEventsOf, newest_first}
use Rattle.log_loop.specs.declared.ended.Ended.{Ended}
use Rattle.log_loop.specs.declared.ended.Ended.TheVariants as end

-- There are events of the log of an input, which is the told one where the input tells its bytes:
-- the loop went over them until it ended so. Where the input failed, what is written is of the
-- lines that were taken whole; and however it ended, what is said was written before much more was
-- taken.
pub record HasListened {E : Type 0} (names : List (List ℕ)) (v : Voice E) (s : Stages E)
    (told new : Option (List ℕ)) (how : Ended) (before after : Option (List ℕ)) : Type 0 where
  pub bytes : List ℕ
  pub is : IfSome told (λ (left : List ℕ). bytes ≡ left)
  pub events : List E
  pub of_log : AreEventsOf v (newest_first (log_of names bytes)) events
  pub gone : Gone v s events (log_of names bytes).refusal how before after
  pub taken : how ≡ end.ReadFault → IsOfTaken names v s.heard events told new before after
  pub streamed : IsStreamed names v s events told new how before after
