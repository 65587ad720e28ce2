-- How far the input was taken before what it gave was answered.
use Rattle.std.specs.Prelude.{◌≡◌, ◌<◌, ◌++◌, ℕ, List, [], Option, length}
use Rattle.cy_outside.specs.Written.{behind}
use Rattle.line_loop.specs.Heard.{Met}
use Rattle.line_loop.specs.Input.{IsTaken, Took}
use Rattle.line_loop.specs.Lines.{lines_of}
use Rattle.line_loop.specs.Reply.{Voice, AreAnswered, newest_first}

-- these lines are answered, the first of all, and the answers were written
pub record HasAnswered {R : Type 0} (v : Voice R) (lines : List (List ℕ))
    (before after : Option (List ℕ)) : Type 0 where
  pub text : List ℕ
  pub more : List ℕ
  pub answered : AreAnswered v [] lines text
  pub written : after ≡ behind before (text ++ more)

-- However it ended: of each front of the bytes that were taken, behind which more than 65,536 bytes
-- were taken, the whole lines are answered, and the answers are written.
pub record IsStreamed {R : Type 0} (v : Voice R)
    (left new before after : Option (List ℕ)) : Type 0 where
  pub taken : List ℕ
  pub rest : List ℕ
  pub told : IsTaken left new taken rest
  pub written : (front more : List ℕ) → taken ≡ front ++ more → 65536 < length more
      → HasAnswered v (lines_of front).ended before after

-- a listener has heard exactly the lines whose newline is among the bytes that were taken
pub record HasHeardTaken {S : Type 0} (met : Met S) (first now : S)
    (left new : Option (List ℕ)) : Type 0 where
  pub taken : List ℕ
  pub took : Took left new taken
  pub heard : met first now (newest_first (lines_of taken).ended)
