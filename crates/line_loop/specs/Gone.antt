-- What a loop over lines has done, by how it ended.
use Rattle.std.specs.Prelude.{◌≡◌, ◌≤◌, ◌⊎◌, ◌+◌, ◌++◌, ℕ, List, [], Option, length}
use Rattle.cy_outside.specs.Written.{behind, Begins}
use Rattle.line_loop.specs.Input.{IsTaken}
use Rattle.line_loop.specs.Lines.{lines_of}
use Rattle.line_loop.specs.Reply.{Voice, AreAnswered, IsReply, heard_lines}
use Rattle.line_loop.specs.declared.ended.LinesEnded.{LinesEnded}
use Rattle.line_loop.specs.declared.ended.LinesEnded.TheVariants as end

-- an input was replied to, and all that is said was written
pub record Said {R : Type 0} (v : Voice R) (bytes : List ℕ) (ended : LinesEnded R)
    (before after : Option (List ℕ)) : Type 0 where
  pub text : List ℕ
  pub reply : IsReply v bytes text ended
  pub written : after ≡ behind before text

-- the first lines, of the input and also of the bytes that were taken alone, are answered by this
-- text
pub record AreFirst {R : Type 0} (v : Voice R) (taken rest : List ℕ) (lines : List (List ℕ))
    (text : List ℕ) : Type 0 where
  pub behind : List (List ℕ)
  pub others : List (List ℕ)
  pub input : heard_lines v.bounds (taken ++ rest) ≡ lines ++ behind
  pub alone : heard_lines v.bounds taken ≡ lines ++ others
  pub answered : AreAnswered v [] lines text

-- exactly the lines whose newline was taken are answered, and what stands behind them is not too
-- long
pub record Upto {R : Type 0} (v : Voice R) (taken rest : List ℕ)
    (before after : Option (List ℕ)) : Type 0 where
  pub text : List ℕ
  pub lines : AreFirst v taken rest (lines_of taken).ended text
  pub short : length (lines_of taken).rest ≤ v.bounds.line
  pub written : after ≡ behind before text

-- a beginning of what answers the first lines was written
pub record Begun {R : Type 0} (v : Voice R) (taken rest : List ℕ)
    (before after : Option (List ℕ)) : Type 0 where
  pub answered : List (List ℕ)
  pub text : List ℕ
  pub lines : AreFirst v taken rest answered text
  pub written : Begins text before after

-- an input has this reply, of which a beginning was written
pub record BegunReply {R : Type 0} (v : Voice R) (bytes : List ℕ)
    (before after : Option (List ℕ)) : Type 0 where
  pub text : List ℕ
  pub ended : LinesEnded R
  pub reply : IsReply v bytes text ended
  pub written : Begins text before after

-- what was done over the bytes that were taken, and those behind them
abbrev pub Gone : {R : Type 0} → Voice R → List ℕ → List ℕ → LinesEnded R → Option (List ℕ)
    → Option (List ℕ) → Type 0
Gone v taken rest end.Ok before after = (rest ≡ []) × Said v taken end.Ok before after
Gone v taken rest (end.Refused refusal) before after =
    Said v (taken ++ rest) (end.Refused refusal) before after
Gone v taken rest end.TooLong before after = Said v (taken ++ rest) end.TooLong before after
Gone v taken rest end.ReadFault before after = Upto v taken rest before after
Gone v taken rest end.WriteFault before after =
    Begun v taken rest before after ⊎ BegunReply v (taken ++ rest) before after
Gone v taken rest end.NoMemory before after = Begun v taken rest before after

-- the same over an input, of which one byte more than counts is taken at most
pub record HasGone {R : Type 0} (v : Voice R) (left new : Option (List ℕ)) (ended : LinesEnded R)
    (before after : Option (List ℕ)) : Type 0 where
  pub taken : List ℕ
  pub rest : List ℕ
  pub told : IsTaken left new taken rest
  pub few : length taken ≤ v.bounds.all + 1
  pub gone : Gone v taken rest ended before after
