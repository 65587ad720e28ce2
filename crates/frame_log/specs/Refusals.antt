-- The refusals of a log's lines.
use Rattle.std.specs.Prelude.{ℕ}
use Rattle.frame_log.specs.declared.error.LogError.{LogError}
use Rattle.frame_log.specs.declared.error.LogError.TheVariants as error
use Rattle.frame_log.specs.declared.error.LogWhy.{LogWhy}
use Rattle.frame_log.specs.declared.error.LogWhy.TheVariants as why

-- how a log ends that is refused at a line
abbrev pub refusal_of : ℕ → LogWhy → LogError
refusal_of line why.BadLine = error.BadLine line
refusal_of line why.TimeBack = error.TimeBack line
refusal_of line why.UnknownBus = error.UnknownBus line
refusal_of line why.TooFar = error.TooFar line
