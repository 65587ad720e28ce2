-- What the call that values a file answers.
use Rattle.std.specs.Prelude.{◌≡◌, Result, Ok, Err}
use Rattle.dsdl_resolve.specs.declared.outcome.FileError.{FileError}
use Rattle.dsdl_resolve.specs.declared.outcome.FileError.TheVariants as error
use Rattle.dsdl_resolve.specs.declared.outcome.Outcome.{Outcome}
use Rattle.dsdl_resolve.specs.declared.outcome.Refused.{Refused}
use Rattle.dsdl_resolve.specs.declared.outcome.Valued.{Valued}

-- The call answers what the definition says, or wants memory.
abbrev pub Answers : Result Outcome Refused → Result Valued FileError → Type 0
Answers meaning (Ok done) = meaning ≡ Ok done.outcome
Answers meaning (Err (error.Refused refused)) = meaning ≡ Err refused
Answers meaning (Err error.NoMemory) = Unit {0}
