-- What follows from a call's answer.
use Rattle.std.proofs.Common.{Result, Ok, Err, IfOk, IfErr}
use Rattle.dsdl_resolve.specs.declared.addition.Judged.{Judged}
use Rattle.dsdl_resolve.specs.declared.addition.StatementError.{StatementError}
use Rattle.dsdl_resolve.specs.declared.addition.StatementError.TheVariants as error
use Rattle.dsdl_resolve.specs.declared.why.DsdlWhy.{DsdlWhy}
use Rattle.dsdl_resolve.specs.Additions.{IsStatementRefusal}

pub judged_so : (r : Result Judged StatementError) (P Q : Judged → Type 0) → ((j : Judged) → P j → Q j) → IfOk r P → IfOk r Q
judged_so (Ok j) P Q f h = f j h
judged_so (Err e) P Q f h = h

pub refused_so : (r : Result Judged StatementError) (P Q : DsdlWhy → Type 0) → ((why : DsdlWhy) → P why → Q why) → IfErr r (IsStatementRefusal P) → IfErr r (IsStatementRefusal Q)
refused_so (Ok j) P Q f h = h
refused_so (Err (error.Refused why)) P Q f h = f why h
refused_so (Err error.NoMemory) P Q f h = h
