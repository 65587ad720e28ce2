use Rattle.dsdl_types.specs.Views.{sch}
use Rattle.type_changes.proofs.Compared.{same_law, same_bytes}
use Rattle.type_changes.proofs.laws.same_bytes.Goals as goal

pub returns : goal.returns
returns c = λ new old e. same_bytes (sch new) (sch old) ((same_law (sch new) (sch old)).0 e)
