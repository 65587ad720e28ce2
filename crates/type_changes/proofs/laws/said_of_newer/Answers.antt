use Rattle.dsdl_types.specs.Views.{sch}
use Rattle.type_changes.proofs.Compared.{newer_law}
use Rattle.type_changes.proofs.laws.said_of_newer.Goals as goal

pub returns : goal.returns
returns c = λ new old. newer_law (sch new) (sch old)
