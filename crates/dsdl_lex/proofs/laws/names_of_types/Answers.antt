use Rattle.dsdl_lex.proofs.OneName.{same_name, same_version}
use Rattle.dsdl_lex.proofs.laws.names_of_types.Goals as goal

pub returns : goal.returns
returns c = record { name = same_name; version = same_version }
