use Rattle.type_changes.proofs.Compared.{same_law, renamed_law}
use Rattle.type_changes.proofs.laws.said_of_names.Goals as goal

pub returns-clause-same : goal.returns-clause-same
returns-clause-same c = same_law

pub returns-clause-renamed : goal.returns-clause-renamed
returns-clause-renamed c = renamed_law
