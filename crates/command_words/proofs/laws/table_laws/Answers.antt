use Rattle.std.proofs.Common.{refl}
use Rattle.command_words.proofs.laws.table_laws.Goals as goal

pub returns-clause-words : goal.returns-clause-words
returns-clause-words c = refl

pub returns-clause-distinct : goal.returns-clause-distinct
returns-clause-distinct c = refl

pub returns-clause-groups : goal.returns-clause-groups
returns-clause-groups c = refl

pub returns-clause-told : goal.returns-clause-told
returns-clause-told c = refl
