use Rattle.dsdl_resolve.proofs.NamespaceRules.{namespaces_keep_rules}
use Rattle.dsdl_resolve.proofs.soundness.namespaces_keep_rules.Goals as goal

pub returns : goal.returns
returns c = namespaces_keep_rules c.definitions_keep_rules.ensures c.well_spelled.ensures
