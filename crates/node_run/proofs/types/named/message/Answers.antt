use Rattle.std.proofs.Common.{◌≡◌, Some, subst}
use Rattle.dsdl_types.specs.declared.definition.Parts.TheVariants as parts
use Rattle.node_run.specs.NamedTypes.{named, parts_of}
use Rattle.node_run.specs.declared.types.named.NamedParts.{NamedParts}
use Rattle.node_run.proofs.Messages.{named_rules}
use Rattle.node_run.proofs.types.named.message.Goals as goal

pub returns-in-Ok-Message-clause-rules : goal.returns-in-Ok-Message-clause-rules
returns-in-Ok-Message-clause-rules c =
    let names = c.args.names.now in
    let name = c.args.name.now in
    let found = subst (λ (p : NamedParts). named names name ≡ Some (parts_of p)) c.in-Ok-Message.field-0-is c.in-Ok-Message.ensures.found in
    named_rules names c.requires name (parts.Message c.in-Ok-Message.schema.now) found
