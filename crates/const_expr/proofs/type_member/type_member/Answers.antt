use Rattle.const_expr.proofs.MemberFinds.{message_type}
use Rattle.const_expr.proofs.type_member.type_member.Goals as goal

pub message_member-requires-clause-schema : goal.message_member-requires-clause-schema
message_member-requires-clause-schema c =
    message_type c.args.scope.now.namespace.definitions c.in-Some.place c.in-Some.definition.now c.in-Message.schema c.in-Some.ensures.stands c.in-Message.is c.requires.scope.types
