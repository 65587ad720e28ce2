use Rattle.std.proofs.Common.{refl}
use Rattle.std_types.specs.Types.{schema_of}
use Rattle.node_core.proofs.question.Question.of.Goals as goal

pub request_as-requires : goal.request_as-requires
unfolding schema_of
request_as-requires c = refl

pub request_as-requires-in-385 : goal.request_as-requires-in-385
unfolding schema_of
request_as-requires-in-385 c = refl

pub request_as-requires-in-405 : goal.request_as-requires-in-405
unfolding schema_of
request_as-requires-in-405 c = refl

pub request_as-requires-in-406 : goal.request_as-requires-in-406
unfolding schema_of
request_as-requires-in-406 c = refl

pub request_as-requires-in-408 : goal.request_as-requires-in-408
unfolding schema_of
request_as-requires-in-408 c = refl
