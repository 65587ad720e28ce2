use Rattle.std.proofs.Common.{refl}
use Rattle.std_types.specs.Types.{schema_of}
use Rattle.node_core.proofs.answers.encoded_file.Goals as goal

pub encoded-requires-clause-name : goal.encoded-requires-clause-name
unfolding schema_of
encoded-requires-clause-name c = refl

pub encoded-requires-in-Name-clause-name : goal.encoded-requires-in-Name-clause-name
unfolding schema_of
encoded-requires-in-Name-clause-name c = refl

pub encoded-requires-in-Bytes-clause-name : goal.encoded-requires-in-Bytes-clause-name
unfolding schema_of
encoded-requires-in-Bytes-clause-name c = refl
