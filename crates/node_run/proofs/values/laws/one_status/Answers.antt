use Rattle.std.proofs.Common.{◌∙◌, sym}
use Rattle.value_lines.specs.Decoded.{Decodes}
use Rattle.value_lines.specs.Encoded.{Encodes}
use Rattle.node_run.specs.NamedTypes.{message_named}
use Rattle.node_run.proofs.LineStatuses.{one_status}
use Rattle.node_run.proofs.Messages.{message_rules}
use Rattle.node_run.proofs.values.laws.one_status.Goals as goal

pub returns-clause-encode : goal.returns-clause-encode
returns-clause-encode c names rules name bytes a b x y =
    one_status Encodes (message_named names name) (λ s is. c.one_encoding.ensures s (message_rules names rules name s is)) name bytes a b x y

pub returns-clause-decode : goal.returns-clause-decode
returns-clause-decode c names rules name bytes a b x y =
    one_status Decodes (message_named names name) (λ s is number line p q g h. g ∙ sym h) name bytes a b x y
