use Rattle.std.proofs.Common.{◌∙◌, sym, subst}
use Rattle.file_client.specs.Stands.{Keeps}
use Rattle.file_client.proofs.Steps.{reply_taken}
use Rattle.file_client.proofs.fetch.Fetch.reply.Goals as goal

pub returns-else-code-ne0-clause-keeps : goal.returns-else-code-ne0-clause-keeps
returns-else-code-ne0-clause-keeps c = λ limit s k.
    subst (λ v. Keeps limit v.0 c.piece.new.self) (sym (reply_taken limit s c.args.tid c.args.code c.args.bytes.now (c.if-tid-self.false ∙ k.tid) c.if-code-ne0.false))
    (c.piece.ensures.keeps limit s k)
