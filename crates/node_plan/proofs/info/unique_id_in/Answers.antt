use Rattle.std.proofs.Common.{◌∙◌, sym}
use Rattle.node_plan.proofs.HexLemmas.{decode_sized-bytes}
use Rattle.node_plan.proofs.info.unique_id_in.Goals as goal

pub returns-in-Ok-clause-fits : goal.returns-in-Ok-clause-fits
returns-in-Ok-clause-fits c = decode_sized-bytes c.args.word.now 16 c.in-Ok.bytes (sym c.from_hex.ensures ∙ c.in-Ok.is)
