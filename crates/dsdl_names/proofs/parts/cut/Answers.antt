use Rattle.dsdl_names.proofs.PartLemmas.{with_front-none}
use Rattle.dsdl_names.proofs.parts.cut.Goals as goal

pub loop-i-init : goal.loop-i-init
loop-i-init c = with_front-none c.args.b c.args.text.now
