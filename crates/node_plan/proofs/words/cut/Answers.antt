use Rattle.node_plan.proofs.PartsLemmas.{with_front-none}
use Rattle.node_plan.proofs.words.cut.Goals as goal

pub loop-i-init : goal.loop-i-init
loop-i-init c = with_front-none c.args.b c.args.text.now
