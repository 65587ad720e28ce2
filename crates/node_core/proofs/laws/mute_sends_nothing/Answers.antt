use Rattle.node_core.proofs.Silence.{mute_keep_nothing, mute_receive}
use Rattle.node_core.proofs.laws.mute_sends_nothing.Goals as goal

pub returns-clause-keeps : goal.returns-clause-keeps
returns-clause-keeps c = mute_keep_nothing

pub returns-clause-lines : goal.returns-clause-lines
returns-clause-lines c = mute_receive
