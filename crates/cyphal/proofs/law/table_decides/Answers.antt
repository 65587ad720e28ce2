use Rattle.cyphal.proofs.TableRule as rule
use Rattle.cyphal.proofs.law.table_decides.Goals as goal

pub returns : goal.returns
returns c = rule.table_decides
