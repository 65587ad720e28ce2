use Rattle.redundancy.specs.Force.{force}
use Rattle.redundancy.proofs.Forces.{heard_force, force_heard, last_on_heard, handover_late, force_kept, late_heard, late_far}
use Rattle.redundancy.proofs.Hears.{heard_is, unheard_force}
use Rattle.redundancy.proofs.laws.force_laws.Goals as goal

pub returns : goal.returns
returns c = record {
  heard_force = heard_force;
  force_heard = force_heard;
  last_on_heard = last_on_heard;
  heard_is = heard_is;
  handover_late = handover_late;
  force_kept = force_kept;
  unheard_force = λ timeout r past n. unheard_force timeout r past (force timeout past) n;
  late_heard = late_heard;
  late_far = late_far;
}
