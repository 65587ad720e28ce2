use Rattle.time_sync.proofs.Kept.{first_kept}
use Rattle.time_sync.proofs.sync.Sync.new.Goals as goal

pub returns-clause-stands : goal.returns-clause-stands
returns-clause-stands c = record { kept = first_kept; order = tt; latest = tt }
