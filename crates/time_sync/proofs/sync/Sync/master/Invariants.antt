use Rattle.std.proofs.Common.{◌≡◌, None}
use Rattle.time_sync.specs.Times.{least, is_kept_recent}
use Rattle.time_sync.proofs.sync.Sync.master.Given as goal

-- no source so far is recent
abbrev pub invariant-loop-source : goal.invariant-loop-source
invariant-loop-source l = least (is_kept_recent l.moment l.self.sources) l.source ≡ None
