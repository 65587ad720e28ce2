use Rattle.std.proofs.Common.{◌≡◌, ◌≤◌, List, ℕ, length}
use Rattle.frame_log.specs.Reader.{buses_of, place_of, log_behind}
use Rattle.frame_log.specs.Used.{Passes}
use Rattle.frame_log.proofs.reader.LogReader.from_kept.Given as goal

abbrev pub invariant-loop-step : goal.invariant-loop-step
invariant-loop-step l = record {
  next : (rest : List ℕ) → log_behind l.fn.self rest ≡ log_behind l.self rest;
  passes : Passes (buses_of l.fn.self) (place_of l.fn.self) l.fn.self.kept_bytes (place_of l.self) l.self.kept_bytes;
  within : length l.self.kept_bytes ≤ length l.fn.self.kept_bytes;
  same : (l.self.buses ≡ l.fn.self.buses) × (l.self.room ≡ l.fn.self.room) × (l.self.is_ended ≡ l.fn.self.is_ended) × (l.self.done ≡ l.fn.self.done);
}

abbrev pub decreases-loop-step : goal.decreases-loop-step
decreases-loop-step l = length l.self.kept_bytes
