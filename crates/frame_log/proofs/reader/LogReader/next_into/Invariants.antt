use Rattle.std.proofs.Common.{◌≡◌, ◌≤◌, ◌+◌, ◌++◌, List, ℕ, None, length, true, false}
use Rattle.frame_log.specs.Input.{Took}
use Rattle.frame_log.specs.Reader.{log_behind, buses_of, place_of, kept_bytes_of, bytes_left, room_of}
use Rattle.frame_log.specs.Used.{Passes}
use Rattle.frame_log.proofs.reader.LogReader.next_into.Given as goal

abbrev pub invariant-turns : goal.invariant-turns
invariant-turns g l = let s = g.L.Source in record {
  next : (came : List ℕ) × Took (s.left l.fn.input) (s.left l.input) came × ((rest : List ℕ) → log_behind l.fn.self (came ++ rest) ≡ log_behind l.self rest);
  used : (came : List ℕ) × Took (s.left l.fn.input) (s.left l.input) came × Passes (buses_of l.fn.self) (place_of l.fn.self) (kept_bytes_of l.fn.self ++ came) (place_of l.self) (kept_bytes_of l.self) × (length came + room_of l.self ≤ room_of l.fn.self);
  ended : l.fn.self.is_ended ≡ true → (l.self ≡ l.fn.self) × (l.input ≡ l.fn.input);
  reading : l.fn.self.is_ended ≡ false → l.self.is_ended ≡ false;
  faults : s.faults l.input ≡ s.faults l.fn.input;
  done : l.self.done ≡ None;
  buses : buses_of l.self ≡ buses_of l.fn.self;
  within : bytes_left l.self ≤ bytes_left l.fn.self;
}

abbrev pub decreases-turns : goal.decreases-turns
decreases-turns g l = l.self.room
