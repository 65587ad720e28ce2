use Rattle.std.proofs.Common.{◌≡◌, ◌+◌, ◌≤◌, ◌++◌, length, map}
use Rattle.tx_queue.specs.Waiting.{out_frame, out_frames}
use Rattle.tx_queue.proofs.queue.TxQueue.push_transfer.Given as goal

-- those that wait and those that are left are the old ones and the transfer's, and have room
abbrev pub invariant-loop-bytes : goal.invariant-loop-bytes
invariant-loop-bytes l = record {
  frames : l.self.waiting.items ++ map (out_frame l.fn.ident) l.bytes-iterator ≡ l.initial.self.waiting.items ++ out_frames l.fn.ident l.fn.mtu l.fn.payload l.fn.tid;
  room : length l.self.waiting.items + length l.bytes-iterator ≤ l.self.places;
  places : l.self.places ≡ l.initial.self.places;
}
