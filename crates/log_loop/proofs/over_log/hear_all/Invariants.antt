use Rattle.std.proofs.Common.{◌≡◌, ◌≤◌, ◌+◌, ◌^◌, List, None, map}
use Rattle.frame_log.specs.Reader.{settled_answer, bytes_left, buses_of}
use Rattle.line_text.specs.Buffer.{text_of}
use Rattle.gathered_text.specs.Gathered.{Gathered}
use Rattle.log_loop.specs.Voice.{MayCome, said}
use Rattle.log_loop.proofs.Logs.{latest_of}
use Rattle.log_loop.proofs.Came.{Reads}
use Rattle.log_loop.proofs.Streams.{Streams}
use Rattle.log_loop.proofs.over_log.hear_all.Given as goal

abbrev pub invariant-records : goal.invariant-records
invariant-records g l = let s = g.L.Source in let o = g.O.Sink in let m = g.M.Listener in let names = buses_of l.fn.reader in let v = m.voice l.fn.listener in record {
  past : List m.event;
  may : MayCome v past;
  reads : Reads names (s.left l.fn.input) (s.left l.input) l.reader (map v.record_of past);
  streams : Streams names v (s.left l.fn.input) (s.left l.input) l.reader past (o.written l.fn.out) (o.written l.out);
  reading : settled_answer l.reader ≡ None;
  heard : m.heard l.fn.listener l.listener past;
  latest : m.latest l.listener ≤ latest_of (map v.record_of past);
  count : m.count l.listener + bytes_left l.reader ≤ 2 ^ 28;
  gathered : Gathered (said v past) (text_of l.gathered) (o.written l.fn.out) (o.written l.out);
  read : s.faults l.input ≡ s.faults l.fn.input;
  write : o.faults l.out ≡ o.faults l.fn.out;
}

abbrev pub decreases-records : goal.decreases-records
decreases-records g l = bytes_left l.reader
