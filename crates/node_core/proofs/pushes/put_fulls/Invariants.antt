use Rattle.std.proofs.Common.{◌≡◌, ◌≤◌, ◌+◌, ◌++◌, map, take, vec_len, vec_capacity}
use Rattle.report_lines.specs.declared.line.Line.TheVariants.{Full}
use Rattle.node_core.proofs.pushes.put_fulls.Given as goal

abbrev pub invariant-loop-full : goal.invariant-loop-full
invariant-loop-full l = record {
  said : l.lines.items ≡ l.initial.lines.items ++ map Full (take l.full-index l.full-items);
  room : vec_len l.lines + 3 ≤ vec_capacity l.lines + l.full-index;
}
