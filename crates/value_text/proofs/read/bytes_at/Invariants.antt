use Rattle.std.proofs.Common.{◌≡◌, ◌≤◌, true, drop}
use Rattle.dsdl_types.specs.Values.{count}
use Rattle.dsdl_types.specs.Views.{vals}
use Rattle.value_text.specs.Texts.{are_bytes}
use Rattle.value_text.proofs.ReadItems.{BytesLeft}
use Rattle.value_text.proofs.read.bytes_at.Given as goal

-- the bytes so far are read, and the others are left
abbrev pub invariant-loop : goal.invariant-loop
invariant-loop l = record {
  most : l.counter ≤ l.len;
  made : count (vals l.values.items) ≡ l.counter;
  bytes : are_bytes (vals l.values.items) ≡ true;
  left : BytesLeft l.exact l.len (vals l.values.items) (drop l.initial.at l.line) (drop l.at l.line);
}
