use Rattle.std.proofs.Common.{◌≡◌, map, take}
use Rattle.type_changes.specs.Entries.{entry_of}
use Rattle.type_changes.specs.Lines.{lines_of}
use Rattle.type_changes.proofs.line.lines_of.Given as goal

abbrev pub invariant-loop-entry : goal.invariant-loop-entry
invariant-loop-entry l = l.lines.items ≡ lines_of (map entry_of (take l.entry-index l.entries))
