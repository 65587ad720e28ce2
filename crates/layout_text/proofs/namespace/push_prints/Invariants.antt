use Rattle.std.proofs.Common.{◌≡◌, ◌++◌, take}
use Rattle.std.specs.List.{flat_map}
use Rattle.layout_text.specs.Namespaces.{print_line}
use Rattle.layout_text.proofs.namespace.push_prints.Given as goal

abbrev pub invariant-loop-print : goal.invariant-loop-print
invariant-loop-print l = l.text.items ≡ l.initial.text.items ++ flat_map print_line (take l.print-index l.prints)
