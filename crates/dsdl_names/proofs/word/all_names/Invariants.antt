use Rattle.std.proofs.Common.{◌≡◌, length}
use Rattle.std.specs.List.{list_all}
use Rattle.dsdl_names.specs.Parts.{parts_of}
use Rattle.dsdl_names.specs.Words.{is_name}
use Rattle.dsdl_names.proofs.word.all_names.Given as goal

-- what was passed are names
abbrev pub invariant-loop-name : goal.invariant-loop-name
invariant-loop-name l = list_all is_name (parts_of l.b l.text) ≡ list_all is_name (parts_of l.b l.rest)

abbrev pub decreases-loop-name : goal.decreases-loop-name
decreases-loop-name l = length l.rest
