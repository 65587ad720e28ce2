use Rattle.std.proofs.Common.{◌≡◌, length}
use Rattle.std.specs.List.{list_any}
use Rattle.dsdl_names.specs.Parts.{parts_of}
use Rattle.dsdl_names.specs.Words.{is_reserved}
use Rattle.dsdl_names.proofs.word.any_reserved.Given as goal

-- what was passed is not kept
abbrev pub invariant-loop-name : goal.invariant-loop-name
invariant-loop-name l = list_any is_reserved (parts_of l.b l.text) ≡ list_any is_reserved (parts_of l.b l.rest)

abbrev pub decreases-loop-name : goal.decreases-loop-name
decreases-loop-name l = length l.rest
