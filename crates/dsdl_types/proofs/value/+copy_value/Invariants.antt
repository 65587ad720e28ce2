use Rattle.std.proofs.Common.{◌≡◌, take}
use Rattle.dsdl_types.proofs.value.+copy_value.Given as goal

-- the copies so far equal what was passed
abbrev pub invariant-copy_all-loop-value : goal.invariant-copy_all-loop-value
invariant-copy_all-loop-value l = l.copies.items ≡ take l.value-index l.value-items
