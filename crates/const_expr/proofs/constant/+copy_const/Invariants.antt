use Rattle.std.proofs.Common.{◌≡◌, take}
use Rattle.const_expr.proofs.constant.+copy_const.Given as goal

-- the copies so far equal what was passed
abbrev pub invariant-copy_all-loop-constant : goal.invariant-copy_all-loop-constant
invariant-copy_all-loop-constant l = l.copies.items ≡ take l.constant-index l.constant-items
