use Rattle.std.proofs.Common.{◌≡◌, ◌-◌, ◌^◌, drop}
use Rattle.dsdl_files.specs.Folders.{first_too_big}
use Rattle.dsdl_resolve.specs.Passes.{first_past_limit}
use Rattle.dsdl_resolve.proofs.size.check_sizes.Given as goal

-- the first file that passes a limit is among those that are left
abbrev pub invariant-loop-i : goal.invariant-loop-i
invariant-loop-i l = first_too_big (4096 - l.i) (2 ^ 20) (drop l.i l.files) ≡ first_past_limit l.files
