use Rattle.std.proofs.Common.{◌≡◌, ◌+◌, ◌-◌, ◌≤◌, ◌^◌, min, drop}
use Rattle.log_explain.specs.SessionLines.{count_in}
use Rattle.log_explain.proofs.session_lines.count_sessions.Given as goal

-- those so far, with those of the ports that are left
abbrev pub invariant-loop-place : goal.invariant-loop-place
invariant-loop-place g l =
    (min (l.count + count_in (drop l.place l.table.ports.items)) (2 ^ 64 - 1) ≡ min (count_in l.table.ports.items) (2 ^ 64 - 1))
    × (l.count ≤ 2 ^ 64 - 1)
