use Rattle.std.proofs.Common.{◌≡◌, ◌++◌, ◌≤◌, ◌^◌, drop, length}
use Rattle.line_text.specs.Buffer.{text_of}
use Rattle.log_explain.specs.SessionLines.{sessions_from}
use Rattle.log_explain.specs.Text.{sessions_text}
use Rattle.log_explain.proofs.session_lines.put_sessions.Given as goal

-- the lines so far, with those of the ports that are left
abbrev pub invariant-loop-place : goal.invariant-loop-place
invariant-loop-place g l =
    length l.table.ports.items ≤ 2 ^ 16
    → text_of l.text ++ sessions_text l.names (sessions_from l.tallies.by_slot.items l.place (drop l.place l.table.ports.items))
    ≡ text_of l.initial.text ++ sessions_text l.names (sessions_from l.tallies.by_slot.items 0 l.table.ports.items)
