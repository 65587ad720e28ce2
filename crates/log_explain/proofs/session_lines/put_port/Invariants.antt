use Rattle.std.proofs.Common.{◌≡◌, ◌++◌, ◌≤◌, ◌^◌, drop}
use Rattle.line_text.specs.Buffer.{text_of}
use Rattle.log_explain.specs.SessionLines.{sessions_at}
use Rattle.log_explain.specs.Text.{sessions_text}
use Rattle.log_explain.proofs.session_lines.put_port.Given as goal

-- the lines so far, with those of the sessions that are left
abbrev pub invariant-loop-index : goal.invariant-loop-index
invariant-loop-index g l =
    l.place ≤ 2 ^ 16
    → text_of l.text ++ sessions_text l.names (sessions_at l.tallies.by_slot.items l.port.kind l.port.port l.place (drop l.index l.port.sessions.entries))
    ≡ text_of l.initial.text ++ sessions_text l.names (sessions_at l.tallies.by_slot.items l.port.kind l.port.port l.place l.port.sessions.entries)
