use Rattle.std.proofs.Common.{◌≡◌, ◌++◌, drop, string_bytes}
use Rattle.const_expr.specs.Text.{members_behind}
use Rattle.const_expr.proofs.text.push_behind.Given as goal

-- the text so far with the members that are left is the whole
abbrev pub invariant-loop-member : goal.invariant-loop-member
invariant-loop-member l = string_bytes l.text ++ members_behind (drop l.member-index l.members) ≡ string_bytes l.initial.text ++ members_behind l.members
