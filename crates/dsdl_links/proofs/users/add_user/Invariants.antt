use Rattle.std.proofs.Common.{take}
use Rattle.dsdl_links.specs.Users.{AddsUser}
use Rattle.dsdl_links.proofs.users.add_user.Given as goal

-- the user is noted at the files so far
abbrev pub invariant-loop-file : goal.invariant-loop-file
invariant-loop-file l = AddsUser (take l.file-index l.files) l.user l.initial.users.items l.users.items
