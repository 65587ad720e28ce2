use Rattle.dsdl_links.proofs.Using.{UsersBelow}
use Rattle.dsdl_links.proofs.users.users_of.Given as goal

-- the files so far are noted
abbrev pub invariant-loop-file : goal.invariant-loop-file
invariant-loop-file l = UsersBelow l.file l.links l.users.items
