use Rattle.std.proofs.Common.{◌≡◌, [], replicate}
use Rattle.dsdl_links.proofs.users.none_of.Given as goal

abbrev pub invariant-loop : goal.invariant-loop
invariant-loop l = l.lists.items ≡ replicate l.counter []
