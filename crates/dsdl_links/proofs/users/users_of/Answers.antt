use Rattle.std.proofs.Common.{◌≡◌, [], length, replicate, sym, subst, rules}
use Rattle.dsdl_links.specs.Users.{AddsUser}
use Rattle.dsdl_links.proofs.Using.{UsersBelow, below_none, below_more, below_all}
use Rattle.dsdl_links.proofs.users.users_of.Goals as goal

pub loop-file-init : goal.loop-file-init
loop-file-init c =
    let links = c.args.links.now in
    let none : c.in_ok-users.users.items ≡ replicate (length links) [] = search rules in
    subst (UsersBelow 0 links) (sym none) (below_none links)

pub loop-file-preserved : goal.loop-file-preserved
loop-file-preserved c =
    let links = c.args.links.now in
    let file = c.loop-file.file in
    let added = subst (λ l. AddsUser l file c.loop-file.users.items c.add_user.new.users.items) c.of.ensures.value c.in_ok-add_user.ensures in
    below_more file links c.loop-file.users.items c.add_user.new.users.items c.loop-file.invariant added

pub returns : goal.returns
returns c = below_all c.loop-file.file c.args.links.now c.loop-file.users.items (search rules) c.loop-file.invariant
