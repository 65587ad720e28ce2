use Rattle.std.proofs.Common.{◌≡◌, ◌<◌, ◌+◌, [], ◌∷◌, ◌++◌, length, get_or, set, take, sym, subst, arith, rules}
use Rattle.std.proofs.lemmas.List.{take_more, get_or_read}
use Rattle.dsdl_links.specs.Order.{links_at}
use Rattle.dsdl_links.specs.Users.{AddsUser}
use Rattle.dsdl_links.proofs.Among.{among_at}
use Rattle.dsdl_links.proofs.Using.{add_more}
use Rattle.dsdl_links.proofs.users.add_user.Goals as goal

pub index_mut-requires : goal.index_mut-requires
index_mut-requires c =
    let file = get_or c.args.files.now c.loop-file.file-index 0 in
    omega (arith, c.requires file (among_at c.args.files.now c.loop-file.file-index 0 c.loop-file-test.true), c.loop-file.invariant.count)

pub loop-file-preserved : goal.loop-file-preserved
loop-file-preserved c =
    let files = c.args.files.now in
    let i = c.loop-file.file-index in
    let user = c.args.user in
    let old = c.args.users.now.items in
    let users = c.loop-file.users.items in
    let file = get_or files i 0 in
    let within : file < length users = omega (arith, c.requires file (among_at files i 0 c.loop-file-test.true), c.loop-file.invariant.count) in
    let more : take (i + 1) files ≡ take i files ++ file ∷ [] = take_more files i 0 c.loop-file-test.true in
    let pushed : c.push.new.self ≡ links_at users file ++ user ∷ [] = search (rules, get_or_read) in
    subst (λ l. AddsUser l user old (set users file c.push.new.self)) (sym more)
    (subst (λ v. AddsUser (take i files ++ file ∷ []) user old (set users file v)) (sym pushed) (add_more (take i files) file user old users c.loop-file.invariant within))
