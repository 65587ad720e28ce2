use Rattle.std.proofs.Common.{◌≡◌, ◌+◌, ◌∷◌, ◌++◌, [], take, sym, subst, rules, IfErr}
use Rattle.std.specs.List.{AllZip}
use Rattle.std.proofs.lemmas.Result.{err_from_is_err_and}
use Rattle.dsdl_links.specs.Answers.{IsLinkError}
use Rattle.dsdl_links.specs.Links.{AreLinksOf}
use Rattle.dsdl_links.proofs.Placing.{link_error, links_more, links_all, links_within}
use Rattle.dsdl_links.proofs.links.links_of.Goals as goal

pub returns-in_err-links_in-clause-unresolved : goal.returns-in_err-links_in-clause-unresolved
returns-in_err-links_in-clause-unresolved c =
    let files = c.args.files.now in
    let p = err_from_is_err_and c.from_residual-in_err-links_in.result c.from_residual-in_err-links_in.ensures.1 in
    let told : IsLinkError files c.in_err-links_in.field-0.0 = link_error files c.loop-i.i c.loop-i.links c.in_err-links_in.field-0.0 c.loop-i.invariant (search rules) c.in_err-links_in.ensures.missing in
    subst (λ r. IfErr r (IsLinkError files)) (sym p.1) (subst (IsLinkError files) (sym p.2) told)

pub loop-i-preserved : goal.loop-i-preserved
loop-i-preserved c =
    let files = c.args.files.now in
    let pushed : c.push.new.self ≡ c.loop-i.links ++ c.in_ok-links_in.field-0 ∷ [] = search rules in
    subst (λ ls. AllZip (AreLinksOf files) (take (c.loop-i.i + 1) files) ls) (sym pushed) (links_more files c.loop-i.i c.loop-i.links c.in_ok-links_in.field-0 c.loop-i.invariant (search rules) c.in_ok-links_in.ensures.linked)

pub invariant_of-result : goal.invariant_of-result
invariant_of-result c = links_within c.args.files.now c.loop-i.links (links_all c.args.files.now c.loop-i.i c.loop-i.links c.loop-i.invariant (search rules))
