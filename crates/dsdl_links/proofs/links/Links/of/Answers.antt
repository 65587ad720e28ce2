use Rattle.std.proofs.Common.{◌≡◌, ap, subst, ◌∙◌, true, length, [], ◌<◌, arith}
use Rattle.std.proofs.lemmas.List.{get_or_read}
use Rattle.dsdl_links.specs.Order.{is_among, links_at}
use Rattle.dsdl_links.proofs.links.Links.of.Goals as goal

pub returns-clause-within : goal.returns-clause-within
returns-clause-within c j h =
    let seen : c.self.inside.files ≡ c.args.self.now = c.self.view_is in
    let within : c.args.file < length c.as_slice.result.now = omega (arith, ap length c.as_slice.ensures, ap length seen, c.requires) in
    let same : c.as_slice-2.result.now ≡ links_at c.self.inside.files c.args.file =
    c.as_slice-2.ensures ∙ get_or_read c.as_slice.result.now c.args.file c.index-as_slice-file.result within c.index-as_slice-file.is [] ∙ ap (λ l. links_at l c.args.file) c.as_slice.ensures in
    subst (λ l. j < length l) seen (c.self.invariant c.args.file j (subst (λ l. is_among l j ≡ true) same h))
