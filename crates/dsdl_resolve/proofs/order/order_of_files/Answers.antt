use Rattle.std.proofs.Common.{ap, ◌∙◌, length}
use Rattle.std.proofs.lemmas.Result.{err_from_is_err_and}
use Rattle.dsdl_resolve.proofs.Clear.{syntax_refusal}
use Rattle.dsdl_resolve.proofs.Rereading.{source_count}
use Rattle.dsdl_resolve.proofs.Resolving.{unresolved_refusal, cycle_refusal, link_count}
use Rattle.dsdl_resolve.proofs.order.order_of_files.Goals as goal

pub returns-in_err-sources-clause-refused : goal.returns-in_err-sources-clause-refused
returns-in_err-sources-clause-refused c =
    let p = err_from_is_err_and c.from_residual.result c.from_residual.ensures.1 in
    rw (p.1, p.2) (syntax_refusal c.args.files.now c.requires.within c.args.names.now c.requires.named c.in_err-sources.field-0.0 c.in_err-sources.ensures.refused)

pub links_between-requires : goal.links_between-requires
links_between-requires c =
    let s = c.in_ok-sources.ensures.sources in
    ap length (c.as_slice.ensures ∙ s.are) ∙ source_count c.args.files.now s.reads s.are_read

pub returns-in_err-links-clause-refused : goal.returns-in_err-links-clause-refused
returns-in_err-links-clause-refused c =
    let s = c.in_ok-sources.ensures.sources in
    let p = err_from_is_err_and c.from_residual-in_err-links.result c.from_residual-in_err-links.ensures.1 in
    rw (p.1, p.2)
    (unresolved_refusal c.args.files.now c.requires.within s.reads s.are_read c.as_slice.result.now (c.as_slice.ensures ∙ s.are) c.in_err-links.field-0.0 c.in_err-links.ensures.refused)

pub order_between-requires : goal.order_between-requires
order_between-requires c =
    let s = c.in_ok-sources.ensures.sources in
    link_count c.as_slice.result.now c.in_ok-links.links c.in_ok-links.ensures.linked ∙ ap length (c.as_slice.ensures ∙ s.are) ∙ source_count c.args.files.now s.reads s.are_read

pub returns-in_err-order_between-clause-refused : goal.returns-in_err-order_between-clause-refused
returns-in_err-order_between-clause-refused c =
    let s = c.in_ok-sources.ensures.sources in
    let p = err_from_is_err_and c.from_residual-in_err-order_between.result c.from_residual-in_err-order_between.ensures.1 in
    rw (p.1, p.2)
    (cycle_refusal c.args.files.now c.requires.within s.reads s.are_read c.as_slice.result.now (c.as_slice.ensures ∙ s.are) c.in_ok-links.links c.in_ok-links.ensures.linked
    c.in_err-order_between.field-0.0 c.in_err-order_between.ensures.refused)
