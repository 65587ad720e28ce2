use Rattle.std.proofs.Common.{sym, ap, ◌∙◌, length, arith}
use Rattle.std.proofs.lemmas.Result.{err_from_is_err_and}
use Rattle.dsdl_clash.specs.Clashes.{first_clash, versions_clash}
use Rattle.dsdl_resolve.proofs.Clear.{name_refusal}
use Rattle.dsdl_resolve.proofs.Resolving.{definition_count, version_refusal, port_refusal}
use Rattle.dsdl_resolve.proofs.namespace.resolve.Goals as goal

pub returns-in_err-names-clause-refused : goal.returns-in_err-names-clause-refused
returns-in_err-names-clause-refused c =
    let p = err_from_is_err_and c.from_residual-in_err-names.result c.from_residual-in_err-names.ensures.1 in
    rw (p.1, p.2) (name_refusal c.args.files.now c.in_ok-check_sizes.ensures.within c.in_err-names.field-0.0 c.in_err-names.ensures.refused)

pub check_versions-requires : goal.check_versions-requires
check_versions-requires c =
    let v = c.in_ok-namespace.ensures.valued in
    omega (arith, ap length (c.as_slice-4.ensures ∙ v.types), definition_count c.args.files.now v.done)

pub returns-in_err-check_versions-clause-refused : goal.returns-in_err-check_versions-clause-refused
returns-in_err-check_versions-clause-refused c =
    let v = c.in_ok-namespace.ensures.valued in
    let p = err_from_is_err_and c.from_residual-in_err-check_versions.result c.from_residual-in_err-check_versions.ensures.1 in
    rw (p.1, p.2)
    (version_refusal c.args.files.now v.done v.valued_all c.as_slice-4.result.now (c.as_slice-4.ensures ∙ v.types) c.in_err-check_versions.field-0.0 c.in_err-check_versions.ensures.refused)

pub check_ports-requires : goal.check_ports-requires
check_ports-requires c =
    let v = c.in_ok-namespace.ensures.valued in
    omega (arith, ap length (c.as_slice-5.ensures ∙ v.types), definition_count c.args.files.now v.done)

pub returns-in_err-check_ports-clause-refused : goal.returns-in_err-check_ports-clause-refused
returns-in_err-check_ports-clause-refused c =
    let v = c.in_ok-namespace.ensures.valued in
    let p = err_from_is_err_and c.from_residual-in_err-check_ports.result c.from_residual-in_err-check_ports.ensures.1 in
    rw (p.1, p.2)
    (port_refusal c.args.files.now v.done v.valued_all c.as_slice-5.result.now (c.as_slice-5.ensures ∙ v.types) (ap (first_clash versions_clash) (c.as_slice-5.ensures ∙ sym c.as_slice-4.ensures) ∙ c.in_ok-check_versions.ensures.none)
    c.in_err-check_ports.field-0.0 c.in_err-check_ports.ensures.refused)
