use Rattle.std.proofs.Common.{◌≤◌, length, subst, sym}
use Rattle.dsdl_names.specs.Parts.{names_of}
use Rattle.dsdl_names.proofs.BesideLemmas.{no_full_name}
use Rattle.dsdl_names.proofs.beside.in_namespace.Goals as goal

pub unreachable-requires : goal.unreachable-requires
unreachable-requires c =
    let two = subst (λ t. 2 ≤ length (names_of t)) (sym c.as_bytes.ensures.value) c.as_bytes.ensures.names in
    no_full_name c.as_bytes.result.now c.in-None.ensures two
