use Rattle.std.proofs.Common.{All, map, sym, subst}
use Rattle.std.proofs.lemmas.List.Sorted.{All-permutation}
use Rattle.dsdl_types.specs.Definitions.{IsDefinition}
use Rattle.layout_text.proofs.Whole.{whole_namespace}
use Rattle.layout_text.proofs.namespace.namespace_text.Goals as goal

pub push_definitions-requires : goal.push_definitions-requires
push_definitions-requires c =
    let all = All-permutation IsDefinition c.as_slice-2.result.now _ c.in_ok-sorted.ensures.same (subst (All IsDefinition) (sym c.as_slice-2.ensures) c.requires) in
    subst (λ rs. All IsDefinition (map (λ r. r.now) rs)) (sym c.as_slice-3.ensures.value) all

pub returns : goal.returns
returns c =
    whole_namespace c.args.names.now c.as_slice-2.result.now c.as_slice.result.now c.in_ok-sorted.sorted.items c.as_slice-3.result.now c.new-text.result.items c.push_prints.new.text.items c.push_definitions.new.text.items c.as_slice-2.ensures c.as_slice.ensures c.as_slice-3.ensures.value c.new-text.ensures.items c.in_ok-push_prints.ensures c.in_ok-sorted.ensures c.in_ok-push_definitions.ensures
