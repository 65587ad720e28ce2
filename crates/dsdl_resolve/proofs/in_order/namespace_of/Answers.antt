use Rattle.std.proofs.Common.{◌≡◌, List, sym, ◌∙◌, subst}
use Rattle.std.specs.List.{All}
use Rattle.dsdl_types.specs.Definitions.{IsDefinition}
use Rattle.dsdl_links.specs.declared.source.Source.{Source}
use Rattle.dsdl_resolve.specs.Placing.{Places}
use Rattle.dsdl_resolve.specs.Progressing.{Holds, doubled}
use Rattle.dsdl_resolve.specs.Valuing.{Done, in_path_order, meant}
use Rattle.dsdl_resolve.proofs.Placement.{all_placed, in_order_keep}
use Rattle.dsdl_resolve.proofs.in_order.namespace_of.Goals as goal

in_order : (c : goal.After-drop-places-3) (sources : List Source) (done : List Done) → Holds sources done c.args.valued → c.in_ok-filled.field-0 ≡ in_path_order c.args.count done
in_order c sources done h =
    let others : Places (doubled sources done) c.in_ok-slots.slots.items c.place.new.slots.items =
    c.place.ensures (doubled sources done) (record { numbers = c.as_slice.ensures.value ∙ h.types.double_numbers; types = h.types.doubles }) in
    let those : Places (meant sources done) c.place.new.slots.items c.place-2.new.slots.items =
    c.place-2.ensures (meant sources done) (record { numbers = c.as_slice-2.ensures.value ∙ h.types.numbers; types = c.definitions_in.ensures ∙ h.types.definitions }) in
    c.in_ok-filled.ensures ∙ all_placed sources done c.args.count c.in_ok-slots.slots.items c.place.new.slots.items c.place-2.new.slots.items c.in_ok-slots.ensures others those

pub returns : goal.returns
returns c = record {
  definitions = in_order c;
  prints = λ sources done h. h.prints;
  sound = λ sources done h s.
      subst (All IsDefinition) (sym (in_order c sources done h))
      (in_order_keep sources done c.args.count (subst (All IsDefinition) h.types.definitions s.definitions) (subst (All IsDefinition) h.types.doubles s.doubles));
}
