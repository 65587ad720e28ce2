use Rattle.std.proofs.Common.{◌≡◌, ◌+◌, ◌-◌, Some, length, ap, sym, ◌∙◌, subst, arith}
use Rattle.std.specs.BTreeMap.{Updates}
use Rattle.dsdl_names.specs.Types.{type_order}
use Rattle.dsdl_links.specs.declared.source.Source.{Source}
use Rattle.dsdl_links.proofs.Placing.{PlacedFrom, place_none, place_more, placed_all}
use Rattle.dsdl_links.proofs.links.places_of.Goals as goal

pub loop-i-init : goal.loop-i-init
loop-i-init c = record {
  within = omega arith;
  placed = place_none c.args.files.now (length c.args.files.now) c.new-places.result c.new-places.ensures.empty (omega arith);
}

pub loop-i-preserved : goal.loop-i-preserved
loop-i-preserved c =
    let files = c.args.files.now in
    let i = c.loop-i.i - 1 in
    let back : c.loop-i.i ≡ i + 1 = omega arith in
    let copied : c.in_ok-copy.field-0 ≡ c.index-files-i.result.id = c.in_ok-copy.ensures ∙ ap (λ (f : Source). f.id) (sym c.index-files-i.is) in
    let updates = subst (λ R. Updates R c.loop-i.places c.insert.new.self c.in_ok-copy.field-0 (Some i)) (λ n a b. c.order_of_types.ensures a b n) c.in_ok-insert.ensures.updates in
    record {
      within = omega arith;
      placed = place_more files i c.index-files-i.result c.loop-i.places c.insert.new.self (subst (λ n. PlacedFrom files n c.loop-i.places) back c.loop-i.invariant.placed) (omega arith) c.index-files-i.is
          (subst (λ k. Updates type_order c.loop-i.places c.insert.new.self k (Some i)) copied updates);
    }

pub returns : goal.returns
returns c = let none : c.loop-i.i ≡ 0 = omega arith in placed_all c.args.files.now c.loop-i.places (subst (λ n. PlacedFrom c.args.files.now n c.loop-i.places) none c.loop-i.invariant.placed)
