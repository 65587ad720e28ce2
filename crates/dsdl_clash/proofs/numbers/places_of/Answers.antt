use Rattle.std.proofs.Common.{◌≡◌, ◌+◌, ◌-◌, Some, length, ap, sym, ◌∙◌, subst, arith}
use Rattle.std.specs.BTreeMap.{Updates}
use Rattle.std.specs.Ordering.{nat_cmp}
use Rattle.std.specs.Cmp.Lexicographic.{slice_cmp}
use Rattle.dsdl_types.specs.declared.definition.Definition.{Definition}
use Rattle.dsdl_clash.proofs.NameLemmas.{PlacedFrom, place_none, place_more, placed_all}
use Rattle.dsdl_clash.proofs.numbers.places_of.Goals as goal

pub loop-i-init : goal.loop-i-init
loop-i-init c = record {
  within = omega arith;
  placed = place_none c.args.definitions.now (length c.args.definitions.now) c.new-places.result c.new-places.ensures.empty (omega arith);
}

pub loop-i-preserved : goal.loop-i-preserved
loop-i-preserved c =
    let ds = c.args.definitions.now in
    let i = c.loop-i.i - 1 in
    let back : c.loop-i.i ≡ i + 1 = omega arith in
    let copied : c.in_ok-copy.field-0 ≡ c.index-definitions-i.result.id.name = c.in_ok-copy.ensures ∙ ap (λ (d : Definition). d.id.name) (sym c.index-definitions-i.is) in
    record {
      within = omega arith;
      placed = place_more ds i c.index-definitions-i.result c.loop-i.places c.insert.new.self (subst (λ n. PlacedFrom ds n c.loop-i.places) back c.loop-i.invariant.placed) (omega arith) c.index-definitions-i.is
          (subst (λ k. Updates (slice_cmp nat_cmp) c.loop-i.places c.insert.new.self k (Some i)) copied c.in_ok-insert.ensures.updates);
    }

pub returns : goal.returns
returns c =
    let none : c.loop-i.i ≡ 0 = omega arith in
    placed_all c.args.definitions.now c.loop-i.places (subst (λ n. PlacedFrom c.args.definitions.now n c.loop-i.places) none c.loop-i.invariant.placed)
