use Rattle.std.proofs.Common.{◌≡◌, ◌<◌, true, ℕ, length, drop, [], ap, sym, subst, arith, rules, MatchBool}
use Rattle.std.proofs.lemmas.List.{take_at, get_or_read}
use Rattle.dsdl_links.specs.Order.{is_among, links_at, Reaches}
use Rattle.dsdl_links.specs.Marks.{is_marked, Marks}
use Rattle.dsdl_links.proofs.Reaching.{Follows, follow_more, follow_end, waits_within}
use Rattle.dsdl_links.proofs.cycle.reaches_itself.Goals as goal

pub of-requires : goal.of-requires
of-requires c =
    waits_within c.args.links.now c.args.file c.in-Some.next c.loop-next.reached.items c.pop.new.self.items
    (subst (Follows c.args.links.now c.args.file c.loop-next.reached.items) c.in-Some.ensures.items c.loop-next.invariant.follows)

pub loop-next-preserved : goal.loop-next-preserved
loop-next-preserved c =
    let links = c.args.links.now in
    let follows = subst (Follows links c.args.file c.loop-next.reached.items) c.in-Some.ensures.items c.loop-next.invariant.follows in
    let marks = subst (λ l. Marks l c.loop-next.reached.items c.mark.new.marks c.pop.new.self.items c.mark.new.waiting.items) c.of.ensures.value
    (subst (λ m. Marks c.of.result.now m c.mark.new.marks c.pop.new.self.items c.mark.new.waiting.items) c.as_mut_slice.ensures.value c.in_ok-mark.ensures) in
    let closed : (j : ℕ) → is_among (links_at links c.in-Some.next) j ≡ true → j < length links = λ j h. c.of.ensures.within j (subst (λ l. is_among l j ≡ true) (sym c.of.ensures.value) h) in
    let count : length c.mark.new.marks ≡ c.loop-next.reached.len = search rules in
    let kept = take_at c.mark.new.marks (drop (length c.mark.new.marks) c.loop-next.reached.items) c.loop-next.reached.len count in
    record {
      follows = subst (λ m. Follows links c.args.file m c.mark.new.waiting.items) (sym kept)
          (follow_more links c.args.file c.in-Some.next c.loop-next.reached.items c.mark.new.marks c.pop.new.self.items c.mark.new.waiting.items follows marks closed);
      count = omega (arith, ap length kept, c.loop-next.invariant.count);
    }

pub returns : goal.returns
returns c =
    let links = c.args.links.now in
    let file = c.args.file in
    let none : c.loop-next.waiting.items ≡ [] = search rules in
    let within : file < length c.loop-next.reached.items = omega (arith, c.loop-next.invariant.count, c.requires) in
    let told : c.index.result.now ≡ is_marked c.loop-next.reached.items file = search (rules, get_or_read) in
    subst (λ b. MatchBool b (Reaches links file file) (Reaches links file file → ⊥)) (sym told)
    (follow_end links file c.loop-next.reached.items (subst (Follows links file c.loop-next.reached.items) none c.loop-next.invariant.follows))
