use Rattle.std.proofs.Common.{◌≡◌, ◌≤◌, ◌++◌, ◌∷◌, [], length, take, ap, subst, ◌∙◌, sym, rules}
use Rattle.dsdl_names.specs.Parts.{names_of}
use Rattle.dsdl_names.proofs.BesideLemmas.{dotted_more, dotted_two}
use Rattle.dsdl_names.proofs.beside.joined.Goals as goal

pub loop-next-preserved : goal.loop-next-preserved
loop-next-preserved c =
    let x = c.next-item.result in
    let pushed : c.extend-in-loop-next-2.new.self ≡ (c.loop-next.name ++ 46 ∷ []) ++ x = search rules in
    pushed ∙ ap (λ t. (t ++ 46 ∷ []) ++ x) c.loop-next.invariant ∙ sym (dotted_more c.args.first.now c.args.second.now c.args.names.now c.loop-next.next-index x c.loop-next-test.true c.next-item.is)

pub new-requires : goal.new-requires
new-requires c =
    subst (λ t. 2 ≤ length (names_of t)) (sym c.loop-next.invariant) (dotted_two c.args.first.now c.args.second.now (take c.loop-next.next-index c.args.names.now))
