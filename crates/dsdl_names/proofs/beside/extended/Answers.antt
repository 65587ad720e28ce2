use Rattle.std.proofs.Common.{◌≡◌, ◌≤◌, ◌++◌, ◌∷◌, length, subst, sym, rules, append_assoc}
use Rattle.dsdl_names.specs.Parts.{names_of}
use Rattle.dsdl_names.proofs.PartLemmas.{two_names}
use Rattle.dsdl_names.proofs.beside.extended.Goals as goal

pub new-requires : goal.new-requires
new-requires c =
    let is : c.extend-2.new.self ≡ c.args.namespace.now ++ 46 ∷ c.args.short.now = search (rules, append_assoc) in
    subst (λ t. 2 ≤ length (names_of t)) (sym is) (two_names c.args.namespace.now c.args.short.now)
