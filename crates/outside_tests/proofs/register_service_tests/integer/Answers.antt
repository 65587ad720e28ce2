use Rattle.std.proofs.Common.{◌≡◌, ℤ, pos, negsuc, FitsSigned, List, [], ◌∷◌, get_or, sym, subst, rules, arith}
use Rattle.std.proofs.lemmas.Grind.{common_steps}
use Rattle.std.specs.Int.{w16}
use Rattle.dsdl_types.specs.Stored.{IsSigned}
use Rattle.std_types.specs.Held.{HoldsIntegers}
use Rattle.outside_tests.proofs.register_service_tests.integer.Goals as goal

signed : (z : ℤ) → FitsSigned w16 z → IsSigned 16 z
signed (pos n) h = search (rules, common_steps)
signed (negsuc n) h = search (rules, common_steps)

alone : (xs : List ℤ) (z : ℤ) → xs ≡ z ∷ [] → IsSigned 16 z → HoldsIntegers 16 128 xs
alone xs z e h = subst (HoldsIntegers 16 128) (sym e)
    (omega arith, λ k d less. let first : k ≡ 0 = omega arith in subst (λ j. IsSigned 16 (get_or (z ∷ []) j d)) (sym first) h)

pub returns : goal.returns
returns c =
    let one : c.new.result ≡ c.args.number ∷ [] = search rules in
    alone c.new.result c.args.number one (signed c.args.number (search rules))
