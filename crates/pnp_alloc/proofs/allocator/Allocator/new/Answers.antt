use Rattle.std.proofs.Common.{◌≡◌, false, true, length, replicate, ap, arith}
use Rattle.std.proofs.lemmas.List.{length-set}
use Rattle.pnp_alloc.proofs.Kept.{open_first}
use Rattle.pnp_alloc.proofs.allocator.Allocator.new.Goals as goal

pub returns : goal.returns
returns c = record { owners_are = c.new.ensures; free_are = open_first c.args.own }

pub invariant_of-result : goal.invariant_of-result
invariant_of-result c =
    let none : length c.new.result ≡ 0 = ap length c.new.ensures in
    record {
      full = length-set (replicate 128 false) c.args.own true;
      room = omega (arith, none);
      above = λ n a b. absurd (omega arith);
    }
