-- Remainders of lengths.
use Rattle.std.proofs.Common.{ℕ, ◌%◌, ◌==◌, List}
use Rattle.std.specs.List.{list_any}
use Rattle.bit_length.specs.Residues.{residues_of}
use Rattle.bit_length.proofs.AscendingLemmas.{below_ascends}
use Rattle.const_expr.specs.declared.constant.Const.TheVariants as c
use Rattle.const_expr.specs.Binary.{residues}
use Rattle.const_expr.specs.Constants.{IsConst}
use Rattle.const_expr.proofs.Keeps.{set_keeps}
use Rattle.const_expr.proofs.Wholes.{naturals_ascend}

pub residues_keep : (ns : List ℕ) (k : ℕ) → IsConst (c.Set (residues ns k))
residues_keep ns k =
    set_keeps (residues ns k) (naturals_ascend (residues_of ns k) (below_ascends k (λ r. list_any (λ n. n % k == r) ns)))
