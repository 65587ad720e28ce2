use Rattle.std.proofs.Common.{◌≡◌, ◌++◌}
use Rattle.const_expr.specs.Binary.{without}
use Rattle.const_expr.specs.Constants.{IsAscending}
use Rattle.const_expr.proofs.SetChanges.{less}
use Rattle.const_expr.proofs.gathered.take_out.Given as goal

-- what is left once the constants that are left are out, and the others so far with those that are left
abbrev pub invariant-loop-constant : goal.invariant-loop-constant
invariant-loop-constant l = record {
  set : IsAscending l.set.keys;
  rest : IsAscending l.constant-iterator.rest.items;
  left : less l.set.keys l.constant-iterator.rest.items ≡ without l.initial.set.keys l.fn.constants;
  others : l.others ++ without l.constant-iterator.rest.items l.set.keys ≡ without l.fn.constants l.initial.set.keys;
}
