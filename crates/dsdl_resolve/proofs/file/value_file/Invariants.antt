use Rattle.std.proofs.Common.{◌≡◌}
use Rattle.dsdl_resolve.specs.Judged.{in_file}
use Rattle.dsdl_resolve.specs.Opens.{between}
use Rattle.dsdl_resolve.proofs.Filing.{Filed}
use Rattle.dsdl_resolve.proofs.file.value_file.Given as goal

abbrev pub invariant-loop-i : goal.invariant-loop-i
invariant-loop-i l = record {
  filed : Filed l.file l.scope.constants (in_file l.fn.scope l.name) l.name.port l.path l.lines l.i;
  scope : l.scope ≡ between (in_file l.fn.scope l.name) l.scope.constants;
}
