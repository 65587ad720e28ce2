use Rattle.std.proofs.Common.{arith, rules, ◌<◌, ◌≤◌, length}
use Rattle.std.proofs.lemmas.Grind.{common_steps}
use Rattle.dsdl_files.proofs.FilesRead.{read_next, rest_next}
use Rattle.dsdl_files.proofs.files.read_files.Goals as goal

pub loop-path-preserved : goal.loop-path-preserved
loop-path-preserved g c =
    let room : c.loop-path.path-index < c.args.limits.files = grind arith in
    let small : length c.in_ok-file.file.text ≤ c.args.limits.bytes = grind arith in
    record {
      told = search rules;
      faults = search rules;
      calls = read_next _ _ c.path-item.result c.as_str-path.result.now _ _ _ _ _ _ _ c.as_slice-path-items.ensures c.loop-path-test.true c.path-item.is
          c.as_str-path.ensures c.loop-path.invariant.told c.loop-path.invariant.calls c.read.ensures.calls;
      count = grind (arith, common_steps);
      room = grind (arith, common_steps);
      sizes = grind (arith, common_steps);
      names = grind (arith, common_steps);
      read = grind (arith, common_steps);
      rest = rest_next _ _ c.args.root.now c.path-item.result c.as_str-path.result.now c.in_ok-file.file.text _ _ _ _ _ c.as_slice-path-items.ensures c.loop-path-test.true c.path-item.is
          c.as_str-path.ensures c.loop-path.invariant.told room c.in_ok-file.ensures.text small c.loop-path.invariant.rest;
    }
