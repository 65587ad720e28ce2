use Rattle.std.proofs.Common.{◌≡◌, ◌≤◌, ◌+◌, ◌-◌, length, map, drop, take}
use Rattle.std.specs.Prelude.{IfSome}
use Rattle.std.specs.List.{All}
use Rattle.dsdl_files.specs.declared.file.DsdlFile.{DsdlFile}
use Rattle.dsdl_files.specs.Folders.{name_below, dsdl_file, first_too_big, reads_within}
use Rattle.dsdl_files.proofs.files.read_files.Given as goal

abbrev pub invariant-loop-path : goal.invariant-loop-path
invariant-loop-path g l = let t = g.T.Tree in record {
  told : t.files l.tree ≡ t.files l.fn.tree;
  faults : t.faults l.tree ≡ t.faults l.fn.tree;
  calls : IfSome (t.files l.fn.tree) (λ files. t.calls l.tree + reads_within (l.limits.bytes + 1) files (drop l.path-index l.paths)
      ≤ t.calls l.fn.tree + reads_within (l.limits.bytes + 1) files l.paths);
  count : length l.files ≡ l.path-index;
  room : length l.files ≤ l.limits.files;
  sizes : All (λ (file : DsdlFile). length file.text ≤ l.limits.bytes) l.files;
  names : map (λ (file : DsdlFile). file.path) l.files ≡ map (name_below l.root) (take l.path-index l.paths);
  read : IfSome (t.files l.fn.tree) (λ files. l.files ≡ map (dsdl_file files l.root) (take l.path-index l.paths));
  rest : IfSome (t.files l.fn.tree) (λ files. first_too_big (l.limits.files - l.path-index) l.limits.bytes (map (dsdl_file files l.root) (drop l.path-index l.paths))
      ≡ first_too_big l.limits.files l.limits.bytes (map (dsdl_file files l.root) l.paths));
}
