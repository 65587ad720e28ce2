use Rattle.std.proofs.Common.{◌≡◌, map, drop}
use Rattle.std.specs.FinMap.{get, find}
use Rattle.cy_outside.specs.declared.file.File.{File}
use Rattle.cy_outside.specs.Memory.{files_of}
use Rattle.cy_outside.proofs.Stored.{by_bytes}
use Rattle.cy_outside.proofs.never_tree.find.Given as goal

abbrev pub invariant-loop-file : goal.invariant-loop-file
invariant-loop-file l = get (files_of l.files) l.path ≡ find by_bytes l.path (map (λ (f : File). (f.path, f.bytes)) (drop l.file-index l.files))
