-- The files of a tree in memory.
use Rattle.std.specs.Prelude.{List, map}
use Rattle.std.specs.FinMap as finite
use Rattle.cy_outside.specs.declared.file.File.{File}
use Rattle.cy_outside.specs.Files.{Files}

-- the file of each path, and at a path that stands twice the first
abbrev pub files_of : List File → Files
files_of files = finite.from_entries (map (λ (f : File). (f.path, f.bytes)) files)
