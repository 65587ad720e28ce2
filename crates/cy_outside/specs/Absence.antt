-- Which errors of the system say that nothing stands at a path.
use Rattle.std.specs.Prelude.{Bool, true, false}
use Rattle.std.specs.declared.io.ErrorKind.{ErrorKind}
use Rattle.std.specs.declared.io.ErrorKind.TheVariants.{NotFound, NotADirectory}

-- the system finds no such file, or a file where a path has a folder
abbrev pub is_absence : ErrorKind → Bool
is_absence NotFound = true
is_absence NotADirectory = true
is_absence _ = false
