use Rattle.std.proofs.Common.{◌≡◌, Ok, take}
use Rattle.std.specs.List.{AllZip}
use Rattle.dsdl_names.specs.Names.{file_name_of}
use Rattle.dsdl_resolve.proofs.names.names_of.Given as goal

-- the names so far are those of the files that were passed
abbrev pub invariant-loop-file : goal.invariant-loop-file
invariant-loop-file l = AllZip (λ file name. file_name_of file.path ≡ Ok name) (take l.file-index l.files) l.names
