use Rattle.std.proofs.Common.{◌≡◌, take, map}
use Rattle.std.specs.Prelude.{unwrap_or}
use Rattle.dsdl_links.specs.Links.{file_of}
use Rattle.dsdl_links.specs.declared.source.Source.{Source}
use Rattle.dsdl_links.proofs.links.first_numbers.Given as goal

-- the numbers so far
abbrev pub invariant-loop-file : goal.invariant-loop-file
invariant-loop-file l = l.firsts ≡ map (λ (f : Source). unwrap_or (file_of l.files f.id) 0) (take l.file-index l.files)
