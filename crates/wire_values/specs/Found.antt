-- What the search for a misfit answers.
use Rattle.std.specs.Prelude.{List, map, reverse, Option, Some, None}
use Rattle.dsdl_types.specs.Paths.{step_of}
use Rattle.dsdl_types.specs.Reading.{Step}
use Rattle.dsdl_types.specs.declared.path.Step.{Step as PathStep}

-- a path of the code, the last step first, as one of the definitions
abbrev pub found : Option (List PathStep) → Option (List Step)
found None = None
found (Some steps) = Some (reverse (map step_of steps))
