-- What each command is to `clap`: its required arguments.
use Rattle.std.specs.Prelude.{true, codes, Some}
use Rattle.clap.specs.Walk.{Rule, Text}
use Rattle.clap.specs.Simple.{App, new_app, new_rule, with_rule}
use Rattle.clap.specs.declared.builder.action.ArgAction.TheVariants.{Set}

-- a required argument with one value
abbrev pub given : Text → Rule
given id = record (new_rule id) { required = true; action = Some Set }

-- one argument: a root, a number or a node-ID
abbrev pub one_shape : App
one_shape = with_rule (new_app (codes "cyphal")) (given (codes "ARGUMENT"))

-- a root, with others behind it
abbrev pub root_shape : App
root_shape = with_rule (new_app (codes "cyphal")) (given (codes "ROOT"))

-- the first of three arguments, with the others behind it
abbrev pub first_shape : App
first_shape = with_rule (new_app (codes "cyphal")) (given (codes "FIRST"))

-- a root and a plan or the name of a type
abbrev pub two_shape : App
two_shape = with_rule root_shape (given (codes "ARGUMENT"))

-- three arguments: a root and the names of two types, or two nodes and a path
abbrev pub three_shape : App
three_shape = with_rule (with_rule first_shape (given (codes "SECOND"))) (given (codes "THIRD"))
