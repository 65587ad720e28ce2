-- The parts of which the statuses of a command are put together: those that it may end with,
-- whatever is told.
use Rattle.std.specs.Prelude.{Bool, true, false}
use Rattle.node_run.specs.declared.status.Status.{Status}
use Rattle.node_run.specs.declared.status.Status.TheVariants as status

-- of words that are no command
abbrev pub of_words : Status → Bool
of_words status.Usage = true
of_words status.NoMemory = true
of_words other = false

-- of a root that is read
abbrev pub of_root : Status → Bool
of_root (status.NoFile path) = true
of_root (status.Dsdl file line why) = true
of_root status.ReadFault = true
of_root status.NoMemory = true
of_root other = false

-- of a plan that is read in the namespace of a root
abbrev pub of_plan : Status → Bool
of_plan (status.Plan line why) = true
of_plan other = of_root other

-- of a text that is written
abbrev pub of_text : Status → Bool
of_text status.Ok = true
of_text status.WriteFault = true
of_text status.NoMemory = true
of_text other = false

-- of two types that are compared by their names
abbrev pub of_types : Status → Bool
of_types (status.NotNewer path why) = true
of_types (status.NoFile path) = true
of_types other = of_text other

-- of comparisons of which each has a line
abbrev pub of_verdicts : Status → Bool
of_verdicts (status.NotNewer path why) = true
of_verdicts other = of_text other

-- of a log that is heard
abbrev pub of_log : Status → Bool
of_log (status.Log line why) = true
of_log status.LogLong = true
of_log status.ReadFault = true
of_log other = of_text other

-- of lines of values that are answered by the name of a type
abbrev pub of_values : Status → Bool
of_values (status.Text line) = true
of_values (status.Unreadable line path why) = true
of_values status.LogLong = true
of_values (status.NoFile path) = true
of_values status.ReadFault = true
of_values other = of_text other
