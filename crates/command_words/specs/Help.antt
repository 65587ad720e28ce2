-- The texts of the commands' help.
use Rattle.std.specs.Prelude.{ℕ, List}
use Rattle.command_words.specs.declared.help.Help.{Help}
use Rattle.command_words.specs.declared.help.Help.TheVariants as help
use Rattle.command_words.specs.declared.log_help.TheConstants.{RUN, JSON, EXPLAIN, SURVEY, NODES, ORDER, GEN}
use Rattle.command_words.specs.declared.node_help.TheConstants.{MONITOR, ALLOCATE, FETCH}
use Rattle.command_words.specs.declared.plan_help.TheConstants.{BOUND, MIGRATE}
use Rattle.command_words.specs.declared.types_help.TheConstants.{COMPILE, COMPAT, VERSIONS, CHANGES}
use Rattle.command_words.specs.declared.values_help.TheConstants.{ENCODE, DECODE}

-- what `cyphal COMMAND --help` writes
abbrev pub text_of_help : Help → List ℕ
text_of_help help.Run = RUN.now
text_of_help help.Json = JSON.now
text_of_help help.Explain = EXPLAIN.now
text_of_help help.Survey = SURVEY.now
text_of_help help.Nodes = NODES.now
text_of_help help.Order = ORDER.now
text_of_help help.Gen = GEN.now
text_of_help help.Monitor = MONITOR.now
text_of_help help.Allocate = ALLOCATE.now
text_of_help help.Fetch = FETCH.now
text_of_help help.Bound = BOUND.now
text_of_help help.Migrate = MIGRATE.now
text_of_help help.Compile = COMPILE.now
text_of_help help.Compat = COMPAT.now
text_of_help help.Versions = VERSIONS.now
text_of_help help.Changes = CHANGES.now
text_of_help help.Encode = ENCODE.now
text_of_help help.Decode = DECODE.now
