use Rattle.std.proofs.Common.{ap, ◌∙◌, option_map, Some}
use Rattle.command_words.specs.Help.{text_of_help}
use Rattle.command_words.specs.Table.{help_of}
use Rattle.command_words.proofs.lookup.help_of.Goals as goal

pub returns-in-Some : goal.returns-in-Some
unfolding help_of
returns-in-Some c = ap Some c.text.ensures ∙ ap (option_map (λ row. text_of_help row.help)) c.in-Some.ensures

pub returns-in-None : goal.returns-in-None
unfolding help_of
returns-in-None c = ap (option_map (λ row. text_of_help row.help)) c.in-None.ensures
