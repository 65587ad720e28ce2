use Rattle.std.proofs.Common.{◌+◌, length, refl, take, drop}
use Rattle.command_words.specs.Overview.{overview_lines}
use Rattle.command_words.specs.declared.overview_text.TheConstants.{OVERVIEW}
use Rattle.command_words.specs.declared.table.TheConstants.{COMMANDS}
use Rattle.command_words.proofs.overview_text.overview.Goals as goal

-- the head has 80 bytes
pub returns-clause-lines : goal.returns-clause-lines
returns-clause-lines c =
    (take 80 OVERVIEW.now, drop (80 + length (overview_lines COMMANDS.now)) OVERVIEW.now, refl)

pub returns-clause-fits : goal.returns-clause-fits
returns-clause-fits c = refl
