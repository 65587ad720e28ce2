use Rattle.std.proofs.Common.{◌≡◌, map, drop}
use Rattle.command_words.specs.Table.{row_of, named}
use Rattle.command_words.proofs.lookup.find_in.Given as goal

-- none of the commands so far has the word
abbrev pub invariant-loop-command : goal.invariant-loop-command
invariant-loop-command l =
    named l.word (map row_of l.commands)
    ≡ named l.word (map row_of (drop l.command-index l.commands))
