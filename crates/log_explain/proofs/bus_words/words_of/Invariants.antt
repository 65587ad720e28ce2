use Rattle.std.proofs.Common.{◌≡◌, map, take}
use Rattle.log_explain.specs.Words.{bus_word}
use Rattle.text_lines.specs.Words.{word_text}
use Rattle.log_explain.proofs.bus_words.words_of.Given as goal

abbrev pub invariant-loop-name : goal.invariant-loop-name
invariant-loop-name l = map word_text l.words ≡ map bus_word (take l.name-index l.name-items)
