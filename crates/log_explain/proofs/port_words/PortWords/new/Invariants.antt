use Rattle.std.proofs.Common.{◌≡◌, map, length}
use Rattle.log_explain.specs.Words.{numbers}
use Rattle.text_lines.specs.Words.{block_text}
use Rattle.log_explain.proofs.port_words.PortWords.new.Given as goal

abbrev pub invariant-loop-subject : goal.invariant-loop-subject
invariant-loop-subject l = (length l.blocks.items ≡ l.subject) × (map block_text l.blocks.items ≡ numbers 0 l.subject)
