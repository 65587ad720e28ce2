use Rattle.std.proofs.Common.{◌∙◌, ℕ, ◌+◌, [], ◌∷◌, length, map, ap}
use Rattle.std.proofs.lemmas.List.{length-append}
use Rattle.text_lines.specs.Words.{block_text}
use Rattle.log_explain.proofs.Blocks.{one_more}
use Rattle.log_explain.proofs.port_words.PortWords.new.Goals as goal

pub loop-subject-preserved : goal.loop-subject-preserved
loop-subject-preserved c =
    let blocks = c.loop-subject.blocks.items in
    let block = c.block_of.result in
    let h = c.loop-subject.invariant in
    let items = c.in_ok-push.ensures.items in (
      ap length items ∙ (length-append blocks (block ∷ []) ∙ ap (λ (n : ℕ). n + 1) h.0),
      ap (map block_text) items ∙ one_more blocks block c.loop-subject.subject h.0 h.1 c.block_of.ensures,
    )
