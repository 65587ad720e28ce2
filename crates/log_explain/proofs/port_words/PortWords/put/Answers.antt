use Rattle.std.proofs.Common.{◌≡◌, ◌∙◌, ℕ, List, ◌++◌, take, slice_get, Some, sym, ap}
use Rattle.std.proofs.lemmas.Bool.{ltb-true}
use Rattle.std.proofs.lemmas.Option.{slice_get-get_or}
use Rattle.line_text.specs.Buffer.{text_of}
use Rattle.log_explain.proofs.Blocks.{block_at}
use Rattle.log_explain.proofs.port_words.PortWords.put.Goals as goal

pub returns-in-Some-clause-text : goal.returns-in-Some-clause-text
returns-in-Some-clause-text c =
    let self = c.args.self.now in
    let block = c.in-Some.block.now in
    let found = (c.in-Some.ensures {u = tt}).lookup in
    let at : slice_get self.blocks.items c.args.port ≡ Some block =
    ap (λ (bs : List (List ℕ)). slice_get bs c.args.port) (sym c.deref.ensures.value)
    ∙ (slice_get-get_or c.deref.result.now c.args.port _ (ltb-true _ _ (sym found.0)) ∙ ap Some (sym found.1)) in
    c.put.ensures.text ∙ ap (λ (t : List ℕ). text_of c.args.text.now ++ t) (ap (λ n. take n block) c.min.ensures ∙ block_at self.blocks.items c.args.port block self.blocks_are at)
