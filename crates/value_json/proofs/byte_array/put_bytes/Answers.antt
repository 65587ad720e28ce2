use Rattle.value_json.proofs.Adding.{on_ok}
use Rattle.value_json.proofs.Bytes.{object_written}
use Rattle.value_json.proofs.byte_array.put_bytes.Goals as goal

pub returns-clause-text : goal.returns-clause-text
returns-clause-text c =
    on_ok c.put_word-3.result (λ e. object_written _ _ _ _ _ _ _ _ c.in_ok-put_word.ensures.text c.in_ok-put_hex.ensures.text c.in_ok-put_word-2.ensures.text c.in_ok-put_text.ensures.text e) c.put_word-3.ensures.text
