use Rattle.std.proofs.Common.{◌∙◌, ◌*◌, drop, ap, sym, subst}
use Rattle.std.proofs.lemmas.List.{drop-drop}
use Rattle.value_scan.specs.Bytes.{AreInFront}
use Rattle.value_scan.specs.Written.{written}
use Rattle.value_scan.proofs.HexLemmas.{bytes_put}
use Rattle.value_scan.proofs.byte_arrays.scan_block.Goals as goal

pub returns-clause-scanned : goal.returns-clause-scanned
returns-clause-scanned c =
    let line = c.args.line.now in
    let at = c.args.at.now in
    let word = c.bytes_in-block.result.word in
    let n = c.bytes_in-block.result.size in
    let there : AreInFront n word (drop at line) = subst (λ l. AreInFront n word l) c.in_ok-rest.ensures c.bytes_in-block.ensures.read in
    bytes_put n word (drop at line) (drop c.skip.new.at line) (written c.args.out.now) (written c.put.new.self) there (ap (λ m. drop m line) c.in_ok-skip.ensures ∙ sym (drop-drop (2 * n) at line)) c.in_ok-put.ensures.bits
