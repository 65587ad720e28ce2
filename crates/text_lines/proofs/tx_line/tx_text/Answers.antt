use Rattle.std.proofs.Common.{rules}
use Rattle.text_lines.proofs.TxLine.{tx_is_utf8}
use Rattle.text_lines.proofs.tx_line.tx_text.Goals as goal

pub unwrap-text-requires : goal.unwrap-text-requires
unwrap-text-requires c =
    let tx = c.args.tx.now in
    grind (rules, tx_is_utf8 tx.moment c.args.bus.now tx.ident tx.bytes c.utf8.bus, c.as_bytes.ensures, c.as_slice.ensures.value, c.new-line.ensures, c.put_tx.ensures.text, c.reserve.ensures.text, c.as_slice-2.ensures, c.from_utf8.ensures.cases)
