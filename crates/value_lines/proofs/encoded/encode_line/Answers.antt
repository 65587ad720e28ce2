use Rattle.std.proofs.Common.{◌≡◌, ◌∙◌, ◌≤◌, false, length, sym, arith, rules}
use Rattle.std.proofs.lemmas.Bool.Decides.{nat_tests}
use Rattle.dsdl_types.specs.Views.{sch}
use Rattle.line_text.specs.Buffer.{text_of}
use Rattle.value_lines.specs.LongLines.{is_long}
use Rattle.value_lines.proofs.OnePass.{heard}
use Rattle.value_lines.proofs.encoded.encode_line.Goals as goal

pub returns-then-is_ok : goal.returns-then-is_ok
returns-then-is_ok c =
    let few = c.if-text-gt-LONGEST_LINE.false in
    let short : is_long c.args.text.now ≡ false = first_of (search rules, grind (arith, nat_tests)) in
    heard c.put_scanned.result (sch c.args.schema.now) c.args.line c.args.text.now (text_of c.args.gathered.now) (text_of c.put_scanned.new.gathered) (sym c.is_ok.ensures.value ∙ c.if-is_ok.true) short c.put_scanned.ensures.text
