use Rattle.std.proofs.Common.{◌≡◌, length, arith}
use Rattle.dsdl_types.specs.Views.{sch}
use Rattle.line_text.specs.Buffer.{text_of}
use Rattle.value_scan.specs.Written.{written}
use Rattle.value_scan.proofs.Steps.{place_is}
use Rattle.value_lines.proofs.OnePass.{answered}
use Rattle.value_lines.proofs.encoded.put_scanned.Goals as goal

pub returns-in-Ok-clause-text : goal.returns-in-Ok-clause-text
returns-in-Ok-clause-text c = λ n.
    let out = c.scan_own.new.out in
    let end : c.scan_own.new.at ≡ length c.args.text.now = omega arith in
    answered (sch c.args.schema.now) c.args.text.now c.scan_own.new.at out.place n (written c.start.new.self) (written out)
    (text_of c.args.gathered.now) (text_of c.put_bits_line.new.gathered) c.requires.1 c.in_ok-scan_own.ensures.scanned end c.in_ok-start.ensures (place_is out) c.in-Ok.ensures.text
