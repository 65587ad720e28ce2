use Rattle.std.proofs.Common.{subst}
use Rattle.dsdl_types.specs.Views.{sch}
use Rattle.line_loop.specs.Heard.{Hears}
use Rattle.line_text.specs.Buffer.{text_of}
use Rattle.value_lines.specs.Decoded.{Decodes}
use Rattle.value_lines.proofs.Heard.{heard_on}
use Rattle.value_lines.proofs.decoded.DecoderLineListener.hear.Goals as goal

pub returns : goal.returns
returns c = λ first past same next.
    let line = c.args.line.now in
    let before = text_of c.args.gathered.now in
    let after = text_of c.decode_line.new.gathered in
    let r = c.decode_line.result in (
      heard_on past line r same,
      subst (λ n. Hears (Decodes (sch first.schema.now) n line) before after r) next
          (subst (λ s. Hears (Decodes (sch s) c.args.number line) before after r) same c.decode_line.ensures),
    )
