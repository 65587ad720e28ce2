use Rattle.std.proofs.Common.{rules}
use Rattle.std.proofs.lemmas.Str.{IsUtf8-from_ascii}
use Rattle.cy_bits.proofs.text.Text.from_ascii.Goals as goal

pub unwrap-text-requires : goal.unwrap-text-requires
unwrap-text-requires c = grind (rules, IsUtf8-from_ascii c.args.bytes.now c.requires, c.from_utf8.ensures.cases)
