use Rattle.dsdl_lex.specs.declared.token.TokenKind.TheVariants as k
use Rattle.dsdl_parse.proofs.Strings.{inside_ascii}
use Rattle.dsdl_parse.proofs.leaf.unquoted.Goals as goal

pub from_ascii-requires : goal.from_ascii-requires
from_ascii-requires c = inside_ascii c.args.string.now (c.ascii.ensures.ascii k.Str c.args.string.now c.requires)
