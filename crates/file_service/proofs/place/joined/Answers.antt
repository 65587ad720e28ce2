use Rattle.std.proofs.Common.{rules}
use Rattle.std.proofs.lemmas.Str.{IsUtf8-from_ascii}
use Rattle.file_service.proofs.Places.{ascii_of}
use Rattle.file_service.proofs.place.joined.Goals as goal

pub unwrap-requires : goal.unwrap-requires
unwrap-requires c = grind (rules, IsUtf8-from_ascii c.args.path.now (ascii_of c.args.path.now c.requires), c.from_utf8.ensures.cases)
