use Rattle.std.proofs.Common.{rules, ◌≡◌, ◌≢◌, Ok, Err}
use Rattle.dsdl_names.specs.Names.{type_id_of}
use Rattle.dsdl_names.specs.declared.NameError.TheVariants as error
use Rattle.dsdl_names.proofs.TypeLemmas.{id_type}
use Rattle.dsdl_names.proofs.parse.parse_type_id.Goals as goal

pub returns-in-Ok-clause-is_type : goal.returns-in-Ok-clause-is_type
returns-in-Ok-clause-is_type c =
    let answer : Ok c.in-Ok.file.id ≢ Err error.NoMemory → Ok c.in-Ok.file.id ≡ type_id_of c.args.text.now = search rules in
    id_type c.args.text.now (Ok c.in-Ok.file.id) answer
