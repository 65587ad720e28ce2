use Rattle.std.proofs.Common.{rules, ◌≡◌, ◌≢◌, Err}
use Rattle.dsdl_names.specs.Names.{file_name_of}
use Rattle.dsdl_names.specs.declared.NameError.TheVariants as error
use Rattle.dsdl_names.proofs.TypeLemmas.{file_type}
use Rattle.dsdl_names.proofs.parse.parse_file_name.Goals as goal

pub returns-in-Some-clause-is_type : goal.returns-in-Some-clause-is_type
returns-in-Some-clause-is_type c =
    let answer : c.file_of.result ≢ Err error.NoMemory → c.file_of.result ≡ file_name_of c.args.path.now = search rules in
    file_type c.args.path.now c.file_of.result answer
