use Rattle.std.proofs.Common.{◌≡◌, Ok, sym, ◌∙◌, ap}
use Rattle.dsdl_names.specs.Names.{file_name_of}
use Rattle.dsdl_resolve.proofs.Clear.{first_name}
use Rattle.dsdl_resolve.proofs.Lists.{zip_next}
use Rattle.dsdl_resolve.proofs.names.names_of.Goals as goal

pub returns-in-Err-clause-refused : goal.returns-in-Err-clause-refused
returns-in-Err-clause-refused c =
    first_name c.args.files.now c.loop-file.file-index c.file-item.result c.loop-file-test.true c.file-item.is c.loop-file.names c.in-Err.error c.as_str.result.now c.refused.result
    c.loop-file.invariant c.in-Err.ensures.answer c.as_str.ensures c.refused.ensures

pub loop-file-preserved : goal.loop-file-preserved
loop-file-preserved c =
    zip_next (λ file name. file_name_of file.path ≡ Ok name) c.args.files.now c.loop-file.names c.push.new.self c.loop-file.file-index c.file-item.result c.in-Ok.name
    c.loop-file-test.true c.file-item.is c.loop-file.invariant (sym (c.in-Ok.ensures.answer (λ e. cc) ∙ ap file_name_of c.as_str.ensures)) c.in_ok-push-in-Ok.ensures.ok
