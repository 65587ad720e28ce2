use Rattle.std.proofs.Common.{List}
use Rattle.dsdl_files.specs.declared.file.DsdlFile.{DsdlFile}
use Rattle.node_run.proofs.Roots.{status_cause}
use Rattle.node_run.proofs.types.namespace.files_of.Goals as goal

pub returns-in-Err-clause-cause : goal.returns-in-Err-clause-cause
returns-in-Err-clause-cause g c = status_cause (List DsdlFile) (List DsdlFile) c.args.root.now _ _ c.in-Err.error c.not_read.result c.in-Err.ensures.cause c.not_read.ensures
