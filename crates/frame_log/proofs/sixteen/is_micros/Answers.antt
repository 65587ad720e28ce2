use Rattle.std.proofs.lemmas.Bool.{eqb-true}
use Rattle.frame_log.proofs.MicrosLemmas.{is_micros-is}
use Rattle.frame_log.proofs.sixteen.is_micros.Goals as goal

pub returns : goal.returns
returns c e = is_micros-is c.args.c c.fits-c.0 c.fits-c.1 (eqb-true _ 0 e)
