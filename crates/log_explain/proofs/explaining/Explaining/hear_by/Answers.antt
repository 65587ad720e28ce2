use Rattle.std.proofs.Common.{◌∙◌, sym}
use Rattle.log_explain.proofs.explaining.Explaining.hear_by.Goals as goal

pub pass_by-requires-clause-nowhere : goal.pass_by-requires-clause-nowhere
pass_by-requires-clause-nowhere c = sym c.place_by.ensures ∙ c.in-None-place_by.is
