use Rattle.wire_values.proofs.WhatFits.{fits_or_misfit}
use Rattle.wire_values.proofs.laws.fits_or_misfit.Goals as goal

pub returns : goal.returns
returns c = fits_or_misfit
