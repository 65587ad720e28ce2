use Rattle.std.proofs.Common.{refl}
use Rattle.outside_tests.specs.Samples.{outer}
use Rattle.outside_tests.proofs.SampleRules.{composite, keeps}
use Rattle.outside_tests.proofs.samples.outer_layout.Goals as goal

pub layout_of-requires-clause-rules : goal.layout_of-requires-clause-rules
layout_of-requires-clause-rules c = keeps _ outer c.in_ok-outer.ensures refl

pub layout_of-requires-clause-composite : goal.layout_of-requires-clause-composite
layout_of-requires-clause-composite c = composite _ outer c.in_ok-outer.ensures refl
