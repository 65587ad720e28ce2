use Rattle.std.proofs.Common.{◌≡◌, ◌++◌, map, string_bytes, drop}
use Rattle.dsdl_types.specs.Paths.{path_text, further_texts, step_of}
use Rattle.dsdl_types.proofs.path.path_text.Given as goal

-- the text so far and that of the steps that are left are the whole
abbrev pub invariant-loop-step : goal.invariant-loop-step
invariant-loop-step l = string_bytes l.text ++ further_texts (map step_of (drop l.step-index l.others)) ≡ path_text (map step_of l.steps)
