use Rattle.std.proofs.Common.{◌≡◌, ◌++◌, map, string_bytes, drop}
use Rattle.compat_check.specs.Paths.{path_text, further_texts}
use Rattle.compat_check.specs.Verdicts.{turn_of}
use Rattle.compat_check.proofs.path.path_text.Given as goal

-- the text so far and that of the turns that are left are the whole
abbrev pub invariant-loop-turn : goal.invariant-loop-turn
invariant-loop-turn l = string_bytes l.text ++ further_texts (map turn_of (drop l.turn-index l.others)) ≡ path_text (map turn_of l.turns)
