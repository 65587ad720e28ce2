-- What was there stays.
use Rattle.std.proofs.Common.{◌≡◌, ◌∙◌, ℕ, List, [], ◌++◌, append_assoc, length, take, sym, ap}
use Rattle.std.proofs.lemmas.List.{append-nil}
use Rattle.std.proofs.Math.Seq.{take-append_seam}
use Rattle.value_json.specs.Pieces.{Begins}

pub begins_more : (old new more : List ℕ) → new ≡ old ++ more → Begins old new
begins_more old new more e = record { more = more; is = e }

pub begins_same : (old new : List ℕ) → new ≡ old → Begins old new
begins_same old new e = record { more = []; is = e ∙ sym (append-nil old) }

pub begins_then : (a b c : List ℕ) → Begins a b → Begins b c → Begins a c
begins_then a b c h k = record { more = h.more ++ k.more; is = k.is ∙ ap (λ x. x ++ k.more) h.is ∙ append_assoc a h.more k.more }

pub ruleset begins = (begins_then, begins_more, begins_same)

-- what was put is cut away
pub begins_cut : (a b : List ℕ) → Begins a b → take (length a) b ≡ a
begins_cut a b h = ap (λ l. take (length a) l) h.is ∙ take-append_seam a h.more
