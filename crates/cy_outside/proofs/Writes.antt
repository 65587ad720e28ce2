-- What was written after more of the bytes are.
use Rattle.std.proofs.Common.{◌≡◌, ◌∙◌, ℕ, ◌+◌, List, ◌++◌, Option, Some, None, sym, ap, subst, take, drop, append_assoc, take-append-drop}
use Rattle.std.proofs.Math.Seq.{take-add}
use Rattle.cy_outside.specs.Outside.{Adds}
use Rattle.cy_outside.specs.Written.{behind, Begins}

-- a write of the next n bytes
pub adds_more : (before now after : Option (List ℕ)) (bytes : List ℕ) (done n : ℕ) → now ≡ behind before (take done bytes)
    → Adds now after (drop done bytes) n → after ≡ behind before (take (done + n) bytes)
adds_more None now after bytes done n h a = subst (λ (o : Option (List ℕ)). Adds o after (drop done bytes) n) h a
adds_more (Some w) now after bytes done n h a =
    let b : Adds (Some (w ++ take done bytes)) after (drop done bytes) n = subst (λ (o : Option (List ℕ)). Adds o after (drop done bytes) n) h a in
    b ∙ ap Some (append_assoc w (take done bytes) (take n (drop done bytes)) ∙ ap (λ t. w ++ t) (sym (take-add done n bytes)))

-- the first n bytes are a front
pub begins_take : (n : ℕ) (bytes : List ℕ) (before after : Option (List ℕ)) → after ≡ behind before (take n bytes) → Begins bytes before after
begins_take n bytes before after e = record { front = take n bytes; rest = drop n bytes; whole = sym (take-append-drop n bytes); written = e }
