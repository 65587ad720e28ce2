-- Texts with and without an end.
use Rattle.std.proofs.Common.{◌≡◌, ◌∙◌, ℕ, ◌-◌, ◌==◌, List, length, take, Option, Some, None, option_map, Bor, true, false, refl, sym, ap}
use Rattle.std.specs.Prelude.{MatchOption, if◌then◌else◌}
use Rattle.std.specs.List.{ends_with}
use Rattle.std.specs.Str.Pattern.{FindsTextSuffix, StripsSuffix}
use Rattle.std.proofs.lemmas.Bool.Decides.{Decides-eqb}
use Rattle.std.proofs.lemmas.Slice.Eq.{ends_is}
use Rattle.std.proofs.lemmas.Str.Pattern.{ends_text}
use Rattle.node_run.specs.NamedTypes.{without_end}

-- what `strip_suffix` leaves of a text
pub stripped : (end text : List ℕ) (r : Option (Bor (List ℕ))) → MatchOption r (FindsTextSuffix end text None) (λ x. StripsSuffix (FindsTextSuffix end) text x.now) → option_map (λ (x : Bor (List ℕ)). x.now) r ≡ without_end end text
stripped end text None h = ap (λ b. if b then Some (take (length text - length end) text) else None) (ends_text false end text h)
stripped end text (Some x) h =
    let ends : ends_with ◌==◌ text end ≡ true = (ends_is Decides-eqb text end _ refl).1 _ h.1.1 in
    let left : x.now ≡ take (length text - length end) text = h.2 ∙ ap (λ n. take (length text - n) text) h.1.0 in
    ap Some left ∙ sym (ap (λ b. if b then Some (take (length text - length end) text) else None) ends)
