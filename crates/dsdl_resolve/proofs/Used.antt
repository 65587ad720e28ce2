-- The names of a set of texts.
use Rattle.std.proofs.Common.{◌≡◌, ℕ, Bool, true, false, cond, ◌||◌, List, [], ◌∷◌, refl, sym, ap, ◌∙◌, map}
use Rattle.std.proofs.Math.Bool.{or_comm}
use Rattle.std.proofs.lemmas.Bool.Decides.{same_from_decides}
use Rattle.std.proofs.lemmas.Map.Text.{is_eq-slice_cmp}
use Rattle.std.proofs.lemmas.Slice.Eq.{bytes_eq-Decides}
use Rattle.std.specs.Prelude.{String}
use Rattle.std.specs.String.{string_bytes}
use Rattle.std.specs.Ordering.{is_eq, nat_cmp}
use Rattle.std.specs.Cmp.Lexicographic.{slice_cmp}
use Rattle.std.specs.List.{list_any}
use Rattle.std.specs.Str.{bytes_eq}
use Rattle.dsdl_resolve.specs.Rules.{is_used}

swapped : (a b : List ℕ) → bytes_eq a b ≡ bytes_eq b a
swapped a b = same_from_decides {P = a ≡ b} (bytes_eq a b) (bytes_eq b a) (bytes_eq-Decides a b) ((λ h. sym ((bytes_eq-Decides b a).0 h)), (λ e. (bytes_eq-Decides b a).1 (sym e)))

-- a name is the text of one of these
pub used_text : {Z : Type 0} (name : List ℕ) (texts : List (String Z)) →
    is_used (map (λ t. string_bytes t) texts) name ≡ list_any (λ t. is_eq (slice_cmp nat_cmp name (string_bytes t))) texts
used_text name [] = refl
used_text name (t ∷ texts) =
    ap (λ b. b || is_used (map (λ t. string_bytes t) texts) name) (swapped (string_bytes t) name ∙ sym (is_eq-slice_cmp name (string_bytes t)))
    ∙ ap (λ b. is_eq (slice_cmp nat_cmp name (string_bytes t)) || b) (used_text name texts)

pub cond_or : (b c : Bool) → cond b true c ≡ (c || b)
cond_or true c = or_comm true c
cond_or false c = or_comm false c
