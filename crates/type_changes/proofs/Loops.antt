-- What loops over lines and entries keep.
use Rattle.std.proofs.Common.{◌≡◌, ◌∙◌, ℕ, ◌+◌, ◌<◌, ◌≤◌, List, [], ◌∷◌, ◌++◌, length, get_or, take, drop, map, sym, ap}
use Rattle.std.specs.List.{flat_map}
use Rattle.std.proofs.lemmas.List.{drop_more, drop_all, take_more, map-append, flat_map_more}
use Rattle.compat_check.specs.Services.{both}
use Rattle.compat_check.specs.declared.verdict.CompatWhy.{CompatWhy}
use Rattle.compat_check.specs.declared.verdict.Verdict.{Verdict}
use Rattle.compat_check.specs.declared.verdict.Verdict.TheVariants.{Yes, No}
use Rattle.type_versions.specs.Lines.{first_refusal}
use Rattle.type_changes.specs.Entries.{entry_of}
use Rattle.type_changes.specs.Lines.{entry_lines, line_text, lines_of}
use Rattle.type_changes.specs.declared.entries.Entry.{Entry}
use Rattle.type_changes.specs.declared.line.Line.{Line}

taken : {X : Type 0} (xs : List X) (i : ℕ) (x : X) → i < length xs → x ≡ get_or xs i x → take (i + 1) xs ≡ take i xs ++ x ∷ []
taken xs i x h is = take_more xs i x h ∙ ap (λ y. take i xs ++ y ∷ []) (sym is)

-- one more line
pub text_more : (ls : List Line) (i : ℕ) (l : Line) (old new : List ℕ) → i < length ls → l ≡ get_or ls i l → old ≡ flat_map line_text (take i ls) → new ≡ old ++ line_text l
    → new ≡ flat_map line_text (take (i + 1) ls)
text_more ls i l old new h is e f =
    f ∙ ap (λ t. t ++ line_text l) e ∙ flat_map_more line_text [] (take i ls) l ∙ ap (flat_map line_text) (sym (taken ls i l h is))

-- one more entry
pub lines_more : (es : List Entry) (i : ℕ) (e : Entry) (old new : List Line) → i < length es → e ≡ get_or es i e → old ≡ lines_of (map entry_of (take i es)) → new ≡ old ++ entry_lines (entry_of e)
    → new ≡ lines_of (map entry_of (take (i + 1) es))
lines_more es i e old new h is f g =
    g ∙ ap (λ t. t ++ entry_lines (entry_of e)) f ∙ flat_map_more entry_lines [] (map entry_of (take i es)) (entry_of e)
    ∙ ap lines_of (sym (ap (map entry_of) (taken es i e h is) ∙ map-append entry_of (take i es) (e ∷ [])))

-- ---- the first verdict that isn't yes
module _ (f : Line → Verdict) (ls : List Line) (i : ℕ) (l : Line) (whole : Verdict) (h : i < length ls) (is : l ≡ get_or ls i l) (all : first_refusal (map f (drop i ls)) ≡ whole) where
  here : first_refusal (map f (drop i ls)) ≡ both (f l) (first_refusal (map f (drop (i + 1) ls)))
  here = ap (λ xs. first_refusal (map f xs)) (drop_more ls i l h ∙ ap (λ x. x ∷ drop (i + 1) ls) (sym is))

  pub passed : f l ≡ Yes → first_refusal (map f (drop (i + 1) ls)) ≡ whole
  passed e = sym (here ∙ ap (λ v. both v (first_refusal (map f (drop (i + 1) ls)))) e) ∙ all

  pub found : (path : List ℕ) (why : CompatWhy) → f l ≡ No path why → No path why ≡ whole
  found path why e = sym (here ∙ ap (λ v. both v (first_refusal (map f (drop (i + 1) ls)))) e) ∙ all

pub none_found : (f : Line → Verdict) (ls : List Line) (i : ℕ) (whole : Verdict) → length ls ≤ i → first_refusal (map f (drop i ls)) ≡ whole → Yes ≡ whole
none_found f ls i whole h all = ap (λ xs. first_refusal (map f xs)) (sym (drop_all i ls h)) ∙ all
