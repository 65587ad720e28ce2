-- What is said of the first pairs of a list, and of one more.
use Rattle.std.proofs.Common.{◌≡◌, ◌↔◌, ◌∙◌, ℕ, suc, ◌+◌, ◌<◌, List, [], ◌∷◌, ◌++◌, length, get_or, take, map, All, refl, sym, ap, arith}
use Rattle.std.specs.List.{flat_map}
use Rattle.std.proofs.lemmas.List.{take_more, map-append, flat_map_more}
use Rattle.std.proofs.lemmas.List.Elements.{All-cons}
use Rattle.dsdl_types.specs.declared.definition.Definition.{Definition}
use Rattle.compat_check.specs.Services.{both}
use Rattle.compat_check.specs.declared.verdict.Verdict.{Verdict}
use Rattle.compat_check.specs.declared.verdict.Verdict.TheVariants.{Yes, No}
use Rattle.compat_check.proofs.NewerParts.{yes_is_newer, of_first, of_second, of_both}
use Rattle.type_versions.specs.Lines.{pair_line, pair_verdict, first_refusal, IsNewerPair}
use Rattle.type_versions.specs.Pairs.{pair_of}
use Rattle.type_versions.specs.declared.pairs.VersionPair.{VersionPair}

more : {X Y : Type 0} (f : X → Y) (xs : List X) (i : ℕ) (x : X) → i < length xs → x ≡ get_or xs i x → map f (take (i + 1) xs) ≡ map f (take i xs) ++ f x ∷ []
more f xs i x h e = ap (map f) (take_more xs i x h) ∙ map-append f (take i xs) (get_or xs i x ∷ []) ∙ ap (λ y. map f (take i xs) ++ f y ∷ []) (sym e)

refusal_more : (vs : List Verdict) (v : Verdict) → first_refusal (vs ++ v ∷ []) ≡ both (first_refusal vs) v
refusal_more [] Yes = refl
refusal_more [] (No path why) = refl
refusal_more (Yes ∷ vs) v = refusal_more vs v
refusal_more (No path why ∷ vs) v = refl

-- the lines of the first pairs
pub lines_more : (ps : List VersionPair) (i : ℕ) (p : VersionPair) (old new : List ℕ) → i < length ps → p ≡ get_or ps i p
    → old ≡ flat_map pair_line (map pair_of (take i ps)) → new ≡ old ++ pair_line (pair_of p) → new ≡ flat_map pair_line (map pair_of (take (i + 1) ps))
lines_more ps i p old new h is e f =
    f ∙ ap (λ l. l ++ pair_line (pair_of p)) e ∙ flat_map_more pair_line [] (map pair_of (take i ps)) (pair_of p) ∙ ap (flat_map pair_line) (sym (more pair_of ps i p h is))

-- and the first verdict on them that isn't yes
pub first_more : (ps : List VersionPair) (i : ℕ) (p : VersionPair) (old new : Verdict) → i < length ps → p ≡ get_or ps i p
    → old ≡ first_refusal (map pair_verdict (map pair_of (take i ps))) → new ≡ both old (pair_verdict (pair_of p)) → new ≡ first_refusal (map pair_verdict (map pair_of (take (i + 1) ps)))
first_more ps i p old new h is e f =
    let pairs = map pair_of (take i ps) in
    f ∙ ap (λ v. both v (pair_verdict (pair_of p))) e ∙ sym (refusal_more (map pair_verdict pairs) (pair_verdict (pair_of p)))
    ∙ ap first_refusal (sym (map-append pair_verdict pairs (pair_of p ∷ []))) ∙ ap (λ l. first_refusal (map pair_verdict l)) (sym (more pair_of ps i p h is))

-- each is newer exactly where the first verdict that isn't yes is none
pub all_newer : (ps : List (Definition × Definition)) → (first_refusal (map pair_verdict ps) ≡ Yes) ↔ All IsNewerPair ps
all_newer [] = (λ e k d short. absurd (omega arith), λ h. refl)
all_newer (p ∷ ps) =
    let law = yes_is_newer p.0.parts p.1.parts in
    let rest = all_newer ps in (
      λ e. All-cons IsNewerPair p ps (law.0 (of_first (pair_verdict p) (first_refusal (map pair_verdict ps)) e)) (rest.0 (of_second (pair_verdict p) (first_refusal (map pair_verdict ps)) e)),
      λ h. of_both (pair_verdict p) (first_refusal (map pair_verdict ps)) (law.1 (h 0 p (omega arith))) (rest.1 (λ k d short. h (suc k) d (omega arith))),
    )
