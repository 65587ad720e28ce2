-- Verdicts
use Rattle.std.proofs.Common.{◌≡◌, ◌≢◌, ℕ, List, [], ◌∷◌, ◌++◌, map, reverse, Option, None, Some, Result, Ok, Err, OnErr, refl, sym, ap, ◌∙◌}
use Rattle.std.specs.Prelude.{◌↔◌}
use Rattle.std.proofs.lemmas.List.{map-append, reverse-append}
use Rattle.dsdl_types.specs.Schemas.{Sch}
use Rattle.dsdl_types.specs.Difference.{Difference, difference}
use Rattle.dsdl_types.specs.Newer.{Newer}
use Rattle.dsdl_types.proofs.Comparing.{compares}
use Rattle.compat_check.specs.declared.difference.Difference as C
use Rattle.compat_check.specs.declared.path.Turn.{Turn}
use Rattle.compat_check.specs.declared.verdict.CompatWhy.{CompatWhy}
use Rattle.compat_check.specs.declared.verdict.Verdict.TheVariants.{Yes, No}
use Rattle.compat_check.specs.Paths.{path_text}
use Rattle.compat_check.specs.Verdicts.{cause_of, why_of, turn_of, found_of, verdict_of}

pub yes_where_newer : (a b : Sch) → None ≡ difference a b → (Yes ≡ Yes) ↔ Newer a b
yes_where_newer a b e = (λ _. (compares a b).0 (sym e), λ _. refl)

pub no_where_older : (a b : Sch) (d : C.Difference) (path : List ℕ) (why : CompatWhy) → found_of (Some d) ≡ difference a b → (No path why ≡ Yes) ↔ Newer a b
no_where_older a b d path why e = (λ h. cc, λ n. let h : difference a b ≡ None = (compares a b).1 n in cc)

-- what holds at all holds at an error
pub at_error : {T E P : Type 0} (r : Result T E) → P → OnErr r P
at_error (Ok x) p = tt
at_error (Err e) p = p

-- a type from which another differs isn't newer
pub not_newer : (a b : Sch) → difference a b ≢ None → Newer a b → ⊥
not_newer a b ne n = ne ((compares a b).1 n)

pub found_not_newer : (a b : Sch) (d : C.Difference) → found_of (Some d) ≡ difference a b → Newer a b → ⊥
found_not_newer a b d e n = let h : difference a b ≡ None = (compares a b).1 n in absurd cc

map_reversed : (turns : List Turn) → map turn_of (reverse turns) ≡ reverse (map turn_of turns)
map_reversed [] = refl
map_reversed (t ∷ turns) =
    ap (map turn_of) (reverse-append (t ∷ []) turns)
    ∙ map-append turn_of (reverse turns) (t ∷ [])
    ∙ ap (λ ts. ts ++ turn_of t ∷ []) (map_reversed turns)
    ∙ sym (reverse-append (turn_of t ∷ []) (map turn_of turns))

pub no_with_path : (d : C.Difference) (turns : List Turn) (path : List ℕ) (why : CompatWhy) (first : Option Difference) → turns ≡ reverse d.turns → path ≡ path_text (map turn_of turns) →
    why ≡ why_of (cause_of d.cause) → found_of (Some d) ≡ first → No path why ≡ verdict_of first
no_with_path d turns path why first t p w e =
    let whole : map turn_of turns ≡ reverse (map turn_of d.turns) = ap (map turn_of) t ∙ map_reversed d.turns in
    (λ i. No ((p ∙ ap path_text whole) i) (w i)) ∙ ap verdict_of e
