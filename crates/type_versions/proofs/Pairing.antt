-- The pairs among the first neighbours of a list, and among one more.
use Rattle.std.proofs.Common.{◌≡◌, ◌∙◌, ℕ, ◌+◌, ◌<◌, ◌≤◌, cond, List, [], ◌∷◌, ◌++◌, length, get_or, take, drop, map, sym, ap, arith, Bor}
use Rattle.std.specs.List.{filter, zip}
use Rattle.std.proofs.lemmas.List.{get_or-map, length-map, length-drop, take_all}
use Rattle.std.proofs.lemmas.List.Elements.{filter_more}
use Rattle.std.proofs.lemmas.Slice.Zip.{length-zip}
use Rattle.dsdl_types.specs.declared.definition.Definition.{Definition}
use Rattle.type_versions.specs.Pairs.{has_versions, pair_among, version_pairs, pair_of}
use Rattle.type_versions.specs.declared.pairs.VersionPair.{VersionPair}
use Rattle.type_versions.proofs.Neighbours.{neighbour}

abbrev behind : Bor Definition → Definition
behind r = r.now

-- each definition with the one in front of it
abbrev pub side_by_side : List (Bor Definition) → List (Definition × Definition)
side_by_side rs = zip (drop 1 (map (λ r. r.now) rs)) (map (λ r. r.now) rs)

module _ (rs : List (Bor Definition)) (at : ℕ) (new old : Bor Definition) (h : at + 1 < length rs) (is_new : new ≡ get_or rs (at + 1) new) (is_old : old ≡ get_or rs at old) where
  long : length (map (λ (r : Bor Definition). r.now) rs) ≡ length rs
  long = length-map rs (λ r. r.now)

  there : get_or (side_by_side rs) at (new.now, old.now) ≡ (new.now, old.now)
  there =
      let e = get_or-map behind rs (at + 1) new new.now h in
      let f = get_or-map behind rs at old old.now (omega arith) in
      neighbour (map (λ r. r.now) rs) at (new.now, old.now) (omega (arith, long))
      ∙ (λ i. ((e ∙ ap behind (sym is_new)) i, (f ∙ ap behind (sym is_old)) i))

  one_more : filter has_versions (take (at + 1) (side_by_side rs)) ≡ filter has_versions (take at (side_by_side rs)) ++ pair_among (new.now, old.now)
  one_more =
      let low : at < length (side_by_side rs) = omega (arith, long, length-drop 1 (map (λ (r : Bor Definition). r.now) rs), length-zip (drop 1 (map (λ (r : Bor Definition). r.now) rs)) (map (λ r. r.now) rs)) in
      filter_more has_versions (side_by_side rs) at (new.now, old.now) low
      ∙ ap (λ p. filter has_versions (take at (side_by_side rs)) ++ cond (has_versions p) (p ∷ []) []) there

  -- one more
  pub pair_more : (items more : List VersionPair) → map pair_of items ≡ filter has_versions (take at (side_by_side rs)) → map pair_of more ≡ map pair_of items ++ pair_among (new.now, old.now)
      → map pair_of more ≡ filter has_versions (take (at + 1) (side_by_side rs))
  pair_more items more e f = f ∙ ap (λ l. l ++ pair_among (new.now, old.now)) e ∙ sym one_more

-- all of them
pub pairs_all : (rs : List (Bor Definition)) (at : ℕ) (items : List VersionPair) → length rs ≤ at + 1 → map pair_of items ≡ filter has_versions (take at (side_by_side rs))
    → map pair_of items ≡ version_pairs (map (λ r. r.now) rs)
pairs_all rs at items h e =
    let long : length (map (λ (r : Bor Definition). r.now) rs) ≡ length rs = length-map rs (λ r. r.now) in
    let short : length (side_by_side rs) ≤ at = omega (arith, long, length-drop 1 (map (λ (r : Bor Definition). r.now) rs), length-zip (drop 1 (map (λ (r : Bor Definition). r.now) rs)) (map (λ r. r.now) rs)) in
    e ∙ ap (filter has_versions) (take_all at (side_by_side rs) short)
