-- What is known of the types of a scope with one type more, and of one that differs in its own names
use Rattle.std.proofs.Common.{◌≡◌, ℕ, List, [], ◌∷◌, ◌++◌, length, map, Some, sym, ap, ◌∙◌, subst}
use Rattle.std.specs.Prelude.{slice_get, MatchOption, IsSomeAnd}
use Rattle.std.specs.List.{AllZip}
use Rattle.std.proofs.lemmas.List.{length-map, map_push}
use Rattle.std.proofs.lemmas.Slice.Zip.{AllZip-left}
use Rattle.const_expr.specs.Places.{ArePlacesOf, defined, ids_of}
use Rattle.const_expr.specs.declared.scope.NamedConst.{NamedConst}
use Rattle.const_expr.specs.declared.scope.Scope.{Scope}
use Rattle.const_expr.specs.declared.scope.TypeConsts.{TypeConsts}
use Rattle.dsdl_names.specs.declared.TypeId.{TypeId}
use Rattle.dsdl_types.specs.declared.definition.Definition.{Definition}
use Rattle.dsdl_types.specs.declared.namespace.Namespace.{Namespace}
use Rattle.dsdl_resolve.specs.Places.{AreCountsIn, ArePlacesIn}
use Rattle.dsdl_resolve.specs.declared.counts.Counts.{Counts}
use Rattle.dsdl_resolve.specs.declared.finding.Places.{Places}
use Rattle.dsdl_resolve.proofs.Lists.{zip_long, zip_more}

abbrev id_of : Definition → TypeId
id_of d = d.id

-- a definition has these counts
abbrev Has : Definition → Counts → Type 0
Has d counts = AreCountsIn counts d.parts

-- the counts of a definition stand at its place
pub counts_at : (scope : Scope) (places : Places) (n : ℕ) (d : Definition) → ArePlacesIn scope places → slice_get scope.namespace.definitions n ≡ Some d → IsSomeAnd (slice_get places.counts n) (Has d)
counts_at scope places n d h there =
    subst (λ o. MatchOption o (Unit {0}) (λ x. IsSomeAnd (slice_get places.counts n) (Has x))) there (AllZip-left Has scope.namespace.definitions places.counts h.counts n)

-- of the own names of a scope nothing is asked
pub places_moved : (old new : Scope) (places : Places) → new.namespace ≡ old.namespace → new.members ≡ old.members → ArePlacesIn old places → ArePlacesIn new places
places_moved old new places names members h = record {
  types = record {
    types = subst (λ (n : Namespace). ArePlacesOf (map id_of n.definitions) places.types) (sym names) h.types.types;
    members = ap ids_of members ∙ h.types.members ∙ ap (λ (n : Namespace). map id_of n.definitions) (sym names);
  };
  counts = subst (λ (n : Namespace). AllZip Has n.definitions places.counts) (sym names) h.counts;
}

-- one type more
pub places_more : (old new : Scope) (before after : Places) (d : Definition) (constants : List NamedConst) (counts : Counts) (id : TypeId) → id ≡ d.id → new.namespace.definitions ≡ old.namespace.definitions ++ d ∷ [] →
    new.members ≡ old.members ++ record { id = d.id; constants = constants } ∷ [] → after.counts ≡ before.counts ++ counts ∷ [] →
    ((ids : List TypeId) → length before.counts ≡ length ids → ArePlacesOf ids before.types → ArePlacesOf (ids ++ id ∷ []) after.types) → AreCountsIn counts d.parts → ArePlacesIn old before → ArePlacesIn new after
places_more old new before after d constants counts id same definitions members counted placed large h =
    let entry : TypeConsts = record { id = d.id; constants = constants } in
    let ds = old.namespace.definitions in
    let defined_is : defined new ≡ defined old ++ d.id ∷ [] = ap (map id_of) definitions ∙ map_push id_of ds d in
    let long : length before.counts ≡ length (defined old) = sym (zip_long Has ds before.counts h.counts) ∙ sym (length-map ds id_of) in
    record {
      types = record {
        types = subst (λ ids. ArePlacesOf ids after.types) (ap (λ i. defined old ++ i ∷ []) same ∙ sym defined_is) (placed (defined old) long h.types.types);
        members = ap ids_of members ∙ map_push (λ (t : TypeConsts). t.id) old.members entry ∙ ap (λ ids. ids ++ d.id ∷ []) h.types.members ∙ sym defined_is;
      };
      counts = subst (λ l. AllZip Has l after.counts) (sym definitions) (subst (AllZip Has (ds ++ d ∷ [])) (sym counted) (zip_more Has ds before.counts d counts h.counts large));
    }
