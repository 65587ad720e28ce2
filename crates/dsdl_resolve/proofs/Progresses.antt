-- What stands with one file more
use Rattle.std.proofs.Common.{◌≡◌, ℕ, Bool, true, false, not, cond, List, [], ◌∷◌, ◌++◌, map, Result, Ok, Err, sym, ap, ◌∙◌, subst}
use Rattle.std.specs.List.{All}
use Rattle.std.specs.Prelude.{OnOk, filter}
use Rattle.std.proofs.lemmas.List.{flat_map_more, map_push}
use Rattle.const_expr.specs.Member.{AreConstants}
use Rattle.const_expr.specs.declared.scope.NamedConst.{NamedConst}
use Rattle.const_expr.specs.declared.scope.Scope.{Scope}
use Rattle.const_expr.specs.declared.scope.TypeConsts.{TypeConsts}
use Rattle.dsdl_types.specs.Definitions.{IsDefinition}
use Rattle.dsdl_types.specs.declared.definition.Definition.{Definition}
use Rattle.dsdl_types.specs.declared.namespace.Print.{Print}
use Rattle.dsdl_resolve.specs.Places.{AreCountsIn, ArePlacesIn}
use Rattle.dsdl_resolve.specs.declared.counts.Counts.{Counts}
use Rattle.dsdl_links.specs.declared.source.Source.{Source}
use Rattle.dsdl_resolve.specs.Progressing.{Holds, IsSound, WithDouble, WithType, doubled}
use Rattle.dsdl_resolve.specs.Valuing.{Done, definition_of, is_first, is_meant, meant, members_of, prints_of, with_done}
use Rattle.dsdl_resolve.specs.declared.outcome.Outcome.{Outcome}
use Rattle.dsdl_resolve.specs.declared.progress.Progress.{Progress}
use Rattle.dsdl_resolve.proofs.Lists.{all_more}

pub sound_type : (old new : Progress) (number : ℕ) (d : Definition) (constants : List NamedConst) (counts : Counts) → WithType old new number d constants counts → IsSound old → IsDefinition d → AreConstants constants →
    AreCountsIn counts d.parts → IsSound new
sound_type old new number d constants counts w s keeps ascend large = record {
  definitions = subst (All IsDefinition) (sym w.definitions) (all_more IsDefinition old.scope.namespace.definitions d s.definitions keeps);
  members = let entry : TypeConsts = record { id = d.id; constants = constants } in
      subst (All (λ (t : TypeConsts). AreConstants t.constants)) (sym w.members) (all_more (λ (t : TypeConsts). AreConstants t.constants) old.scope.members entry s.members ascend);
  doubles = subst (All IsDefinition) (sym w.doubles) s.doubles;
  places = w.places large s.places;
}

pub sound_double : (old new : Progress) (number : ℕ) (d : Definition) → WithDouble old new number d → IsSound old → IsDefinition d → IsSound new
sound_double old new number d w s keeps = record {
  definitions = subst (λ (sc : Scope). All IsDefinition sc.namespace.definitions) (sym w.scope) s.definitions;
  members = subst (λ (sc : Scope). All (λ (t : TypeConsts). AreConstants t.constants) sc.members) (sym w.scope) s.members;
  doubles = subst (All IsDefinition) (sym w.doubles) (all_more IsDefinition old.doubles.items d s.doubles keeps);
  places = subst (ArePlacesIn new.scope) (sym w.places) (subst (λ (sc : Scope). ArePlacesIn sc old.places) (sym w.scope) s.places);
}

-- of what is printed nothing is asked
pub sound_prints : (p : Progress) (prints : List Print) → IsSound p → IsSound (record p { prints = prints })
sound_prints p prints s = record { definitions = s.definitions; members = s.members; doubles = s.doubles; places = s.places }

-- ---- what is kept of the files
-- a list with one more that passes, or doesn't
passes : {X : Type 0} (p : X → Bool) (xs : List X) (x : X) → p x ≡ true → filter p (xs ++ x ∷ []) ≡ filter p xs ++ x ∷ []
passes p [] x h = ap (λ b. cond b (x ∷ []) []) h
passes p (y ∷ xs) x h = at (p y) (passes p xs x h)
  where
    at : (b : Bool) → filter p (xs ++ x ∷ []) ≡ filter p xs ++ x ∷ [] → cond b (y ∷ filter p (xs ++ x ∷ [])) (filter p (xs ++ x ∷ [])) ≡ cond b (y ∷ filter p xs) (filter p xs) ++ x ∷ []
    at true e = ap (λ l. y ∷ l) e
    at false e = e

fails : {X : Type 0} (p : X → Bool) (xs : List X) (x : X) → p x ≡ false → filter p (xs ++ x ∷ []) ≡ filter p xs
fails p [] x h = ap (λ b. cond b (x ∷ []) []) h
fails p (y ∷ xs) x h = ap (λ l. cond (p y) (y ∷ l) l) (fails p xs x h)

module _ (sources : List Source) (before : List Done) (old mid : Progress) (number : ℕ) (o : Outcome) (prints : List Print) (h : Holds sources before old) (more : prints ≡ mid.prints ++ o.prints) where
  abbrev done : Done
  done = record { number = number; outcome = o }

  printed : mid.prints ≡ old.prints → prints ≡ prints_of (before ++ done ∷ [])
  printed same = more ∙ ap (λ l. l ++ o.prints) (same ∙ h.prints) ∙ flat_map_more (λ (d : Done). d.outcome.prints) [] before done

  pub holds_type : (counts : Counts) → WithType old mid number o.definition o.constants counts → is_first sources number ≡ true → Holds sources (with_done before number o) (record mid { prints = prints })
  holds_type counts w first = record {
    types = record {
      definitions = w.definitions ∙ ap (λ l. l ++ o.definition ∷ []) h.types.definitions ∙ sym (map_push definition_of (meant sources before) done) ∙ ap (map definition_of) (sym same);
      members = w.members ∙ ap (λ l. l ++ members_of done ∷ []) h.types.members ∙ sym (map_push members_of (meant sources before) done) ∙ ap (map members_of) (sym same);
      no_prints = w.no_prints ∙ h.types.no_prints;
      numbers = w.numbers ∙ ap (λ l. l ++ number ∷ []) h.types.numbers ∙ sym (map_push number_of (meant sources before) done) ∙ ap (map number_of) (sym same);
      doubles = w.doubles ∙ h.types.doubles ∙ ap (map definition_of) (sym none);
      double_numbers = w.double_numbers ∙ h.types.double_numbers ∙ ap (map number_of) (sym none);
    };
    prints = printed w.prints;
  }
    where
      number_of : Done → ℕ
      number_of d = d.number

      same : meant sources (before ++ done ∷ []) ≡ meant sources before ++ done ∷ []
      same = passes (is_meant sources) before done first

      none : doubled sources (before ++ done ∷ []) ≡ doubled sources before
      none = fails (λ (d : Done). not (is_meant sources d)) before done (ap not first)

  pub holds_double : WithDouble old mid number o.definition → is_first sources number ≡ false → Holds sources (with_done before number o) (record mid { prints = prints })
  holds_double w later = record {
    types = record {
      definitions = ap (λ (sc : Scope). sc.namespace.definitions) w.scope ∙ h.types.definitions ∙ ap (map definition_of) (sym same);
      members = ap (λ (sc : Scope). sc.members) w.scope ∙ h.types.members ∙ ap (map members_of) (sym same);
      no_prints = ap (λ (sc : Scope). sc.namespace.prints) w.scope ∙ h.types.no_prints;
      numbers = w.numbers ∙ h.types.numbers ∙ ap (map number_of) (sym same);
      doubles = w.doubles ∙ ap (λ l. l ++ o.definition ∷ []) h.types.doubles ∙ sym (map_push definition_of (doubled sources before) done) ∙ ap (map definition_of) (sym one);
      double_numbers = w.double_numbers ∙ ap (λ l. l ++ number ∷ []) h.types.double_numbers ∙ sym (map_push number_of (doubled sources before) done) ∙ ap (map number_of) (sym one);
    };
    prints = printed w.prints;
  }
    where
      number_of : Done → ℕ
      number_of d = d.number

      same : meant sources (before ++ done ∷ []) ≡ meant sources before
      same = fails (is_meant sources) before done later

      one : doubled sources (before ++ done ∷ []) ≡ doubled sources before ++ done ∷ []
      one = passes (λ (d : Done). not (is_meant sources d)) before done (ap not later)

pub on_ok_from : {T E P Q : Type 0} → (r : Result T E) → OnOk r P → (P → Q) → OnOk r Q
on_ok_from (Ok x) p f = f p
on_ok_from (Err e) p f = tt

pub on_ok : {T E P : Type 0} → (r : Result T E) → P → OnOk r P
on_ok (Ok x) p = p
on_ok (Err e) p = tt
