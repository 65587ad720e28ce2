-- What a section says with a field more.
use Rattle.std.proofs.Common.{◌≡◌, ℕ, Bool, List, [], ◌∷◌, ◌++◌, Option, sym, ap, ◌∙◌, subst}
use Rattle.dsdl_types.specs.declared.schema.Field.{Field, roll-Field}
use Rattle.const_expr.specs.declared.scope.NamedConst.{NamedConst}
use Rattle.dsdl_resolve.specs.declared.addition.Addition.{Addition}
use Rattle.dsdl_resolve.specs.declared.addition.Addition.TheVariants as addition
use Rattle.dsdl_resolve.specs.declared.open_section.OpenSection.{OpenSection}
use Rattle.dsdl_resolve.specs.declared.typed.Typed.{Typed}
use Rattle.dsdl_resolve.specs.Additions.{with_addition}
use Rattle.dsdl_resolve.specs.Opens.{said_of}
use Rattle.dsdl_resolve.specs.Said.{Said}

module _ (old : OpenSection) (constants : List NamedConst) (name : List ℕ) (t : Typed) (u : Bool) where
  abbrev as_typed : Typed → List ℕ → List Field → List (List ℕ) → Option ℕ → Said
  as_typed k n fs ts e = record { union = u; fields = fs ++ roll-Field (record { name = n; schema = k.schema }) ∷ []; types = ts ++ k.text ∷ []; constants = constants; extent = e }

  abbrev grown : List ℕ → List Field → List (List ℕ) → Option ℕ → Said
  grown n fs ts e = record { union = u; fields = fs ++ roll-Field (record { name = n; schema = t.schema }) ∷ []; types = ts ++ t.text ∷ []; constants = constants; extent = e }

  abbrev with_union : Said → Said
  with_union s = record s { union = old.before.totals.union }

  pub field_says : (a : Addition) (said : Said) (k : Typed) (n : List ℕ) (fs : List Field) (ts : List (List ℕ)) (e : Option ℕ) → a ≡ addition.Field t →
      said ≡ record { union = u; fields = fs ++ roll-Field (record { name = n; schema = k.schema }) ∷ []; types = ts ++ k.text ∷ []; constants = constants; extent = e } →
      k ≡ t → n ≡ name → fs ≡ old.fields → ts ≡ old.types → e ≡ old.extent → with_addition (said_of old constants) name a ≡ record said { union = (with_addition (said_of old constants) name a).union }
  field_says a said k n fs ts e is says same named fields types extent =
      subst (λ b. with_addition (said_of old constants) name b ≡ record said { union = (with_addition (said_of old constants) name b).union }) (sym is)
      (sym (ap with_union says ∙ ap (λ j. with_union (as_typed j n fs ts e)) same ∙ ap (λ m. with_union (grown m fs ts e)) named ∙ ap (λ f. with_union (grown name f ts e)) fields
      ∙ ap (λ l. with_union (grown name old.fields l e)) types ∙ ap (λ x. with_union (grown name old.fields old.types x)) extent))
