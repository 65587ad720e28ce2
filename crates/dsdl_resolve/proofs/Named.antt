-- The names of fields with one more at the end.
use Rattle.std.proofs.Common.{◌≡◌, ◌≢◌, true, ℕ, List, sym}
use Rattle.dsdl_names.specs.Words.{is_name}
use Rattle.dsdl_types.specs.Names.{IsNew, AreNamed, HasNames, HaveNames}
use Rattle.dsdl_types.specs.Schemas.{Sch, Flds, End, Pad, Field}
use Rattle.dsdl_types.specs.Views.{Typed, Padding}
use Rattle.dsdl_resolve.proofs.Onto.{onto}

module _ (name : List ℕ) (s : Sch) where
  pub new_typed : (fs : Flds) (other : List ℕ) → IsNew other fs → other ≢ name → IsNew other (onto fs name (Typed s))
  new_typed End other h ne = (ne, tt)
  new_typed (Pad n fs) other h ne = new_typed fs other h ne
  new_typed (Field first t fs) other h ne = (h.0, new_typed fs other h.1 ne)

  pub named_typed : (fs : Flds) → AreNamed fs → is_name name ≡ true → IsNew name fs → AreNamed (onto fs name (Typed s))
  named_typed End h is new = (is, tt, tt)
  named_typed (Pad n fs) h is new = named_typed fs h is new
  named_typed (Field first t fs) h is new = (h.0, new_typed fs first h.1 (λ e. new.0 (sym e)), named_typed fs h.2 is new.1)

  pub have_typed : (fs : Flds) → HaveNames fs → HasNames s → HaveNames (onto fs name (Typed s))
  have_typed End h k = (k, tt)
  have_typed (Pad n fs) h k = have_typed fs h k
  have_typed (Field first t fs) h k = (h.0, have_typed fs h.1 k)

module _ (name : List ℕ) (n : ℕ) where
  pub new_padding : (fs : Flds) (other : List ℕ) → IsNew other fs → IsNew other (onto fs name (Padding n))
  new_padding End other h = tt
  new_padding (Pad m fs) other h = new_padding fs other h
  new_padding (Field first t fs) other h = (h.0, new_padding fs other h.1)

  pub named_padding : (fs : Flds) → AreNamed fs → AreNamed (onto fs name (Padding n))
  named_padding End h = tt
  named_padding (Pad m fs) h = named_padding fs h
  named_padding (Field first t fs) h = (h.0, new_padding fs first h.1, named_padding fs h.2)

  pub have_padding : (fs : Flds) → HaveNames fs → HaveNames (onto fs name (Padding n))
  have_padding End h = tt
  have_padding (Pad m fs) h = have_padding fs h
  have_padding (Field first t fs) h = (h.0, have_padding fs h.1)
