-- Constants by the places of their names
use Rattle.std.proofs.Common.{◌≡◌, ℕ, ◌+◌, ◌<◌, true, false, Bool, List, [], ◌∷◌, ◌++◌, length, Result, Ok, Err, Option, Some, None, Bor, cond, ◌⊎◌, inl, inr, refl, sym, ap, ◌∙◌, arith}
use Rattle.std.specs.Prelude.{MatchOption, OnOk}
use Rattle.std.specs.Result.{is_err}
use Rattle.std.specs.Slice.{IsItemAt}
use Rattle.std.specs.List.{position_from}
use Rattle.std.specs.Str.{bytes_eq}
use Rattle.std.proofs.lemmas.Bool.{cases_Bool}
use Rattle.std.proofs.lemmas.Slice.Eq.{bytes_eq-Decides}
use Rattle.const_expr.specs.declared.constant.Const.{Const}
use Rattle.const_expr.specs.declared.scope.NamedConst.{NamedConst}
use Rattle.const_expr.specs.declared.why.Why.{Why}
use Rattle.const_expr.specs.declared.why.Why.TheVariants as why
use Rattle.const_expr.specs.Member.{named_in}
use Rattle.const_expr.specs.Names.{AreNamePlaces}
use Rattle.const_expr.proofs.FirstItem.{first_in, first_at, first_missing, place_within, placed_still, placed_last, placed_apart}

abbrev has : List ℕ → NamedConst → Bool
has name k = bytes_eq k.name name

abbrev value : NamedConst → Result Const Why
value k = Ok k.value

named_is : (ks : List NamedConst) (name : List ℕ) → first_in (has name) value (Err (why.Unknown name)) ks ≡ named_in ks name
unfolding first_in
named_is [] name = refl
named_is (k ∷ ks) name = ap (cond (bytes_eq k.name name) (Ok k.value)) (named_is ks name)

-- a name without a place has no constant
pub named_missing : (ks : List NamedConst) (name : List ℕ) → position_from (has name) 0 ks ≡ None → named_in ks name ≡ Err (why.Unknown name)
named_missing ks name h = sym (named_is ks name) ∙ first_missing (has name) value (Err (why.Unknown name)) ks 0 h

-- what a look at the place of a name lends
pub named_lent : (ks : List NamedConst) (name : List ℕ) (n : ℕ) (r : Option (Bor NamedConst)) → position_from (has name) 0 ks ≡ Some n → IsItemAt ks n r →
    MatchOption r (named_in ks name ≡ Err (why.Unknown name)) (λ (k : Bor NamedConst). named_in ks name ≡ Ok k.now.value)
named_lent ks name n None h lent = let w : n < length ks = place_within (has name) ks n h in absurd (let past = lent.3 in omega (arith, w, past))
named_lent ks name n (Some k) h lent = sym (first_at (has name) value (Err (why.Unknown name)) ks n k.now h lent.1 ∙ named_is ks name)

-- what holds of an answer that is no refusal
pub on_no_err : {A E P : Type 0} → (r : Result A E) → OnOk r P → is_err r ≡ false → P
on_no_err (Ok x) p h = p
on_no_err (Err e) p h = absurd cc

-- ---- one constant more
module _ (ks : List NamedConst) (k : NamedConst) (old : List ℕ → Option ℕ) (are : AreNamePlaces ks old) where
  pub names_kept : (place : ℕ) → old k.name ≡ Some place → AreNamePlaces (ks ++ k ∷ []) old
  names_kept place there name = at (cases_Bool (bytes_eq k.name name))
    where
      at : (bytes_eq k.name name ≡ true) ⊎ (bytes_eq k.name name ≡ false) → old name ≡ position_from (has name) 0 (ks ++ k ∷ [])
      at (inl e) =
          let here : old name ≡ Some place = ap old (sym ((bytes_eq-Decides k.name name).0 e)) ∙ there in
          here ∙ sym (placed_still (has name) 0 place ks k (sym (are name) ∙ here))
      at (inr e) = are name ∙ sym (placed_apart (has name) 0 ks k e)

  pub names_more : (new : List ℕ → Option ℕ) (place : ℕ) → place ≡ length ks → old k.name ≡ None → ((name : List ℕ) → new name ≡ cond (bytes_eq k.name name) (Some place) (old name)) → AreNamePlaces (ks ++ k ∷ []) new
  names_more new place last none is name = is name ∙ at (cases_Bool (bytes_eq k.name name))
    where
      at : (bytes_eq k.name name ≡ true) ⊎ (bytes_eq k.name name ≡ false) → cond (bytes_eq k.name name) (Some place) (old name) ≡ position_from (has name) 0 (ks ++ k ∷ [])
      at (inl e) =
          let none_here : position_from (has name) 0 ks ≡ None = sym (are name) ∙ ap old (sym ((bytes_eq-Decides k.name name).0 e)) ∙ none in
          ap (λ b. cond b (Some place) (old name)) e
          ∙ ap Some (let n : place ≡ 0 + length ks = omega (arith, last) in n)
          ∙ sym (placed_last (has name) 0 ks k none_here e)
      at (inr e) = ap (λ b. cond b (Some place) (old name)) e ∙ are name ∙ sym (placed_apart (has name) 0 ks k e)
