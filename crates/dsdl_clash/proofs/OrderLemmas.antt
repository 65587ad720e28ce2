-- Numbers of full names that ascend
use Rattle.std.proofs.Common.{◌≡◌, ℕ, zero, suc, ◌<◌, ◌≤◌, ◌+◌, Bool, true, false, List, [], ◌∷◌, ◌++◌, length, get_or, take, Some, cond, refl, sym, ap, ◌∙◌, subst, arith, ◌||◌, map}
use Rattle.std.specs.Prelude.{unwrap_or}
use Rattle.std.specs.List.{HoldsAt, list_any, position_from}
use Rattle.std.specs.Ordering.{is_eq, nat_cmp}
use Rattle.std.specs.declared.cmp.Ordering.TheVariants.{Less, Equal, Greater}
use Rattle.std.specs.Cmp.Lexicographic.{slice_cmp}
use Rattle.std.specs.Str.{bytes_eq}
use Rattle.std.proofs.lemmas.Bool.{false≢true}
use Rattle.std.proofs.lemmas.Cmp.{nat_list_cmp_total}
use Rattle.std.proofs.lemmas.Map.Text.{is_eq-slice_cmp}
use Rattle.std.proofs.lemmas.List.{get_or_default, map-append, take_more}
use Rattle.std.proofs.lemmas.List.Folds.{list_any-append}
use Rattle.dsdl_types.specs.declared.definition.Definition.{Definition}
use Rattle.dsdl_clash.specs.Names.{IsReached, has_name, first_of_name, name_numbers}
use Rattle.dsdl_clash.proofs.ClashLemmas.{at_place}
use Rattle.dsdl_clash.proofs.NameLemmas.{equal_names, names_equal}

-- the first of some definitions that a test passes
found_at : (test : Definition → Bool) (k i : ℕ) (ds : List Definition) (d : Definition) → i < length ds → d ≡ get_or ds i d → list_any test (take i ds) ≡ false → test d ≡ true → position_from test k ds ≡ Some (k + i)
found_at test k i [] d lt is none has = absurd (omega (arith, lt))
found_at test k zero (x ∷ ds) d lt is none has =
    ap (λ b. cond b (Some k) (position_from test (k + 1) ds)) (ap test (sym is) ∙ has) ∙ ap Some (let e : k ≡ k + 0 = omega arith in e)
found_at test k (suc i) (x ∷ ds) d lt is none has = at (test x) refl (λ rest. found_at test (k + 1) i ds d (omega (arith, lt)) is rest has)
  where
    at : (b : Bool) → test x ≡ b → (list_any test (take i ds) ≡ false → position_from test (k + 1) ds ≡ Some (k + 1 + i)) → position_from test k (x ∷ ds) ≡ Some (k + suc i)
    at true e rest = absurd (false≢true (sym none ∙ ap (λ b. b || list_any test (take i ds)) e))
    at false e rest =
        ap (λ b. cond b (Some k) (position_from test (k + 1) ds)) e ∙ rest (ap (λ b. b || list_any test (take i ds)) (sym e) ∙ none)
        ∙ ap Some (let n : k + 1 + i ≡ k + suc i = omega arith in n)

-- before the first definition
pub reached_none : (ds : List Definition) → IsReached ds 0 0
reached_none [] = record { first = λ lt. absurd (omega (arith, lt)); greatest = λ lt. absurd (omega (arith, lt)) }
reached_none (d ∷ ds) = record {
  first = λ lt e. ap (λ b. cond b (Some 0) (position_from (has_name d.id.name) 1 ds)) (names_equal d.id.name d.id.name refl);
  greatest = λ lt name e less. refl;
}

module _ (ds : List Definition) (number i : ℕ) (a b : Definition) (lt : i < length ds) (le : number ≤ i) (is : a ≡ get_or ds number a) (at : b ≡ get_or ds i b) (reached : IsReached ds number i) where
  below : number < length ds
  below = omega (arith, lt, le)

  first : first_of_name ds a.id.name ≡ Some number
  first = subst (λ (d : Definition). first_of_name ds d.id.name ≡ Some number) (sym is) (reached.first below a)

  none : (name : List ℕ) → slice_cmp nat_cmp a.id.name name ≡ Less → list_any (has_name name) (take i ds) ≡ false
  none name = subst (λ (d : Definition). slice_cmp nat_cmp d.id.name name ≡ Less → list_any (has_name name) (take i ds) ≡ false) (sym is) (reached.greatest below name a)

  here : (e : Definition) → get_or ds i e ≡ b
  here e = get_or_default ds i e b lt ∙ sym at

  there : (e : Definition) → get_or ds number e ≡ a
  there e = get_or_default ds number e a below ∙ sym is

  -- one definition more, whose full name isn't this one
  more : (name : List ℕ) → list_any (has_name name) (take i ds) ≡ false → slice_cmp nat_cmp b.id.name name ≡ Less → list_any (has_name name) (take (i + 1) ds) ≡ false
  more name none less =
      ap (list_any (has_name name)) (take_more ds i b lt ∙ ap (λ x. take i ds ++ x ∷ []) (sym at))
      ∙ list_any-append (has_name name) (take i ds) (b ∷ [])
      ∙ ap (λ c. c || list_any (has_name name) (b ∷ [])) none
      ∙ ap (λ c. c || false) (sym (is_eq-slice_cmp b.id.name name) ∙ ap is_eq less)

  compared : slice_cmp nat_cmp a.id.name b.id.name ≡ slice_cmp nat_cmp (get_or ds number a).id.name (get_or ds i b).id.name
  compared = ap (λ (d : Definition). slice_cmp nat_cmp d.id.name b.id.name) is ∙ ap (λ (d : Definition). slice_cmp nat_cmp (get_or ds number a).id.name d.id.name) at

  pub greater : slice_cmp nat_cmp (get_or ds number a).id.name (get_or ds i b).id.name ≡ Less → IsReached ds i (i + 1) × HoldsAt (λ d. first_of_name ds d.id.name ≡ Some i) ds i
  greater behind =
      let less : slice_cmp nat_cmp a.id.name b.id.name ≡ Less = compared ∙ behind in
      let found : first_of_name ds b.id.name ≡ Some i = found_at (has_name b.id.name) 0 i ds b lt at (none b.id.name less) (names_equal b.id.name b.id.name refl) ∙ ap Some (let e : 0 + i ≡ i = omega arith in e) in
      let holds : HoldsAt (λ d. first_of_name ds d.id.name ≡ Some i) ds i = λ e. subst (λ (d : Definition). first_of_name ds d.id.name ≡ Some i) (sym (here e)) found in (
        record {
          first = λ _. holds;
          greatest = λ _ name e. subst (λ (d : Definition). slice_cmp nat_cmp d.id.name name ≡ Less → list_any (has_name name) (take (i + 1) ds) ≡ false) (sym (here e))
              (λ next. more name (none name (nat_list_cmp_total.trans a.id.name b.id.name name less next)) next);
        },
        holds,
      )

  pub equal : slice_cmp nat_cmp (get_or ds number a).id.name (get_or ds i b).id.name ≡ Equal → IsReached ds number (i + 1) × HoldsAt (λ d. first_of_name ds d.id.name ≡ Some number) ds i
  equal tie =
      let same : a.id.name ≡ b.id.name = equal_names a.id.name b.id.name (sym (is_eq-slice_cmp a.id.name b.id.name) ∙ ap is_eq (compared ∙ tie)) in
      let found : first_of_name ds b.id.name ≡ Some number = subst (λ n. first_of_name ds n ≡ Some number) same first in (
        record {
          first = λ _ e. subst (λ (d : Definition). first_of_name ds d.id.name ≡ Some number) (sym (there e)) first;
          greatest = λ _ name e. subst (λ (d : Definition). slice_cmp nat_cmp d.id.name name ≡ Less → list_any (has_name name) (take (i + 1) ds) ≡ false) (sym (there e))
              (λ behind. more name (none name behind) (subst (λ n. slice_cmp nat_cmp n name ≡ Less) same behind));
        },
        λ e. subst (λ (d : Definition). first_of_name ds d.id.name ≡ Some number) (sym (here e)) found,
      )

-- the number of a definition's full name
abbrev pub number_of : List Definition → Definition → ℕ
number_of ds d = unwrap_or (first_of_name ds d.id.name) 0

-- the numbers of one definition more
pub number_more : (ds : List Definition) (i number : ℕ) (numbers : List ℕ) → i < length ds → numbers ≡ map (number_of ds) (take i ds) → HoldsAt (λ d. first_of_name ds d.id.name ≡ Some number) ds i →
    numbers ++ number ∷ [] ≡ map (number_of ds) (take (i + 1) ds)
number_more ds i number numbers lt are found =
    let p = at_place ds i lt in
    let here : first_of_name ds p.0.id.name ≡ Some number = subst (λ (d : Definition). first_of_name ds d.id.name ≡ Some number) (sym p.1) (found p.0) in
    ap (λ ns. ns ++ number ∷ []) are
    ∙ ap (λ n. map (number_of ds) (take i ds) ++ n ∷ []) (sym (ap (λ o. unwrap_or o 0) here))
    ∙ sym (map-append (number_of ds) (take i ds) (p.0 ∷ []))
    ∙ ap (map (number_of ds)) (sym (take_more ds i p.0 lt ∙ ap (λ x. take i ds ++ x ∷ []) (sym p.1)))
