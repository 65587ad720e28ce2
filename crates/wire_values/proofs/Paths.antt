-- Steps of the search for a misfit
use Rattle.std.proofs.Common.{◌≡◌, ◌∙◌, ℕ, suc, ◌<◌, ◌≤◌, ◌==◌, ◌&&◌, Bool, true, false, List, [], ◌∷◌, ◌++◌, length, drop, map, reverse, refl, sym, ap, arith}
use Rattle.std.proofs.lemmas.Bool.{false≢true}
use Rattle.std.proofs.lemmas.Bool.Decides.{nat_tests}
use Rattle.std.proofs.lemmas.List.{length-drop, map-append, reverse-append}
use Rattle.std.specs.Prelude.{Option, Some, None, is_some, nat_le}
use Rattle.dsdl_types.specs.Paths.{step_of}
use Rattle.dsdl_types.specs.Reading.{Step, Name}
use Rattle.dsdl_types.specs.Schemas.{Flds, variants}
use Rattle.dsdl_types.specs.Values.{Val, Vals, Items, More, count}
use Rattle.dsdl_types.specs.Views.{Kind, Typed, Padding, is_padding, type_of, with_field, vals}
use Rattle.dsdl_types.specs.declared.path.Step.{Step as PathStep}
use Rattle.dsdl_types.specs.declared.value.Value.{Value}
use Rattle.wire_values.specs.Found.{found}
use Rattle.wire_values.specs.Misfits.{below, either, first_misfit, in_items, misfit, misfit_fields, unless}
use Rattle.wire_values.proofs.Writings.{count_vals}

test_low : (least most n : ℕ) → n < least → nat_le least n && nat_le n most ≡ false
test_low least most n h = grind (arith, nat_tests)

test_high : (least most n : ℕ) → most < n → nat_le least n && nat_le n most ≡ false
test_high least most n h = grind (arith, nat_tests)

test_within : (least most n : ℕ) → least ≤ n → n ≤ most → nat_le least n && nat_le n most ≡ true
test_within least most n h k = grind (arith, nat_tests)

at_test : (least most : ℕ) (f : Val → Option (List Step)) (items : List Value) (b : Bool) → nat_le least (length items) && nat_le (length items) most ≡ b → in_items least most f (Items (vals items)) ≡ unless b (first_misfit f 0 (vals items))
at_test least most f items b e = ap (λ n. unless (nat_le least n && nat_le n most) (first_misfit f 0 (vals items))) (sym (count_vals items)) ∙ ap (λ t. unless t (first_misfit f 0 (vals items))) e

pub too_few : (least most : ℕ) (f : Val → Option (List Step)) (items : List Value) → length items < least → in_items least most f (Items (vals items)) ≡ Some []
too_few least most f items h = at_test least most f items false (test_low least most (length items) h)

pub too_many : (least most : ℕ) (f : Val → Option (List Step)) (items : List Value) → most < length items → in_items least most f (Items (vals items)) ≡ Some []
too_many least most f items h = at_test least most f items false (test_high least most (length items) h)

pub right_many : (least most : ℕ) (f : Val → Option (List Step)) (items : List Value) → least ≤ length items → length items ≤ most → in_items least most f (Items (vals items)) ≡ first_misfit f 0 (vals items)
right_many least most f items h k = at_test least most f items true (test_within least most (length items) h k)

pub field_misfit : (name : List ℕ) (k : Kind) (fs : Flds) (v : Val) (vs : Vals) → is_padding k ≡ false → misfit_fields (with_field name k fs) (More v vs) ≡ either (below (Name name) (misfit (type_of k) v)) (misfit_fields fs vs)
field_misfit name (Typed s) fs v vs h = refl
field_misfit name (Padding n) fs v vs h = absurd (false≢true (sym h))

pub either_some : (m : Option (List PathStep)) (r : Option (List Step)) → is_some m ≡ true → either (found m) r ≡ found m
either_some (Some steps) r h = refl
either_some None r h = absurd (false≢true h)

variants_named : (name : List ℕ) (k : Kind) (fs : Flds) → is_padding k ≡ false → variants (with_field name k fs) ≡ suc (variants fs)
variants_named name (Typed s) fs h = refl
variants_named name (Padding n) fs h = absurd (false≢true (sym h))

pub value_there : (name : List ℕ) (k : Kind) (fs : Flds) (values : List Value) (next : ℕ) → is_padding k ≡ false → count (vals (drop next values)) ≡ variants (with_field name k fs) → next < length values
value_there name k fs values next h e = omega (arith, e, variants_named name k fs h, count_vals (drop next values), length-drop next values)

pub count_is : (values : List Value) (n m : ℕ) (b : Bool) → m ≡ n → (length values == m) ≡ b → (count (vals values) == n) ≡ b
count_is values n m b e h = (λ i. sym (count_vals values) i == sym e i) ∙ h

pub map_reversed : (steps : List PathStep) → map step_of (reverse steps) ≡ reverse (map step_of steps)
map_reversed [] = refl
map_reversed (s ∷ steps) =
    ap (map step_of) (reverse-append (s ∷ []) steps)
    ∙ map-append step_of (reverse steps) (s ∷ [])
    ∙ ap (λ l. l ++ step_of s ∷ []) (map_reversed steps)
    ∙ sym (reverse-append (step_of s ∷ []) (map step_of steps))
