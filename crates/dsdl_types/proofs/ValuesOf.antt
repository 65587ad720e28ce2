-- The values of the code and those of the definitions are the same
use Rattle.std.proofs.Common.{◌≡◌, List, [], ◌∷◌, map, ◌∙◌, refl, sym, ap, subst}
use Rattle.dsdl_types.specs.Values.{Val, Vals, Empty, More, Truth, Num, Raw, Items, Parts, Tagged}
use Rattle.dsdl_types.specs.Views.{val, vals}
use Rattle.dsdl_types.specs.ValueOf.{value_of, values_of}
use Rattle.dsdl_types.specs.declared.value.Value.{Value}
use Rattle.dsdl_types.specs.declared.value.Value.TheVariants as V
use Rattle.dsdl_types.specs.declared.value.Value.TheOpen as open_value
use Rattle.dsdl_types.specs.declared.value.Value.TheFolds.{ind-Value, map-Value}
use Rattle.dsdl_types.specs.declared.value.Value.TheViews.{roll-Value}
use Rattle.dsdl_types.proofs.Equations.{val_bool, val_num, val_bits, val_items, val_struct, val_union}

mutual
  pub val_value_of : (v : Val) → val (value_of v) ≡ v
  val_value_of (Truth truth) = val_bool truth
  val_value_of (Num number) = val_num number
  val_value_of (Raw bits) = val_bits bits
  val_value_of (Items items) = val_items (values_of items) ∙ ap Items (vals_values_of items)
  val_value_of (Parts fields) = val_struct (values_of fields) ∙ ap Parts (vals_values_of fields)
  val_value_of (Tagged tag value) = val_union tag (value_of value) ∙ ap (λ v. Tagged tag v) (val_value_of value)

  pub vals_values_of : (vs : Vals) → vals (values_of vs) ≡ vs
  vals_values_of Empty = refl
  vals_values_of (More v vs) = λ i. More (val_value_of v i) (vals_values_of vs i)

-- a value of the code that comes back
abbrev Returns : Value → Type 0
Returns x = value_of (val x) ≡ x

values_return : {A : Type 0} (f : A → Value) → ((a : A) → Returns (f a)) → (xs : List A) → values_of (vals (map f xs)) ≡ map f xs
values_return f h [] = refl
values_return f h (x ∷ xs) = λ i. h x i ∷ values_return f h xs i

-- one layer, of which the parts come back
layer_returns : {A : Type 0} (f : A → Value) → ((a : A) → Returns (f a)) → (y : open_value.Value-F A) → Returns (roll-Value (map-Value A Value f y))
layer_returns f h (open_value.Bool truth) = subst Returns (sym (V.rolls-Bool truth)) (ap value_of (val_bool truth))
layer_returns f h (open_value.Num number) = subst Returns (sym (V.rolls-Num number)) (ap value_of (val_num number))
layer_returns f h (open_value.Bits bits) = subst Returns (sym (V.rolls-Bits bits)) (ap value_of (val_bits bits))
layer_returns f h (open_value.Items items) =
    subst Returns (sym (V.rolls-Items (map f items))) (ap value_of (val_items (map f items)) ∙ ap V.Items (values_return f h items))
layer_returns f h (open_value.Struct fields) =
    subst Returns (sym (V.rolls-Struct (map f fields))) (ap value_of (val_struct (map f fields)) ∙ ap V.Struct (values_return f h fields))
layer_returns f h (open_value.Union tag value) =
    subst Returns (sym (V.rolls-Union tag (f value))) (ap value_of (val_union tag (f value)) ∙ ap (λ v. V.Union tag v) (h value))

pub value_of_val : (x : Value) → value_of (val x) ≡ x
value_of_val = ind-Value Returns (λ x y e. subst (λ z. Returns (roll-Value z)) e (layer_returns (λ e. e.0) (λ e. e.1) y))
