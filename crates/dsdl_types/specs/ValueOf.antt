-- The values of the definitions as values of the code.
use Rattle.std.specs.Prelude.{List, [], ◌∷◌}
use Rattle.dsdl_types.specs.Values.{Val, Vals, Empty, More, Truth, Num, Raw, Items, Parts, Tagged}
use Rattle.dsdl_types.specs.declared.value.Value.{Value}
use Rattle.dsdl_types.specs.declared.value.Value.TheVariants as V

-- a value of the definitions as one of the code, and several in order
abbrev mutual
  pub value_of : Val → Value
  value_of (Truth truth) = V.Bool truth
  value_of (Num number) = V.Num number
  value_of (Raw bits) = V.Bits bits
  value_of (Items items) = V.Items (values_of items)
  value_of (Parts fields) = V.Struct (values_of fields)
  value_of (Tagged tag value) = V.Union tag (value_of value)

  pub values_of : Vals → List Value
  values_of Empty = []
  values_of (More v vs) = value_of v ∷ values_of vs
