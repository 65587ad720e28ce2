-- Values of data types.
use Rattle.std.specs.Prelude.{ℕ, ℤ, zero, suc, Bool}

-- A value: a truth value, a whole number, the raw bits of a float as a number, the items of an
-- array, the values of a structure's fields that aren't padding, or a variant with its tag.
mutual
  pub data Val : Type 0 where
    Truth : Bool → Val
    Num : ℤ → Val
    Raw : ℕ → Val
    Items : Vals → Val
    Parts : Vals → Val
    Tagged : ℕ → Val → Val

  pub data Vals : Type 0 where
    Empty : Vals
    More : Val → Vals → Vals

abbrev pub count : Vals → ℕ
count Empty = 0
count (More v vs) = suc (count vs)

-- Of a value of another kind the parts are none, and the tag is 0.
abbrev pub items_of : Val → Vals
items_of (Items vs) = vs
items_of _ = Empty

abbrev pub parts_of : Val → Vals
parts_of (Parts vs) = vs
parts_of _ = Empty

abbrev pub tag_of : Val → ℕ
tag_of (Tagged t v) = t
tag_of _ = 0

abbrev pub inner_of : Val → Val
inner_of (Tagged t v) = v
inner_of v = v

abbrev pub first : Vals → Val
first Empty = Items Empty
first (More v vs) = v

abbrev pub others : Vals → Vals
others Empty = Empty
others (More v vs) = vs

-- a function of each value
abbrev pub on_items : (Val → Val) → Vals → Vals
on_items f Empty = Empty
on_items f (More v vs) = More (f v) (on_items f vs)

-- one value so many times
abbrev pub same_items : ℕ → Val → Vals
same_items zero v = Empty
same_items (suc n) v = More v (same_items n v)

-- one list of values behind the other
abbrev pub join : Vals → Vals → Vals
join Empty ws = ws
join (More v vs) ws = More v (join vs ws)
