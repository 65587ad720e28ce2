-- Full names as numbers, so that equal names are found by comparing numbers.
use Rattle.std.specs.Prelude.{◌≡◌, ◌<◌, ℕ, Bool, false, List, map, length, take, Option, Some}
use Rattle.std.specs.Prelude.{unwrap_or}
use Rattle.std.specs.BTreeMap.{BTreeMap, get}
use Rattle.std.specs.List.{HoldsAt, list_any, position_from}
use Rattle.std.specs.Ordering.{nat_cmp}
use Rattle.std.specs.declared.cmp.Ordering.TheVariants.{Less}
use Rattle.std.specs.Cmp.Lexicographic.{slice_cmp}
use Rattle.std.specs.Str.{bytes_eq}
use Rattle.dsdl_types.specs.declared.definition.Definition.{Definition}

-- a definition has this full name
abbrev pub has_name : List ℕ → Definition → Bool
has_name name d = bytes_eq d.id.name name

-- the first definition of this full name, by its number
abbrev pub first_of_name : List Definition → List ℕ → Option ℕ
first_of_name ds name = position_from (has_name name) 0 ds

-- each name has the number of its first definition
abbrev pub ArePlaces : List Definition → BTreeMap (List ℕ) ℕ → Type 0
ArePlaces ds places = (name : List ℕ) → get (slice_cmp nat_cmp) places name ≡ first_of_name ds name

-- for each definition the number of the first one of its full name
abbrev pub name_numbers : List Definition → List ℕ
name_numbers ds = map (λ d. unwrap_or (first_of_name ds d.id.name) 0) ds

-- A number is that of the first definition of its full name, and no name before place i is greater.
pub record IsReached (ds : List Definition) (number i : ℕ) : Type 0 where
  pub first : number < length ds → HoldsAt (λ d. first_of_name ds d.id.name ≡ Some number) ds number
  pub greatest : number < length ds → (name : List ℕ)
      → HoldsAt (λ d. slice_cmp nat_cmp d.id.name name ≡ Less → list_any (has_name name) (take i ds) ≡ false) ds number
