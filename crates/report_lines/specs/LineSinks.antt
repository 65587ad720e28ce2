-- What stands behind the lines that were put.
use Rattle.std.specs.Prelude.{◌≡◌, ◌++◌, List, Option, Some, None}

-- what was put, with these behind it, where that is told
abbrev pub put_behind : {A : Type 0} → Option (List A) → List A → Option (List A)
put_behind None items = None
put_behind (Some put) items = Some (put ++ items)

-- a front of these was put behind what stood before
pub record BeginsList {A : Type 0} (items : List A) (before after : Option (List A)) : Type 0 where
  pub front : List A
  pub rest : List A
  pub whole : items ≡ front ++ rest
  pub put : after ≡ put_behind before front
