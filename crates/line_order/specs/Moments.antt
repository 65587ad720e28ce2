-- The moments of entries, and the order in which they stand.
use Rattle.std.specs.Prelude.{◌<◌, ◌≤◌, ℕ, Bool, true, false, List, Option, Some, None, [], ◌∷◌}
use Rattle.std.specs.Prelude.{nat_lt, ⊤}
use Rattle.line_order.specs.Order.{Entry, put}
use Rattle.line_order.specs.Row.{first_moment}

-- each moment is this one at most
abbrev pub AreUpTo : ℕ → List Entry → Type 0
AreUpTo m [] = ⊤
AreUpTo m (e ∷ es) = (e.moment ≤ m) × AreUpTo m es

-- each moment is before this one
abbrev pub AreBefore : ℕ → List Entry → Type 0
AreBefore m [] = ⊤
AreBefore m (e ∷ es) = (e.moment < m) × AreBefore m es

-- each moment is this one at least
abbrev pub AreFrom : ℕ → List Entry → Type 0
AreFrom m [] = ⊤
AreFrom m (e ∷ es) = (m ≤ e.moment) × AreFrom m es

-- the moments never fall
abbrev pub Rises : List Entry → Type 0
Rises [] = ⊤
Rises (e ∷ es) = AreFrom e.moment es × Rises es

-- entries that came late are put, one after the other, at their places among others
abbrev pub put_all : List Entry → List Entry → List Entry
put_all [] es = es
put_all (e ∷ late) es = put_all late (put e es)

-- whether a first moment is before another, of which either may be missing
abbrev pub is_before : Option ℕ → Option ℕ → Bool
is_before None m = false
is_before (Some l) None = true
is_before (Some l) (Some m) = nat_lt l m

-- whether the first of those that came late stands before the others
abbrev pub late_first : List Entry → List Entry → Bool
late_first late es = is_before (first_moment late) (first_moment es)
