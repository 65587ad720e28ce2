-- Lines that stand in a row of bytes.
use Rattle.std.specs.Prelude.{◌≡◌, ◌+◌, ◌++◌, ℕ, Bool, true, false, List, Option, Some, None, []}
use Rattle.std.specs.Prelude.{◌∷◌, take, drop}
use Rattle.line_order.specs.Order.{Entry, entry}
use Rattle.line_order.specs.declared.queued.Queued.{Queued}

-- how many bytes these lines have
abbrev pub size_of : List Queued → ℕ
size_of [] = 0
size_of (q ∷ qs) = q.len + size_of qs

-- the entries of these lines, whose bytes stand one behind the other
abbrev pub row_of : List Queued → List ℕ → List Entry
row_of [] bytes = []
row_of (q ∷ qs) bytes =
    entry q.place.moment q.place.number (take q.len bytes) ∷ row_of qs (drop q.len bytes)

-- the moment of the first entry
abbrev pub first_moment : List Entry → Option ℕ
first_moment [] = None
first_moment (e ∷ es) = Some e.moment

-- the first entry was let go and gathered, or there is none
abbrev pub Pops : List Entry → List Entry → List ℕ → List ℕ → Bool → Type 0
Pops old new before after true = (e : Entry) × (old ≡ e ∷ new) × (after ≡ before ++ e.text)
Pops old new before after false = (old ≡ []) × (new ≡ []) × (after ≡ before)
