-- The rows of a layout and the fields of its schema.
use Rattle.std.proofs.Common.{◌≡◌, ℕ, zero, suc, ◌+◌, ◌<◌, List, [], ◌∷◌, length, get_or, refl, ap, subst, arith}
use Rattle.dsdl_types.specs.Schemas.{Sch}
use Rattle.layout.specs.declared.row.Row.{Row}
use Rattle.layout.specs.Layouts.{IsRow, AreRows}

-- the row of a field
pub row_at : (s : Sch) (k : ℕ) (fs : List (List ℕ × Sch)) (rs : List Row) (i : ℕ) (d : List ℕ × Sch) (e : Row) → AreRows s k fs rs → i < length rs → IsRow s (k + i) (get_or fs i d) (get_or rs i e)
row_at s k [] [] i d e h lt = absurd (omega arith)
row_at s k [] (r ∷ rs) i d e h lt = absurd h
row_at s k (f ∷ fs) [] i d e h lt = absurd h
row_at s k (f ∷ fs) (r ∷ rs) zero d e h lt = let z : k ≡ k + 0 = omega arith in subst (λ n. IsRow s n f r) z h.0
row_at s k (f ∷ fs) (r ∷ rs) (suc i) d e h lt =
    let z : suc k + i ≡ k + suc i = omega arith in
    subst (λ n. IsRow s n (get_or fs i d) (get_or rs i e)) z (row_at s (suc k) fs rs i d e h.1 (omega arith))

-- there is a row for each field
pub rows_length : (s : Sch) (k : ℕ) (fs : List (List ℕ × Sch)) (rs : List Row) → AreRows s k fs rs → length fs ≡ length rs
rows_length s k [] [] h = refl
rows_length s k [] (r ∷ rs) h = absurd h
rows_length s k (f ∷ fs) [] h = absurd h
rows_length s k (f ∷ fs) (r ∷ rs) h = ap suc (rows_length s (suc k) fs rs h.1)
