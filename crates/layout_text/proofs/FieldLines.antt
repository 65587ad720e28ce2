-- The lines of fields, one after another.
use Rattle.std.proofs.Common.{◌≡◌, ℕ, suc, ◌+◌, ◌<◌, ◌≤◌, List, [], ◌∷◌, ◌++◌, length, drop, get_or, refl, sym, ap, ◌∙◌, subst, arith, add-one, drop-cons}
use Rattle.std.proofs.lemmas.List.{append-nil, drop_all}
use Rattle.dsdl_types.specs.Schemas.{Sch, PBool, Simple}
use Rattle.layout.specs.declared.row.Row.{Row}
use Rattle.layout.specs.Layouts.{IsRow, AreRows}
use Rattle.layout_text.specs.Appends.{Appends}
use Rattle.layout_text.specs.Fields.{AreFieldLines, IsFieldLine, field_line, is_union}
use Rattle.bit_length.specs.Ascending.{Ascend}
use Rattle.layout_text.specs.Sets.{set_text}
use Rattle.layout_text.proofs.Grown.{regroup}
use Rattle.layout_text.proofs.Rows.{row_at, rows_length}

no_field : List ℕ × Sch
no_field = ([], Simple PBool)

-- Of the lines of fields those in front of field i are written: with the lines of the others behind them they are the
-- lines of all.
pub record AreWritten (s : Sch) (fs : List (List ℕ × Sch)) (ts : List (List ℕ)) (i : ℕ) (old new : List ℕ) : Type 0 where
  pub rest : (more : List ℕ) → AreFieldLines s i (drop i fs) (drop i ts) more → Appends (AreFieldLines s 0 fs ts) old (new ++ more)

pub none_written : (s : Sch) (fs : List (List ℕ × Sch)) (ts : List (List ℕ)) (old : List ℕ) → AreWritten s fs ts 0 old old
none_written s fs ts old = record { rest = λ more lines. (more, lines, refl) }

line_of_row : (s : Sch) (k : ℕ) (f : List ℕ × Sch) (r : Row) (t : List ℕ) → IsRow s k f r → Ascend r.offsets → Ascend r.lengths →
    IsFieldLine s k f t (field_line (is_union s) k r.name t (set_text r.offsets) (set_text r.lengths))
line_of_row s k f r t row offsets lengths = record {
  offsets = set_text r.offsets;
  sizes = set_text r.lengths;
  at = record { members = r.offsets; ascending = offsets; same = row.offsets; is = refl };
  size = record { members = r.lengths; ascending = lengths; same = row.lengths; is = refl };
  is = ap (λ n. field_line (is_union s) k n t (set_text r.offsets) (set_text r.lengths)) row.name;
}

-- the next line
pub more_written : (s : Sch) (fs : List (List ℕ × Sch)) (rs : List Row) (ts : List (List ℕ)) (i : ℕ) (old new newer : List ℕ) (r : Row) (t : List ℕ) →
    AreRows s 0 fs rs → length ts ≡ length rs → i < length rs → r ≡ get_or rs i r → t ≡ get_or ts i t → Ascend r.offsets → Ascend r.lengths → AreWritten s fs ts i old new →
    newer ≡ new ++ field_line (is_union s) i r.name t (set_text r.offsets) (set_text r.lengths) → AreWritten s fs ts (i + 1) old newer
more_written s fs rs ts i old new newer r t rows count lt e g offsets lengths so_far is =
    subst (λ n. AreWritten s fs ts n old newer) (sym (add-one i)) (record { rest = written })
  where
    line : List ℕ
    line = field_line (is_union s) i r.name t (set_text r.offsets) (set_text r.lengths)

    field : List ℕ × Sch
    field = get_or fs i no_field

    row : IsRow s i field r
    row =
        let z : 0 + i ≡ i = omega arith in
        subst (λ x. IsRow s i field x) (sym e) (subst (λ n. IsRow s n field (get_or rs i r)) z (row_at s 0 fs rs i no_field r rows lt))

    fields : drop i fs ≡ field ∷ drop (suc i) fs
    fields = drop-cons fs i no_field (let l = rows_length s 0 fs rs rows in omega arith)

    types : drop i ts ≡ t ∷ drop (suc i) ts
    types = drop-cons ts i t (omega arith) ∙ ap (λ x. x ∷ drop (suc i) ts) (sym g)

    whole : (more : List ℕ) → AreFieldLines s (suc i) (drop (suc i) fs) (drop (suc i) ts) more → AreFieldLines s i (drop i fs) (drop i ts) (line ++ more)
    whole more lines =
        subst (λ x. AreFieldLines s i x (drop i ts) (line ++ more)) (sym fields)
        (subst (λ y. AreFieldLines s i (field ∷ drop (suc i) fs) y (line ++ more)) (sym types)
        (line, more, line_of_row s i field r t row offsets lengths, lines, refl))

    written : (more : List ℕ) → AreFieldLines s (suc i) (drop (suc i) fs) (drop (suc i) ts) more → Appends (AreFieldLines s 0 fs ts) old (newer ++ more)
    written more lines =
        let f : newer ++ more ≡ new ++ (line ++ more) = ap (λ x. x ++ more) is ∙ regroup new line more in
        subst (λ x. Appends (AreFieldLines s 0 fs ts) old x) (sym f) (so_far.rest (line ++ more) (whole more lines))

-- all lines
pub all_written : (s : Sch) (fs : List (List ℕ × Sch)) (rs : List Row) (ts : List (List ℕ)) (i : ℕ) (old new : List ℕ) →
    AreRows s 0 fs rs → length ts ≡ length rs → length rs ≤ i → AreWritten s fs ts i old new → Appends (AreFieldLines s 0 fs ts) old new
all_written s fs rs ts i old new rows count le so_far =
    subst (λ x. Appends (AreFieldLines s 0 fs ts) old x) (append-nil new) (so_far.rest [] none)
  where
    none : AreFieldLines s i (drop i fs) (drop i ts) []
    none =
        subst (λ x. AreFieldLines s i x (drop i ts) []) (sym (drop_all i fs (let l = rows_length s 0 fs rs rows in omega arith)))
        (subst (λ y. AreFieldLines s i [] y []) (sym (drop_all i ts (omega arith))) refl)
