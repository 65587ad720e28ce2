-- The text of frames that are put one after the other.
use Rattle.std.proofs.Common.{◌≡◌, ℕ, zero, suc, ◌+◌, List, [], ◌∷◌, ◌++◌, replicate, sym, ap, ◌∙◌, append-nil, append_assoc, add-one}
use Rattle.log_text.specs.Written.{record_text}
use Rattle.log_gen.specs.Rows.{bytes_of, copies, on_bus, record_of, row}
use Rattle.log_gen.specs.Rules.{bus_names, line_of, payload_of, text_of_rows, times}
use Rattle.log_gen.specs.declared.row.Row.{Row}
use Rattle.log_gen.specs.declared.way.Way.{Way}

module _ (number : ℕ) where
  -- the line of a frame of the log
  abbrev pub line_at : Row → List ℕ
  line_at r = line_of r (bytes_of (payload_of number) r)

  -- one more
  more : (r : Row) (past : List Row) → text_of_rows number (r ∷ past) ≡ text_of_rows number past ++ line_at r
  more r past = append_assoc (text_of_rows number past) (record_text bus_names (record_of (payload_of number) r past)) (10 ∷ [])

  -- a frame that stands several times
  several : (r : Row) (past : List Row) (n : ℕ) → text_of_rows number (replicate n r ++ past) ≡ text_of_rows number past ++ times n (line_at r)
  several r past zero = sym (append-nil (text_of_rows number past))
  several r past (suc n) =
      more r (replicate n r ++ past) ∙ ap (λ s. s ++ line_at r) (several r past n)
      ∙ append_assoc (text_of_rows number past) (times n (line_at r)) (line_at r)

  -- the next frame of a transfer on a bus
  pub next_frame : (way : Way) (j bus i : ℕ) (past : List Row) → text_of_rows number (on_bus way j bus (i + 1) past) ≡ text_of_rows number (on_bus way j bus i past) ++ times (copies way i) (line_at (row j bus i))
  next_frame way j bus i past =
      ap (λ n. text_of_rows number (on_bus way j bus n past)) (add-one i)
      ∙ several (row j bus i) (on_bus way j bus i past) (copies way i)
