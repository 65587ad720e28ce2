-- The pairs of frames that are put one after the other.
use Rattle.std.proofs.Common.{◌≡◌, ℕ, zero, suc, ◌+◌, false, eqb, List, [], ◌∷◌, ◌++◌, replicate, refl, sym, ap, ◌∙◌, append-nil, append_assoc, add-one}
use Rattle.std.proofs.lemmas.Bool.{cond-true, cond-false, eq-eqb}
use Rattle.std.proofs.lemmas.List.{replicate-append-replicate}
use Rattle.frag.specs.declared.sent.Pair.{Pair}
use Rattle.log_gen.specs.Rows.{copies, frame_count, on_bus, on_buses, pair_of, pairs_of, place_of, row, source_of}
use Rattle.log_gen.specs.declared.row.Row.{Row}
use Rattle.log_gen.specs.declared.way.Way.{Way}

-- one more at the end
one_more : (n : ℕ) (p : Pair) → replicate n p ++ p ∷ [] ≡ replicate (suc n) p
one_more n p = replicate-append-replicate n 1 p ∙ ap (λ k. replicate k p) (add-one n)

-- a frame of the source that stands several times
several : (s : ℕ) (r : Row) (past : List Row) (n : ℕ) → source_of r.transfer ≡ s → pairs_of s (replicate n r ++ past) ≡ pairs_of s past ++ replicate n (pair_of r)
several s r past zero is = sym (append-nil (pairs_of s past))
several s r past (suc n) is =
    let before = pairs_of s (replicate n r ++ past) in
    cond-true (eqb (source_of r.transfer) s) (before ++ pair_of r ∷ []) before (eq-eqb (source_of r.transfer) s is)
    ∙ ap (λ xs. xs ++ pair_of r ∷ []) (several s r past n is)
    ∙ append_assoc (pairs_of s past) (replicate n (pair_of r)) (pair_of r ∷ [])
    ∙ ap (λ xs. pairs_of s past ++ xs) (one_more n (pair_of r))

-- the next frame of a transfer on a bus
pub next_pair : (way : Way) (j bus i : ℕ) (past : List Row) → pairs_of (source_of j) (on_bus way j bus (i + 1) past) ≡ pairs_of (source_of j) (on_bus way j bus i past) ++ replicate (copies way i) (record { j = place_of j; i = i })
next_pair way j bus i past =
    ap (λ n. pairs_of (source_of j) (on_bus way j bus n past)) (add-one i)
    ∙ several (source_of j) (row j bus i) (on_bus way j bus i past) (copies way i) refl

-- frames of another source add nothing
others : (s : ℕ) (r : Row) (past : List Row) (n : ℕ) → eqb (source_of r.transfer) s ≡ false → pairs_of s (replicate n r ++ past) ≡ pairs_of s past
others s r past zero away = refl
others s r past (suc n) away =
    let before = pairs_of s (replicate n r ++ past) in
    cond-false (eqb (source_of r.transfer) s) (before ++ pair_of r ∷ []) before away ∙ others s r past n away

others_on_bus : (s : ℕ) (way : Way) (j bus n : ℕ) (past : List Row) → eqb (source_of j) s ≡ false → pairs_of s (on_bus way j bus n past) ≡ pairs_of s past
others_on_bus s way j bus zero past away = refl
others_on_bus s way j bus (suc i) past away =
    others s (row j bus i) (on_bus way j bus i past) (copies way i) away ∙ others_on_bus s way j bus i past away

pub others_on_buses : (payload : ℕ → List ℕ) (way : ℕ → ℕ → Way) (s j n : ℕ) (past : List Row) → eqb (source_of j) s ≡ false → pairs_of s (on_buses payload way j n past) ≡ pairs_of s past
others_on_buses payload way s j zero past away = refl
others_on_buses payload way s j (suc bus) past away =
    others_on_bus s (way (place_of j) bus) j bus (frame_count payload j) (on_buses payload way j bus past) away
    ∙ others_on_buses payload way s j bus past away
