-- The names in a word, cut at its commas.
use Rattle.std.proofs.Common.{◌≡◌, ◌∙◌, ℕ, ◌+◌, Bool, true, false, ◌==◌, ◌&&◌, List, [], ◌∷◌, ◌++◌, length, None, refl, sym, ap, arith}
use Rattle.std.proofs.lemmas.Bool.Decides.{nat_tests}
use Rattle.std.proofs.lemmas.List.Folds.{list_all-append}
use Rattle.std.proofs.lemmas.List.Splits.{join_with_byte-slice_split, length-slice_split}
use Rattle.std.specs.List.{list_all, slice_split, join_with_byte, count_by}
use Rattle.std.specs.Prelude.{nat_le}
use Rattle.node_plan.specs.Names.{is_bus_name, is_name_byte}
use Rattle.cyphal.specs.BusNames.{is_bus, buses_among}

abbrev pub is_comma : ℕ → Bool
is_comma byte = byte == 44

no_left : (a b : Bool) → b ≡ false → (a && b) ≡ false
no_left true b e = e
no_left false b e = refl

-- a name with a comma in it is no bus
no_comma : (xs ys : List ℕ) → is_bus (xs ++ 44 ∷ ys) ≡ false
no_comma xs ys =
    let bytes : list_all is_name_byte (xs ++ 44 ∷ ys) ≡ false = list_all-append is_name_byte xs (44 ∷ ys) ∙ no_left (list_all is_name_byte xs) false refl in
    no_left (nat_le 1 (length (xs ++ 44 ∷ ys))) (is_bus_name (xs ++ 44 ∷ ys)) (no_left (nat_le (length (xs ++ 44 ∷ ys)) 15) (list_all is_name_byte (xs ++ 44 ∷ ys)) bytes)

-- where one of three names is no bus, they are none
third_fails : (a b third : List ℕ) → is_bus third ≡ false → buses_among (a ∷ b ∷ third ∷ []) ≡ None
third_fails a b third e = rw (no_left (is_bus a) (is_bus b && (is_bus third && true)) (no_left (is_bus b) (is_bus third && true) (rw e refl))) refl

-- and so are four and more
four_fail : (a b c d : List ℕ) (names : List (List ℕ)) → buses_among (a ∷ b ∷ c ∷ d ∷ names) ≡ None
four_fail a b c d names =
    let long : nat_le (length (a ∷ b ∷ c ∷ d ∷ names)) 3 ≡ false = grind (arith, nat_tests) in rw long refl

module _ (a b third : List ℕ) where
  by_parts : (names : List (List ℕ)) (n : ℕ) → length names ≡ n + 1 → join_with_byte 44 names ≡ third → buses_among (a ∷ b ∷ names) ≡ buses_among (a ∷ b ∷ third ∷ [])
  by_parts [] n h e = absurd (omega (arith, h))
  by_parts (p ∷ []) n h e = ap (λ (c : List ℕ). buses_among (a ∷ b ∷ c ∷ [])) e
  by_parts (p ∷ q ∷ names) n h e =
      four_fail a b p q names ∙ sym (third_fails a b third (ap is_bus (sym e) ∙ no_comma p (join_with_byte 44 (q ∷ names))))

  -- what stands behind the second comma is the third name, or there are no buses
  pub third_name : buses_among (a ∷ b ∷ slice_split is_comma third) ≡ buses_among (a ∷ b ∷ third ∷ [])
  third_name = by_parts (slice_split is_comma third) (count_by is_comma third) (length-slice_split is_comma third) (join_with_byte-slice_split 44 third)
