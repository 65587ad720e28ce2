-- Lemmas on names of buses.
use Rattle.std.proofs.Common.{◌≡◌, ◌<◌, ◌≤◌, ℕ, Bool, true, false, List, arith, length, get_or, ⊎_elim, subst, sym, refl}
use Rattle.std.specs.List.{list_all, list_any}
use Rattle.std.specs.Str.{IsUtf8}
use Rattle.std.proofs.lemmas.Bool.{cases_lt}
use Rattle.std.proofs.lemmas.List.{get_or_past}
use Rattle.std.proofs.lemmas.Bool.Decides.{nat_tests}
use Rattle.std.proofs.lemmas.List.Folds.{list_any_at}
use Rattle.std.proofs.lemmas.List.Sums.{AllPass-from_list_all}
use Rattle.std.proofs.lemmas.Str.{IsUtf8-from_ascii}
use Rattle.node_plan.specs.Names.{is_name_byte}
use Rattle.node_plan.specs.Registers.{is_register_byte}

-- bytes that pass such a test are a text
pub IsUtf8-from_bytes : (p : ℕ → Bool) → ((b : ℕ) → p b ≡ true → b < 128) → (s : List ℕ) → list_all p s ≡ true → IsUtf8 s
IsUtf8-from_bytes p low s h = IsUtf8-from_ascii s (λ i. ⊎_elim
    (λ (within : i < length s). low (get_or s i 0) (AllPass-from_list_all p s h i 0 within))
    (λ (past : length s ≤ i). subst (λ n. n < 128) (sym (get_or_past s i 0 past)) (omega arith))
    (cases_lt i (length s)))

is_name_byte-ascii : (b : ℕ) → is_name_byte b ≡ true → b < 128
is_name_byte-ascii b h = grind (arith, nat_tests)

-- a name's bytes are a text
pub IsUtf8-from_name : (name : List ℕ) → list_all is_name_byte name ≡ true → IsUtf8 name
IsUtf8-from_name name h = IsUtf8-from_bytes is_name_byte is_name_byte-ascii name h

is_register_byte-ascii : (b : ℕ) → is_register_byte b ≡ true → b < 128
is_register_byte-ascii b h = grind (arith, nat_tests)

-- and those of a register's name
pub IsUtf8-from_register : (name : List ℕ) → list_all is_register_byte name ≡ true → IsUtf8 name
IsUtf8-from_register name h = IsUtf8-from_bytes is_register_byte is_register_byte-ascii name h

pub differ : (b : Bool) → b ≡ true → b ≡ false → ⊥
differ b t f = cc

-- where no element passes, none at a place does
pub fails_at : {X : Type 0} (p : X → Bool) (xs : List X) → list_any p xs ≡ false → (k : ℕ) (d : X) → k < length xs → p (get_or xs k d) ≡ false
fails_at p xs none k d h = of_test (p (get_or xs k d)) (λ t. list_any_at p xs k d h t)
  where
    of_test : (t : Bool) → (t ≡ true → list_any p xs ≡ true) → t ≡ false
    of_test true any = absurd (differ (list_any p xs) (any refl) none)
    of_test false any = refl
