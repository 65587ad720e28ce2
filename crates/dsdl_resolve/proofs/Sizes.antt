-- Which files pass the limits.
use Rattle.std.proofs.Common.{◌≡◌, ℕ, zero, suc, ◌-◌, ◌<◌, ◌≤◌, ◌==◌, ◌||◌, Bool, true, false, List, [], ◌∷◌, ◌^◌, length, drop, Option, Some, None, refl, sym, ap, ◌∙◌, arith}
use Rattle.std.proofs.lemmas.List.{drop_all}
use Rattle.std.specs.Prelude.{cond, nat_lt}
use Rattle.std.proofs.lemmas.Bool.{ltb-false}
use Rattle.std.specs.List.{All}
use Rattle.dsdl_files.specs.Folders.{first_too_big}
use Rattle.dsdl_resolve.specs.Passes.{first_past_limit}
use Rattle.dsdl_files.specs.declared.file.DsdlFile.{DsdlFile}

by_cases : (b c : Bool) (path : List ℕ) (rest : Option (List ℕ)) → cond (b || c) (Some path) rest ≡ None → (c ≡ false) × (rest ≡ None)
by_cases true c path rest e = absurd (cc)
by_cases false true path rest e = absurd (cc)
by_cases false false path rest e = (refl, e)

all_short : (count most : ℕ) (files : List DsdlFile) → first_too_big count most files ≡ None → All (λ file. length file.text ≤ most) files
all_short count most [] e k d lt = absurd (omega arith)
all_short count most (f ∷ files) e zero d lt = ltb-false most (length f.text) (by_cases (count == 0) (nat_lt most (length f.text)) f.path _ e).0
all_short count most (f ∷ files) e (suc k) d lt = all_short (count - 1) most files (by_cases (count == 0) (nat_lt most (length f.text)) f.path _ e).1 k d (omega arith)

-- where none is left, the texts are short
pub short_texts : (files : List DsdlFile) (i : ℕ) → length files ≤ i → first_too_big (4096 - i) (2 ^ 20) (drop i files) ≡ first_past_limit files →
    All (λ file. length file.text < 2 ^ 32) files
short_texts files i le e =
    let none : first_past_limit files ≡ None = sym e ∙ ap (first_too_big (4096 - i) (2 ^ 20)) (drop_all i files le) in
    λ k d lt. omega (arith, all_short 4096 (2 ^ 20) files none k d lt)
