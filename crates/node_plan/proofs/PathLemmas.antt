-- Lemmas on the path of a folder to serve.
use Rattle.std.proofs.Common.{◌≡◌, ◌≤◌, ◌==◌, Bool, true, false, List, [], ◌∷◌, ℕ, length, arith, refl}
use Rattle.std.proofs.lemmas.Bool.Decides.{nat_tests}
use Rattle.std.specs.Prelude.{◌||◌, not, if◌then◌else◌}
use Rattle.std.specs.Str.{IsUtf8, is_utf8}
use Rattle.std.proofs.lemmas.Str.{IsUtf8-from_is_utf8, is_utf8-from_IsUtf8}
use Rattle.node_plan.specs.declared.line.Said.TheVariants as said
use Rattle.node_plan.specs.IsPlan.{IsFolderPath}
use Rattle.node_plan.specs.Line.{said_of_serve}
use Rattle.node_plan.specs.Words.{words_of}

-- a text that isn't empty is said
pub says_path : (path : List ℕ) → 1 ≤ length path → IsUtf8 path → said.Serve path ≡ said_of_serve path
says_path path some text =
    let not_empty : (length path == 0) ≡ false = grind (arith, nat_tests) in
    let is = is_utf8-from_IsUtf8 path text in rw (not_empty, is)

-- and other bytes have no form
pub says_no_path : (path : List ℕ) → (IsUtf8 path → ⊥) → said.NoForm ≡ said_of_serve path
says_no_path path none = of_tests (length path == 0) (is_utf8 path) (λ is. none (IsUtf8-from_is_utf8 path is))
  where
    of_tests : (empty text : Bool) → (text ≡ true → ⊥) → said.NoForm ≡ (if empty || not text then said.NoForm else said.Serve path)
    of_tests empty true none = absurd (none refl)
    of_tests true false none = refl
    of_tests false false none = refl

-- a path that is said is one
pub is_path : (path : List ℕ) → 1 ≤ length path → IsUtf8 path → words_of path ≡ path ∷ [] → IsFolderPath path
is_path path some text word = record { some_byte = some; text = is_utf8-from_IsUtf8 path text; word = word }
