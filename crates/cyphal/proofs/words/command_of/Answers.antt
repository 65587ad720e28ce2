use Rattle.std.proofs.Common.{◌≡◌, ◌<◌, List, ℕ, [], ◌∷◌, None, length, map, refl, arith}
use Rattle.std.proofs.lemmas.Bool.Decides.{nat_tests}
use Rattle.std.proofs.lemmas.Grind.{common_steps}
use Rattle.cyphal.specs.Words.{command_of}
use Rattle.cyphal.proofs.words.command_of.Goals as goal
use Rattle.cyphal.proofs.words.command_of.Goals.{in_default-via-then-words-lt2, in_default-via-else-words-lt2+else-words-lt3+else-words-lt4+else-words-lt5}

module _ {X : Type 0} (text : X → List ℕ) where
  -- fewer than two words are no command
  few : (words : List X) → length words < 2 → None ≡ command_of (map text words)
  few [] h = refl
  few (a ∷ []) h = refl
  few (a ∷ b ∷ words) h = absurd (omega (arith, h))

  -- nor are more than four
  many : (words : List X) → 4 < length words → None ≡ command_of (map text words)
  many [] h = refl
  many (a ∷ []) h = refl
  many (a ∷ b ∷ []) h = absurd (omega (arith, h))
  many (a ∷ b ∷ c ∷ []) h = absurd (omega (arith, h))
  many (a ∷ b ∷ c ∷ d ∷ []) h = absurd (omega (arith, h))
  many (a ∷ b ∷ c ∷ d ∷ e ∷ words) h = refl

pub returns-in_default-clause-is : goal.returns-in_default-clause-is
returns-in_default-clause-is c =
    elim c.in_default.branch [
      | in_default-via-then-words-lt2 w ↦ few _ c.args.words.now (grind (arith, common_steps, nat_tests))
      | in_default-via-else-words-lt2+else-words-lt3+else-words-lt4+else-words-lt5 w ↦ many _ c.args.words.now (grind (arith, common_steps, nat_tests))
    ]
