-- The text of version 2 of a plan's text of version 1.
use Rattle.std.specs.Prelude.{ℕ, List, [], ◌∷◌, ◌++◌, ◌==◌, ◌||◌, if◌then◌else◌, codes, decimal}
use Rattle.std.specs.Prelude.{map}
use Rattle.std.specs.Str.{bytes_eq}
use Rattle.node_plan.specs.declared.plan.BusPlan.{BusPlan}
use Rattle.node_plan.specs.declared.plan.Plan.{Plan}
use Rattle.node_plan.specs.Limit.{is_version_two}
use Rattle.node_plan.specs.Words.{joined, parts_of, words_of}

-- the words of an MTU and a rate, behind a bus's name
abbrev pub numbers_text : ℕ → ℕ → List ℕ
numbers_text mtu rate = 32 ∷ decimal mtu ++ 32 ∷ decimal rate

-- those of the first bus, which all buses of a plan of version 1 have
abbrev pub numbers_of : List BusPlan → List ℕ
numbers_of [] = []
numbers_of (bus ∷ buses) = numbers_text bus.mtu bus.rate

-- a line of two words of version 1: `plan 1`, `bus NAME`, `mtu N` and `rate N` change
abbrev pub migrated_two : List ℕ → List ℕ → List ℕ → List ℕ
migrated_two numbers line word =
    if bytes_eq word (codes "plan") then codes "plan 2"
    else (if bytes_eq word (codes "mtu") || bytes_eq word (codes "rate") then []
    else (if bytes_eq word (codes "bus") then line ++ numbers else line))

-- a line of version 1, by its words
abbrev pub migrated_words : List ℕ → List ℕ → List (List ℕ) → List ℕ
migrated_words numbers line (word ∷ value ∷ []) = migrated_two numbers line word
migrated_words numbers line words = line

-- a line of version 1; one that is skipped stays
abbrev pub migrated_line : List ℕ → List ℕ → List ℕ
migrated_line numbers [] = []
migrated_line numbers (b ∷ s) = if b == 35 then b ∷ s
    else migrated_words numbers (b ∷ s) (words_of (b ∷ s))

-- the lines of a text of version 1
abbrev pub migrated_text : List ℕ → List ℕ → List ℕ
migrated_text numbers text = joined 10 (map (migrated_line numbers) (parts_of 10 text))

-- The text of version 2 that says what a plan's text says: `plan 1` becomes `plan 2`, `bus NAME`
-- gets the MTU and the rate that count for all buses, `mtu` and `rate` become empty lines, and all
-- other bytes stay. A text of version 2 stays as it is.
abbrev pub migrated : Plan → List ℕ → List ℕ
migrated plan text = if is_version_two text then text
    else migrated_text (numbers_of plan.buses) text
