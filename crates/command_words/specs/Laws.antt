-- What holds of the table of the commands.
use Rattle.std.specs.Prelude.{ℕ, nat_eq, nat_le, Bool, true, false, ◌&&◌, not, List, [], ◌∷◌, ◌++◌, if◌then◌else◌}
use Rattle.std.specs.List.{list_all, list_any, starts_with}
use Rattle.std.specs.Str.{bytes_eq}
use Rattle.command_words.specs.Help.{text_of_help}
use Rattle.command_words.specs.Overview.{fits_screen}
use Rattle.command_words.specs.Table.{Row, usage_of}

-- a command's word has small letters alone, and at least one
abbrev pub is_small : ℕ → Bool
is_small byte = nat_le 97 byte && nat_le byte 122

abbrev pub is_word : List ℕ → Bool
is_word [] = false
is_word (x ∷ xs) = list_all is_small (x ∷ xs)

abbrev pub are_words : List Row → Bool
are_words rows = list_all (λ row. is_word row.word.now) rows

-- no text is equal to one behind it
abbrev pub are_distinct : List (List ℕ) → Bool
are_distinct [] = true
are_distinct (text ∷ rest) = not (list_any (bytes_eq text) rest) && are_distinct rest

-- the headings of groups as they come, where the first row stands behind one of this group
abbrev pub headings_behind : List ℕ → List Row → List (List ℕ)
headings_behind group [] = []
headings_behind group (row ∷ rest) =
    (if bytes_eq row.group.now group then [] else row.group.now ∷ [])
    ++ headings_behind row.group.now rest

-- each group's heading comes once
abbrev pub are_groups_whole : List Row → Bool
are_groups_whole rows = are_distinct (headings_behind [] rows)

-- a help begins with the call, and has at most 24 lines of at most 80 columns
abbrev pub is_told : List ℕ → Row → Bool
is_told text row = starts_with nat_eq text (usage_of row) && fits_screen 24 text

-- each help does
abbrev pub are_told : List Row → Bool
are_told rows =
    list_all (λ row. is_told (text_of_help row.help) row) rows
