-- The rule on words, by the table of the commands.
use Rattle.std.specs.Prelude.{◌≡◌, ℕ, Bool, true, false, ◌==◌, ◌&&◌, not, List, [], ◌∷◌, codes}
use Rattle.std.specs.Prelude.{Option, Some, None, is_some, if◌then◌else◌}
use Rattle.std.specs.Option.{option_map_or}
use Rattle.std.specs.Str.{bytes_eq}
use Rattle.command_words.specs.Table.{Text, named}
use Rattle.command_words.specs.declared.table.TheConstants.{COMMANDS}
use Rattle.cyphal.specs.Words.{command_of, is_argument, number_given, node_given, window_given, is_path}
use Rattle.cyphal.specs.BusNames.{buses_given}

-- two node-IDs are given, of two nodes
abbrev pub are_two : Option ℕ → Option ℕ → Bool
are_two None server = false
are_two (Some own) None = false
are_two (Some own) (Some server) = not (server == own)

-- a word is in the form of the argument of this name, behind one that gave this node-ID, if any
-- did; a folder, a file and a type are any words
abbrev pub is_in_form : Option ℕ → List ℕ → List ℕ → Bool
is_in_form own name word =
    if bytes_eq name (codes "NUMBER") then is_some (number_given word)
    else (if bytes_eq name (codes "MICROS") then is_some (window_given word)
    else (if bytes_eq name (codes "BUSES") then is_some (buses_given word)
    else (if bytes_eq name (codes "NODE") then is_some (node_given word)
    else (if bytes_eq name (codes "SERVER") then are_two own (node_given word)
    else (if bytes_eq name (codes "PATH") then is_path word else true)))))

-- the node-ID that is given behind an argument of this name
abbrev pub own_behind : Option ℕ → List ℕ → List ℕ → Option ℕ
own_behind own name word = if bytes_eq name (codes "NODE") then node_given word else own

-- Words are arguments of these names: as many, none of them empty, none with a hyphen in front, and
-- each in the form of its name.
abbrev pub are_given : Option ℕ → List Text → List (List ℕ) → Bool
are_given own [] [] = true
are_given own [] (word ∷ words) = false
are_given own (name ∷ names) [] = false
are_given own (name ∷ names) (word ∷ words) =
    is_argument word && (is_in_form own name.now word
    && are_given (own_behind own name.now word) names words)

-- words are accepted by these rows: the first is the word of one, and the others are its arguments
abbrev pub accepts : List (List ℕ) → Bool
accepts [] = false
accepts (word ∷ words) =
    option_map_or (λ row. are_given None row.arguments.now words) (named word COMMANDS.now) false

-- exactly the words that the table accepts are a command
abbrev pub TableDecides : Type 0
TableDecides = (words : List (List ℕ)) → is_some (command_of words) ≡ accepts words
