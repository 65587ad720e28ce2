-- Which words are a command.
use Rattle.std.specs.Prelude.{ℕ, Bool, false, ◌==◌, nat_le, ◌&&◌, not, List, [], ◌∷◌, length, codes}
use Rattle.std.specs.Prelude.{Option, Some, None, option_map, if◌then◌else◌}
use Rattle.std.specs.List.{list_all}
use Rattle.std.specs.Str.{bytes_eq}
use Rattle.dsdl_names.specs.Words.{number_to}
use Rattle.node_run.specs.declared.form.Form.{Form}
use Rattle.node_run.specs.declared.form.Form.TheVariants.{Text, Json}
use Rattle.cyphal.specs.BusNames.{buses_given}
use Rattle.cyphal.specs.declared.bus_names.BusNames.{BusNames}
use Rattle.cyphal.specs.declared.bus_names.BusNames.TheVariants.{One, Two, Three}
use Rattle.cyphal.specs.declared.words.Accepted.{Accepted}
use Rattle.cyphal.specs.declared.words.Accepted.TheVariants as accepted

-- what the words ask for: the layouts of the types below this root, whether one of them is newer
-- than another, whether each of their versions is newer than the one before it, what became of the
-- types of an old folder in a new one, values of one of the types of a root as bytes, bytes as
-- values of it, a run, written in a form, of the plan at this path, which is read in the namespace
-- of the root, its memory bound, its text in version 2, the run of the log that is made of this
-- number, who is online in the log of the input, which a node with this node-ID hears, node-IDs for
-- the nodes of that log that have none, the file that a node with this node-ID fetches of another
-- one over that log, the lines of a log in the order of their moments, with a window of so many
-- microseconds, what the buses with these names carry, who comes and goes on them, or what became
-- of each frame of a log by such a plan
pub data Command : Type 0 where
  Compile : List ℕ → Command
  Compat : List ℕ → List ℕ → List ℕ → Command
  Versions : List ℕ → Command
  Changes : List ℕ → List ℕ → Command
  Encode : List ℕ → List ℕ → Command
  Decode : List ℕ → List ℕ → Command
  Run : Form → List ℕ → List ℕ → Command
  Bound : List ℕ → List ℕ → Command
  Migrate : List ℕ → List ℕ → Command
  Gen : ℕ → Command
  Monitor : ℕ → Command
  Allocate : ℕ → Command
  Fetch : ℕ → ℕ → List ℕ → Command
  Order : ℕ → Command
  Survey : List (List ℕ) → Command
  Nodes : List (List ℕ) → Command
  Explain : List ℕ → List ℕ → Command

-- the names of buses, the first one first
abbrev pub names_of : BusNames → List (List ℕ)
names_of (One a) = a.name.now ∷ []
names_of (Two a b) = a.name.now ∷ b.name.now ∷ []
names_of (Three a b c) = a.name.now ∷ b.name.now ∷ c.name.now ∷ []

-- the command of accepted words
abbrev pub asked_by : Accepted → Command
asked_by (accepted.Compile root) = Compile root.now
asked_by (accepted.Compat root new old) = Compat root.now new.now old.now
asked_by (accepted.Versions root) = Versions root.now
asked_by (accepted.Changes old new) = Changes old.now new.now
asked_by (accepted.Encode root name) = Encode root.now name.now
asked_by (accepted.Decode root name) = Decode root.now name.now
asked_by (accepted.Run form root plan) = Run form root.now plan.now
asked_by (accepted.Bound root plan) = Bound root.now plan.now
asked_by (accepted.Migrate root plan) = Migrate root.now plan.now
asked_by (accepted.Gen number) = Gen number
asked_by (accepted.Monitor own) = Monitor own.number
asked_by (accepted.Allocate own) = Allocate own.number
asked_by (accepted.Fetch file) = Fetch file.own.number file.server.number file.path.now
asked_by (accepted.Order window) = Order window
asked_by (accepted.Survey buses) = Survey (names_of buses)
asked_by (accepted.Nodes buses) = Nodes (names_of buses)
asked_by (accepted.Explain root plan) = Explain root.now plan.now

-- an argument isn't empty and begins with no hyphen
abbrev pub is_argument : List ℕ → Bool
is_argument [] = false
is_argument (x ∷ xs) = not (x == 45)

-- the arguments ROOT and another
abbrev pub are_arguments : List ℕ → List ℕ → Bool
are_arguments root argument = is_argument root && is_argument argument

-- three arguments
abbrev pub are_three : List ℕ → List ℕ → List ℕ → Bool
are_three first second third = is_argument first && (is_argument second && is_argument third)

-- the argument of words that have one alone
abbrev pub one_given : List (List ℕ) → Option (List ℕ)
one_given (word ∷ argument ∷ []) = if is_argument argument then Some argument else None
one_given other = None

-- the root and the other argument of words that have these two
abbrev pub two_given : List (List ℕ) → Option (List ℕ × List ℕ)
two_given (word ∷ root ∷ argument ∷ []) =
    if are_arguments root argument then Some (root, argument) else None
two_given other = None

-- the arguments of words that have three
abbrev pub three_given : List (List ℕ) → Option (List ℕ × List ℕ × List ℕ)
three_given (word ∷ first ∷ second ∷ third ∷ []) =
    if are_three first second third then Some (first, second, third) else None
three_given other = None

-- a number is decimal, without leading zeros, and below 2^32
abbrev pub number_given : List ℕ → Option ℕ
number_given word = number_to 4294967295 word

-- a node-ID is such a number too, up to 127
abbrev pub node_given : List ℕ → Option ℕ
node_given word = number_to 127 word

-- a window is such a number too, up to a minute in microseconds
abbrev pub window_given : List ℕ → Option ℕ
window_given word = number_to 60000000 word

-- a path has at most 255 bytes, each a space or a visible character of ASCII
abbrev pub is_visible : ℕ → Bool
is_visible byte = nat_le 32 byte && nat_le byte 126

abbrev pub is_path : List ℕ → Bool
is_path path = nat_le (length path) 255 && list_all is_visible path

-- the fetch of a file, where the node-IDs of both nodes are given and differ, and its path is one
abbrev pub fetch_given : Option ℕ → Option ℕ → List ℕ → Option Command
fetch_given None server path = None
fetch_given (Some own) None path = None
fetch_given (Some own) (Some server) path =
    if not (server == own) && is_path path then Some (Fetch own server path) else None

-- the command that a word names, of a node-ID, if there is one
abbrev pub named_of_node : List ℕ → Option ℕ → Option Command
named_of_node word node =
    if bytes_eq word (codes "monitor") then option_map Monitor node
    else (if bytes_eq word (codes "allocate") then option_map Allocate node else None)

-- the command that a word names, of one argument
abbrev pub named_of_one : List ℕ → List ℕ → Option Command
named_of_one word argument =
    if bytes_eq word (codes "compile") then Some (Compile argument)
    else (if bytes_eq word (codes "versions") then Some (Versions argument)
    else (if bytes_eq word (codes "gen") then option_map Gen (number_given argument)
    else (if bytes_eq word (codes "order") then option_map Order (window_given argument)
    else (if bytes_eq word (codes "survey") then option_map Survey (buses_given argument)
    else (if bytes_eq word (codes "nodes") then option_map Nodes (buses_given argument)
    else named_of_node word (node_given argument))))))

-- the command that a word names, of a root and a plan
abbrev pub named_of_plan : List ℕ → List ℕ → List ℕ → Option Command
named_of_plan word root plan =
    if bytes_eq word (codes "run") then Some (Run Text root plan)
    else (if bytes_eq word (codes "json") then Some (Run Json root plan)
    else (if bytes_eq word (codes "bound") then Some (Bound root plan)
    else (if bytes_eq word (codes "migrate") then Some (Migrate root plan)
    else (if bytes_eq word (codes "explain") then Some (Explain root plan) else None))))

-- the command that a word names, of two arguments
abbrev pub named_of_two : List ℕ → List ℕ → List ℕ → Option Command
named_of_two word first second =
    if bytes_eq word (codes "encode") then Some (Encode first second)
    else (if bytes_eq word (codes "decode") then Some (Decode first second)
    else (if bytes_eq word (codes "changes") then Some (Changes first second)
    else named_of_plan word first second))

-- the command that a word names, of three arguments
abbrev pub named_of_three : List ℕ → List ℕ → List ℕ → List ℕ → Option Command
named_of_three word first second third =
    if bytes_eq word (codes "compat") then Some (Compat first second third)
    else (if bytes_eq word (codes "fetch")
    then fetch_given (node_given first) (node_given second) third else None)

-- what the words ask for, where they are accepted: `compile ROOT`, `compat ROOT NEW OLD`, `versions
-- ROOT`, `changes OLD NEW`, `encode ROOT TYPE`, `decode ROOT TYPE`, `run ROOT PLAN`, `json ROOT
-- PLAN`, `bound ROOT PLAN`, `migrate ROOT PLAN`, `explain ROOT PLAN`, `gen NUMBER`, `order MICROS`,
-- `survey BUSES`, `nodes BUSES`, `monitor NODE`, `allocate NODE` or `fetch NODE SERVER PATH`
abbrev pub command_of : List (List ℕ) → Option Command
command_of [] = None
command_of (word ∷ []) = None
command_of (word ∷ argument ∷ []) =
    if is_argument argument then named_of_one word argument else None
command_of (word ∷ root ∷ argument ∷ []) =
    if are_arguments root argument then named_of_two word root argument else None
command_of (word ∷ first ∷ second ∷ third ∷ []) =
    if are_three first second third then named_of_three word first second third else None
command_of (word ∷ first ∷ second ∷ third ∷ more ∷ rest) = None
