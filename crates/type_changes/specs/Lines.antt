-- What is said of the types of two namespaces: a line for each message, and for each half of a
-- service.
use Rattle.std.specs.Prelude.{◌≡◌, ◌↔◌, ℕ, ◌==◌, ◌&&◌, not, Bool, true, false, if◌then◌else◌}
use Rattle.std.specs.Prelude.{List, [], ◌∷◌, ◌++◌, codes, map, Option, Some, None, ⊤}
use Rattle.std.specs.List.{All, flat_map}
use Rattle.std.specs.Str.Lossy.{utf8_lossy}
use Rattle.dsdl_types.specs.Newer.{Newer}
use Rattle.dsdl_types.specs.Views.{sch}
use Rattle.dsdl_types.specs.declared.schema.Schema.{Schema}
use Rattle.dsdl_types.specs.declared.definition.Definition.{Definition}
use Rattle.dsdl_types.specs.declared.definition.Parts.{Parts}
use Rattle.dsdl_types.specs.declared.namespace.Namespace.{Namespace}
use Rattle.layout_text.specs.Heads.{port_text, type_name}
use Rattle.layout_text.specs.Namespaces.{IsByName}
use Rattle.compat_check.specs.Services.{both}
use Rattle.compat_check.specs.declared.verdict.CompatWhy.TheVariants as why
use Rattle.compat_check.specs.declared.verdict.Verdict.{Verdict}
use Rattle.compat_check.specs.declared.verdict.Verdict.TheVariants.{Yes, No}
use Rattle.type_versions.specs.Lines.{verdict_text, first_refusal}
use Rattle.type_changes.specs.Entries.{Entry, paired}
use Rattle.type_changes.specs.Halves.{in_parts, message_in, request_in, response_in, port_in}
use Rattle.type_changes.specs.Said.{change_of}
use Rattle.type_changes.specs.declared.change.Change.{Change}
use Rattle.type_changes.specs.declared.change.Change.TheVariants.{Same, Renamed, Compared, Added, Gone}
use Rattle.type_changes.specs.declared.line.Line.{Line}

-- ---- the lines
-- a line on a type, with what stands behind its name, where something is said of it
abbrev pub line_where : Entry → List ℕ → Option Change → List Line
line_where e half None = []
line_where e half (Some change) = record {
  name = type_name e.id ++ half;
  change = change;
  old_port = port_in e.old;
  new_port = port_in e.new;
} ∷ []

-- the line of a message or of a half of a service, where either namespace has it
abbrev pub half_line : Entry → List ℕ → (Parts → Option Schema) → List Line
half_line e half schema = line_where e half (change_of (in_parts schema e.old) (in_parts schema e.new))

-- the lines of a type: that of a message, and those of a service's halves, the request's first
abbrev pub entry_lines : Entry → List Line
entry_lines e =
    half_line e [] message_in
    ++ (half_line e (codes ".Request") request_in ++ half_line e (codes ".Response") response_in)

-- the lines of types, in order
abbrev pub lines_of : List Entry → List Line
lines_of entries = flat_map entry_lines entries

-- ---- their text
abbrev pub change_text : Change → List ℕ
change_text Same = codes "same"
change_text Renamed = codes "renamed"
change_text (Compared verdict) = verdict_text verdict
change_text Added = codes "added"
change_text Gone = codes "gone"

-- both namespaces have it
abbrev pub is_in_both : Change → Bool
is_in_both Added = false
is_in_both Gone = false
is_in_both change = true

-- two ports are one, or neither is there
abbrev pub same_port : Option ℕ → Option ℕ → Bool
same_port None None = true
same_port (Some m) (Some n) = m == n
same_port m n = false

-- both have it, and the ports differ
abbrev pub has_moved : Line → Bool
has_moved l = is_in_both l.change && not (same_port l.old_port l.new_port)

-- the old and the new port, where they differ
abbrev pub ports_text : Line → List ℕ
ports_text l =
    if has_moved l then codes " port " ++ (port_text l.old_port ++ 32 ∷ port_text l.new_port) else []

abbrev pub line_text : Line → List ℕ
line_text l = l.name ++ 32 ∷ (change_text l.change ++ (ports_text l ++ 10 ∷ []))

-- ---- the first harm
-- the verdict on the schemas; yes where they are one, names aside, or one alone is there
abbrev pub refusal : Change → Verdict
refusal (Compared verdict) = verdict
refusal change = Yes

-- no port, or this one
abbrev pub keeps_port : Option ℕ → Option ℕ → Bool
keeps_port None new = true
keeps_port (Some m) new = same_port (Some m) new

-- the old namespace's port is no longer the one of the new one
abbrev pub loses_port : Line → Bool
loses_port l = is_in_both l.change && not (keeps_port l.old_port l.new_port)

-- A type that is gone, or whose port was another one, with its name as the path. A name is a text;
-- of bytes that are none, which no file's name has, it is the nearest one.
abbrev pub loss_of : Change → Line → Verdict
loss_of Gone l = No (utf8_lossy l.name) why.Gone
loss_of change l = if loses_port l then No (utf8_lossy l.name) why.Port else Yes

abbrev pub loss : Line → Verdict
loss l = loss_of l.change l

-- the first verdict that isn't yes, or else the first loss
abbrev pub first_harm : List Line → Verdict
first_harm lines = both (first_refusal (map (λ l. refusal l.change) lines)) (first_refusal (map loss lines))

-- ---- what is harmless
-- what an old namespace has of a type the new one has too, newer and with the same fixed port, where
-- there was one
abbrev pub IsKept : Option ℕ → Option ℕ → Option Schema → Option Schema → Type 0
IsKept port new_port None new = ⊤
IsKept port new_port (Some old) None = ⊥
IsKept port new_port (Some old) (Some new) =
    Newer (sch new) (sch old) × (keeps_port port new_port ≡ true)

-- so of a message, and of both halves of a service
abbrev pub IsHarmless : Entry → Type 0
IsHarmless e =
    IsKept (port_in e.old) (port_in e.new) (in_parts message_in e.old) (in_parts message_in e.new)
    × IsKept (port_in e.old) (port_in e.new) (in_parts request_in e.old) (in_parts request_in e.new)
    × IsKept (port_in e.old) (port_in e.new) (in_parts response_in e.old) (in_parts response_in e.new)

-- ---- the whole
-- The lines of the types of an old and a new namespace, by name and version, and the first harm:
-- there is none exactly where all that the old one has is kept.
pub record AreChanges (old new : Namespace) (lines : List ℕ) (first : Verdict) : Type 0 where
  pub olds : List Definition
  pub news : List Definition
  pub old_order : IsByName old.definitions olds
  pub new_order : IsByName new.definitions news
  pub told : lines ≡ flat_map line_text (lines_of (paired olds news))
  pub harm : first ≡ first_harm (lines_of (paired olds news))
  pub harmless : (first ≡ Yes) ↔ All IsHarmless (paired olds news)
