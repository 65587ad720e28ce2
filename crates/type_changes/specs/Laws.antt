-- Laws of what is said of two namespaces.
use Rattle.std.specs.Prelude.{◌≡◌, ◌↔◌, ℕ, ◌≤◌, ⊤, Bool, false, List, [], ◌∷◌, length, Option, None}
use Rattle.std.specs.List.{filter}
use Rattle.dsdl_names.specs.declared.TypeId.{TypeId}
use Rattle.dsdl_types.specs.Finding.{same_id}
use Rattle.dsdl_types.specs.declared.definition.Definition.{Definition}
use Rattle.dsdl_types.specs.Schemas.{Sch}
use Rattle.dsdl_types.specs.Values.{Val}
use Rattle.dsdl_types.specs.Reading.{Step, Why}
use Rattle.dsdl_types.specs.Laws.{Reads, Unreadable, encoding}
use Rattle.compat_check.specs.declared.verdict.Verdict.TheVariants.{Yes}
use Rattle.type_changes.specs.Entries.{Entry}
use Rattle.type_changes.specs.Lines.{has_moved}
use Rattle.type_changes.specs.declared.line.Line.{Line}
use Rattle.type_changes.specs.declared.change.Change.{Change}
use Rattle.type_changes.specs.declared.change.Change.TheVariants.{Same, Renamed, Compared, Added, Gone}

-- what is said is `same`, `renamed` or `newer`
abbrev pub IsNewer : Change → Type 0
IsNewer Same = ⊤
IsNewer Renamed = ⊤
IsNewer (Compared verdict) = verdict ≡ Yes
IsNewer Added = ⊥
IsNewer Gone = ⊥

-- Both write equal bytes for every value, and read equal values of every bytes, or refuse them alike.
pub record SameBytes (a b : Sch) : Type 0 where
  pub writes : (v : Val) → encoding a v ≡ encoding b v
  pub reads : (bytes : List ℕ) (v : Val) → Reads a bytes v ↔ Reads b bytes v
  pub refuses : (bytes : List ℕ) (path : List Step) (why : Why)
      → Unreadable a bytes path why ↔ Unreadable b bytes path why

-- a type of two namespaces, the other way round
abbrev pub swapped : Entry → Entry
swapped e = record { id = e.id; old = e.new; new = e.old }

-- a definition is of this type
abbrev pub is_of : TypeId → Definition → Bool
is_of id d = same_id d.id id

-- of each type there is one definition at most
abbrev pub AreDistinct : List Definition → Type 0
AreDistinct ds = (id : TypeId) → length (filter (is_of id) ds) ≤ 1

-- one entry of a type, where either namespace has it
abbrev pub entry_where : TypeId → Option Definition → Option Definition → List Entry
entry_where id None None = []
entry_where id old new = record { id = id; old = old; new = new } ∷ []

-- ---- the other way round
-- what is said, verdicts aside
abbrev pub plain : Change → Change
plain (Compared verdict) = Compared Yes
plain change = change

-- the same where the old and the new one change places
abbrev pub turned : Change → Change
turned Added = Gone
turned Gone = Added
turned change = plain change

-- the same of lines
abbrev pub plain_line : Line → Line
plain_line l = record {
  name = l.name;
  change = plain l.change;
  old_port = l.old_port;
  new_port = l.new_port;
}

abbrev pub turned_line : Line → Line
turned_line l = record {
  name = l.name;
  change = turned l.change;
  old_port = l.new_port;
  new_port = l.old_port;
}

-- a line says `same`, and nothing of ports
abbrev pub IsSame : Line → Type 0
IsSame l = (l.change ≡ Same) × (has_moved l ≡ false)
