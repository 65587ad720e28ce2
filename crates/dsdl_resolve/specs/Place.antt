-- Places in a file. A file is a section, or two with `---` between them.
use Rattle.std.specs.Prelude.{List, [], ◌∷◌, ◌++◌, Bool, not, fold, if◌then◌else◌}
use Rattle.std.specs.List.{list_any, take_while, before_first}
use Rattle.dsdl_parse.specs.declared.statement.Statement.{Statement}
use Rattle.dsdl_resolve.specs.Says.{is_split, is_union, is_entry}

-- a statement, all that stand before it in its file, and those before and behind it in its section
pub record Place : Type 0 where
  pub file : List Statement
  pub before : List Statement
  pub at : Statement
  pub behind : List Statement

-- a section with one statement more, or the next one
abbrev pub onto_section : List Statement → Statement → List Statement
onto_section section s = if is_split s then [] else section ++ s ∷ []

-- the statements of the last section
abbrev pub last_section : List Statement → List Statement
last_section ss = fold onto_section [] ss

-- the place of a statement behind some of its file and before the others
abbrev pub place : List Statement → Statement → List Statement → Place
place front s back = record { file = front; before = last_section front; at = s; behind = before_first is_split back }

-- a section is a union where `@union` stands in it before all fields, paddings and constants
abbrev pub is_union_section : List Statement → Bool
is_union_section section = list_any is_union (take_while (λ s. not (is_entry s)) section)

-- the section of a place is a union
abbrev pub is_union_at : Place → Bool
is_union_at p = is_union_section (p.before ++ p.at ∷ p.behind)
