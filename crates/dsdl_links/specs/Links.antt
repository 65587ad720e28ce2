-- Which file a reference means, and the first reference that means none.
use Rattle.std.specs.Prelude.{◌≡◌, ◌==◌, ◌&&◌, ℕ, Bool, List, ◌∷◌, ◌++◌, length, map, Option, Some}
use Rattle.std.specs.Prelude.{None, is_none, unwrap_or, All}
use Rattle.std.specs.List.{AllZip, find, position_from}
use Rattle.std.specs.Str.{bytes_eq}
use Rattle.dsdl_names.specs.declared.TypeId.{TypeId}
use Rattle.dsdl_links.specs.declared.source.Mention.{Mention}
use Rattle.dsdl_links.specs.declared.source.Source.{Source}

-- a file defines this type: the full name and the version are the same
abbrev pub defines : TypeId → Source → Bool
defines id file = bytes_eq file.id.name id.name && ((file.id.major == id.major) && (file.id.minor == id.minor))

-- the file that a type means: the first one in path order that defines it, by its number, counted
-- from 0
abbrev pub file_of : List Source → TypeId → Option ℕ
file_of files id = position_from (defines id) 0 files

-- for each file the number of the first one in path order that defines the same type
abbrev pub first_numbers : List Source → List ℕ
first_numbers files = map (λ f. unwrap_or (file_of files f.id) 0) files

-- a mention means this file
abbrev pub Means : List Source → Mention → ℕ → Type 0
Means files m file = file_of files m.id ≡ Some file

-- the files that a file's mentions mean, one each, in the order of the text
abbrev pub AreLinksOf : List Source → Source → List ℕ → Type 0
AreLinksOf files file links = AllZip (Means files) file.mentions links

-- the links of all files, in path order
abbrev pub AreLinks : List Source → List (List ℕ) → Type 0
AreLinks files links = AllZip (AreLinksOf files) files links

-- a mention means no file
abbrev pub is_missing : List Source → Mention → Bool
is_missing files m = is_none (file_of files m.id)

-- the first mention in the text of a file that means no file
abbrev pub missing_in : List Source → Source → Option Mention
missing_in files file = find (is_missing files) file.mentions

-- Unresolved: the first file in path order with a mention that means no file, and the first such
-- mention in its text.
pub record IsUnresolved (files : List Source) (file line : ℕ) (id : TypeId) : Type 0 where
  pub before : List Source
  pub at : Source
  pub behind : List Source
  pub parts : files ≡ before ++ at ∷ behind
  pub place : file ≡ length before
  pub missing : missing_in files at ≡ Some (record { line = line; id = id })
  pub earlier : All (λ f. missing_in files f ≡ None) before
