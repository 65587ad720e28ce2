-- The order of types, and what is known of one that was read.
use Rattle.std.specs.Prelude.{◌≡◌, ℕ, ◌+◌, ◌<◌, ◌≤◌, true, false, length, Option, IfSome}
use Rattle.std.specs.List.{list_all, list_any}
use Rattle.std.specs.declared.cmp.Ordering.{Ordering}
use Rattle.std.specs.Ordering.{ordering_then, nat_cmp}
use Rattle.std.specs.Cmp.Lexicographic.{slice_cmp}
use Rattle.dsdl_names.specs.Parts.{names_of}
use Rattle.dsdl_names.specs.Words.{is_name, is_reserved}
use Rattle.dsdl_names.specs.declared.TypeId.{TypeId}

-- by the bytes of the dotted names, then by the major and then by the minor number of the version
abbrev pub type_order : TypeId → TypeId → Ordering
type_order a b = ordering_then (slice_cmp nat_cmp a.name b.name) (ordering_then (nat_cmp a.major b.major) (nat_cmp a.minor b.minor))

-- names with points between them, none of them kept for the language, at most 255 bytes; not
-- version 0.0
pub record IsType (id : TypeId) : Type 0 where
  pub are_names : list_all is_name (names_of id.name) ≡ true
  pub none_reserved : list_any is_reserved (names_of id.name) ≡ false
  pub count : length (names_of id.name) ≤ 128
  pub in_bounds : length id.name ≤ 255
  pub some_version : 0 < id.major + id.minor

-- a port that may stand in a file's name
abbrev pub IsPort : Option ℕ → Type 0
IsPort port = IfSome port (λ p. p ≤ 8191)
