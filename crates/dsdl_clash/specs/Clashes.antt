-- Which definitions of a namespace clash: by their versions, or by their ports.
use Rattle.std.specs.Prelude.{ℕ, ◌==◌, ◌&&◌, ◌||◌, Bool, true, false, not, List, [], ◌∷◌, ◌++◌}
use Rattle.std.specs.Prelude.{length, Option, Some, None, if◌then◌else◌}
use Rattle.std.specs.List.{list_any}
use Rattle.std.specs.Str.{bytes_eq}
use Rattle.dsdl_types.specs.Schemas.{Sch, is_delimited, extent_of}
use Rattle.dsdl_types.specs.Views.{sch}
use Rattle.dsdl_types.specs.declared.definition.Definition.{Definition}
use Rattle.dsdl_types.specs.declared.definition.Parts.{Parts}
use Rattle.dsdl_types.specs.declared.definition.Parts.TheVariants as parts

-- a test of a definition and of one behind it in path order
abbrev pub Clash : Type 0
Clash = Definition → Definition → Bool

-- two definitions have the same full name
abbrev pub same_name : Clash
same_name a b = bytes_eq a.id.name b.id.name

-- two truth values are equal
abbrev pub same_truth : Bool → Bool → Bool
same_truth true b = b
same_truth false b = not b

-- two composites have the same extent and the same sealing
abbrev pub same_outline : Sch → Sch → Bool
same_outline s t = (extent_of s == extent_of t) && same_truth (is_delimited s) (is_delimited t)

-- two messages, or two services
abbrev pub same_kind : Parts → Parts → Bool
same_kind (parts.Message s) (parts.Message t) = true
same_kind (parts.Message s) (parts.Service request response) = false
same_kind (parts.Service request response) (parts.Message t) = false
same_kind (parts.Service request response) (parts.Service asked answered) = true

-- The kinds, the extents and the sealings are the same; of a service those of each half.
abbrev pub same_outlines : Parts → Parts → Bool
same_outlines (parts.Message s) (parts.Message t) = same_outline (sch s) (sch t)
same_outlines (parts.Message s) (parts.Service request response) = false
same_outlines (parts.Service request response) (parts.Message t) = false
same_outlines (parts.Service request response) (parts.Service asked answered) = same_outline (sch request) (sch asked) && same_outline (sch response) (sch answered)

-- Versions clash, of the same full name and major number: where the minor numbers are equal, and,
-- where the major number isn't 0, where the kinds, an extent or a sealing differ.
abbrev pub versions_clash : Clash
versions_clash a b =
    same_name a b
    && ((a.id.major == b.id.major)
    && ((a.id.minor == b.id.minor) || (not (a.id.major == 0) && not (same_outlines a.parts b.parts))))

-- both have a port, and it is the same
abbrev pub same_port : Option ℕ → Option ℕ → Bool
same_port (Some m) (Some n) = m == n
same_port (Some m) None = false
same_port None p = false

-- Ports clash, of the same kind and the same port: where the full names differ, and, where they are
-- the same, where the major numbers differ and neither is 0.
abbrev pub ports_clash : Clash
ports_clash a b =
    same_port a.port b.port
    && (same_kind a.parts b.parts
    && (not (same_name a b) || (not (a.id.major == b.id.major) && (not (a.id.major == 0) && not (b.id.major == 0)))))

-- a definition clashes with one of those before it
abbrev pub clashes_with : Clash → List Definition → Definition → Bool
clashes_with clash before d = list_any (λ a. clash a d) before

-- the first of the definitions behind these that clashes with one before it, by its number, counted
-- from 0
abbrev pub first_clash_behind : Clash → List Definition → List Definition → Option ℕ
first_clash_behind clash before [] = None
first_clash_behind clash before (d ∷ ds) = if clashes_with clash before d then Some (length before) else first_clash_behind clash (before ++ d ∷ []) ds

-- the first definition that clashes with one before it, by its number, counted from 0
abbrev pub first_clash : Clash → List Definition → Option ℕ
first_clash clash ds = first_clash_behind clash [] ds
