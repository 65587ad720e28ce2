-- What is said of the versions of a namespace.
use Rattle.std.specs.Prelude.{◌≡◌, ◌↔◌, ℕ, List, [], ◌∷◌, ◌++◌, codes, map}
use Rattle.std.specs.List.{All, flat_map}
use Rattle.dsdl_types.specs.declared.definition.Definition.{Definition}
use Rattle.dsdl_types.specs.declared.namespace.Namespace.{Namespace}
use Rattle.layout_text.specs.Heads.{type_name}
use Rattle.layout_text.specs.Namespaces.{IsByName}
use Rattle.layout_text.specs.Words.{line_of}
use Rattle.compat_check.specs.Services.{both, parts_verdict, AreNewer}
use Rattle.compat_check.specs.declared.verdict.CompatWhy.{CompatWhy}
use Rattle.compat_check.specs.declared.verdict.CompatWhy.TheVariants as why
use Rattle.compat_check.specs.declared.verdict.Verdict.{Verdict}
use Rattle.compat_check.specs.declared.verdict.Verdict.TheVariants.{Yes, No}
use Rattle.type_versions.specs.Pairs.{version_pairs}

-- the word of why a type isn't newer
abbrev pub compat_why_text : CompatWhy → List ℕ
compat_why_text why.Kind = codes "Kind"
compat_why_text why.Sealing = codes "Sealing"
compat_why_text why.Extent = codes "Extent"
compat_why_text why.Sealed = codes "Sealed"
compat_why_text why.Count = codes "Count"
compat_why_text why.Gone = codes "gone"
compat_why_text why.Port = codes "port"

-- where a type isn't newer, and why
abbrev pub refusal_text : List ℕ → List ℕ → List ℕ
refusal_text path cause = codes "not newer at " ++ (path ++ (codes ": " ++ cause))

-- a verdict in words
abbrev pub verdict_text : Verdict → List ℕ
verdict_text Yes = codes "newer"
verdict_text (No path cause) = refusal_text path (compat_why_text cause)

-- the verdict on a version and the one before it
abbrev pub pair_verdict : Definition × Definition → Verdict
pair_verdict p = parts_verdict p.0.parts p.1.parts

-- both names with their versions, and a verdict
abbrev pub verdict_line : Definition × Definition → Verdict → List ℕ
verdict_line p verdict = line_of (type_name p.0.id ∷ type_name p.1.id ∷ verdict_text verdict ∷ [])

-- the line of a version and the one before it
abbrev pub pair_line : Definition × Definition → List ℕ
pair_line p = verdict_line p (pair_verdict p)

-- the first verdict that isn't yes, or yes where each is
abbrev pub first_refusal : List Verdict → Verdict
first_refusal [] = Yes
first_refusal (verdict ∷ verdicts) = both verdict (first_refusal verdicts)

-- a version is newer than the one before it
abbrev pub IsNewerPair : Definition × Definition → Type 0
IsNewerPair p = AreNewer p.0.parts p.1.parts

-- A line for each version of a namespace that has one before it, by name and version, and the first
-- verdict that isn't yes: each version is newer than the one before it exactly where that is yes.
pub record AreVersions (names : Namespace) (lines : List ℕ) (first : Verdict) : Type 0 where
  pub sorted : List Definition
  pub order : IsByName names.definitions sorted
  pub told : lines ≡ flat_map pair_line (version_pairs sorted)
  pub refused : first ≡ first_refusal (map pair_verdict (version_pairs sorted))
  pub newer : (first ≡ Yes) ↔ All IsNewerPair (version_pairs sorted)
