-- Whether what one definition stands for is newer than what another does: a message, or both halves
-- of a service.
use Rattle.std.specs.Prelude.{ℕ, List, ◌++◌, codes, if◌then◌else◌}
use Rattle.std.specs.Str.{bytes_eq}
use Rattle.dsdl_types.specs.Difference.{difference}
use Rattle.dsdl_types.specs.Newer.{Newer}
use Rattle.dsdl_types.specs.Views.{sch}
use Rattle.dsdl_types.specs.declared.definition.Parts.{Parts}
use Rattle.dsdl_types.specs.declared.definition.Parts.TheVariants as parts
use Rattle.compat_check.specs.Verdicts.{verdict_of}
use Rattle.compat_check.specs.declared.verdict.CompatWhy.TheVariants as why
use Rattle.compat_check.specs.declared.verdict.Verdict.{Verdict}
use Rattle.compat_check.specs.declared.verdict.Verdict.TheVariants.{Yes, No}

-- the way to a part of a service's half; a point alone is the whole half
abbrev pub half_path : List ℕ → List ℕ → List ℕ
half_path half path = if bytes_eq path (codes ".") then half else half ++ (codes "." ++ path)

-- a verdict on a half of a service
abbrev pub in_half : List ℕ → Verdict → Verdict
in_half half Yes = Yes
in_half half (No path cause) = No (half_path half path) cause

-- the first of two verdicts that isn't yes
abbrev pub both : Verdict → Verdict → Verdict
both Yes second = second
both (No path cause) second = No path cause

-- whether a message is newer than a message; of services whether the request is, and then whether
-- the response is; a message and a service are of other kinds
abbrev pub parts_verdict : Parts → Parts → Verdict
parts_verdict (parts.Message new) (parts.Message old) = verdict_of (difference (sch new) (sch old))
parts_verdict (parts.Service new newer) (parts.Service old older) =
    both (in_half (codes "request") (verdict_of (difference (sch new) (sch old))))
    (in_half (codes "response") (verdict_of (difference (sch newer) (sch older))))
parts_verdict new old = No (codes ".") why.Kind

-- a message is newer than a message, or both halves of a service are newer than those of another;
-- each then reads the payloads of the other (`dsdl_types::laws::evolution`)
abbrev pub AreNewer : Parts → Parts → Type 0
AreNewer (parts.Message new) (parts.Message old) = Newer (sch new) (sch old)
AreNewer (parts.Service new newer) (parts.Service old older) =
    Newer (sch new) (sch old) × Newer (sch newer) (sch older)
AreNewer new old = ⊥
