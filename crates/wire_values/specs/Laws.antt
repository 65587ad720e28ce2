-- What `write_as` and `read_as` have in common.
use Rattle.std.specs.Prelude.{◌≡◌, ◌↔◌, ℕ, ◌≤◌, List, None, take}
use Rattle.dsdl_types.specs.Cast.{cast}
use Rattle.dsdl_types.specs.Fits.{Fits}
use Rattle.dsdl_types.specs.Laws.{Reads}
use Rattle.dsdl_types.specs.Newer.{Newer, as_new, as_old}
use Rattle.dsdl_types.specs.Rules.{IsSchema}
use Rattle.dsdl_types.specs.Schemas.{Sch}
use Rattle.dsdl_types.specs.Values.{Val}
use Rattle.wire_values.specs.Misfits.{misfit}
use Rattle.wire_values.specs.Results.{IsWritten}

-- A value has no misfit exactly where it is one of the schema.
abbrev pub FitsOrMisfit : Type 0
FitsOrMisfit = (s : Sch) (v : Val) → (misfit s v ≡ None) ↔ Fits s v

-- what was written, alone or with any number of the zeros behind it
abbrev pub WrittenReads : Sch → Sch → Val → Val → Type 0
WrittenReads writer reader v w = (n : ℕ) (out : List ℕ) → IsWritten writer v n out → (k : ℕ) → n ≤ k → Reads reader (take k out) w

-- What a schema wrote it reads as that value with its numbers in range.
abbrev pub RoundTrip : Type 0
RoundTrip = (s : Sch) → IsSchema s → (v : Val) → WrittenReads s s v (cast s v)

-- What a newer version wrote, an older one reads without what was added, and what an older one
-- wrote, a newer one reads with zeros in place of what was added. No serialized form is longer than
-- the extent, which both share, so the same holds of what is cut to it.
pub record VersionsRead (new old : Sch) : Type 0 where
  pub to_old : (v : Val) → WrittenReads new old v (as_old new old (cast new v))
  pub to_new : (w : Val) → WrittenReads old new w (as_new new old (cast old w))

abbrev pub Evolution : Type 0
Evolution = (new old : Sch) → IsSchema new → IsSchema old → Newer new old → VersionsRead new old
