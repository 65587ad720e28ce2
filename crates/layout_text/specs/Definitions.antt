-- The text of a definition.
use Rattle.std.specs.Prelude.{◌≡◌, ℕ, List, [], ◌∷◌, ◌++◌, take, drop, Option}
use Rattle.dsdl_names.specs.declared.TypeId.{TypeId}
use Rattle.dsdl_types.specs.Schemas.{Sch}
use Rattle.dsdl_types.specs.Definitions.{typed_count}
use Rattle.dsdl_types.specs.Views.{sch}
use Rattle.dsdl_types.specs.declared.definition.Definition.{Definition}
use Rattle.dsdl_types.specs.declared.definition.Parts.{Parts}
use Rattle.dsdl_types.specs.declared.definition.Parts.TheVariants as parts
use Rattle.layout.specs.Layouts.{fields_of}
use Rattle.layout_text.specs.Fields.{AreFieldLines}
use Rattle.layout_text.specs.Heads.{IsTypeLine}
use Rattle.layout_text.specs.declared.head.Role.{Role}
use Rattle.layout_text.specs.declared.head.Role.TheVariants.{Message, Request, Response}

-- the first line of a composite, and those of its fields
pub record IsTypeText (role : Role) (id : TypeId) (port : Option ℕ) (s : Sch)
    (types : List (List ℕ)) (text : List ℕ) : Type 0 where
  pub line : List ℕ
  pub lines : List ℕ
  pub heads : IsTypeLine role id port s line
  pub fields : AreFieldLines s 0 (fields_of s) types lines
  pub is : text ≡ line ++ lines

-- a message; or a service's request, which has the first of the types' texts, and then its response
abbrev pub ArePartsText : TypeId → Option ℕ → List (List ℕ) → Parts → List ℕ → Type 0
ArePartsText id port types (parts.Message s) text = IsTypeText Message id port (sch s) types text
ArePartsText id port types (parts.Service request response) text =
    (asked : List ℕ) × (answered : List ℕ) × IsTypeText Request id port (sch request) (take (typed_count (sch request)) types) asked × IsTypeText Response id port (sch response) (drop (typed_count (sch request)) types) answered × (text ≡ asked ++ answered)

-- the text of a definition
abbrev pub IsDefinitionText : Definition → List ℕ → Type 0
IsDefinitionText d text = ArePartsText d.id d.port d.types d.parts text

-- the texts of definitions, in order
abbrev pub AreDefinitionTexts : List Definition → List ℕ → Type 0
AreDefinitionTexts [] text = text ≡ []
AreDefinitionTexts (d ∷ ds) text = (own : List ℕ) × (rest : List ℕ) × IsDefinitionText d own × AreDefinitionTexts ds rest × (text ≡ own ++ rest)
