-- The first line of a composite.
use Rattle.std.specs.Prelude.{◌≡◌, ℕ, Bool, true, false, List, [], ◌∷◌, ◌++◌, Option, Some, None}
use Rattle.std.specs.Prelude.{codes, decimal}
use Rattle.dsdl_names.specs.declared.TypeId.{TypeId}
use Rattle.dsdl_types.specs.Schemas.{Sch, is_delimited, extent_of}
use Rattle.dsdl_types.specs.Lengths.{Length}
use Rattle.layout_text.specs.Sets.{IsSetText}
use Rattle.layout_text.specs.Words.{line_of, spaced}
use Rattle.layout_text.specs.declared.head.Role.{Role}
use Rattle.layout_text.specs.declared.head.Role.TheVariants.{Message, Request, Response}

-- the dotted name with its version
abbrev pub type_name : TypeId → List ℕ
type_name id = id.name ++ codes "." ++ decimal id.major ++ codes "." ++ decimal id.minor

-- what stands behind the name
abbrev pub half_text : Role → List ℕ
half_text Message = []
half_text Request = codes ".Request"
half_text Response = codes ".Response"

abbrev pub kind_text : Role → List ℕ
kind_text Message = codes "message"
kind_text Request = codes "service"
kind_text Response = codes "service"

abbrev pub port_text : Option ℕ → List ℕ
port_text None = codes "-"
port_text (Some port) = decimal port

-- what is named, what it is used for, and its port
abbrev pub named_words : Role → TypeId → Option ℕ → List (List ℕ)
named_words role id port = codes "type" ∷ (type_name id ++ half_text role) ∷ kind_text role ∷ port_text port ∷ []

abbrev pub sealing_text : Bool → List ℕ
sealing_text true = codes "delimited"
sealing_text false = codes "sealed"

-- the extent in bits, the sealing and the lengths
abbrev pub outline_words : Sch → List ℕ → List (List ℕ)
outline_words s lengths = codes "extent" ∷ decimal (extent_of s) ∷ sealing_text (is_delimited s) ∷ codes "lengths" ∷ lengths ∷ []

-- The first line of a composite. Its lengths are those without a delimiter header.
pub record IsTypeLine (role : Role) (id : TypeId) (port : Option ℕ) (s : Sch)
    (line : List ℕ) : Type 0 where
  pub lengths : List ℕ
  pub whole : IsSetText (Length s) lengths
  pub is : line ≡ spaced (named_words role id port) ++ line_of (outline_words s lengths)
