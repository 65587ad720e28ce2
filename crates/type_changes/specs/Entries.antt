-- The types of two namespaces, each once.
use Rattle.std.specs.Prelude.{List, [], ◌∷◌, Option, Some, None, map}
use Rattle.std.specs.Option.{option_copied}
use Rattle.std.specs.declared.cmp.Ordering.TheVariants.{Less, Equal, Greater}
use Rattle.dsdl_names.specs.declared.TypeId.{TypeId}
use Rattle.dsdl_names.specs.Types.{type_order}
use Rattle.dsdl_types.specs.declared.definition.Definition.{Definition}
use Rattle.type_changes.specs.declared.entries.Entry as code

-- A type of either namespace: its name and version, and what the old and the new one define, where
-- they have it.
pub record Entry : Type 0 where
  pub id : TypeId
  pub old : Option Definition
  pub new : Option Definition

-- a type that the old namespace alone has
abbrev pub of_old : Definition → Entry
of_old old = record { id = old.id; old = Some old; new = None }

-- a type that the new namespace alone has
abbrev pub of_new : Definition → Entry
of_new new = record { id = new.id; old = None; new = Some new }

-- a type that both have
abbrev pub of_both : Definition → Definition → Entry
of_both old new = record { id = old.id; old = Some old; new = Some new }

-- the types of new definitions, with old ones that are given
abbrev pub Pairing : Type 0
Pairing = List Definition → List Entry

-- An old definition among the new ones, by name and version; what stands behind it is paired by
-- `behind`. New ones in front of it are of types that the old namespace hasn't got.
abbrev pub among : Definition → Pairing → Pairing
among old behind [] = of_old old ∷ behind []
among old behind (new ∷ news) = elim (type_order old.id new.id) [
  | Less ↦ of_old old ∷ behind (new ∷ news)
  | Equal ↦ of_both old new ∷ behind news
  | Greater ↦ of_new new ∷ among old behind news
]

-- The types of two namespaces by name and version, each once, where no two definitions of one are
-- of the same type: both are by name and version.
abbrev pub paired : List Definition → Pairing
paired [] news = map (λ new. of_new new) news
paired (old ∷ olds) news = among old (paired olds) news

-- an entry of the code as one of the definitions
abbrev pub entry_of : code.Entry → Entry
entry_of e = record { id = e.id.now; old = option_copied e.old; new = option_copied e.new }
