-- The files of types, as a map, and what is found with it.
use Rattle.std.specs.Prelude.{◌≡◌, ℕ, List, Some}
use Rattle.std.specs.BTreeMap.{BTreeMap, get}
use Rattle.std.specs.List.{HoldsAt}
use Rattle.dsdl_names.specs.declared.TypeId.{TypeId}
use Rattle.dsdl_names.specs.Types.{type_order}
use Rattle.dsdl_links.specs.declared.error.LinkError.{LinkError}
use Rattle.dsdl_links.specs.declared.error.LinkError.TheVariants as link
use Rattle.dsdl_links.specs.declared.source.Source.{Source}
use Rattle.dsdl_links.specs.Links.{file_of, AreLinksOf, missing_in}

-- each type has its file
abbrev pub ArePlaces : List Source → BTreeMap TypeId ℕ → Type 0
ArePlaces files places = (id : TypeId) → get type_order places id ≡ file_of files id

-- the file of this number has these links
abbrev pub LinksAt : List Source → ℕ → List ℕ → Type 0
LinksAt files file links = HoldsAt (λ f. AreLinksOf files f links) files file

-- the first mention of the file of this number that means no file, or want of memory
abbrev pub IsMissingAt : List Source → ℕ → LinkError → Type 0
IsMissingAt files file (link.Unresolved place line id) = (place ≡ file) × HoldsAt (λ f. missing_in files f ≡ Some (record { line = line; id = id })) files file
IsMissingAt files file link.NoMemory = Unit {0}
