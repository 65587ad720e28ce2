-- What is said of answers that aren't Ok.
use Rattle.std.specs.Prelude.{ℕ, List}
use Rattle.dsdl_links.specs.declared.error.LinkError.{LinkError}
use Rattle.dsdl_links.specs.declared.error.LinkError.TheVariants as link
use Rattle.dsdl_links.specs.declared.error.CycleError.{CycleError}
use Rattle.dsdl_links.specs.declared.error.CycleError.TheVariants as cycle
use Rattle.dsdl_links.specs.declared.source.Source.{Source}
use Rattle.dsdl_links.specs.Links.{IsUnresolved}
use Rattle.dsdl_links.specs.Order.{IsCycle}

-- the first reference to no file, or want of memory
abbrev pub IsLinkError : List Source → LinkError → Type 0
IsLinkError files (link.Unresolved file line id) = IsUnresolved files file line id
IsLinkError files link.NoMemory = Unit {0}

-- the first file that reaches itself, or want of memory
abbrev pub IsCycleError : List (List ℕ) → CycleError → Type 0
IsCycleError links (cycle.Cycle file) = IsCycle links file
IsCycleError links cycle.NoMemory = Unit {0}
