-- What is said of answers that aren't Ok.
use Rattle.std.specs.Prelude.{ℕ, List}
use Rattle.dsdl_resolve.specs.declared.error.DsdlError.{DsdlError}
use Rattle.dsdl_resolve.specs.declared.error.DsdlError.TheVariants as error
use Rattle.dsdl_resolve.specs.declared.why.DsdlWhy.{DsdlWhy}

-- P holds of the path, the line and the cause; of want of memory nothing is said
abbrev pub IsRefusal : (List ℕ → ℕ → DsdlWhy → Type 0) → DsdlError → Type 0
IsRefusal P (error.At file line why) = P file line why
IsRefusal P error.NoMemory = Unit {0}
