-- What a function that reads words answers, want of memory aside.
use Rattle.std.specs.Prelude.{◌≡◌, List, Option, Some, None, Result, Ok, Err}
use Rattle.dsdl_parse.specs.Words.{Word}
use Rattle.dsdl_parse.specs.declared.read_error.ReadError.{ReadError}
use Rattle.dsdl_parse.specs.declared.read_error.ReadError.TheVariants.{Syntax, NoMemory}

-- nothing was there to read, or memory ran out
abbrev pub Refuses : {A : Type 0} → ReadError → Option A → Type 0
Refuses Syntax o = o ≡ None
Refuses NoMemory o = Unit {0}

-- it read this and left these words
abbrev pub Gives : {A : Type 0} → Option (A × List Word) → Result A ReadError → List Word → Type 0
Gives o (Ok x) left = o ≡ Some (x, left)
Gives o (Err e) left = Refuses e o
