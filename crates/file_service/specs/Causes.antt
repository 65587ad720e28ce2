-- When the tree is called, and when it failed.
use Rattle.std.specs.Prelude.{◌≡◌, ℕ, Bool, MatchBool, ⊤}
use Rattle.cy_outside.specs.Calls.{one_more}
use Rattle.file_service.specs.declared.place.Place.{Place}
use Rattle.file_service.specs.declared.place.Place.TheVariants.{Invalid, Root, At}

-- where an answer tells that the tree failed, it counted one fault; every other answer leaves the
-- count as it was
abbrev pub TellsFault : Bool → ℕ → ℕ → Type 0
TellsFault failed old new = MatchBool failed (new ≡ one_more old) (new ≡ old)

-- a place where the tree isn't asked what stands there
abbrev pub IsKnown : Place → Type 0
IsKnown Invalid = ⊤
IsKnown Root = ⊤
IsKnown (At path) = ⊥
