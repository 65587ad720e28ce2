-- The places of subscriptions, and a table of those of subjects.
use Rattle.std.specs.Prelude.{◌≡◌, ℕ, suc, ◌<◌, ◌==◌, ◌&&◌, nat_lt, set, if◌then◌else◌, List, []}
use Rattle.std.specs.Prelude.{◌∷◌, length, get_or, Option, Some, None, option_map}
use Rattle.std.specs.Coded.{Π_prop, Coded-set, coded_ℕ}
use Rattle.can_id.specs.declared.key.Kind.{Kind}
use Rattle.can_id.specs.declared.key.Kind.TheVariants.{Message}
use Rattle.rx_table.specs.Keys.{same_kind}
use Rattle.rx_table.specs.declared.port.Port.{Port}

-- the place of a kind and a number
abbrev pub place_of : {S : Type 0} → Kind → ℕ → List (Port S) → Option ℕ
place_of kind port [] = None
place_of kind port (p ∷ ps) =
    if same_kind kind p.kind && (port == p.port) then Some 0 else option_map suc (place_of kind port ps)

-- one more than a place, or 0 for none
abbrev pub place_code : Option ℕ → ℕ
place_code None = 0
place_code (Some place) = suc place

-- by the subject, the place of each subject that the table has
abbrev pub ArePlaces : {S : Type 0} → List ℕ → List (Port S) → Type 0
ArePlaces places ports =
    (subject : ℕ) → subject < length places → get_or places subject 0 ≡ place_code (place_of Message subject ports)

-- a table with the code of a subscription's place written, if it is for a subject that the table
-- has
abbrev pub with_code : List ℕ → Kind → ℕ → ℕ → List ℕ
with_code places kind port code =
    if same_kind Message kind && nat_lt port (length places) then set places port code else places

-- the places can be those of subscriptions in one way alone
pub ArePlaces-prop : {S : Type 0} (places : List ℕ) (ports : List (Port S))
    → IsProp (ArePlaces places ports)
ArePlaces-prop places ports =
    Π_prop (λ subject. Π_prop (λ _. Coded-set coded_ℕ (get_or places subject 0) (place_code (place_of Message subject ports))))
