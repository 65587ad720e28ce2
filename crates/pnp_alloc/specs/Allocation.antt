-- Who gets which node-ID. Events are a list with the newest first; `past` is what came before an
-- event.
use Rattle.std.specs.Prelude.{ℕ, zero, suc, Bool, false, not, ◌&&◌, ◌||◌, ◌==◌, if◌then◌else◌, List}
use Rattle.std.specs.Prelude.{[], ◌∷◌, ◌++◌, Option, Some, None}
use Rattle.pnp_alloc.specs.declared.event.AllocEvent.{AllocEvent}
use Rattle.pnp_alloc.specs.declared.event.AllocEvent.TheVariants.{Seen, Wanted}
use Rattle.pnp_alloc.specs.declared.event.AllocOut.{AllocOut}
use Rattle.pnp_alloc.specs.declared.event.AllocOut.TheVariants.{Noted, Given, Full}
use Rattle.pnp_alloc.specs.declared.event.Owner.{Owner}

-- whether the node n was seen
abbrev pub is_seen : List AllocEvent → ℕ → Bool
is_seen [] n = false
is_seen (Seen m ∷ past) n = (m == n) || is_seen past n
is_seen (Wanted u ∷ past) n = is_seen past n

-- the node-ID of the unique id u among these owners
abbrev pub node_of : ℕ → List Owner → Option ℕ
node_of u [] = None
node_of u (o ∷ os) = if o.uid == u then Some o.node else node_of u os

-- whether one of these owners has the node-ID n
abbrev pub has_node : List Owner → ℕ → Bool
has_node [] n = false
has_node (o ∷ os) n = (o.node == n) || has_node os n

-- whether the number n is free: it isn't the allocator's own, wasn't seen, and none of these owners
-- has it
abbrev pub is_free : ℕ → List AllocEvent → List Owner → ℕ → Bool
is_free own past os n = not (own == n) && (not (is_seen past n) && not (has_node os n))

-- the greatest number from 1 to k with this property
unfoldable pub greatest : (ℕ → Bool) → ℕ → Option ℕ
greatest p zero = None
greatest p (suc k) = if p (suc k) then Some (suc k) else greatest p k

-- the greatest free number from 1 to 125
abbrev pub greatest_free : ℕ → List AllocEvent → List Owner → Option ℕ
greatest_free own past os = greatest (is_free own past os) 125

-- owners with u and a number behind them, if there is one
abbrev pub with_owner : ℕ → Option ℕ → List Owner → List Owner
with_owner u None os = os
with_owner u (Some n) os = os ++ record { uid = u; node = n } ∷ []

-- these owners after u wants a node-ID: one that has a node-ID changes nothing, any other gets the
-- number
abbrev pub owners_with : ℕ → Option ℕ → Option ℕ → List Owner → List Owner
owners_with u (Some n) number os = os
owners_with u None number os = with_owner u number os

-- the first Givens, in the order of giving
abbrev pub owners : ℕ → List AllocEvent → List Owner
owners own [] = []
owners own (Seen n ∷ past) = owners own past
owners own (Wanted u ∷ past) = owners_with u (node_of u (owners own past)) (greatest_free own past (owners own past)) (owners own past)

-- a node-ID as an answer: Full where there is none
abbrev pub given : Option ℕ → AllocOut
given None = Full
given (Some n) = Given n

-- the answer to a unique id: the node-ID that it has, else this number
abbrev pub given_to : Option ℕ → Option ℕ → AllocOut
given_to (Some n) number = Given n
given_to None number = given number

-- the answer to an event
abbrev pub answer : ℕ → AllocEvent → List AllocEvent → AllocOut
answer own (Seen n) past = Noted
answer own (Wanted u) past = given_to (node_of u (owners own past)) (greatest_free own past (owners own past))
