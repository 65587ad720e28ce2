-- What is held of the lines of a log.
use Rattle.std.specs.Prelude.{◌≡◌, ◌<◌, ◌++◌, ◌+◌, ℕ, Bool, true, false, List, Option, Some, None}
use Rattle.std.specs.Prelude.{[], ◌∷◌, length, map, max, nat_le, ⊤}
use Rattle.line_order.specs.Moments.{AreBefore, AreUpTo, Rises, put_all}
use Rattle.line_order.specs.Order.{Entry, entry, entries_of, greatest, ordered, put, due, is_due}
use Rattle.line_order.specs.Order.{texts}
use Rattle.line_order.specs.Queue.{queued}
use Rattle.line_order.specs.Row.{Pops, first_moment}
use Rattle.line_order.specs.declared.orderer.Orderer.{Orderer}
use Rattle.line_order.specs.declared.window.Window.{Window}

-- the entries that came late, in order
abbrev pub late_of : Window → List Entry
late_of w = map (λ p. entry p.0.moment p.0.number (p.1.items ++ 10 ∷ [])) w.late.entries

-- the entries that are held, in order
abbrev pub held_of : Window → List Entry
held_of w = put_all (late_of w) (queued w.queue)

-- how many lines are held
abbrev pub count_of : Window → ℕ
count_of w = length (late_of w) + length (queued w.queue)

-- no moment is above the latest, and those of lines that came late are before it and in order
pub record IsSound (w : Window) : Type 0 where
  pub up_to : AreUpTo w.latest (queued w.queue)
  pub before : AreBefore w.latest (late_of w)
  pub rises : Rises (late_of w)

-- the numbers of entries are below this one
abbrev pub AreBelow : ℕ → List Entry → Type 0
AreBelow n [] = ⊤
AreBelow n (e ∷ es) = (e.number < n) × AreBelow n es

-- each of these entries is due
abbrev pub AreDue : ℕ → ℕ → List Entry → Type 0
AreDue window latest [] = ⊤
AreDue window latest (e ∷ es) = (is_due window latest e ≡ true) × AreDue window latest es

-- whether there is a first entry that is due
abbrev pub first_due : ℕ → ℕ → List Entry → Bool
first_due window latest [] = false
first_due window latest (e ∷ es) = is_due window latest e

-- whether there is a moment, and it is this one at most
abbrev pub is_up_to : ℕ → Option ℕ → Bool
is_up_to limit None = false
is_up_to limit (Some m) = nat_le m limit

-- whether there is a first entry whose moment is this one at most
abbrev pub first_up_to : ℕ → List Entry → Bool
first_up_to limit es = is_up_to limit (first_moment es)

-- an entry was put at its place
pub record Puts (e : Entry) (old new : Window) : Type 0 where
  pub held : held_of new ≡ put e (held_of old)
  pub latest : new.latest ≡ max old.latest e.moment
  pub sound : IsSound new

-- the first line was let go and gathered, or there is none
pub record LetsGo (old new : Window) (before after : List ℕ) (some : Bool) : Type 0 where
  pub pops : Pops (held_of old) (held_of new) before after some
  pub latest : new.latest ≡ old.latest
  pub sound : IsSound new

-- the first entries, which are due, were let go and gathered
pub record Releases (window latest : ℕ) (old new : List Entry)
    (before after : List ℕ) : Type 0 where
  pub gone : List Entry
  pub parts : old ≡ gone ++ new
  pub all_due : AreDue window latest gone
  pub text : after ≡ before ++ texts gone

-- the first lines, whose moments are this one at most, were let go and gathered
pub record HasLetGo (limit : ℕ) (old new : Window) (before after : List ℕ) : Type 0 where
  pub gone : List Entry
  pub parts : held_of old ≡ gone ++ held_of new
  pub up_to : AreUpTo limit gone
  pub text : after ≡ before ++ texts gone
  pub latest : new.latest ≡ old.latest
  pub sound : IsSound new

-- the first lines, which are due, were let go and gathered
pub record HasReleased (window : ℕ) (old new : Window) (before after : List ℕ) : Type 0 where
  pub released : Releases window new.latest (held_of old) (held_of new) before after
  pub latest : new.latest ≡ old.latest
  pub sound : IsSound new

-- lines that were heard, newest first, in a window: those that aren't due are held
pub record Holds (window : ℕ) (held : Window) (past : List (List ℕ)) : Type 0 where
  pub latest : held.latest ≡ greatest (entries_of past)
  pub parts : ordered (entries_of past) ≡ due window (entries_of past) ++ held_of held
  pub sound : IsSound held

-- what was at first and heard these lines since
abbrev pub HasTaken : Orderer → Orderer → List (List ℕ) → Type 0
HasTaken first now past = (now.window ≡ first.window) × Holds first.window now.held past
