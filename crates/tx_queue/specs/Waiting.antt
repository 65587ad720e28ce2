-- The frames that wait to be sent: a list in the order of pushing.
use Rattle.std.specs.Prelude.{◌≡◌, ℕ, ◌-◌, ◌<◌, ◌≤◌, nat_lt, Bool, if◌then◌else◌, List, [], ◌∷◌}
use Rattle.std.specs.Prelude.{◌++◌, length, map, All, Option, Some, None}
use Rattle.frag.specs.Wire.{frames}
use Rattle.tx_queue.specs.declared.frame.OutFrame.{OutFrame}

-- data bytes with an identifier
abbrev pub out_frame : ℕ → List ℕ → OutFrame
out_frame ident bytes = record { ident = ident; bytes = bytes }

-- the frames of a transfer: the data bytes of each in its wire form, in frames of size m, with the
-- identifier
abbrev pub out_frames : ℕ → ℕ → List ℕ → ℕ → List OutFrame
out_frames ident m payload tid = map (out_frame ident) (frames m payload tid)

-- the number of these frames
abbrev pub needed : ℕ → List ℕ → ℕ → ℕ
needed m payload tid = length (frames m payload tid)

-- the number of places where no frame waits
abbrev pub free : ℕ → List OutFrame → ℕ
free places waiting = places - length waiting

-- whether a frame's identifier is less than another's: it has the higher priority
abbrev pub is_less : OutFrame → OutFrame → Bool
is_less f g = nat_lt f.ident g.ident

-- the least of a frame and those behind it, from the least of those and the others
abbrev pub least_of : OutFrame → List OutFrame → OutFrame × List OutFrame → OutFrame × List OutFrame
least_of f fs m = if is_less m.0 f then (m.0, f ∷ m.1) else (f, fs)

-- the first of the frames with the least identifier, and the others in their order
abbrev pub least : OutFrame → List OutFrame → OutFrame × List OutFrame
least f [] = (f, [])
least f (g ∷ gs) = least_of f (g ∷ gs) (least g gs)

-- the frame that leaves: none where nothing waits
abbrev pub leaving : List OutFrame → Option OutFrame
leaving [] = None
leaving (f ∷ fs) = Some (least f fs).0

-- those that stay
abbrev pub staying : List OutFrame → List OutFrame
staying [] = []
staying (f ∷ fs) = (least f fs).1

-- one of these frames has the least identifier, and is the first with it: those before it have
-- greater identifiers, and those behind it no less ones. The others stay in their order
pub record IsLeast (waiting : List OutFrame) (first : OutFrame)
    (others : List OutFrame) : Type 0 where
  pub before : List OutFrame
  pub behind : List OutFrame
  pub waiting_is : waiting ≡ before ++ first ∷ behind
  pub others_are : others ≡ before ++ behind
  pub greater : All (λ f. first.ident < f.ident) before
  pub not_less : All (λ f. first.ident ≤ f.ident) behind

-- of any list that isn't empty
abbrev pub LeastIsFirst : Type 0
LeastIsFirst = (f : OutFrame) (fs : List OutFrame) → IsLeast (f ∷ fs) (least f fs).0 (least f fs).1
