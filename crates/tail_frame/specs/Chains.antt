-- The records of one key, and the chains that they make.
use Rattle.std.specs.Prelude.{ℕ, Bool, cond, not, ◌&&◌, ◌==◌, ◌-◌, if◌then◌else◌, List, [], ◌∷◌}
use Rattle.std.specs.Prelude.{◌++◌, length, take, ⊤}

-- A record of one key, its frame taken apart. What came before it is a list of such records with
-- the newest first, and its place is the length of that list.
pub record KeyRecord : Type 0 where
  pub line : ℕ
  pub moment : ℕ
  pub bus : ℕ
  pub priority : ℕ
  pub start : Bool
  pub end : Bool
  pub toggle : Bool
  pub tid : ℕ
  pub body : List ℕ

-- two tests that differ
abbrev pub differs : Bool → Bool → Bool
differs a b = cond a (not b) b

-- P of each record and what came before it
abbrev pub AtEach : (KeyRecord → List KeyRecord → Type 0) → List KeyRecord → Type 0
AtEach P [] = ⊤
AtEach P (r ∷ past) = P r past × AtEach P past

-- whether r comes next in the chain of the start frame a whose last record so far is l
abbrev pub follows : KeyRecord → KeyRecord → KeyRecord → Bool
follows a l r = not l.end && (not r.start && ((r.bus == a.bus) && ((r.tid == a.tid) && differs l.toggle r.toggle)))

-- the last record so far of the chain of a, where these records came since, the newest first
abbrev pub tip : KeyRecord → List KeyRecord → KeyRecord
tip a [] = a
tip a (r ∷ since) = if follows a (tip a since) r then r else tip a since

-- the bytes of that chain so far, in a row
abbrev pub chain_bytes : KeyRecord → List KeyRecord → List ℕ
chain_bytes a [] = a.body
chain_bytes a (r ∷ since) = if follows a (tip a since) r then chain_bytes a since ++ r.body else chain_bytes a since

-- whether the chain closes at r, a record after a
abbrev pub closes_at : KeyRecord → List KeyRecord → KeyRecord → Bool
closes_at a since r = follows a (tip a since) r && r.end

-- all but the two bytes of the CRC
abbrev pub without_crc : List ℕ → List ℕ
without_crc bytes = take (length bytes - 2) bytes
