-- The files that refer to a file.
use Rattle.std.specs.Prelude.{◌≡◌, ◌==◌, ◌&&◌, ◌||◌, ℕ, List, length}
use Rattle.dsdl_links.specs.Order.{is_among, links_at}

-- for each file those that refer to it
pub record AreUsers (links users : List (List ℕ)) : Type 0 where
  pub count : length users ≡ length links
  pub refer : (i j : ℕ) → is_among (links_at users j) i ≡ is_among (links_at links i) j

-- the file of this number is one more user of these files, and of no other
pub record AddsUser (files : List ℕ) (user : ℕ) (old new : List (List ℕ)) : Type 0 where
  pub count : length new ≡ length old
  pub users : (i j : ℕ) →
      is_among (links_at new j) i
      ≡ (is_among (links_at old j) i || ((i == user) && is_among files j))
