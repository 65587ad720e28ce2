-- Which files references mean, and the order in which files are valued, are one.
use Rattle.std.specs.Prelude.{◌≡◌, ◌⊎◌, ℕ, List}
use Rattle.dsdl_names.specs.declared.TypeId.{TypeId}
use Rattle.dsdl_links.specs.declared.source.Source.{Source}
use Rattle.dsdl_links.specs.Links.{AreLinks, IsUnresolved}
use Rattle.dsdl_links.specs.Order.{AreWithin, IsOrder, IsCycle}

-- files have links
abbrev pub HaveLinks : List Source → Type 0
HaveLinks files = (links : List (List ℕ)) × AreLinks files links × AreWithin links

-- files have a first reference that means none
abbrev pub HaveUnresolved : List Source → Type 0
HaveUnresolved files = (file : ℕ) × (line : ℕ) × (id : TypeId) × IsUnresolved files file line id

abbrev pub HaveOrder : List (List ℕ) → Type 0
HaveOrder links = (order : List ℕ) × IsOrder links order

abbrev pub HaveCycle : List (List ℕ) → Type 0
HaveCycle links = (file : ℕ) × IsCycle links file

-- Files have one list of links, or one first reference that means no file: exactly one of the two.
pub record HaveOneMeaning : Type 0 where
  pub either : (files : List Source) → HaveLinks files ⊎ HaveUnresolved files
  pub one_links : (files : List Source) (a b : List (List ℕ)) → AreLinks files a → AreLinks files b
      → a ≡ b
  pub not_both : (files : List Source) (links : List (List ℕ)) → AreLinks files links
      → HaveUnresolved files → ⊥
  pub one_unresolved : (files : List Source) (i j m n : ℕ) (a b : TypeId) → IsUnresolved files i m a
      → IsUnresolved files j n b → (i ≡ j) × (m ≡ n) × (a ≡ b)

-- Links give one order, or one first file that reaches itself: exactly one of the two.
pub record HaveOneOrder : Type 0 where
  pub either : (links : List (List ℕ)) → AreWithin links → HaveOrder links ⊎ HaveCycle links
  pub one_order : (links : List (List ℕ)) (a b : List ℕ) → IsOrder links a → IsOrder links b → a ≡ b
  pub not_both : (links : List (List ℕ)) → HaveOrder links → HaveCycle links → ⊥
  pub one_cycle : (links : List (List ℕ)) (i j : ℕ) → IsCycle links i → IsCycle links j → i ≡ j
