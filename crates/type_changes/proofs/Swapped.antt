-- Two namespaces the other way round.
use Rattle.std.proofs.Common.{◌≡◌, ◌∙◌, ℕ, List, [], ◌∷◌, map, Some, refl, sym, ap}
use Rattle.std.specs.Ordering.{nat_cmp, ordering_then, ordering_reverse}
use Rattle.std.specs.declared.cmp.Ordering.{Ordering}
use Rattle.std.specs.declared.cmp.Ordering.TheVariants.{Less, Equal, Greater}
use Rattle.std.specs.Cmp.{IsTotalOrder}
use Rattle.std.specs.Cmp.Lexicographic.{slice_cmp}
use Rattle.std.proofs.lemmas.Cmp.{nat_cmp_total, nat_list_cmp_total, on_total, then_total, tied_itself, ranked}
use Rattle.std.proofs.lemmas.Map.Lookups.{exact_bytes}
use Rattle.dsdl_names.specs.declared.TypeId.{TypeId}
use Rattle.dsdl_names.specs.Types.{type_order}
use Rattle.dsdl_types.specs.declared.definition.Definition.{Definition}
use Rattle.type_changes.specs.Entries.{paired, of_old, of_new, of_both}
use Rattle.type_changes.specs.Laws.{swapped}
use Rattle.type_changes.proofs.Pairing.{before, with_it, after}

-- ---- the order of types
pub type_total : IsTotalOrder type_order
type_total =
    then_total (on_total (λ (id : TypeId). id.name) nat_list_cmp_total)
    (then_total (on_total (λ (id : TypeId). id.major) nat_cmp_total) (on_total (λ (id : TypeId). id.minor) nat_cmp_total))

all_equal : (p q r : Ordering) → ordering_then p (ordering_then q r) ≡ Equal → (p ≡ Equal) × (q ≡ Equal) × (r ≡ Equal)
all_equal Less q r e = absurd cc
all_equal Greater q r e = absurd cc
all_equal Equal Less r e = absurd cc
all_equal Equal Greater r e = absurd cc
all_equal Equal Equal r e = (refl, refl, e)

same_number : (a b : ℕ) → nat_cmp a b ≡ Equal → a ≡ b
same_number a b e = ranked a b Equal (sym e)

-- types that tie are one
pub tied : (a b : TypeId) → type_order a b ≡ Equal → a ≡ b
tied a b e =
    let p = all_equal (slice_cmp nat_cmp a.name b.name) (nat_cmp a.major b.major) (nat_cmp a.minor b.minor) e in
    let name = exact_bytes a.name b.name p.0 in
    let major = same_number a.major b.major p.1 in
    let minor = same_number a.minor b.minor p.2 in
    λ i. record { name = name i; major = major i; minor = minor i }

-- ---- the other way round
pub reversed : (a b : TypeId) (r : Ordering) → type_order a b ≡ r → type_order b a ≡ ordering_reverse r
reversed a b r e = type_total.antisymm b a ∙ ap ordering_reverse e

old_alone : (ds : List Definition) → paired ds [] ≡ map (λ d. of_old d) ds
old_alone [] = refl
old_alone (d ∷ ds) = ap (λ l. of_old d ∷ l) (old_alone ds)

swap_each : (ds : List Definition) → map (λ d. of_old d) ds ≡ map swapped (map (λ d. of_new d) ds)
swap_each [] = refl
swap_each (d ∷ ds) = ap (λ l. of_old d ∷ l) (swap_each ds)

swap_old : (ds : List Definition) → map (λ d. of_new d) ds ≡ map swapped (map (λ d. of_old d) ds)
swap_old [] = refl
swap_old (d ∷ ds) = ap (λ l. of_new d ∷ l) (swap_old ds)

both_swapped : (old new : Definition) → type_order old.id new.id ≡ Equal → of_both new old ≡ swapped (of_both old new)
both_swapped old new e = let one = tied old.id new.id e in λ i. record { id = sym one i; old = Some new; new = Some old }

module _ (old : Definition) (olds : List Definition) (rest : (news : List Definition) → paired news olds ≡ map swapped (paired olds news)) where
  step : (new : Definition) (news : List Definition) (r : Ordering) → type_order old.id new.id ≡ r → paired news (old ∷ olds) ≡ map swapped (paired (old ∷ olds) news)
      → paired (new ∷ news) (old ∷ olds) ≡ map swapped (paired (old ∷ olds) (new ∷ news))
  step new news Less e more =
      after new old (paired news) olds (sym (reversed old.id new.id Less e)) ∙ ap (λ l. of_new old ∷ l) (rest (new ∷ news))
      ∙ ap (map swapped) (sym (before old new (paired olds) news (sym e)))
  step new news Equal e more =
      with_it new old (paired news) olds (sym (reversed old.id new.id Equal e)) ∙ (λ i. both_swapped old new e i ∷ rest news i)
      ∙ ap (map swapped) (sym (with_it old new (paired olds) news (sym e)))
  step new news Greater e more =
      before new old (paired news) olds (sym (reversed old.id new.id Greater e)) ∙ ap (λ l. of_old new ∷ l) more
      ∙ ap (map swapped) (sym (after old new (paired olds) news (sym e)))

  inner : (news : List Definition) → paired news (old ∷ olds) ≡ map swapped (paired (old ∷ olds) news)
  inner [] = swap_old (old ∷ olds) ∙ ap (map swapped) (sym (old_alone (old ∷ olds)))
  inner (new ∷ news) = step new news (type_order old.id new.id) refl (inner news)

pub swap : (olds news : List Definition) → paired news olds ≡ map swapped (paired olds news)
swap [] news = old_alone news ∙ swap_each news
swap (old ∷ olds) news = inner old olds (swap olds) news

-- ---- a namespace and itself
pub itself : (ds : List Definition) → paired ds ds ≡ map (λ d. of_both d d) ds
itself [] = refl
itself (d ∷ ds) = with_it d d (paired ds) ds (sym (tied_itself type_total d.id)) ∙ ap (λ l. of_both d d ∷ l) (itself ds)
