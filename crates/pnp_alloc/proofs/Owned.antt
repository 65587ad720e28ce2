-- Owners one by one.
use Rattle.std.proofs.Common.{◌≡◌, ℕ, eqb, Bool, true, false, cond, ◌||◌, List, [], ◌∷◌, ◌++◌, Option, Some, None, refl, sym, ap, ◌∙◌, ◌⊎◌, inl, inr}
use Rattle.std.proofs.lemmas.Bool.{cases_Bool, cond-true, cond-false, eqb-true, eq-eqb, or_cases}
use Rattle.pnp_alloc.specs.declared.event.Owner.{Owner}
use Rattle.pnp_alloc.specs.Allocation.{node_of, has_node}
use Rattle.pnp_alloc.specs.Laws.{Owns}

abbrev pub owner : ℕ → ℕ → Owner
owner u n = record { uid = u; node = n }

pub some_inj : (a b : ℕ) → Some a ≡ Some b → a ≡ b
some_inj a b e = cc

keep_some : (b : Bool) (x n : ℕ) (o q : Option ℕ) → (o ≡ Some n → q ≡ Some n) → cond b (Some x) o ≡ Some n → cond b (Some x) q ≡ Some n
keep_some true x n o q f e = e
keep_some false x n o q f e = f e

-- who has a node-ID keeps it where owners come behind
pub node_of-append_some : (u n : ℕ) (os ps : List Owner) → node_of u os ≡ Some n → node_of u (os ++ ps) ≡ Some n
node_of-append_some u n [] ps e = cc
node_of-append_some u n (o ∷ os) ps e = keep_some (eqb o.uid u) o.node n (node_of u os) (node_of u (os ++ ps)) (node_of-append_some u n os ps) e

keep_none : (b : Bool) (x : ℕ) (o q r : Option ℕ) → (o ≡ None → q ≡ r) → cond b (Some x) o ≡ None → cond b (Some x) q ≡ r
keep_none true x o q r f e = cc
keep_none false x o q r f e = f e

pub node_of-append_none : (u : ℕ) (os ps : List Owner) → node_of u os ≡ None → node_of u (os ++ ps) ≡ node_of u ps
node_of-append_none u [] ps e = refl
node_of-append_none u (o ∷ os) ps e = keep_none (eqb o.uid u) o.node (node_of u os) (node_of u (os ++ ps)) (node_of u ps) (node_of-append_none u os ps) e

one_owner : (b : Bool) (k n : ℕ) → cond b (Some k) None ≡ Some n → (b ≡ true) × (k ≡ n)
one_owner true k n e = (refl, some_inj k n e)
one_owner false k n e = cc

-- a single owner
pub node_of_one : (u w k n : ℕ) → node_of u (owner w k ∷ []) ≡ Some n → (w ≡ u) × (k ≡ n)
node_of_one u w k n e = let parts = one_owner (eqb w u) k n e in (eqb-true w u parts.0, parts.1)

pub node_of_same : (u k : ℕ) → node_of u (owner u k ∷ []) ≡ Some k
node_of_same u k = cond-true (eqb u u) (Some k) None (eq-eqb u u refl)

pub owns_of : (u n : ℕ) (os : List Owner) → node_of u os ≡ Some n → Owns u n os
owns_of u n [] e = cc
owns_of u n (o ∷ os) e = elim (cases_Bool (eqb o.uid u)) [
  | inl t ↦ inl (eqb-true o.uid u t, some_inj o.node n (sym (cond-true (eqb o.uid u) (Some o.node) (node_of u os) t) ∙ e))
  | inr f ↦ inr (owns_of u n os (sym (cond-false (eqb o.uid u) (Some o.node) (node_of u os) f) ∙ e))
]

pub owns-append : (u n : ℕ) (os ps : List Owner) → Owns u n (os ++ ps) → Owns u n os ⊎ Owns u n ps
owns-append u n [] ps h = inr h
owns-append u n (o ∷ os) ps (inl h) = inl (inl h)
owns-append u n (o ∷ os) ps (inr h) = elim (owns-append u n os ps h) [ inl a ↦ inl (inr a) | inr b ↦ inr b ]

pub or_left : (x y : Bool) → x ≡ true → (x || y) ≡ true
or_left true y e = refl
or_left false y e = cc

pub or_right : (x y : Bool) → y ≡ true → (x || y) ≡ true
or_right true y e = refl
or_right false y e = e

pub or_none : (x : Bool) → (x || false) ≡ x
or_none true = refl
or_none false = refl

pub has_node-append : (os ps : List Owner) (n : ℕ) → has_node (os ++ ps) n ≡ (has_node os n || has_node ps n)
has_node-append [] ps n = refl
has_node-append (o ∷ os) ps n = ap (λ b. eqb o.node n || b) (has_node-append os ps n) ∙ regroup (eqb o.node n) (has_node os n) (has_node ps n)
  where
    regroup : (x y z : Bool) → (x || (y || z)) ≡ ((x || y) || z)
    regroup true y z = refl
    regroup false y z = refl

-- a node-ID that someone has
pub has_node_of : (u n : ℕ) (os : List Owner) → Owns u n os → has_node os n ≡ true
has_node_of u n [] h = absurd h
has_node_of u n (o ∷ os) (inl h) = or_left (eqb o.node n) (has_node os n) (eq-eqb o.node n h.1)
has_node_of u n (o ∷ os) (inr h) = or_right (eqb o.node n) (has_node os n) (has_node_of u n os h)

pub has_owner : (n : ℕ) (os : List Owner) → has_node os n ≡ true → (u : ℕ) × Owns u n os
has_owner n [] e = cc
has_owner n (o ∷ os) e = elim (or_cases (eqb o.node n) (has_node os n) e) [
  | inl t ↦ (o.uid, inl (refl, eqb-true o.node n t))
  | inr t ↦ let further = has_owner n os t in (further.0, inr further.1)
]
