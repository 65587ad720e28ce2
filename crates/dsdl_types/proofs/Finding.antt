-- What is found in a namespace is the first definition of the type
use Rattle.std.proofs.Common.{◌≡◌, ◌≢◌, ◌&&◌, suc, zero, Bool, true, false, List, [], ◌∷◌, Option, Some, None, cond, refl, sym, ap, ◌∙◌, arith}
use Rattle.std.specs.List.{All}
use Rattle.std.proofs.lemmas.Slice.Eq.{bytes_eq-Decides}
use Rattle.std.specs.Cmp.{unsigned_Decides}
use Rattle.dsdl_names.specs.declared.TypeId.{TypeId}
use Rattle.dsdl_types.specs.declared.definition.Definition.{Definition}
use Rattle.dsdl_types.specs.Finding.{same_id, definition_of, Finds}

and_true : (a b : Bool) → (a && b) ≡ true → (a ≡ true) × (b ≡ true)
and_true true b h = (refl, h)
and_true false b h = absurd (let e : false ≡ true = h in cc)

same_id_is : (a b : TypeId) → same_id a b ≡ true → a ≡ b
same_id_is a b h =
    let p = and_true _ _ h in
    let q = and_true _ _ p.1 in
    λ i. record {
      name = (bytes_eq-Decides a.name b.name).0 p.0 i;
      major = (unsigned_Decides a.major b.major).0 q.0 i;
      minor = (unsigned_Decides a.minor b.minor).0 q.1 i;
    }

and_both : (a b : Bool) → a ≡ true → b ≡ true → (a && b) ≡ true
and_both true true h k = refl
and_both true false h k = k
and_both false b h k = absurd (let e : false ≡ true = h in cc)

same_id_self : (a : TypeId) → same_id a a ≡ true
same_id_self a =
    and_both _ _ ((bytes_eq-Decides a.name a.name).1 refl)
    (and_both _ _ ((unsigned_Decides a.major a.major).1 refl) ((unsigned_Decides a.minor a.minor).1 refl))

differ : (a b : TypeId) → same_id a b ≡ false → a ≢ b
differ a b h e =
    let same : same_id a b ≡ true = ap (λ x. same_id a x) (sym e) ∙ same_id_self a in
    absurd (let c : false ≡ true = sym h ∙ same in cc)

all_first : {X : Type 0} (P : X → Type 0) (x : X) (xs : List X) → P x → All P xs → All P (x ∷ xs)
all_first P x xs p h zero d l = p
all_first P x xs p h (suc k) d l = h k d (omega arith)

all_none : {X : Type 0} (P : X → Type 0) → All P []
all_none P k d l = absurd (omega arith)

step : (d : Definition) (ds : List Definition) (id : TypeId) (b : Bool) → same_id d.id id ≡ b → (r : Option Definition) →
    Finds ds id r → Finds (d ∷ ds) id (cond b (Some d) r)
step d ds id true e r h = ([], ds, refl, same_id_is d.id id e, all_none (λ f. f.id ≢ id))
step d ds id false e None h = all_first (λ f. f.id ≢ id) d ds (differ d.id id e) h
step d ds id false e (Some f) (before, behind, is, same, rest) =
    (d ∷ before, behind, ap (λ l. d ∷ l) is, same, all_first (λ f. f.id ≢ id) d before (differ d.id id e) rest)

pub finds : (ds : List Definition) (id : TypeId) → Finds ds id (definition_of ds id)
finds [] id = all_none (λ f. f.id ≢ id)
finds (d ∷ ds) id = step d ds id (same_id d.id id) refl (definition_of ds id) (finds ds id)
