-- The places of subscriptions, and the table of those of subjects.
use Rattle.std.proofs.Common.{◌≡◌, ◌∙◌, ℕ, zero, suc, ◌<◌, ◌&&◌, Bool, true, false, cond, eqb, nat_lt, List, [], ◌∷◌, ◌++◌, length, get_or, set, replicate, position, option_map, slice_get, slice_set, Option, Some, None, refl, sym, ap, subst, inl, inr, arith}
use Rattle.std.proofs.lemmas.Bool.{eqb-true, eq-eqb, and_parts, and_from, cases_Bool, cond-true, cond-false, cond_both, lt-ltb, both_ways}
use Rattle.std.proofs.lemmas.List.{get_or-replicate, length-replicate, get_or-set_same, get_or-set_other, length-set}
use Rattle.std.proofs.lemmas.Option.{get_or_from_slice_get, slice_get_within}
use Rattle.can_id.specs.declared.key.Kind.{Kind}
use Rattle.can_id.specs.declared.key.Kind.TheVariants.{Message}
use Rattle.rx_table.specs.Keys.{same_kind}
use Rattle.rx_table.specs.Ports.{Port as PortOf}
use Rattle.rx_table.specs.SubjectPlaces.{place_of, place_code, ArePlaces, with_code}
use Rattle.rx_table.specs.Table.{port_of}
use Rattle.rx_table.specs.declared.port.Port.{Port}
use Rattle.rx_table.proofs.Positions.{position-further, position-here}
use Rattle.rx_table.proofs.Sources.{same_kind_true}

some_is : {X : Type 0} (x y : X) → Some x ≡ Some y → x ≡ y
some_is x y h = cc

none_parts : (b : Bool) (o : Option ℕ) → cond b (Some 0) (option_map suc o) ≡ None → (b ≡ false) × (o ≡ None)
none_parts true o e = absurd cc
none_parts false None e = (refl, refl)
none_parts false (Some n) e = absurd cc

module _ {S : Type 0} (kind : Kind) (port : ℕ) where
  abbrev test : Port S → Bool
  test p = same_kind kind p.kind && eqb port p.port

  pub position-place : (ports : List (Port S)) → position test ports ≡ place_of kind port ports
  position-place [] = refl
  position-place (p ∷ ports) =
      elim (cases_Bool (test p)) [
        | inl y ↦ position-here test p ports y ∙ sym (cond-true (test p) (Some 0) (option_map suc (place_of kind port ports)) y)
        | inr n ↦ position-further test p ports n ∙ (ap (option_map suc) (position-place ports) ∙ sym (cond-false (test p) (Some 0) (option_map suc (place_of kind port ports)) n))
      ]

  -- a port that changes and keeps its kind and number
  pub place_of-set : (extent : S → ℕ) (ports : List (Port S)) (i : ℕ) (p q : Port S) → slice_get ports i ≡ Some p → port_of extent q ≡ port_of extent p → place_of kind port (slice_set ports i q) ≡ place_of kind port ports
  place_of-set extent [] i p q h e = refl
  place_of-set extent (o ∷ ports) zero p q h e =
      ap (λ (x : PortOf). cond (same_kind kind x.kind && eqb port x.port) (Some 0) (option_map suc (place_of kind port ports))) (e ∙ ap (port_of extent) (sym (some_is _ _ h)))
  place_of-set extent (o ∷ ports) (suc i) p q h e = ap (λ n. cond (test o) (Some 0) (option_map suc n)) (place_of-set extent ports i p q h e)

  -- another port behind
  place_of-other : (ports : List (Port S)) (p : Port S) → test p ≡ false → place_of kind port (ports ++ p ∷ []) ≡ place_of kind port ports
  place_of-other [] p n = cond-false (test p) (Some 0) None n
  place_of-other (o ∷ ports) p n = ap (λ x. cond (test o) (Some 0) (option_map suc x)) (place_of-other ports p n)

  place_of-last : (ports : List (Port S)) (p : Port S) → place_of kind port ports ≡ None → test p ≡ true → place_of kind port (ports ++ p ∷ []) ≡ Some (length ports)
  place_of-last [] p e y = cond-true (test p) (Some 0) None y
  place_of-last (o ∷ ports) p e y =
      let x = none_parts (test o) (place_of kind port ports) e in
      cond-false (test o) (Some 0) (option_map suc (place_of kind port (ports ++ p ∷ []))) x.0 ∙ ap (option_map suc) (place_of-last ports p x.1 y)

pub code_one : (a b : Option ℕ) → place_code a ≡ place_code b → a ≡ b
code_one None None e = refl
code_one None (Some n) e = absurd cc
code_one (Some m) None e = absurd cc
code_one (Some m) (Some n) e = ap Some (let l : suc m ≡ suc n = e in omega arith)

-- the place that a table gives
pub place_found : {S : Type 0} (places : List ℕ) (ports : List (Port S)) (subject code : ℕ) (o : Option ℕ) → ArePlaces places ports → slice_get places subject ≡ Some code → place_code o ≡ code → o ≡ place_of Message subject ports
place_found places ports subject code o a e f =
    code_one o (place_of Message subject ports) (f ∙ (sym (get_or_from_slice_get places subject code 0 e) ∙ a subject (slice_get_within places subject code e)))

pub no_places : {S : Type 0} (n : ℕ) (places : List ℕ) (ports : List (Port S)) → places ≡ replicate n 0 → ports ≡ [] → ArePlaces places ports
no_places {S} n places ports e none subject l =
    let size : length places ≡ n = ap length e ∙ length-replicate n 0 in
    ap (λ (t : List ℕ). get_or t subject 0) e ∙ (get_or-replicate n subject 0 0 (omega arith) ∙ ap (λ (t : List (Port S)). place_code (place_of Message subject t)) (sym none))

pub places-set : {S : Type 0} (extent : S → ℕ) (places : List ℕ) (ports : List (Port S)) (i : ℕ) (p q : Port S) → slice_get ports i ≡ Some p → port_of extent q ≡ port_of extent p → ArePlaces places ports → ArePlaces places (slice_set ports i q)
places-set extent places ports i p q h e a subject l = a subject l ∙ ap place_code (sym (place_of-set Message subject extent ports i p q h e))

pub length-code : (places : List ℕ) (kind : Kind) (port code : ℕ) → length (with_code places kind port code) ≡ length places
length-code places kind port code =
    cond_both (same_kind Message kind && nat_lt port (length places)) (set places port code) places (λ (t : List ℕ). length t ≡ length places) (λ _. length-set places port code) (λ _. refl)

-- one subscription more
pub places-append : {S : Type 0} (places : List ℕ) (ports : List (Port S)) (p : Port S) (code : ℕ) → ArePlaces places ports → place_of p.kind p.port ports ≡ None → code ≡ suc (length ports)
    → ArePlaces (with_code places p.kind p.port code) (ports ++ p ∷ [])
places-append {S} places ports p code a absent is subject l =
    let b = same_kind Message p.kind && nat_lt p.port (length places) in
    let low : subject < length places = let n = length-code places p.kind p.port code in omega arith in
    elim (cases_Bool (test Message subject p)) [
      | inl y ↦
          let t = and_parts (same_kind Message p.kind) (eqb subject p.port) y in
          let at = eqb-true subject p.port t.1 in
          let here : p.port < length places = omega arith in
          let none : place_of Message subject ports ≡ None = subst (λ k. place_of k subject ports ≡ None) (sym (same_kind_true Message p.kind t.0)) (subst (λ n. place_of p.kind n ports ≡ None) (sym at) absent) in
          ap (λ (t : List ℕ). get_or t subject 0) (cond-true b (set places p.port code) places (and_from (same_kind Message p.kind) (nat_lt p.port (length places)) t.0 (lt-ltb p.port (length places) here)))
          ∙ (ap (λ n. get_or (set places p.port code) n 0) at ∙ (get_or-set_same places p.port code 0 here ∙ (is ∙ ap place_code (sym (place_of-last Message subject ports p none y)))))
      | inr n ↦
          cond_both b (set places p.port code) places (λ (t : List ℕ). get_or t subject 0 ≡ get_or places subject 0)
          (λ y.
          let t = and_parts (same_kind Message p.kind) (nat_lt p.port (length places)) y in
          get_or-set_other places p.port subject code 0 (λ same. both_ways (test Message subject p) n (and_from (same_kind Message p.kind) (eqb subject p.port) t.0 (eq-eqb subject p.port same))))
          (λ _. refl)
          ∙ (a subject low ∙ ap place_code (sym (place_of-other Message subject ports p n)))
    ]
