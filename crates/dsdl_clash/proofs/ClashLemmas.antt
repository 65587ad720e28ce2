-- The first definition that clashes with one before it
use Rattle.std.proofs.Common.{◌≡◌, ℕ, ◌<◌, ◌≤◌, ◌+◌, ◌==◌, ◌&&◌, ◌||◌, not, Bool, true, false, List, [], ◌∷◌, ◌++◌, length, get_or, take, drop, Option, Some, None, cond, refl, sym, ap, ◌∙◌, arith}
use Rattle.std.proofs.lemmas.List.{drop_more, drop_all, take_more, length-take-le, get_or_default, length_push}
use Rattle.std.specs.Prelude.{is_none}
use Rattle.std.specs.List.{HoldsAt, list_all}
use Rattle.dsdl_types.specs.declared.definition.Definition.{Definition}
use Rattle.dsdl_clash.specs.Clashes.{Clash, clashes_with, first_clash, first_clash_behind, ports_clash, same_kind, same_name, same_port}

module _ (clash : Clash) (ds : List Definition) where
  front : (i : ℕ) (d : Definition) → i < length ds → d ≡ get_or ds i d → drop i ds ≡ d ∷ drop (i + 1) ds
  front i d lt is = drop_more ds i d lt ∙ ap (λ x. x ∷ drop (i + 1) ds) (sym is)

  -- what is found from a place on
  abbrev pub found_from : ℕ → Option ℕ
  found_from i = first_clash_behind clash (take i ds) (drop i ds)

  pub found_here : (i : ℕ) (d : Definition) → i < length ds → d ≡ get_or ds i d → clashes_with clash (take i ds) d ≡ true → found_from i ≡ Some i
  found_here i d lt is h =
      ap (first_clash_behind clash (take i ds)) (front i d lt is)
      ∙ ap (λ b. cond b (Some (length (take i ds))) (first_clash_behind clash (take i ds ++ d ∷ []) (drop (i + 1) ds))) h
      ∙ ap Some (length-take-le i ds (omega arith))

  pub found_later : (i : ℕ) (d : Definition) → i < length ds → d ≡ get_or ds i d → clashes_with clash (take i ds) d ≡ false → found_from i ≡ found_from (i + 1)
  found_later i d lt is h =
      ap (first_clash_behind clash (take i ds)) (front i d lt is)
      ∙ ap (λ b. cond b (Some (length (take i ds))) (first_clash_behind clash (take i ds ++ d ∷ []) (drop (i + 1) ds))) h
      ∙ ap (λ l. first_clash_behind clash l (drop (i + 1) ds)) (sym (take_more ds i d lt ∙ ap (λ x. take i ds ++ x ∷ []) (sym is)))

  pub found_none : (i : ℕ) → length ds ≤ i → found_from i ≡ None
  found_none i le = ap (first_clash_behind clash (take i ds)) (drop_all i ds le)

some_definition : (ds : List Definition) → 0 < length ds → Definition
some_definition [] lt = absurd (omega arith)
some_definition (d ∷ ds) lt = d

-- what is known of the definition at a place is known of one that stands there
pub at_place : (ds : List Definition) (i : ℕ) → i < length ds → (d : Definition) × (d ≡ get_or ds i d)
at_place ds i lt =
    let d = some_definition ds (omega arith) in
    (get_or ds i d, get_or_default ds i d (get_or ds i d) lt)

module _ (clash : Clash) (ds : List Definition) (i : ℕ) (lt : i < length ds) where
  pub first_here : found_from clash ds i ≡ first_clash clash ds → HoldsAt (λ d. true ≡ clashes_with clash (take i ds) d) ds i → Some i ≡ first_clash clash ds
  first_here before h = let p = at_place ds i lt in sym (found_here clash ds i p.0 lt p.1 (ap (clashes_with clash (take i ds)) p.1 ∙ sym (h p.0))) ∙ before

  pub first_later : found_from clash ds i ≡ first_clash clash ds → HoldsAt (λ d. false ≡ clashes_with clash (take i ds) d) ds i → found_from clash ds (i + 1) ≡ first_clash clash ds
  first_later before h = let p = at_place ds i lt in sym (found_later clash ds i p.0 lt p.1 (ap (clashes_with clash (take i ds)) p.1 ∙ sym (h p.0))) ∙ before

clash_within : (clash : Clash) (before ds : List Definition) (i : ℕ) → first_clash_behind clash before ds ≡ Some i → i < length before + length ds
clash_within clash before [] i e = absurd (cc)
clash_within clash before (d ∷ ds) i e = at (clashes_with clash before d) refl (clash_within clash (before ++ d ∷ []) ds i)
  where
    at : (b : Bool) → clashes_with clash before d ≡ b → (first_clash_behind clash (before ++ d ∷ []) ds ≡ Some i → i < length (before ++ d ∷ []) + length ds) → i < length before + length (d ∷ ds)
    at true f rest =
        let same : Some (length before) ≡ Some i = ap (λ b. cond b (Some (length before)) (first_clash_behind clash (before ++ d ∷ []) ds)) (sym f) ∙ e in
        let is : length before ≡ i = cc in omega arith
    at false f rest =
        omega (arith, rest (ap (λ b. cond b (Some (length before)) (first_clash_behind clash (before ++ d ∷ []) ds)) (sym f) ∙ e), length_push before d)

-- the number of a definition that clashes is one of the definitions'
pub first_within : (clash : Clash) (ds : List Definition) (i : ℕ) → first_clash clash ds ≡ Some i → i < length ds
first_within clash ds i e = omega (arith, clash_within clash [] ds i e)

-- no definition clashes by ports with one that has no port
pub no_port : (a b : Definition) → b.port ≡ None → ports_clash a b ≡ false
no_port a b none = ap (λ p. same_port a.port p && rest) none ∙ at a.port
  where
    rest : Bool
    rest = same_kind a.parts b.parts && (not (same_name a b) || (not (a.id.major == b.id.major) && (not (a.id.major == 0) && not (b.id.major == 0))))

    at : (p : Option ℕ) → (same_port p None && rest) ≡ false
    at None = refl
    at (Some n) = refl

-- what clashes with none clashes with none of these
pub clashes_never : (clash : Clash) (before : List Definition) (d : Definition) → ((a : Definition) → clash a d ≡ false) → clashes_with clash before d ≡ false
clashes_never clash [] d never = refl
clashes_never clash (a ∷ before) d never = ap (λ b. b || clashes_with clash before d) (never a) ∙ clashes_never clash before d never

-- definitions without ports don't clash by them
pub no_ports : (before ds : List Definition) → list_all (λ (d : Definition). is_none d.port) ds ≡ true → first_clash_behind ports_clash before ds ≡ None
no_ports before [] all = refl
no_ports before (d ∷ ds) all = at d.port refl (no_ports (before ++ d ∷ []) ds)
  where
    at : (p : Option ℕ) → d.port ≡ p → (list_all (λ (e : Definition). is_none e.port) ds ≡ true → first_clash_behind ports_clash (before ++ d ∷ []) ds ≡ None) → first_clash_behind ports_clash before (d ∷ ds) ≡ None
    at (Some n) e rest = absurd (let no : false ≡ true = ap (λ p. is_none p && list_all (λ (e : Definition). is_none e.port) ds) (sym e) ∙ all in cc)
    at None e rest =
        ap (λ b. cond b (Some (length before)) (first_clash_behind ports_clash (before ++ d ∷ []) ds)) (clashes_never ports_clash before d (λ a. no_port a d e))
        ∙ rest (ap (λ p. is_none p && list_all (λ (e : Definition). is_none e.port) ds) (sym e) ∙ all)
