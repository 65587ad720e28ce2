-- Atoms: "(" inner ")" | "{" [inner ("," inner)*] "}" | a leaf.
use Rattle.std.proofs.Common.{◌≡◌, suc, Bool, true, not, List, [], ◌∷◌, ◌++◌, length, Option, Some, codes, refl, sym, ap, ◌∙◌, subst, inl, inr, append_assoc, arith}
use Rattle.std.proofs.lemmas.Bool.{cond-true, cond-false}
use Rattle.std.proofs.lemmas.Option.{none-some, same_Some, some_pair_parts}
use Rattle.dsdl_parse.specs.declared.expr.Expr.{Expr}
use Rattle.dsdl_parse.specs.Words.{Word, Signs, any_of, is_in, just}
use Rattle.dsdl_parse.specs.Trees.{set_of}
use Rattle.dsdl_parse.specs.LeafReading.{read_leaf}
use Rattle.dsdl_parse.specs.Grammar.{Rule, Atom, parens, empty, set, leaf}
use Rattle.dsdl_parse.specs.Reading.{◌>>=◌, Reader, close, read_items, in_items, in_braces, in_parens, end_parens, end_braces, read_atom}
use Rattle.dsdl_parse.proofs.Basics.{bind_some, bound, chosen, all_fail, apart}
use Rattle.dsdl_parse.proofs.Readers.{Begins, Reads}
use Rattle.dsdl_parse.proofs.ListedReads.{items_complete, items_sound, listed_first, commas}
use Rattle.dsdl_parse.proofs.LeafReads.{leaf_complete, leaf_sound, leaf_no_sign}

abbrev pub opens : Signs
opens = just (codes "(")

abbrev pub closes : Signs
closes = just (codes ")")

abbrev pub opens_set : Signs
opens_set = just (codes "{")

abbrev pub closes_set : Signs
closes_set = just (codes "}")

close_at : {A : Type 0} (s : Signs) (a : A) (w : Word) (rest : List Word) → is_in s w ≡ true → close s a (w ∷ rest) ≡ Some ((a, w), rest)
close_at s a w rest h = cond-true (is_in s w) _ _ h

closed : {A : Type 0} (s : Signs) (a : A) (ws : List Word) (v : (A × Word) × List Word) → close s a ws ≡ Some v →
    (v.0.0 ≡ a) × (ws ≡ v.0.1 ∷ v.1) × (is_in s v.0.1 ≡ true)
closed s a [] v e = absurd (none-some _ e)
closed s a (w ∷ ws) v e = elim (chosen (is_in s w) _ _ _ e) [
  | inr h ↦ absurd (none-some _ h.1)
  | inl h ↦ let same : ((a, w), ws) ≡ v = same_Some _ _ h.1 in
      (sym (ap (λ u. u.0.0) same), ap (λ u. u.0.1 ∷ u.1) same, subst (λ u. is_in s u.0.1 ≡ true) same h.0)
]

module _ (room : Bool) (inner : Reader Expr) (R : Rule) (goes : Signs) (reads : Reads inner R goes)
    (first : (ws : List Word) (x : Expr) → R ws x → Begins closes_set ws)
    (commas_apart : all_fail commas (any_of goes) ≡ true) (closes_apart : all_fail closes (any_of goes) ≡ true) (braces_apart : all_fail closes_set (any_of goes) ≡ true) where
  braces_at : (o c : Word) (xs : List Expr) (front tail rest : List Word) → Begins closes_set front → read_items inner (front ++ tail) ≡ Some (xs, c ∷ rest) →
      is_in closes_set c ≡ true → in_braces inner o (front ++ tail) ≡ Some (set_of o xs c, rest)
  braces_at o c xs [] tail rest b e h = absurd b
  braces_at o c xs (w ∷ front) tail rest b e h =
      cond-false (is_in closes_set w) _ _ b ∙ bound _ _ _ _ e (bound _ _ _ _ (close_at closes_set xs c rest h) refl)

  atom_complete : {front : List Word} {x : Expr} → Atom room R front x → (rest : List Word) → read_atom room inner (front ++ rest) ≡ Some (x, rest)
  atom_complete (parens {ws} {inside} {x} o c ho d hc e) rest =
      ap (read_atom room inner) (ap (λ l. l ++ rest) e ∙ ap (λ l. o ∷ l) (append_assoc inside (c ∷ []) rest))
      ∙ cond-true (is_in opens o) _ _ ho
      ∙ bound _ _ _ _ (reads.complete inside (c ∷ rest) x d (apart closes goes closes_apart c hc)) (bound _ _ _ _ (close_at closes x c rest hc) refl)
  atom_complete (empty {ws} o c h ho hc e) rest =
      ap (read_atom room inner) (ap (λ l. l ++ rest) e)
      ∙ cond-false (is_in opens o) _ _ (apart opens_set opens refl o ho) ∙ cond-true (is_in opens_set o) _ _ ho
      ∙ cond-true room _ _ h ∙ cond-true (is_in closes_set c) _ _ hc
  atom_complete (set {ws} {inside} {xs} o c h ho d hc e) rest =
      ap (read_atom room inner) (ap (λ l. l ++ rest) e ∙ ap (λ l. o ∷ l) (append_assoc inside (c ∷ []) rest))
      ∙ cond-false (is_in opens o) _ _ (apart opens_set opens refl o ho) ∙ cond-true (is_in opens_set o) _ _ ho ∙ cond-true room _ _ h
      ∙ braces_at o c xs inside (c ∷ rest) rest (listed_first closes_set first d)
      (items_complete inner R goes reads commas_apart d (c ∷ rest) (apart closes_set goes braces_apart c hc) (apart closes_set commas refl c hc)
      (suc (length (inside ++ c ∷ rest))) [] (omega arith))
      hc
  atom_complete (leaf {ws} {x} w l e) rest =
      ap (read_atom room inner) (ap (λ l. l ++ rest) e)
      ∙ cond-false (is_in opens w) _ _ (leaf_no_sign opens w x l) ∙ cond-false (is_in opens_set w) _ _ (leaf_no_sign opens_set w x l)
      ∙ bound _ _ _ _ (leaf_complete w x l) refl

  abbrev Found : List Word → List Word → Expr → Type 0
  Found ws rest x = (front : List Word) × (ws ≡ front ++ rest) × Atom room R front x

  parens_sound : (o : Word) (ws rest : List Word) (x : Expr) → is_in opens o ≡ true → in_parens inner ws ≡ Some (x, rest) → Found (o ∷ ws) rest x
  parens_sound o ws rest x ho e = go (bind_some _ (inner ws) (x, rest) e)
    where
      go2 : (v : Expr × List Word) → (inner ws ≡ Some v) → (u : (Expr × Word) × List Word) × (close closes v.0 v.1 ≡ Some u) × ◌≡◌ {A = Option (Expr × List Word)} (Some (u.0.0, u.1)) (Some (x, rest)) → Found (o ∷ ws) rest x
      go2 v f (u, g, e) =
          let (front, eq, d) = reads.sound ws v.1 v.0 f in
          let (a, b, hc) = closed closes v.0 v.1 u g in
          let p : (u.0.0 ≡ x) × (u.1 ≡ rest) = some_pair_parts _ _ _ _ e in (
            o ∷ (front ++ u.0.1 ∷ []),
            ap (λ l. o ∷ l) (eq ∙ ap (λ l. front ++ l) (b ∙ ap (λ l. u.0.1 ∷ l) p.1) ∙ sym (append_assoc front (u.0.1 ∷ []) rest)),
            parens o u.0.1 ho (subst (λ y. R front y) (sym a ∙ p.0) d) hc refl,
          )

      go : (v : Expr × List Word) × (inner ws ≡ Some v) × ((close closes v.0 v.1 >>= end_parens) ≡ Some (x, rest)) → Found (o ∷ ws) rest x
      go (v, f, e) = go2 v f (bind_some _ (close closes v.0 v.1) (x, rest) e)

  items_found : (o : Word) (ws rest : List Word) (x : Expr) → room ≡ true → is_in opens_set o ≡ true → in_items inner o ws ≡ Some (x, rest) → Found (o ∷ ws) rest x
  items_found o ws rest x hr ho e = go (bind_some _ (read_items inner ws) (x, rest) e)
    where
      go2 : (v : List Expr × List Word) → (read_items inner ws ≡ Some v) →
          (u : (List Expr × Word) × List Word) × (close closes_set v.0 v.1 ≡ Some u) × ◌≡◌ {A = Option (Expr × List Word)} (Some (set_of o u.0.0 u.0.1, u.1)) (Some (x, rest)) → Found (o ∷ ws) rest x
      go2 v f (u, g, e) =
          let (front, ys, eq, d, same) = items_sound inner R goes reads commas_apart (suc (length ws)) [] v.0 ws v.1 f in
          let (a, b, hc) = closed closes_set v.0 v.1 u g in
          let p : (set_of o u.0.0 u.0.1 ≡ x) × (u.1 ≡ rest) = some_pair_parts _ _ _ _ e in (
            o ∷ (front ++ u.0.1 ∷ []),
            ap (λ l. o ∷ l) (eq ∙ ap (λ l. front ++ l) (b ∙ ap (λ l. u.0.1 ∷ l) p.1) ∙ sym (append_assoc front (u.0.1 ∷ []) rest)),
            subst (λ y. Atom room R (o ∷ (front ++ u.0.1 ∷ [])) y) (ap (λ l. set_of o l u.0.1) (sym (a ∙ same)) ∙ p.0) (set o u.0.1 hr ho d hc refl),
          )

      go : (v : List Expr × List Word) × (read_items inner ws ≡ Some v) × ((close closes_set v.0 v.1 >>= end_braces o) ≡ Some (x, rest)) → Found (o ∷ ws) rest x
      go (v, f, e) = go2 v f (bind_some _ (close closes_set v.0 v.1) (x, rest) e)

  braces_sound : (o : Word) (ws rest : List Word) (x : Expr) → room ≡ true → is_in opens_set o ≡ true → in_braces inner o ws ≡ Some (x, rest) → Found (o ∷ ws) rest x
  braces_sound o [] rest x hr ho e = items_found o [] rest x hr ho e
  braces_sound o (w ∷ ws) rest x hr ho e = elim (chosen (is_in closes_set w) _ _ _ e) [
    | inl h ↦ let p : (set_of o [] w ≡ x) × (ws ≡ rest) = some_pair_parts _ _ _ _ h.1 in
        (o ∷ w ∷ [], ap (λ l. o ∷ w ∷ l) p.1, subst (λ y. Atom room R (o ∷ w ∷ []) y) p.0 (empty o w hr ho h.0 refl))
    | inr h ↦ items_found o (w ∷ ws) rest x hr ho h.1
  ]

  atom_sound : (ws rest : List Word) (x : Expr) → read_atom room inner ws ≡ Some (x, rest) → Found ws rest x
  atom_sound [] rest x e = absurd (none-some _ e)
  atom_sound (w ∷ ws) rest x e = elim (chosen (is_in opens w) _ _ _ e) [
    | inl h ↦ parens_sound w ws rest x h.0 h.1
    | inr h ↦ elim (chosen (is_in opens_set w) _ _ _ h.1) [
      | inl h2 ↦ elim (chosen room _ _ _ h2.1) [
        | inl h3 ↦ braces_sound w ws rest x h3.0 h2.0 h3.1
        | inr h3 ↦ absurd (none-some _ h3.1)
      ]
      | inr h2 ↦ go (bind_some _ (read_leaf w) (x, rest) h2.1)
    ]
  ]
    where
      go : (y : Expr) × (read_leaf w ≡ Some y) × ◌≡◌ {A = Option (Expr × List Word)} (Some (y, ws)) (Some (x, rest)) → Found (w ∷ ws) rest x
      go (y, l, e) = let p : (y ≡ x) × (ws ≡ rest) = some_pair_parts _ _ _ _ e in
          (w ∷ [], ap (λ l. w ∷ l) p.1, leaf w (leaf_sound w x (l ∙ ap Some p.0)) refl)

  pub atom_reads : Reads (read_atom room inner) (Atom room R) []
  atom_reads = record { sound = atom_sound; complete = λ front rest x d s. atom_complete d rest }

pub atom_first : (room : Bool) (R : Rule) (not : Signs) → all_fail opens (any_of not) ≡ true → all_fail opens_set (any_of not) ≡ true →
    {ws : List Word} {x : Expr} → Atom room R ws x → Begins not ws
atom_first room R not a b (parens o c ho d hc e) = subst (Begins not) (sym e) (apart opens not a o ho)
atom_first room R not a b (empty o c h ho hc e) = subst (Begins not) (sym e) (apart opens_set not b o ho)
atom_first room R not a b (set o c h ho d hc e) = subst (Begins not) (sym e) (apart opens_set not b o ho)
atom_first room R not a b (leaf {ws} {x} w l e) = subst (Begins not) (sym e) (leaf_no_sign not w x l)
