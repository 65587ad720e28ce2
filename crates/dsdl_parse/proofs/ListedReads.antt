-- Lists: item ("," item)*.
use Rattle.std.proofs.Common.{◌≡◌, ℕ, zero, suc, ◌<◌, true, not, List, [], ◌∷◌, ◌++◌, length, Some, codes, refl, sym, ap, ◌∙◌, subst, inl, inr, append_assoc, length-append, arith}
use Rattle.std.proofs.lemmas.Bool.{cond-true, cond-false}
use Rattle.std.proofs.lemmas.Option.{none-some, some_pair_parts}
use Rattle.dsdl_parse.specs.declared.expr.Expr.{Expr}
use Rattle.dsdl_parse.specs.Words.{Word, Signs, any_of, is_in, just}
use Rattle.dsdl_parse.specs.Grammar.{Rule, Listed, single, another}
use Rattle.dsdl_parse.specs.Reading.{Reader, comma, items}
use Rattle.dsdl_parse.proofs.Basics.{bind_some, bound, chosen, all_fail, apart}
use Rattle.dsdl_parse.proofs.Readers.{Stops, Begins, begins_more, Reads}

abbrev pub commas : Signs
commas = just (codes ",")

module _ (item : Reader Expr) (I : Rule) (goes : Signs) (reads : Reads item I goes) (disjoint : all_fail commas (any_of goes) ≡ true) where
  comma_stops : (next : List Expr → Reader (List Expr)) (xs : List Expr) (rest : List Word) → Stops commas rest → comma next xs rest ≡ Some (xs, rest)
  comma_stops next xs [] s = refl
  comma_stops next xs (w ∷ ws) s = cond-false (is_in commas w) _ _ s

  pub items_complete : {ws : List Word} {ys : List Expr} → Listed I ws ys → (rest : List Word) → Stops goes rest → Stops commas rest →
      (n : ℕ) (xs : List Expr) → length (ws ++ rest) < n → items item n xs (ws ++ rest) ≡ Some (xs ++ ys, rest)
  items_complete d rest s t zero xs lt = absurd (omega arith)
  items_complete (single {ws} {x} d) rest s t (suc n) xs lt = bound _ _ _ _ (reads.complete ws rest x d s) (comma_stops (items item n) _ rest t)
  items_complete (another {ws} {front} {back} {x} {xs = ys} w d h c e) rest s t (suc n) xs lt =
      let same : ws ++ rest ≡ front ++ w ∷ (back ++ rest) = ap (λ l. l ++ rest) e ∙ append_assoc front (w ∷ back) rest in
      let lt2 : length (back ++ rest) < n = omega (arith, ap length same, length-append front (w ∷ (back ++ rest))) in
      ap (items item (suc n) xs) same
      ∙ bound _ _ _ _ (reads.complete front (w ∷ (back ++ rest)) x d (apart commas goes disjoint w h))
      (cond-true (is_in commas w) _ _ h ∙ items_complete c rest s t n (xs ++ x ∷ []) lt2
      ∙ ap (λ l. Some (l, rest)) (append_assoc xs (x ∷ []) ys))

  pub items_sound : (n : ℕ) (xs zs : List Expr) (ws rest : List Word) → items item n xs ws ≡ Some (zs, rest) →
      (front : List Word) × (ys : List Expr) × (ws ≡ front ++ rest) × Listed I front ys × (zs ≡ xs ++ ys)
  items_sound zero xs zs ws rest e = absurd (none-some _ e)
  items_sound (suc n) xs zs ws rest e = go (λ a b. items_sound n a zs b rest) (bind_some _ (item ws) (zs, rest) e)
    where
      behind : (x : Expr) (front next : List Word) → ws ≡ front ++ next → I front x →
          ((a : List Expr) (b : List Word) → items item n a b ≡ Some (zs, rest) →
          (front : List Word) × (ys : List Expr) × (b ≡ front ++ rest) × Listed I front ys × (zs ≡ a ++ ys)) →
          comma (items item n) (xs ++ x ∷ []) next ≡ Some (zs, rest) →
          (front : List Word) × (ys : List Expr) × (ws ≡ front ++ rest) × Listed I front ys × (zs ≡ xs ++ ys)
      behind x front [] eq d again e =
          let p : (xs ++ x ∷ [] ≡ zs) × ([] ≡ rest) = some_pair_parts _ _ _ _ e in
          (front, x ∷ [], eq ∙ ap (λ l. front ++ l) p.1, single d, sym p.0)
      behind x front (w ∷ next) eq d again e = elim (chosen (is_in commas w) _ _ _ e) [
        | inr h ↦ let p : (xs ++ x ∷ [] ≡ zs) × (w ∷ next ≡ rest) = some_pair_parts _ _ _ _ h.1 in
            (front, x ∷ [], eq ∙ ap (λ l. front ++ l) p.1, single d, sym p.0)
        | inl h ↦ let (back, ys, eq2, l, same) = again (xs ++ x ∷ []) next h.1 in (
          front ++ w ∷ back,
          x ∷ ys,
          eq ∙ ap (λ l. front ++ w ∷ l) eq2 ∙ sym (append_assoc front (w ∷ back) rest),
          another w d h.0 l refl,
          same ∙ append_assoc xs (x ∷ []) ys,
        )
      ]

      go : ((a : List Expr) (b : List Word) → items item n a b ≡ Some (zs, rest) →
          (front : List Word) × (ys : List Expr) × (b ≡ front ++ rest) × Listed I front ys × (zs ≡ a ++ ys)) →
          (v : Expr × List Word) × (item ws ≡ Some v) × (comma (items item n) (xs ++ v.0 ∷ []) v.1 ≡ Some (zs, rest)) →
          (front : List Word) × (ys : List Expr) × (ws ≡ front ++ rest) × Listed I front ys × (zs ≡ xs ++ ys)
      go again (v, f, e) = let (front, eq, d) = reads.sound ws v.1 v.0 f in behind v.0 front v.1 eq d again e

pub listed_first : {I : Rule} (not : Signs) → ((ws : List Word) (x : Expr) → I ws x → Begins not ws) →
    {ws : List Word} {ys : List Expr} → Listed I ws ys → Begins not ws
listed_first not f (single d) = f _ _ d
listed_first not f (another {ws} {front} {back} w d h c e) = subst (Begins not) (sym e) (begins_more not front (w ∷ back) (f _ _ d))
