-- Powers: base ["**" exponent].
use Rattle.std.proofs.Common.{◌≡◌, true, not, List, [], ◌∷◌, ◌++◌, Option, Some, codes, refl, sym, ap, ◌∙◌, subst, inl, inr, append_assoc}
use Rattle.std.proofs.lemmas.Bool.{cond-true, cond-false}
use Rattle.std.proofs.lemmas.Option.{some_pair_parts}
use Rattle.dsdl_parse.specs.declared.expr.Expr.{Expr}
use Rattle.dsdl_parse.specs.Words.{Word, Signs, any_of, is_in, just}
use Rattle.dsdl_parse.specs.Trees.{binary}
use Rattle.dsdl_parse.specs.Grammar.{Rule, Power, base, raised}
use Rattle.dsdl_parse.specs.Reading.{Reader, raise, read_power}
use Rattle.dsdl_parse.proofs.Basics.{bind_some, bound, chosen, all_fail, apart, append_nil}
use Rattle.dsdl_parse.proofs.Readers.{Stops, stops_parts, Begins, begins_more, Reads}

module _ (below exponent : Reader Expr) (B E : Rule) (goes : Signs) (reads : Reads below B goes) (powers : Reads exponent E (just (codes "**") ++ goes))
    (disjoint : all_fail (just (codes "**")) (any_of goes) ≡ true) where
  raise_stops : (a : Expr) (rest : List Word) → Stops (just (codes "**")) rest → raise exponent a rest ≡ Some (a, rest)
  raise_stops a [] s = refl
  raise_stops a (w ∷ ws) s = cond-false (is_in (just (codes "**")) w) _ _ s

  pub power_reads : Reads (read_power below exponent) (Power B E) (just (codes "**") ++ goes)
  power_reads = record {
    sound = λ ws rest x e. start ws rest x (bind_some _ (below ws) (x, rest) e);
    complete = λ front rest x d s. complete_at d rest s;
  }
    where
      raised_at : (front ws rest : List Word) (a x : Expr) → B front a → raise exponent a ws ≡ Some (x, rest) → (back : List Word) × (ws ≡ back ++ rest) × Power B E (front ++ back) x
      raised_at front [] rest a x d e =
          let p : (a ≡ x) × ([] ≡ rest) = some_pair_parts _ _ _ _ e in
          ([], p.1, subst (λ l. Power B E l x) (sym (append_nil front)) (subst (λ y. Power B E front y) p.0 (base d)))
      raised_at front (w ∷ ws) rest a x d e = elim (chosen (is_in (just (codes "**")) w) _ _ _ e) [
        | inr h ↦ let p : (a ≡ x) × (w ∷ ws ≡ rest) = some_pair_parts _ _ _ _ h.1 in
            ([], p.1, subst (λ l. Power B E l x) (sym (append_nil front)) (subst (λ y. Power B E front y) p.0 (base d)))
        | inl h ↦ go (bind_some _ (exponent ws) (x, rest) h.1) h.0
      ]
        where
          go : (v : Expr × List Word) × (exponent ws ≡ Some v) × ◌≡◌ {A = Option (Expr × List Word)} (Some (binary w a v.0, v.1)) (Some (x, rest)) → is_in (just (codes "**")) w ≡ true →
              (back : List Word) × (w ∷ ws ≡ back ++ rest) × Power B E (front ++ back) x
          go (v, f, e) h =
              let (back, eq, c) = powers.sound ws v.1 v.0 f in
              let p : (binary w a v.0 ≡ x) × (v.1 ≡ rest) = some_pair_parts _ _ _ _ e in
              (w ∷ back, ap (λ l. w ∷ l) (eq ∙ ap (λ l. back ++ l) p.1), subst (λ y. Power B E (front ++ w ∷ back) y) p.0 (raised w d h c refl))

      start : (ws rest : List Word) (x : Expr) → (v : Expr × List Word) × (below ws ≡ Some v) × (raise exponent v.0 v.1 ≡ Some (x, rest)) →
          (front : List Word) × (ws ≡ front ++ rest) × Power B E front x
      start ws rest x (v, f, e) =
          let (front, eq, d) = reads.sound ws v.1 v.0 f in
          let (back, eq2, c) = raised_at front v.1 rest v.0 x d e in
          (front ++ back, eq ∙ ap (λ l. front ++ l) eq2 ∙ sym (append_assoc front back rest), c)

      complete_at : {front : List Word} {x : Expr} → Power B E front x → (rest : List Word) → Stops (just (codes "**") ++ goes) rest → read_power below exponent (front ++ rest) ≡ Some (x, rest)
      complete_at (base {ws} {x} d) rest s =
          let p : Stops (just (codes "**")) rest × Stops goes rest = stops_parts (just (codes "**")) goes rest s in
          bound _ _ _ _ (reads.complete ws rest x d p.1) (raise_stops x rest p.0)
      complete_at (raised {ws} {front} {back} {a} {b} w d h c e) rest s =
          ap (read_power below exponent) (ap (λ l. l ++ rest) e ∙ append_assoc front (w ∷ back) rest)
          ∙ bound _ _ _ _ (reads.complete front (w ∷ (back ++ rest)) a d (apart (just (codes "**")) goes disjoint w h))
          (cond-true (is_in (just (codes "**")) w) _ _ h ∙ bound _ _ _ _ (powers.complete back rest b c s) refl)

pub power_first : {B E : Rule} (not : Signs) → ((ws : List Word) (x : Expr) → B ws x → Begins not ws) →
    {ws : List Word} {x : Expr} → Power B E ws x → Begins not ws
power_first not f (base d) = f _ _ d
power_first not f (raised {ws} {front} {back} w d h c e) = subst (Begins not) (sym e) (begins_more not front (w ∷ back) (f _ _ d))
