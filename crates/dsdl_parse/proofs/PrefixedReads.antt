-- Prefixes: op inner | plain.
use Rattle.std.proofs.Common.{◌≡◌, true, not, List, [], ◌∷◌, ◌++◌, Option, Some, refl, sym, ap, ◌∙◌, subst, inl, inr}
use Rattle.std.proofs.lemmas.Bool.{cond-true, cond-false}
use Rattle.std.proofs.lemmas.Option.{some_pair_parts}
use Rattle.dsdl_parse.specs.declared.expr.Expr.{Expr}
use Rattle.dsdl_parse.specs.Words.{Word, Signs, any_of, is_in}
use Rattle.dsdl_parse.specs.Trees.{unary}
use Rattle.dsdl_parse.specs.Grammar.{Rule, Prefixed, plain, prefixed}
use Rattle.dsdl_parse.specs.Reading.{Reader, read_prefixed}
use Rattle.dsdl_parse.proofs.Basics.{bind_some, bound, chosen, all_fail, apart}
use Rattle.dsdl_parse.proofs.Readers.{Stops, Begins, Reads}

module _ (op : Signs) (inner normal : Reader Expr) (I P : Rule) (goes : Signs) (inside : Reads inner I goes) (plainly : Reads normal P goes)
    (first : (ws : List Word) (x : Expr) → P ws x → Begins op ws) where
  pub prefixed_reads : Reads (read_prefixed op inner normal) (Prefixed op I P) goes
  prefixed_reads = record { sound = sound_at; complete = λ front rest x d s. complete_at d rest s }
    where
      sound_at : (ws rest : List Word) (x : Expr) → read_prefixed op inner normal ws ≡ Some (x, rest) →
          (front : List Word) × (ws ≡ front ++ rest) × Prefixed op I P front x
      sound_at [] rest x e = let (front, eq, d) = plainly.sound [] rest x e in (front, eq, plain d)
      sound_at (w ∷ ws) rest x e = elim (chosen (is_in op w) _ _ _ e) [
        | inr h ↦ let (front, eq, d) = plainly.sound (w ∷ ws) rest x h.1 in (front, eq, plain d)
        | inl h ↦ go (bind_some _ (inner ws) (x, rest) h.1) h.0
      ]
        where
          go : (v : Expr × List Word) × (inner ws ≡ Some v) × ◌≡◌ {A = Option (Expr × List Word)} (Some (unary w v.0, v.1)) (Some (x, rest)) → is_in op w ≡ true →
              (front : List Word) × (w ∷ ws ≡ front ++ rest) × Prefixed op I P front x
          go (v, f, e) h =
              let (back, eq, d) = inside.sound ws v.1 v.0 f in
              let p : (unary w v.0 ≡ x) × (v.1 ≡ rest) = some_pair_parts _ _ _ _ e in
              (w ∷ back, ap (λ l. w ∷ l) (eq ∙ ap (λ l. back ++ l) p.1), subst (λ y. Prefixed op I P (w ∷ back) y) p.0 (prefixed w h d refl))

      begun : (front rest : List Word) (x : Expr) → Begins op front → normal (front ++ rest) ≡ Some (x, rest) → read_prefixed op inner normal (front ++ rest) ≡ Some (x, rest)
      begun [] rest x b e = absurd b
      begun (w ∷ ws) rest x b e = cond-false (is_in op w) _ _ b ∙ e

      complete_at : {front : List Word} {x : Expr} → Prefixed op I P front x → (rest : List Word) → Stops goes rest → read_prefixed op inner normal (front ++ rest) ≡ Some (x, rest)
      complete_at (plain {ws} {x} d) rest s = begun ws rest x (first ws x d) (plainly.complete ws rest x d s)
      complete_at (prefixed {ws} {back} {x} w h d e) rest s =
          ap (λ l. read_prefixed op inner normal (l ++ rest)) e ∙ cond-true (is_in op w) _ _ h ∙ bound _ _ _ _ (inside.complete back rest x d s) refl

pub prefixed_first : {I P : Rule} (op not : Signs) → all_fail op (any_of not) ≡ true → ((ws : List Word) (x : Expr) → P ws x → Begins not ws) →
    {ws : List Word} {x : Expr} → Prefixed op I P ws x → Begins not ws
prefixed_first op not a f (plain d) = f _ _ d
prefixed_first op not a f (prefixed w h d e) = subst (Begins not) (sym e) (apart op not a w h)
