-- Chains: operand (op operand)*.
use Rattle.std.proofs.Common.{◌≡◌, ℕ, zero, suc, ◌≤◌, true, not, List, [], ◌∷◌, ◌++◌, length, Option, Some, refl, sym, ap, ◌∙◌, subst, inl, inr, append_assoc, length-append, le_refl, arith}
use Rattle.std.proofs.lemmas.Bool.{cond-true, cond-false}
use Rattle.std.proofs.lemmas.Option.{some_pair_parts}
use Rattle.dsdl_parse.specs.declared.expr.Expr.{Expr}
use Rattle.dsdl_parse.specs.Words.{Word, Signs, any_of, is_in}
use Rattle.dsdl_parse.specs.Trees.{binary}
use Rattle.dsdl_parse.specs.Grammar.{Rule, Chain, one, more}
use Rattle.dsdl_parse.specs.Reading.{Reader, chain, read_chain}
use Rattle.dsdl_parse.proofs.Basics.{bind_some, bound, chosen, all_fail, apart, append_nil}
use Rattle.dsdl_parse.proofs.Readers.{Stops, stops_parts, Begins, begins_more, Reads}

module _ (op : Signs) (operand : Reader Expr) (R : Rule) (goes : Signs) (reads : Reads operand R goes) where
  chain_stops : (n : ℕ) (a : Expr) (rest : List Word) → Stops op rest → chain op operand n a rest ≡ Some (a, rest)
  chain_stops zero a rest s = refl
  chain_stops (suc n) a [] s = refl
  chain_stops (suc n) a (w ∷ ws) s = cond-false (is_in op w) _ _ s

  module _ (disjoint : all_fail op (any_of goes) ≡ true) where
    chain_reaches : {front : List Word} {a : Expr} → Chain op R front a → (rest : List Word) → Stops goes rest →
        (n : ℕ) × (length rest ≤ n) × (read_chain op operand (front ++ rest) ≡ chain op operand n a rest)
    chain_reaches (one {ws} {x} d) rest s = (
      length rest,
      le_refl (length rest),
      bound _ _ _ _ (reads.complete ws rest x d s) refl,
    )
    chain_reaches (more {ws} {front} {back} {a} {b} w c isop d e) rest s =
        go (chain_reaches c (w ∷ (back ++ rest)) (apart op goes disjoint w isop))
      where
        go : (n : ℕ) × (length (w ∷ (back ++ rest)) ≤ n) × (read_chain op operand (front ++ w ∷ (back ++ rest)) ≡ chain op operand n a (w ∷ (back ++ rest))) →
            (n : ℕ) × (length rest ≤ n) × (read_chain op operand (ws ++ rest) ≡ chain op operand n (binary w a b) rest)
        go (zero, le, eq) = absurd (omega arith)
        go (suc n, le, eq) = (
          n,
          omega (arith, length-append back rest),
          ap (read_chain op operand) (ap (λ l. l ++ rest) e ∙ append_assoc front (w ∷ back) rest) ∙ eq
              ∙ cond-true (is_in op w) _ _ isop ∙ bound _ _ _ _ (reads.complete back rest b d s) refl,
        )

    stays : {front : List Word} {a x : Expr} {ws rest : List Word} → ◌≡◌ {A = Option (Expr × List Word)} (Some (a, ws)) (Some (x, rest)) → Chain op R front a →
        (back : List Word) × (ws ≡ back ++ rest) × Chain op R (front ++ back) x
    stays {front} {a} {x} {ws} {rest} e c =
        let p : (a ≡ x) × (ws ≡ rest) = some_pair_parts a x ws rest e in
        ([], p.1, subst (λ l. Chain op R l x) (sym (append_nil front)) (subst (λ y. Chain op R front y) p.0 c))

    chain_sound : (n : ℕ) (a x : Expr) (ws rest front : List Word) → chain op operand n a ws ≡ Some (x, rest) → Chain op R front a →
        (back : List Word) × (ws ≡ back ++ rest) × Chain op R (front ++ back) x
    chain_sound zero a x ws rest front e c = stays e c
    chain_sound (suc n) a x [] rest front e c = stays e c
    chain_sound (suc n) a x (w ∷ ws) rest front e c = elim (chosen (is_in op w) _ _ _ e) [
      | inr h ↦ stays h.1 c
      | inl h ↦ go (λ b v1 f c. chain_sound n b x v1 rest f c) (bind_some _ (operand ws) (x, rest) h.1) h.0
    ]
      where
        last : (v : Expr × List Word) (back : List Word) → ws ≡ back ++ v.1 → R back v.0 → is_in op w ≡ true →
            (more : List Word) × (v.1 ≡ more ++ rest) × Chain op R ((front ++ w ∷ back) ++ more) x →
            (back : List Word) × (w ∷ ws ≡ back ++ rest) × Chain op R (front ++ back) x
        last v back e d h (next, f, c) = (
          w ∷ (back ++ next),
          ap (λ l. w ∷ l) (e ∙ ap (λ l. back ++ l) f ∙ sym (append_assoc back next rest)),
          subst (λ l. Chain op R l x) (append_assoc front (w ∷ back) next) c,
        )

        go : ((b : Expr) (ws front : List Word) → chain op operand n b ws ≡ Some (x, rest) → Chain op R front b → (back : List Word) × (ws ≡ back ++ rest) × Chain op R (front ++ back) x) →
            (v : Expr × List Word) × (operand ws ≡ Some v) × (chain op operand n (binary w a v.0) v.1 ≡ Some (x, rest)) → is_in op w ≡ true →
            (back : List Word) × (w ∷ ws ≡ back ++ rest) × Chain op R (front ++ back) x
        go again (v, f, e) h =
            let (back, eq, d) = reads.sound ws v.1 v.0 f in
            last v back eq d h (again (binary w a v.0) v.1 (front ++ w ∷ back) e (more w c h d refl))

    pub chain_reads : Reads (read_chain op operand) (Chain op R) (op ++ goes)
    chain_reads = record {
      sound = λ ws rest x e. start ws rest x (bind_some _ (operand ws) (x, rest) e);
      complete = λ front rest x d s.
          let p : Stops op rest × Stops goes rest = stops_parts op goes rest s in
          let (n, le, eq) = chain_reaches d rest p.1 in
          eq ∙ chain_stops n x rest p.0;
    }
      where
        start : (ws rest : List Word) (x : Expr) → (v : Expr × List Word) × (operand ws ≡ Some v) × (chain op operand (length v.1) v.0 v.1 ≡ Some (x, rest)) →
            (front : List Word) × (ws ≡ front ++ rest) × Chain op R front x
        start ws rest x (v, f, e) =
            let (front, eq, d) = reads.sound ws v.1 v.0 f in
            let (back, eq2, c) = chain_sound (length v.1) v.0 x v.1 rest front e (one d) in
            (front ++ back, eq ∙ ap (λ l. front ++ l) eq2 ∙ sym (append_assoc front back rest), c)

pub chain_first : {op : Signs} {R : Rule} (not : Signs) → ((ws : List Word) (x : Expr) → R ws x → Begins not ws) →
    {ws : List Word} {x : Expr} → Chain op R ws x → Begins not ws
chain_first not f (one d) = f _ _ d
chain_first not f (more {ws} {front} {back} w c isop d e) = subst (Begins not) (sym e) (begins_more not front (w ∷ back) (chain_first not f c))
