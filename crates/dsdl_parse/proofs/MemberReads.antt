-- Members: atom ("." name)*.
use Rattle.std.proofs.Common.{◌≡◌, ℕ, zero, suc, ◌≤◌, true, not, List, [], ◌∷◌, ◌++◌, length, Option, Some, codes, refl, sym, ap, ◌∙◌, subst, inl, inr, append_assoc, le_refl, arith}
use Rattle.std.proofs.lemmas.Bool.{cond-true, cond-false}
use Rattle.std.proofs.lemmas.Option.{none-some, some_pair_parts}
use Rattle.dsdl_parse.specs.declared.expr.Expr.{Expr}
use Rattle.dsdl_lex.specs.declared.token.TokenKind.{TokenKind}
use Rattle.dsdl_lex.specs.declared.token.TokenKind.TheVariants as k
use Rattle.dsdl_parse.specs.Words.{Word, Signs, is_in, just}
use Rattle.dsdl_parse.specs.Trees.{member}
use Rattle.dsdl_parse.specs.Grammar.{Rule, Member, alone, dotted}
use Rattle.dsdl_parse.specs.Reading.{Reader, is_name_kind, members, read_member}
use Rattle.dsdl_parse.proofs.Basics.{bind_some, bound, chosen, in_none, append_nil}
use Rattle.dsdl_parse.proofs.Readers.{Stops, Begins, begins_more, Reads}

name_kind : (kind : TokenKind) → kind ≡ k.Name → is_name_kind kind ≡ true
name_kind kind e = rw e refl

kind_of_name : (kind : TokenKind) → is_name_kind kind ≡ true → kind ≡ k.Name
kind_of_name k.Name e = refl
kind_of_name k.Reference e = cc
kind_of_name k.Number e = cc
kind_of_name k.Str e = cc
kind_of_name k.Split e = cc
kind_of_name k.Sign e = cc

abbrev pub dot : Signs
dot = just (codes ".")

module _ (atom : Reader Expr) (A : Rule) (reads : Reads atom A []) where
  members_stop : (n : ℕ) (a : Expr) (rest : List Word) → Stops dot rest → members n a rest ≡ Some (a, rest)
  members_stop zero a rest s = refl
  members_stop (suc n) a [] s = refl
  members_stop (suc n) a (w ∷ []) s = cond-false (is_in dot w) _ _ s
  members_stop (suc n) a (w ∷ v ∷ ws) s = cond-false (is_in dot w) _ _ s

  stops_any : (rest : List Word) → Stops [] rest
  stops_any [] = tt
  stops_any (w ∷ ws) = in_none w

  member_reaches : {front : List Word} {a : Expr} → Member A front a → (rest : List Word) →
      (n : ℕ) × (length rest ≤ n) × (read_member atom (front ++ rest) ≡ members n a rest)
  member_reaches (alone {ws} {x} d) rest = (length rest, le_refl (length rest), bound _ _ _ _ (reads.complete ws rest x d (stops_any rest)) refl)
  member_reaches (dotted {ws} {front} {a} w name c h isname e) rest = go (member_reaches c (w ∷ name ∷ rest))
    where
      go : (n : ℕ) × (length (w ∷ name ∷ rest) ≤ n) × (read_member atom (front ++ w ∷ name ∷ rest) ≡ members n a (w ∷ name ∷ rest)) →
          (n : ℕ) × (length rest ≤ n) × (read_member atom (ws ++ rest) ≡ members n (member a name) rest)
      go (zero, le, eq) = absurd (omega arith)
      go (suc n, le, eq) = (
        n,
        omega arith,
        ap (read_member atom) (ap (λ l. l ++ rest) e ∙ append_assoc front (w ∷ name ∷ []) rest) ∙ eq
            ∙ cond-true (is_in dot w) _ _ h ∙ cond-true (is_name_kind name.kind) _ _ (name_kind name.kind isname),
      )

  still : {front : List Word} {a x : Expr} {ws rest : List Word} → ◌≡◌ {A = Option (Expr × List Word)} (Some (a, ws)) (Some (x, rest)) → Member A front a →
      (back : List Word) × (ws ≡ back ++ rest) × Member A (front ++ back) x
  still {front} {a} {x} {ws} {rest} e c =
      let p : (a ≡ x) × (ws ≡ rest) = some_pair_parts a x ws rest e in
      ([], p.1, subst (λ l. Member A l x) (sym (append_nil front)) (subst (λ y. Member A front y) p.0 c))

  members_sound : (n : ℕ) (a x : Expr) (ws rest front : List Word) → members n a ws ≡ Some (x, rest) → Member A front a →
      (back : List Word) × (ws ≡ back ++ rest) × Member A (front ++ back) x
  members_sound zero a x ws rest front e c = still e c
  members_sound (suc n) a x [] rest front e c = still e c
  members_sound (suc n) a x (w ∷ []) rest front e c = elim (chosen (is_in dot w) _ _ _ e) [ inl h ↦ absurd (none-some _ h.1) | inr h ↦ still h.1 c ]
  members_sound (suc n) a x (w ∷ name ∷ ws) rest front e c = elim (chosen (is_in dot w) _ _ _ e) [
    | inr h ↦ still h.1 c
    | inl h ↦ elim (chosen (is_name_kind name.kind) _ _ _ h.1) [
      | inr h2 ↦ absurd (none-some _ h2.1)
      | inl h2 ↦ last (members_sound n (member a name) x ws rest (front ++ w ∷ name ∷ []) h2.1 (dotted w name c h.0 (kind_of_name name.kind h2.0) refl))
    ]
  ]
    where
      last : (back : List Word) × (ws ≡ back ++ rest) × Member A ((front ++ w ∷ name ∷ []) ++ back) x →
          (back : List Word) × (w ∷ name ∷ ws ≡ back ++ rest) × Member A (front ++ back) x
      last (back, eq, d) = (w ∷ name ∷ back, ap (λ l. w ∷ name ∷ l) eq, subst (λ l. Member A l x) (append_assoc front (w ∷ name ∷ []) back) d)

  pub member_reads : Reads (read_member atom) (Member A) dot
  member_reads = record {
    sound = λ ws rest x e. start ws rest x (bind_some _ (atom ws) (x, rest) e);
    complete = λ front rest x d s. let (n, le, eq) = member_reaches d rest in eq ∙ members_stop n x rest s;
  }
    where
      start : (ws rest : List Word) (x : Expr) → (v : Expr × List Word) × (atom ws ≡ Some v) × (members (length v.1) v.0 v.1 ≡ Some (x, rest)) →
          (front : List Word) × (ws ≡ front ++ rest) × Member A front x
      start ws rest x (v, f, e) =
          let (front, eq, d) = reads.sound ws v.1 v.0 f in
          let (back, eq2, c) = members_sound (length v.1) v.0 x v.1 rest front e (alone d) in
          (front ++ back, eq ∙ ap (λ l. front ++ l) eq2 ∙ sym (append_assoc front back rest), c)

pub member_first : {A : Rule} (not : Signs) → ((ws : List Word) (x : Expr) → A ws x → Begins not ws) →
    {ws : List Word} {x : Expr} → Member A ws x → Begins not ws
member_first not f (alone d) = f _ _ d
member_first not f (dotted {ws} {front} w name c h isname e) = subst (Begins not) (sym e) (begins_more not front (w ∷ name ∷ []) (member_first not f c))
