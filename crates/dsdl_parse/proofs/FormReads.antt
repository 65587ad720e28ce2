-- A type is read exactly where the grammar has one.
use Rattle.std.proofs.Common.{◌≡◌, true, List, [], ◌∷◌, ◌++◌, Option, Some, None, codes, refl, sym, ap, ◌∙◌, subst, inl, inr, append_assoc}
use Rattle.std.proofs.lemmas.Bool.{cond-true, cond-false}
use Rattle.std.proofs.lemmas.Option.{none-some, same_Some, some_pair_parts}
use Rattle.dsdl_parse.specs.declared.expr.Expr.{Expr}
use Rattle.dsdl_parse.specs.declared.statement.Bound.{Bound}
use Rattle.dsdl_parse.specs.declared.statement.BoundSign.{BoundSign}
use Rattle.dsdl_parse.specs.declared.statement.BoundSign.TheVariants as sign
use Rattle.dsdl_parse.specs.declared.statement.Form.{Form}
use Rattle.dsdl_parse.specs.declared.statement.Scalar.{Scalar}
use Rattle.dsdl_parse.specs.Reading.{◌>>=◌, close, read_expression}
use Rattle.dsdl_parse.specs.Grammar.{IsExpression}
use Rattle.dsdl_parse.specs.Statement.{IsScalar, IsBoundSign, exact, at_most, below, IsBound, brackets, IsForm, one, several}
use Rattle.dsdl_parse.specs.StatementReading.{read_scalar, read_sign, end_bound, with_sign, read_bound, behind_scalar, read_form}
use Rattle.dsdl_parse.specs.Words.{Word, Signs, is_in, just}
use Rattle.dsdl_parse.proofs.Basics.{bind_some, bound, chosen, apart, out_of_both}
use Rattle.dsdl_parse.proofs.Readers.{Stops, Begins, begins_more}
use Rattle.dsdl_parse.proofs.LevelReads.{goes_expression, reads_expression, expression_first}
use Rattle.dsdl_parse.proofs.ScalarReads.{scalar_complete, scalar_sound}

abbrev opens : Signs
opens = just (codes "[")

abbrev closes : Signs
closes = just (codes "]")

abbrev at_mosts : Signs
at_mosts = just (codes "<=")

abbrev belows : Signs
belows = just (codes "<")

-- ---- the sign of a bound
exact_read : (behind : List Word) → Begins (at_mosts ++ belows) behind → read_sign behind ≡ (sign.Exact, behind)
exact_read [] b = absurd b
exact_read (w ∷ ws) b =
    let q = out_of_both at_mosts belows w b in
    cond-false (is_in at_mosts w) _ _ q.0 ∙ cond-false (is_in belows w) _ _ q.1

sign_complete : {front : List Word} {s : BoundSign} → IsBoundSign front s → (behind : List Word) → Begins (at_mosts ++ belows) behind → read_sign (front ++ behind) ≡ (s, behind)
sign_complete (exact e) behind b = ap (λ l. read_sign (l ++ behind)) e ∙ exact_read behind b
sign_complete (at_most w h e) behind b = ap (λ l. read_sign (l ++ behind)) e ∙ cond-true (is_in at_mosts w) _ _ h
sign_complete (below w h e) behind b =
    ap (λ l. read_sign (l ++ behind)) e ∙ cond-false (is_in at_mosts w) _ _ (apart belows at_mosts refl w h) ∙ cond-true (is_in belows w) _ _ h

sign_sound : (ws rest : List Word) (s : BoundSign) → read_sign ws ≡ (s, rest) → (front : List Word) × (ws ≡ front ++ rest) × IsBoundSign front s
sign_sound [] rest s e = ([], ap (λ r. r.1) e, subst (IsBoundSign []) (ap (λ r. r.0) e) (exact refl))
sign_sound (w ∷ ws) rest s e = elim (chosen (is_in at_mosts w) _ _ _ e) [
  | inl h ↦ (w ∷ [], ap (λ r. w ∷ r.1) h.1, subst (IsBoundSign (w ∷ [])) (ap (λ r. r.0) h.1) (at_most w h.0 refl))
  | inr h ↦ elim (chosen (is_in belows w) _ _ _ h.1) [
    | inl g ↦ (w ∷ [], ap (λ r. w ∷ r.1) g.1, subst (IsBoundSign (w ∷ [])) (ap (λ r. r.0) g.1) (below w g.0 refl))
    | inr g ↦ ([], ap (λ r. r.1) g.1, subst (IsBoundSign []) (ap (λ r. r.0) g.1) (exact refl))
  ]
]

-- ---- a bound
with_sign_complete : (s : BoundSign) (inside rest : List Word) (x : Expr) (c : Word) → IsExpression 64 inside x → is_in closes c ≡ true →
    with_sign s (inside ++ c ∷ rest) ≡ Some (record { sign = s; expr = x }, rest)
with_sign_complete s inside rest x c d h =
    bound _ _ _ _ ((reads_expression 64).complete inside (c ∷ rest) x d (apart closes goes_expression refl c h))
    (bound _ _ _ _ (cond-true (is_in closes c) _ _ h) refl)

bound_complete : (front inside rest : List Word) (s : BoundSign) (x : Expr) (c : Word) → IsBoundSign front s → IsExpression 64 inside x → is_in closes c ≡ true →
    read_bound ((front ++ (inside ++ c ∷ [])) ++ rest) ≡ Some (record { sign = s; expr = x }, rest)
bound_complete front inside rest s x c d f h =
    let begins : Begins (at_mosts ++ belows) (inside ++ c ∷ rest) = begins_more (at_mosts ++ belows) inside (c ∷ rest) (expression_first 64 (at_mosts ++ belows) refl refl refl refl inside x f) in
    ap read_bound (append_assoc front (inside ++ c ∷ []) rest ∙ ap (λ l. front ++ l) (append_assoc inside (c ∷ []) rest))
    ∙ ap (λ r. with_sign r.0 r.1) (sign_complete d (inside ++ c ∷ rest) begins)
    ∙ with_sign_complete s inside rest x c f h

closed : {A : Type 0} (a : A) (ws : List Word) (v : (A × Word) × List Word) → close closes a ws ≡ Some v → (v.0.0 ≡ a) × (ws ≡ v.0.1 ∷ v.1) × (is_in closes v.0.1 ≡ true)
closed a [] v e = absurd (none-some _ e)
closed a (w ∷ ws) v e = elim (chosen (is_in closes w) _ _ _ e) [
  | inr h ↦ absurd (none-some _ h.1)
  | inl h ↦ let same : ((a, w), ws) ≡ v = same_Some _ _ h.1 in
      (sym (ap (λ u. u.0.0) same), ap (λ u. u.0.1 ∷ u.1) same, subst (λ u. is_in closes u.0.1 ≡ true) same h.0)
]

-- words behind `[` of which a bound was read, and the words that it left
abbrev FoundBound : Word → List Word → List Word → Bound → Type 0
FoundBound o ws rest b = (back : List Word) × (o ∷ ws ≡ back ++ rest) × IsBound back b

bound_sound : (o : Word) (ws rest : List Word) (b : Bound) → is_in opens o ≡ true → read_bound ws ≡ Some (b, rest) → FoundBound o ws rest b
bound_sound o ws rest b ho e = first (sign_sound ws (read_sign ws).1 (read_sign ws).0 refl)
  where
    last : (front : List Word) → ws ≡ front ++ (read_sign ws).1 → IsBoundSign front (read_sign ws).0 →
        (v : Expr × List Word) → (inside : List Word) → (read_sign ws).1 ≡ inside ++ v.1 → IsExpression 64 inside v.0 →
        (u : (Expr × Word) × List Word) × (close closes v.0 v.1 ≡ Some u) × ◌≡◌ {A = Option (Bound × List Word)} (Some (record { sign = (read_sign ws).0; expr = u.0.0 }, u.1)) (Some (b, rest)) → FoundBound o ws rest b
    last front eq d v inside eq2 f (u, g, e) =
        let (a, is, hc) = closed v.0 v.1 u g in
        let same : (record { sign = (read_sign ws).0; expr = u.0.0 } ≡ b) × (u.1 ≡ rest) = some_pair_parts _ _ _ _ e in (
          o ∷ (front ++ (inside ++ u.0.1 ∷ [])),
          ap (λ l. o ∷ l)
              (eq ∙ ap (λ l. front ++ l) (eq2 ∙ ap (λ l. inside ++ l) (is ∙ ap (λ l. u.0.1 ∷ l) same.1) ∙ sym (append_assoc inside (u.0.1 ∷ []) rest))
              ∙ sym (append_assoc front (inside ++ u.0.1 ∷ []) rest)),
          subst (IsBound (o ∷ (front ++ (inside ++ u.0.1 ∷ [])))) same.0 (brackets o u.0.1 ho d (subst (IsExpression 64 inside) (sym a) f) hc refl),
        )

    second : (front : List Word) → ws ≡ front ++ (read_sign ws).1 → IsBoundSign front (read_sign ws).0 →
        (v : Expr × List Word) × (read_expression (read_sign ws).1 ≡ Some v) × ((close closes v.0 v.1 >>= end_bound (read_sign ws).0) ≡ Some (b, rest)) → FoundBound o ws rest b
    second front eq d (v, f, e) =
        let (inside, eq2, x) = (reads_expression 64).sound (read_sign ws).1 v.1 v.0 f in
        last front eq d v inside eq2 x (bind_some _ (close closes v.0 v.1) (b, rest) e)

    first : (front : List Word) × (ws ≡ front ++ (read_sign ws).1) × IsBoundSign front (read_sign ws).0 → FoundBound o ws rest b
    first (front, eq, d) = second front eq d (bind_some _ (read_expression (read_sign ws).1) (b, rest) e)

-- ---- a type
array_complete : (s : Scalar) {back : List Word} {b : Bound} → IsBound back b → (rest : List Word) → behind_scalar s (back ++ rest) ≡ Some (record { scalar = s; array = Some b }, rest)
array_complete s (brackets {front} {inside} {s = q} {x} o c ho d f hc e) rest =
    ap (λ l. behind_scalar s (l ++ rest)) e ∙ cond-true (is_in opens o) _ _ ho ∙ bound _ _ _ _ (bound_complete front inside rest q x c d f hc) refl

no_array : (s : Scalar) (rest : List Word) → Stops opens rest → behind_scalar s rest ≡ Some (record { scalar = s; array = None }, rest)
no_array s [] h = refl
no_array s (w ∷ ws) h = cond-false (is_in opens w) _ _ h

pub form_complete : {front : List Word} {f : Form} → IsForm front f → (rest : List Word) → Stops opens rest → read_form (front ++ rest) ≡ Some (f, rest)
form_complete (one {s} d) rest h = bound _ _ _ _ (scalar_complete d rest) (no_array s rest h)
form_complete (several {front} {back} {s} {b} d g e) rest h =
    ap read_form (ap (λ l. l ++ rest) e ∙ append_assoc front back rest) ∙ bound _ _ _ _ (scalar_complete d (back ++ rest)) (array_complete s g rest)

-- words of which a type was read, and the words that it left
abbrev pub FoundForm : List Word → List Word → Form → Type 0
FoundForm ws rest f = (front : List Word) × (ws ≡ front ++ rest) × IsForm front f

alone_found : (ws rest mid front : List Word) (s : Scalar) (f : Form) → ws ≡ front ++ mid → IsScalar front s → ◌≡◌ {A = Option (Form × List Word)} (Some (record { scalar = s; array = None }, mid)) (Some (f, rest)) → FoundForm ws rest f
alone_found ws rest mid front s f eq d e =
    let same : (record { scalar = s; array = None } ≡ f) × (mid ≡ rest) = some_pair_parts _ _ _ _ e in
    (front, eq ∙ ap (λ l. front ++ l) same.1, subst (IsForm front) same.0 (one d))

array_found : (ws rest front mid : List Word) (o : Word) (s : Scalar) (f : Form) → ws ≡ front ++ o ∷ mid → IsScalar front s → is_in opens o ≡ true →
    (v : Bound × List Word) × (read_bound mid ≡ Some v) × ◌≡◌ {A = Option (Form × List Word)} (Some (record { scalar = s; array = Some v.0 }, v.1)) (Some (f, rest)) → FoundForm ws rest f
array_found ws rest front mid o s f eq d ho (v, g, e) =
    let (back, is, b) = bound_sound o mid v.1 v.0 ho g in
    let same : (record { scalar = s; array = Some v.0 } ≡ f) × (v.1 ≡ rest) = some_pair_parts _ _ _ _ e in (
      front ++ back,
      eq ∙ ap (λ l. front ++ l) (is ∙ ap (λ l. back ++ l) same.1) ∙ sym (append_assoc front back rest),
      subst (IsForm (front ++ back)) same.0 (several d b refl),
    )

behind_found : (ws rest front mid : List Word) (s : Scalar) (f : Form) → ws ≡ front ++ mid → IsScalar front s → behind_scalar s mid ≡ Some (f, rest) → FoundForm ws rest f
behind_found ws rest front [] s f eq d e = alone_found ws rest [] front s f eq d e
behind_found ws rest front (w ∷ mid) s f eq d e = elim (chosen (is_in opens w) _ _ _ e) [
  | inl h ↦ array_found ws rest front mid w s f eq d h.0 (bind_some _ (read_bound mid) (f, rest) h.1)
  | inr h ↦ alone_found ws rest (w ∷ mid) front s f eq d h.1
]

pub form_sound : (ws rest : List Word) (f : Form) → read_form ws ≡ Some (f, rest) → FoundForm ws rest f
form_sound ws rest f e = go (bind_some _ (read_scalar ws) (f, rest) e)
  where
    go : (v : Scalar × List Word) × (read_scalar ws ≡ Some v) × (behind_scalar v.0 v.1 ≡ Some (f, rest)) → FoundForm ws rest f
    go (v, g, e) = let (front, eq, d) = scalar_sound ws v.1 v.0 g in behind_found ws rest front v.1 v.0 f eq d e
