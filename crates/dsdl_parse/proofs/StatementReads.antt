-- A statement is read exactly where the grammar has one.
use Rattle.std.proofs.Common.{◌≡◌, ℕ, true, false, List, [], ◌∷◌, ◌++◌, length, Option, Some, None, codes, refl, sym, ap, ◌∙◌, subst, inl, inr, append_assoc, arith}
use Rattle.std.proofs.lemmas.Bool.{cond-true}
use Rattle.std.proofs.lemmas.Option.{none-some, same_Some, some_pair_parts}
use Rattle.dsdl_lex.specs.declared.token.TokenKind.{TokenKind}
use Rattle.dsdl_lex.specs.declared.token.TokenKind.TheVariants as k
use Rattle.dsdl_parse.specs.declared.expr.Expr.{Expr}
use Rattle.dsdl_parse.specs.declared.statement.Form.{Form}
use Rattle.dsdl_parse.specs.declared.statement.Prefix.{Prefix}
use Rattle.dsdl_parse.specs.declared.statement.Scalar.{Scalar}
use Rattle.dsdl_parse.specs.declared.statement.Statement.{Statement}
use Rattle.dsdl_parse.specs.declared.statement.Statement.TheVariants as s
use Rattle.dsdl_parse.specs.Reading.{is_name_kind, read_expression}
use Rattle.dsdl_parse.specs.Grammar.{IsExpression}
use Rattle.dsdl_parse.specs.Statement.{IsPrefix, none, saturated, truncated, IsVoid, IsScalar, primitive, reference, void, IsForm, one, several, IsStatement, empty, split, directive, directive_of, constant, field, padding}
use Rattle.dsdl_parse.specs.StatementReading.{read_form, read_name, behind_name, alone_of, behind_form, read_attribute, named_directive, read_directive, behind_first, read_statement}
use Rattle.dsdl_parse.specs.Words.{Word, Signs, any_of, on_sign, is_in, just}
use Rattle.dsdl_parse.proofs.Basics.{bind_some, bound, chosen, append_nil}
use Rattle.dsdl_parse.proofs.LevelReads.{reads_expression, expression_first}
use Rattle.dsdl_parse.proofs.FormReads.{form_complete, form_sound}

abbrev ats : Signs
ats = just (codes "@")

abbrev equals : Signs
equals = just (codes "=")

abbrev opens : Signs
opens = just (codes "[")

-- ---- names and signs
no_sign : (ss : Signs) (w : Word) → w.kind ≡ k.Name → is_in ss w ≡ false
no_sign ss w e = ap (λ kind. on_sign ss kind w.text) e

name_complete : (w : Word) (rest : List Word) → w.kind ≡ k.Name → read_name (w ∷ rest) ≡ Some (w.text, rest)
name_complete w rest e = cond-true (is_name_kind w.kind) _ _ (ap is_name_kind e)

name_kind : (kind : TokenKind) → is_name_kind kind ≡ true → kind ≡ k.Name
name_kind k.Name e = refl
name_kind k.Reference e = absurd (cc)
name_kind k.Number e = absurd (cc)
name_kind k.Str e = absurd (cc)
name_kind k.Split e = absurd (cc)
name_kind k.Sign e = absurd (cc)

-- a name that was read, and what stands behind it
record FoundName (ws rest : List Word) (name : List ℕ) : Type 0 where
  word : Word
  kind : word.kind ≡ k.Name
  text : word.text ≡ name
  is : ws ≡ word ∷ rest

name_sound : (ws rest : List Word) (name : List ℕ) → read_name ws ≡ Some (name, rest) → FoundName ws rest name
name_sound [] rest name e = absurd (none-some _ e)
name_sound (w ∷ ws) rest name e = elim (chosen (is_name_kind w.kind) _ _ _ e) [
  | inr h ↦ absurd (none-some _ h.1)
  | inl h ↦
      let same : (w.text ≡ name) × (ws ≡ rest) = some_pair_parts _ _ _ _ h.1 in
      record { word = w; kind = name_kind w.kind h.0; text = same.0; is = ap (λ l. w ∷ l) same.1 }
]

sign_read : (kind : TokenKind) (w : Word) (ws : List Word) → on_sign ats kind w.text ≡ true → behind_first kind w ws ≡ read_directive ws
sign_read k.Sign w ws h = cond-true (any_of ats w.text) _ _ h
sign_read k.Reference w ws h = absurd (cc)
sign_read k.Name w ws h = absurd (cc)
sign_read k.Number w ws h = absurd (cc)
sign_read k.Str w ws h = absurd (cc)
sign_read k.Split w ws h = absurd (cc)

-- ---- expressions to the end of the line
to_end : (ws : List Word) (x : Expr) → IsExpression 64 ws x → read_expression ws ≡ Some (x, [])
to_end ws x d = ap read_expression (sym (append_nil ws)) ∙ (reads_expression 64).complete ws [] x d tt

from_end : (ws rest : List Word) (x : Expr) → read_expression ws ≡ Some (x, rest) → rest ≡ [] → IsExpression 64 ws x
from_end ws rest x e h =
    let (front, eq, d) = (reads_expression 64).sound ws rest x e in
    subst (λ l. IsExpression 64 l x) (sym (eq ∙ ap (λ l. front ++ l) h ∙ append_nil front)) d

some_word : (x : Expr) → IsExpression 64 [] x → ⊥
some_word x d = expression_first 64 equals refl refl refl refl [] x d

-- ---- a type begins a constant, a field or padding
prefix_first : {front : List Word} {o : Option Prefix} (w : Word) (rest : List Word) → IsPrefix front o → w.kind ≡ k.Name →
    read_statement ((front ++ w ∷ []) ++ rest) ≡ read_attribute ((front ++ w ∷ []) ++ rest)
prefix_first w rest (none e) kind = rw e (ap (λ c. behind_first c w rest) kind)
prefix_first w rest (saturated v kind' text e) kind = rw e (ap (λ c. behind_first c v (w ∷ rest)) kind')
prefix_first w rest (truncated v kind' text e) kind = rw e (ap (λ c. behind_first c v (w ∷ rest)) kind')

scalar_first : {front : List Word} {x : Scalar} → IsScalar front x → (rest : List Word) → read_statement (front ++ rest) ≡ read_attribute (front ++ rest)
scalar_first (primitive w d kind is e) rest = rw e (prefix_first w rest d kind)
scalar_first (reference w kind is e) rest = rw e (ap (λ c. behind_first c w rest) kind)
scalar_first (void d) rest = rw d.alone (ap (λ c. behind_first c d.word rest) d.is_name)

form_first : {front : List Word} {f : Form} → IsForm front f → (rest : List Word) → read_statement (front ++ rest) ≡ read_attribute (front ++ rest)
form_first (one d) rest = scalar_first d rest
form_first (several {front} {back} d g e) rest = rw (e, append_assoc front back rest) (scalar_first d (back ++ rest))

-- what a type and a name begin is read so
named : {front : List Word} {f : Form} (name : Word) (rest : List Word) → IsForm front f → name.kind ≡ k.Name →
    read_statement (front ++ name ∷ rest) ≡ behind_name f name.text rest
named {front} {f} name rest d kind =
    form_first d (name ∷ rest)
    ∙ bound _ _ _ _ (form_complete d (name ∷ rest) (no_sign opens name kind)) (bound _ _ _ _ (name_complete name rest kind) refl)

-- ---- each statement is read
directive_read : (at name : Word) (back : List Word) → is_in ats at ≡ true → name.kind ≡ k.Name → read_statement (at ∷ name ∷ back) ≡ named_directive name.text back
directive_read at name back h kind = sign_read at.kind at (name ∷ back) h ∙ bound _ _ _ _ (name_complete name back kind) refl

directive_with : (name : List ℕ) (back : List Word) (x : Expr) → IsExpression 64 back x → named_directive name back ≡ Some (s.Directive name (Some x), [])
directive_with name [] x d = absurd (some_word x d)
directive_with name (w ∷ ws) x d = bound _ _ _ _ (to_end (w ∷ ws) x d) refl

constant_with : (f : Form) (name : List ℕ) (w : Word) (back : List Word) (x : Expr) → is_in equals w ≡ true → IsExpression 64 back x → behind_name f name (w ∷ back) ≡ Some (s.Constant f name x, [])
constant_with f name w back x h d = cond-true (is_in equals w) _ _ h ∙ bound _ _ _ _ (to_end back x d) refl

void_alone : (ws : List Word) (digits : List ℕ) → IsVoid ws digits → read_statement (ws ++ []) ≡ Some (s.Padding digits, [])
void_alone ws digits d = form_first (one (void d)) [] ∙ bound _ _ _ _ (form_complete (one (void d)) [] tt) refl

pub statement_complete : {ws : List Word} {x : Statement} → IsStatement ws x → read_statement ws ≡ Some (x, [])
statement_complete (empty e) = ap read_statement e
statement_complete (split w kind e) = ap read_statement e ∙ ap (λ c. behind_first c w []) kind
statement_complete (directive at name h kind e) = ap read_statement e ∙ directive_read at name [] h kind
statement_complete (directive_of {back} {x} at name h kind d e) = ap read_statement e ∙ directive_read at name back h kind ∙ directive_with name.text back x d
statement_complete (constant {front} {back} {f} {x} name w d kind h g e) = ap read_statement e ∙ named name (w ∷ back) d kind ∙ constant_with f name.text w back x h g
statement_complete (field {front} {f} name d kind e) = ap read_statement e ∙ named name [] d kind
statement_complete {ws} (padding {digits} d) = ap read_statement (sym (append_nil ws)) ∙ void_alone ws digits d

-- ---- what is read is a statement
padding_sound : {ws : List Word} {f : Form} (x : Statement) → IsForm ws f → alone_of f.scalar f.array ≡ Some x → IsStatement ws x
padding_sound {ws} x (one (void {digits} d)) e = subst (IsStatement ws) (same_Some _ _ e) (padding d)
padding_sound x (one (primitive w d kind is f)) e = absurd (none-some x e)
padding_sound x (one (reference w kind is f)) e = absurd (none-some x e)
padding_sound x (several (void d) g f) e = absurd (none-some x e)
padding_sound x (several (primitive w d kind is h) g f) e = absurd (none-some x e)
padding_sound x (several (reference w kind is h) g f) e = absurd (none-some x e)

field_sound : (ws front rest : List Word) (f : Form) (name : Word) (x : Statement) → ws ≡ front ++ name ∷ rest → IsForm front f → name.kind ≡ k.Name → rest ≡ [] →
    s.Field f name.text ≡ x → IsStatement ws x
field_sound ws front rest f name x eq d kind h e = subst (IsStatement ws) e (field name d kind (eq ∙ ap (λ l. front ++ name ∷ l) h))

behind_name_sound : (ws front rest : List Word) (f : Form) (name : Word) (x : Statement) → ws ≡ front ++ name ∷ rest → IsForm front f → name.kind ≡ k.Name →
    behind_name f name.text rest ≡ Some (x, []) → IsStatement ws x
behind_name_sound ws front [] f name x eq d kind e =
    let same : (s.Field f name.text ≡ x) × ([] ≡ []) = some_pair_parts _ _ [] [] e in field_sound ws front [] f name x eq d kind refl same.0
behind_name_sound ws front (w ∷ rest) f name x eq d kind e = elim (chosen (is_in equals w) _ _ _ e) [
  | inr h ↦ let same : (s.Field f name.text ≡ x) × (w ∷ rest ≡ []) = some_pair_parts _ _ _ _ h.1 in field_sound ws front (w ∷ rest) f name x eq d kind same.1 same.0
  | inl h ↦ go h.0 (bind_some _ (read_expression rest) (x, []) h.1)
]
  where
    go : is_in equals w ≡ true → (v : Expr × List Word) × (read_expression rest ≡ Some v) × ◌≡◌ {A = Option (Statement × List Word)} (Some (s.Constant f name.text v.0, v.1)) (Some (x, [])) → IsStatement ws x
    go h (v, g, e) =
        let same : (s.Constant f name.text v.0 ≡ x) × (v.1 ≡ []) = some_pair_parts _ _ _ _ e in
        subst (IsStatement ws) same.0 (constant name w d kind h (from_end rest v.1 v.0 g same.1) eq)

behind_form_sound : (ws front rest : List Word) (f : Form) (x : Statement) → ws ≡ front ++ rest → IsForm front f → behind_form f rest ≡ Some (x, []) → IsStatement ws x
behind_form_sound ws front [] f x eq d e = go (bind_some _ (alone_of f.scalar f.array) (x, []) e)
  where
    go : (y : Statement) × (alone_of f.scalar f.array ≡ Some y) × ◌≡◌ {A = Option (Statement × List Word)} (Some (y, [])) (Some (x, [])) → IsStatement ws x
    go (y, g, e) =
        let same : (y ≡ x) × ([] ≡ []) = some_pair_parts y x [] [] e in
        subst (λ l. IsStatement l x) (sym (eq ∙ append_nil front)) (subst (IsStatement front) same.0 (padding_sound y d g))
behind_form_sound ws front (w ∷ rest) f x eq d e = go (bind_some _ (read_name (w ∷ rest)) (x, []) e)
  where
    go : (n : List ℕ × List Word) × (read_name (w ∷ rest) ≡ Some n) × (behind_name f n.0 n.1 ≡ Some (x, [])) → IsStatement ws x
    go (n, g, e) =
        let found = name_sound (w ∷ rest) n.1 n.0 g in
        behind_name_sound ws front n.1 f found.word x (eq ∙ ap (λ l. front ++ l) found.is) d found.kind (ap (λ t. behind_name f t n.1) found.text ∙ e)

attribute_sound : (ws : List Word) (x : Statement) → read_attribute ws ≡ Some (x, []) → IsStatement ws x
attribute_sound ws x e = go (bind_some _ (read_form ws) (x, []) e)
  where
    go : (v : Form × List Word) × (read_form ws ≡ Some v) × (behind_form v.0 v.1 ≡ Some (x, [])) → IsStatement ws x
    go (v, g, e) = let (front, eq, d) = form_sound ws v.1 v.0 g in behind_form_sound ws front v.1 v.0 x eq d e

named_directive_sound : (at name : Word) (rest : List Word) (x : Statement) → is_in ats at ≡ true → name.kind ≡ k.Name → named_directive name.text rest ≡ Some (x, []) → IsStatement (at ∷ name ∷ rest) x
named_directive_sound at name [] x h kind e =
    let same : (s.Directive name.text None ≡ x) × ([] ≡ []) = some_pair_parts _ _ [] [] e in subst (IsStatement (at ∷ name ∷ [])) same.0 (directive at name h kind refl)
named_directive_sound at name (w ∷ rest) x h kind e = go (bind_some _ (read_expression (w ∷ rest)) (x, []) e)
  where
    go : (v : Expr × List Word) × (read_expression (w ∷ rest) ≡ Some v) × ◌≡◌ {A = Option (Statement × List Word)} (Some (s.Directive name.text (Some v.0), v.1)) (Some (x, [])) → IsStatement (at ∷ name ∷ w ∷ rest) x
    go (v, g, e) =
        let same : (s.Directive name.text (Some v.0) ≡ x) × (v.1 ≡ []) = some_pair_parts _ _ _ _ e in
        subst (IsStatement (at ∷ name ∷ w ∷ rest)) same.0 (directive_of at name h kind (from_end (w ∷ rest) v.1 v.0 g same.1) refl)

directive_sound : (at : Word) (ws : List Word) (x : Statement) → is_in ats at ≡ true → read_directive ws ≡ Some (x, []) → IsStatement (at ∷ ws) x
directive_sound at ws x h e = go (bind_some _ (read_name ws) (x, []) e)
  where
    go : (n : List ℕ × List Word) × (read_name ws ≡ Some n) × (named_directive n.0 n.1 ≡ Some (x, [])) → IsStatement (at ∷ ws) x
    go (n, g, e) =
        let found = name_sound ws n.1 n.0 g in
        subst (λ l. IsStatement l x) (sym (ap (λ l. at ∷ l) found.is)) (named_directive_sound at found.word n.1 x h found.kind (ap (λ t. named_directive t n.1) found.text ∙ e))

first_sound : (kind : TokenKind) (w : Word) (ws : List Word) (x : Statement) → w.kind ≡ kind → behind_first kind w ws ≡ Some (x, []) → IsStatement (w ∷ ws) x
first_sound k.Split w ws x kind e =
    let same : (s.Split ≡ x) × (ws ≡ []) = some_pair_parts _ _ _ _ e in subst (IsStatement (w ∷ ws)) same.0 (split w kind (ap (λ l. w ∷ l) same.1))
first_sound k.Sign w ws x kind e = elim (chosen (any_of ats w.text) _ _ _ e) [
  | inr h ↦ absurd (none-some _ h.1)
  | inl h ↦ directive_sound w ws x (ap (λ c. on_sign ats c w.text) kind ∙ h.0) h.1
]
first_sound k.Name w ws x kind e = attribute_sound (w ∷ ws) x e
first_sound k.Reference w ws x kind e = attribute_sound (w ∷ ws) x e
first_sound k.Number w ws x kind e = absurd (none-some _ e)
first_sound k.Str w ws x kind e = absurd (none-some _ e)

pub statement_sound : (ws : List Word) (x : Statement) → read_statement ws ≡ Some (x, []) → IsStatement ws x
statement_sound [] x e = let same : (s.Empty ≡ x) × ([] ≡ []) = some_pair_parts _ _ [] [] e in subst (IsStatement []) same.0 (empty refl)
statement_sound (w ∷ ws) x e = first_sound w.kind w ws x refl e

-- ---- whole lines of words
pub one_statement : {ws : List Word} {x y : Statement} → IsStatement ws x → IsStatement ws y → x ≡ y
one_statement {ws} {x} {y} d e =
    let same : (x ≡ y) × ([] ≡ []) = some_pair_parts x y [] [] (sym (statement_complete d) ∙ statement_complete e) in same.0

pub none_read : (ws : List Word) → read_statement ws ≡ None → (x : Statement) → IsStatement ws x → ⊥
none_read ws e x d = none-some _ (sym e ∙ statement_complete d)

pub not_all_read : (ws rest : List Word) (y : Statement) → read_statement ws ≡ Some (y, rest) → (length rest ≡ 0 → ⊥) → (x : Statement) → IsStatement ws x → ⊥
not_all_read ws rest y e h x d =
    let same : (y ≡ x) × (rest ≡ []) = some_pair_parts y x rest [] (sym e ∙ statement_complete d) in h (ap length same.1)

nothing_left : (rest : List Word) → length rest ≡ 0 → rest ≡ []
nothing_left [] h = refl
nothing_left (w ∷ rest) h = absurd (omega arith)

pub all_read : (ws rest : List Word) (x : Statement) → read_statement ws ≡ Some (x, rest) → length rest ≡ 0 → IsStatement ws x
all_read ws rest x e h = statement_sound ws x (e ∙ ap (λ l. Some (x, l)) (nothing_left rest h))
