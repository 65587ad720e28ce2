-- The value of an expression, layer by layer
use Rattle.std.proofs.Common.{◌≡◌, ◌≢◌, IfOk, ℕ, ◌<◌, Bool, List, map, Result, Ok, Err, refl, sym, ap, ◌∙◌, subst, rules}
use Rattle.dsdl_parse.specs.declared.expr.Span.{Span}
use Rattle.dsdl_parse.specs.declared.expr.Reference.{Reference}
use Rattle.dsdl_parse.specs.declared.expr.Expr.{Expr, out-Expr, size-Expr}
use Rattle.dsdl_parse.specs.declared.expr.ExprNode.{ExprNode, out-ExprNode, roll-ExprNode, roll-out-ExprNode}
use Rattle.dsdl_parse.specs.declared.expr.ExprNode.TheVariants as v
use Rattle.dsdl_parse.specs.declared.expr.ExprNode.TheOpen as e
use Rattle.dsdl_parse.specs.declared.expr.ExprNode.TheFolds.{fold-ExprNode, fold_out-Expr, fold_out-ExprNode, map-ExprNode, the_lemmas}
use Rattle.const_expr.specs.declared.constant.Const.{Const}
use Rattle.const_expr.specs.declared.constant.Const.TheVariants as c
use Rattle.const_expr.specs.declared.error.ExprError.{ExprError}
use Rattle.const_expr.specs.declared.error.ExprError.TheVariants as error
use Rattle.const_expr.specs.declared.scope.Scope.{Scope}
use Rattle.const_expr.specs.declared.why.Why.{Why}
use Rattle.const_expr.specs.declared.why.Why.TheVariants as why
use Rattle.const_expr.specs.Refusals.{at, Gives}
use Rattle.const_expr.specs.Constants.{IsConst}
use Rattle.const_expr.specs.Literal.{literal}
use Rattle.const_expr.specs.Binary.{binary}
use Rattle.const_expr.specs.Unary.{unary, set_of}
use Rattle.const_expr.specs.Member.{named, referred, member}
use Rattle.const_expr.specs.Value.{Valued, with_value, all_values, at_node, at_place, value_of}
use Rattle.const_expr.specs.Spine.{IsLeftIn, IsLeftOf, onto_node, onto}

pub value_at : Scope → e.ExprNode-F ExprNode Expr → Span → Valued
value_at scope (e.Number text) s = at s (literal text)
value_at scope (e.Str text) s = Ok (c.Str text)
value_at scope (e.Truth b) s = Ok (c.Truth b)
value_at scope (e.Name name) s = at s (named scope name)
value_at scope (e.Reference r) s = at s (referred scope r)
value_at scope (e.Set xs) s = with_value (all_values (map (value_of scope) xs)) (λ us. at s (set_of us))
value_at scope (e.Unary op a) s = with_value (value_of scope a) (λ u. at s (unary op u))
value_at scope (e.Binary op a b) s = with_value (value_of scope a) (λ u. with_value (value_of scope b) (λ v. at s (binary op u v)))
value_at scope (e.Member a name) s = with_value (value_of scope a) (λ u. at s (member scope u name))

outer : (scope : Scope) (x : Expr) → value_of scope x ≡ fold-ExprNode (Span → Valued) Valued (at_node scope) at_place (out-Expr x).node (out-Expr x).span
unfolding value_of
outer scope x = ap (λ (f : Valued). f) (fold_out-Expr (Span → Valued) Valued (at_node scope) at_place x)

layer : (scope : Scope) (y : e.ExprNode-F ExprNode Expr) (s : Span) →
    at_node scope (map-ExprNode ExprNode Expr (Span → Valued) Valued (λ n. fold-ExprNode (Span → Valued) Valued (at_node scope) at_place n) (λ x. value_of scope x) y) s ≡ value_at scope y s
unfolding value_at value_of
layer scope (e.Number text) s = refl
layer scope (e.Str text) s = refl
layer scope (e.Truth b) s = refl
layer scope (e.Name name) s = refl
layer scope (e.Reference r) s = refl
layer scope (e.Set xs) s = refl
layer scope (e.Unary op a) s = refl
layer scope (e.Binary op a b) s = refl
layer scope (e.Member a name) s = refl

inner : (scope : Scope) (n : ExprNode) (s : Span) → fold-ExprNode (Span → Valued) Valued (at_node scope) at_place n s ≡ value_at scope (out-ExprNode n) s
unfolding value_of
inner scope n s = ap (λ (f : Span → Valued). f s) (fold_out-ExprNode (Span → Valued) Valued (at_node scope) at_place n) ∙ layer scope (out-ExprNode n) s

pub value_is : (scope : Scope) (x : Expr) → value_of scope x ≡ value_at scope (out-ExprNode (out-Expr x).node) (out-Expr x).span
value_is scope x = outer scope x ∙ inner scope (out-Expr x).node (out-Expr x).span

left_value : (scope : Scope) (y : e.ExprNode-F ExprNode Expr) (s : Span) (a : Expr) → IsLeftIn a y → value_at scope y s ≡ with_value (value_of scope a) (onto_node scope y s)
unfolding value_at
left_value scope (e.Binary op left right) s a h = ap (λ z. with_value (value_of scope z) (onto_node scope (e.Binary op left right) s)) (sym h)
left_value scope (e.Member left name) s a h = ap (λ z. with_value (value_of scope z) (onto_node scope (e.Member left name) s)) (sym h)
left_value scope (e.Number text) s a h = absurd h
left_value scope (e.Str text) s a h = absurd h
left_value scope (e.Truth b) s a h = absurd h
left_value scope (e.Name name) s a h = absurd h
left_value scope (e.Reference r) s a h = absurd h
left_value scope (e.Set xs) s a h = absurd h
left_value scope (e.Unary op z) s a h = absurd h

-- the value of an expression from that of its left part
pub value_onto : (scope : Scope) (x a : Expr) → IsLeftOf a x → value_of scope x ≡ with_value (value_of scope a) (onto scope x)
value_onto scope x a h = value_is scope x ∙ left_value scope (out-ExprNode (out-Expr x).node) (out-Expr x).span a h

node_is : (n : ExprNode) (y : e.ExprNode-F ExprNode Expr) → out-ExprNode n ≡ y → n ≡ roll-ExprNode y
node_is n y h = sym (roll-out-ExprNode n) ∙ ap roll-ExprNode h

binary_smaller : (x a b : Expr) (op : List ℕ) → (out-Expr x).node ≡ v.Binary op a b → size-Expr a < size-Expr x
binary_smaller x a b op h = search (rules, the_lemmas)

member_smaller : (x a : Expr) (name : List ℕ) → (out-Expr x).node ≡ v.Member a name → size-Expr a < size-Expr x
member_smaller x a name h = search (rules, the_lemmas)

smaller : (x a : Expr) (y : e.ExprNode-F ExprNode Expr) → out-ExprNode (out-Expr x).node ≡ y → IsLeftIn a y → size-Expr a < size-Expr x
smaller x a (e.Binary op left right) h l = subst (λ z. size-Expr z < size-Expr x) (sym l) (binary_smaller x left right op (node_is (out-Expr x).node (e.Binary op left right) h ∙ search (rules, the_lemmas)))
smaller x a (e.Member left name) h l = subst (λ z. size-Expr z < size-Expr x) (sym l) (member_smaller x left name (node_is (out-Expr x).node (e.Member left name) h ∙ search (rules, the_lemmas)))
smaller x a (e.Number text) h l = absurd l
smaller x a (e.Str text) h l = absurd l
smaller x a (e.Truth b) h l = absurd l
smaller x a (e.Name name) h l = absurd l
smaller x a (e.Reference r) h l = absurd l
smaller x a (e.Set xs) h l = absurd l
smaller x a (e.Unary op z) h l = absurd l

pub left_smaller : (x a : Expr) → IsLeftOf a x → size-Expr a < size-Expr x
left_smaller x a l = smaller x a (out-ExprNode (out-Expr x).node) refl l

-- the value of an expression of a known form
pub value_of_form : (scope : Scope) (x : Expr) (n : ExprNode) (y : e.ExprNode-F ExprNode Expr) → (out-Expr x).node ≡ n → out-ExprNode n ≡ y → value_of scope x ≡ value_at scope y (out-Expr x).span
value_of_form scope x n y h k = value_is scope x ∙ ap (λ z. value_at scope z (out-Expr x).span) (ap out-ExprNode h ∙ k)

pub text_value : (scope : Scope) (x : Expr) (s : List ℕ) → (out-Expr x).node ≡ v.Str s → value_of scope x ≡ Ok (c.Str s)
unfolding value_at
text_value scope x s h = value_of_form scope x (v.Str s) (e.Str s) h (search (rules, the_lemmas))

pub truth_value : (scope : Scope) (x : Expr) (b : Bool) → (out-Expr x).node ≡ v.Truth b → value_of scope x ≡ Ok (c.Truth b)
unfolding value_at
truth_value scope x b h = value_of_form scope x (v.Truth b) (e.Truth b) h (search (rules, the_lemmas))

pub number_value : (scope : Scope) (x : Expr) (s : List ℕ) → (out-Expr x).node ≡ v.Number s → value_of scope x ≡ at (out-Expr x).span (literal s)
unfolding value_at
number_value scope x s h = value_of_form scope x (v.Number s) (e.Number s) h (search (rules, the_lemmas))

pub name_value : (scope : Scope) (x : Expr) (s : List ℕ) → (out-Expr x).node ≡ v.Name s → value_of scope x ≡ at (out-Expr x).span (named scope s)
unfolding value_at
name_value scope x s h = value_of_form scope x (v.Name s) (e.Name s) h (search (rules, the_lemmas))

pub reference_value : (scope : Scope) (x : Expr) (r : Reference) → (out-Expr x).node ≡ v.Reference r → value_of scope x ≡ at (out-Expr x).span (referred scope r)
unfolding value_at
reference_value scope x r h = value_of_form scope x (v.Reference r) (e.Reference r) h (search (rules, the_lemmas))

pub set_value : (scope : Scope) (x : Expr) (xs : List Expr) → (out-Expr x).node ≡ v.Set xs →
    value_of scope x ≡ with_value (all_values (map (value_of scope) xs)) (λ us. at (out-Expr x).span (set_of us))
unfolding value_at
set_value scope x xs h = value_of_form scope x (v.Set xs) (e.Set xs) h (search (rules, the_lemmas))

pub unary_value : (scope : Scope) (x : Expr) (op : List ℕ) (a : Expr) → (out-Expr x).node ≡ v.Unary op a →
    value_of scope x ≡ with_value (value_of scope a) (λ u. at (out-Expr x).span (unary op u))
unfolding value_at
unary_value scope x op a h = value_of_form scope x (v.Unary op a) (e.Unary op a) h (search (rules, the_lemmas))

-- the error that a `?` passes on
pub passed : (m : Valued) (r : Valued) (y why : ExprError) → r ≡ Err y → y ≡ why → (why ≢ error.NoMemory → Err why ≡ m) → r ≢ Err error.NoMemory → r ≡ m
passed m r y why p q d n = let e : r ≡ Err why = p ∙ ap (λ (z : ExprError). Err z) q in e ∙ d (λ h. n (e ∙ ap (λ (z : ExprError). Err z) h))

-- what an inner call says of its error
pub refused : {A : Type 0} (m : Result A ExprError) (why : ExprError) → ((let r : Result A ExprError = Err why in r ≢ Err error.NoMemory) → Err why ≡ m) → why ≢ error.NoMemory → Err why ≡ m
refused m why d n = d (λ h. n (cc))

-- a call's answer with its place
pub placed_is : (m : Result Const Why) (r : Result Const Why) (s : Span) → Gives r m → at s r ≢ Err error.NoMemory → at s r ≡ at s m
placed_is m (Ok u) s g n = ap (at s) g
placed_is m (Err why.NoMemory) s g n = absurd (n refl)
placed_is m (Err why.Kind) s g n = ap (at s) g
placed_is m (Err why.Range) s g n = ap (at s) g
placed_is m (Err why.Zero) s g n = ap (at s) g
placed_is m (Err (why.Unknown name)) s g n = ap (at s) g
placed_is m (Err (why.Large count)) s g n = ap (at s) g

pub placed_kept : (r : Result Const Why) (s : Span) → IfOk r IsConst → IfOk (at s r) IsConst
placed_kept (Ok u) s h = h
placed_kept (Err w) s h = h

-- a value is no want of memory
pub not_refused : {A : Type 0} (u : A) (m : Result A ExprError) → ((let r : Result A ExprError = Ok u in r ≢ Err error.NoMemory) → Ok u ≡ m) → Ok u ≡ m
not_refused {A} u m d = d differs
  where
    differs : (let r : Result A ExprError = Ok u in r ≢ Err error.NoMemory)
    differs h = cc

-- what a call's answer says with its place
pub answered : (m r answer : Result Const Why) (s : Span) (whole : Valued) → whole ≡ at s answer → answer ≡ r → Gives r m → whole ≢ Err error.NoMemory → whole ≡ at s m
answered m r answer s whole p q g n = let e : whole ≡ at s r = p ∙ ap (at s) q in e ∙ placed_is m r s g (λ h. n (e ∙ h))
