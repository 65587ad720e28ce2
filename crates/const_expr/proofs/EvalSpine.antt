-- Expressions that wait for the value of their left part, the outermost first
use Rattle.std.proofs.Common.{◌≡◌, ℕ, ◌<◌, ◌≤◌, true, List, [], ◌∷◌, ◌++◌, map, length, drop, get_or, Result, Ok, Err, Bor, refl, sym, ap, ◌∙◌, subst, arith, append_assoc, ◌+◌, zero, suc}
use Rattle.std.proofs.Math.Seq.{drop-cons}
use Rattle.std.proofs.Math.Numerals.{add-one}
use Rattle.dsdl_parse.specs.declared.expr.Expr.{Expr, out-Expr, size-Expr}
use Rattle.dsdl_parse.specs.declared.expr.ExprNode.{ExprNode, out-ExprNode}
use Rattle.dsdl_parse.specs.declared.expr.ExprNode.TheOpen as e
use Rattle.const_expr.specs.declared.constant.Const.{Const}
use Rattle.const_expr.specs.declared.error.ExprError.{ExprError}
use Rattle.const_expr.specs.declared.scope.Scope.{Scope}
use Rattle.const_expr.specs.Value.{Valued, with_value, all_values, value_of}
use Rattle.const_expr.specs.Spine.{node_has_left, has_left, IsLeftIn, IsLeftOf, onto}
use Rattle.const_expr.proofs.EvalWalk.{value_onto, left_smaller}

-- the value of the outermost of these from that of what the innermost waits for
pub finish : Scope → List (Bor Expr) → Valued → Valued
finish scope [] r = r
finish scope (x ∷ xs) r = with_value (finish scope xs r) (onto scope x.now)

-- an expression with a left part, no deeper than another
abbrev pub IsOuter : Expr → Bor Expr → Type 0
IsOuter root x = (has_left x.now ≡ true) × (size-Expr x.now ≤ size-Expr root)

abbrev pub AreOuter : Expr → List (Bor Expr) → Type 0
AreOuter root [] = Unit {0}
AreOuter root (x ∷ xs) = IsOuter root x × AreOuter root xs

-- Once the innermost has this value, root has its own.
pub record Waits (scope : Scope) (root : Expr) (waiting : List (Bor Expr)) (r : Valued) : Type 0 where
  pub value : finish scope waiting r ≡ value_of scope root
  pub each : AreOuter root waiting

outer_push : (root : Expr) (xs : List (Bor Expr)) (x : Bor Expr) → AreOuter root xs → IsOuter root x → AreOuter root (xs ++ x ∷ [])
outer_push root [] x h p = (p, tt)
outer_push root (y ∷ xs) x h p = (h.0, outer_push root xs x h.1 p)

outer_front : (root : Expr) (xs : List (Bor Expr)) (x : Bor Expr) → AreOuter root (xs ++ x ∷ []) → AreOuter root xs
outer_front root [] x h = tt
outer_front root (y ∷ xs) x h = (h.0, outer_front root xs x h.1)

outer_last : (root : Expr) (xs : List (Bor Expr)) (x : Bor Expr) → AreOuter root (xs ++ x ∷ []) → IsOuter root x
outer_last root [] x h = h.0
outer_last root (y ∷ xs) x h = outer_last root xs x h.1

finish_push : (scope : Scope) (xs : List (Bor Expr)) (x : Bor Expr) (r : Valued) → finish scope (xs ++ x ∷ []) r ≡ finish scope xs (with_value r (onto scope x.now))
unfolding finish
finish_push scope [] x r = refl
finish_push scope (y ∷ xs) x r = ap (λ z. with_value z (onto scope y.now)) (finish_push scope xs x r)

finish_refused : (scope : Scope) (xs : List (Bor Expr)) (why : ExprError) → finish scope xs (Err why) ≡ Err why
unfolding finish
finish_refused scope [] why = refl
finish_refused scope (y ∷ xs) why = ap (λ z. with_value z (onto scope y.now)) (finish_refused scope xs why)

left_is : (a : Expr) (y : e.ExprNode-F ExprNode Expr) → IsLeftIn a y → node_has_left y ≡ true
left_is a (e.Binary op left right) h = refl
left_is a (e.Member left name) h = refl
left_is a (e.Number text) h = absurd h
left_is a (e.Str text) h = absurd h
left_is a (e.Truth b) h = absurd h
left_is a (e.Name name) h = absurd h
left_is a (e.Reference r) h = absurd h
left_is a (e.Set xs) h = absurd h
left_is a (e.Unary op z) h = absurd h

pub waits_start : (scope : Scope) (root : Expr) (waiting : List (Bor Expr)) → waiting ≡ [] → Waits scope root waiting (value_of scope root)
unfolding finish
waits_start scope root waiting none = subst (λ w. Waits scope root w (value_of scope root)) (sym none) nothing
  where
    nothing : Waits scope root [] (value_of scope root)
    nothing = record { value = refl; each = tt }

pub waits_push : (scope : Scope) (root : Expr) (waiting : List (Bor Expr)) (x : Bor Expr) (a : Expr) → Waits scope root waiting (value_of scope x.now) → size-Expr x.now ≤ size-Expr root →
    IsLeftOf a x.now → Waits scope root (waiting ++ x ∷ []) (value_of scope a)
waits_push scope root waiting x a w small left = record {
  value = finish_push scope waiting x (value_of scope a) ∙ ap (finish scope waiting) (sym (value_onto scope x.now a left)) ∙ w.value;
  each = outer_push root waiting x w.each (left_is a (out-ExprNode (out-Expr x.now).node) left, small);
}

pub left_no_deeper : (root x a : Expr) → size-Expr x ≤ size-Expr root → IsLeftOf a x → size-Expr a ≤ size-Expr root
left_no_deeper root x a small left = omega (arith, left_smaller x a left)

pub waits_pop : (scope : Scope) (root : Expr) (waiting : List (Bor Expr)) (x : Bor Expr) (r : Valued) → Waits scope root (waiting ++ x ∷ []) r → Waits scope root waiting (with_value r (onto scope x.now))
waits_pop scope root waiting x r w = record {
  value = sym (finish_push scope waiting x r) ∙ w.value;
  each = outer_front root waiting x w.each;
}

pub outer_has_left : (scope : Scope) (root : Expr) (waiting : List (Bor Expr)) (x : Bor Expr) (r : Valued) → Waits scope root (waiting ++ x ∷ []) r → has_left x.now ≡ true
outer_has_left scope root waiting x r w = (outer_last root waiting x w.each).0

pub outer_no_deeper : (scope : Scope) (root : Expr) (waiting : List (Bor Expr)) (x : Bor Expr) (r : Valued) → Waits scope root (waiting ++ x ∷ []) r → size-Expr x.now ≤ size-Expr root
outer_no_deeper scope root waiting x r w = (outer_last root waiting x w.each).1

pub waits_refused : (scope : Scope) (root : Expr) (waiting : List (Bor Expr)) (why : ExprError) → Waits scope root waiting (Err why) → Err why ≡ value_of scope root
waits_refused scope root waiting why w = sym (finish_refused scope waiting why) ∙ w.value

pub waits_end : (scope : Scope) (root : Expr) (waiting : List (Bor Expr)) (r : Valued) → waiting ≡ [] → Waits scope root waiting r → r ≡ value_of scope root
unfolding finish
waits_end scope root waiting r none w = at_none (subst (λ z. Waits scope root z r) none w)
  where
    at_none : Waits scope root [] r → r ≡ value_of scope root
    at_none v = v.value

-- The values so far in front of those of the expressions from i on are those of all.
pub record ValuesSoFar (scope : Scope) (xs : List Expr) (i : ℕ) (values : List Const) : Type 0 where
  pub all : all_values (map (value_of scope) xs) ≡ with_value (all_values (map (value_of scope) (drop i xs))) (λ us. Ok (values ++ us))

at_front : (xs : List Expr) (i : ℕ) (x : Expr) → i < length xs → x ≡ get_or xs i x → drop i xs ≡ x ∷ drop (i + 1) xs
at_front xs i x lt e = drop-cons xs i x lt ∙ ap (λ y. y ∷ drop (suc i) xs) (sym e) ∙ ap (λ n. x ∷ drop n xs) (sym (add-one i))

ok_values : (r : Result (List Const) ExprError) → r ≡ with_value r (λ us. Ok us)
ok_values (Ok us) = refl
ok_values (Err why) = refl

pub values_start : (scope : Scope) (xs : List Expr) (values : List Const) → values ≡ [] → ValuesSoFar scope xs 0 values
values_start scope xs values none = subst (ValuesSoFar scope xs 0) (sym none) (record { all = ok_values (all_values (map (value_of scope) xs)) })

one_more : (values : List Const) (u : Const) (r : Result (List Const) ExprError) →
    with_value (with_value r (λ us. Ok (u ∷ us))) (λ us. Ok (values ++ us)) ≡ with_value r (λ us. Ok ((values ++ u ∷ []) ++ us))
one_more values u (Ok us) = ap (λ (z : List Const). Ok z) (sym (append_assoc values (u ∷ []) us))
one_more values u (Err why) = refl

module _ (scope : Scope) (xs : List Expr) (i : ℕ) (values : List Const) (s : ValuesSoFar scope xs i values) (x : Expr) (lt : i < length xs) (is : x ≡ get_or xs i x) where
  front : all_values (map (value_of scope) xs) ≡ with_value (all_values (map (value_of scope) (x ∷ drop (i + 1) xs))) (λ us. Ok (values ++ us))
  front = s.all ∙ ap (λ ys. with_value (all_values (map (value_of scope) ys)) (λ us. Ok (values ++ us))) (at_front xs i x lt is)

  pub values_more : (u : Const) → value_of scope x ≡ Ok u → ValuesSoFar scope xs (i + 1) (values ++ u ∷ [])
  values_more u e = record {
    all = front
        ∙ ap (λ r. with_value (with_value r (λ v. with_value (all_values (map (value_of scope) (drop (i + 1) xs))) (λ us. Ok (v ∷ us)))) (λ us. Ok (values ++ us))) e
        ∙ one_more values u (all_values (map (value_of scope) (drop (i + 1) xs)));
  }

  pub values_refused : (why : ExprError) → value_of scope x ≡ Err why → all_values (map (value_of scope) xs) ≡ Err why
  values_refused why e = front
      ∙ ap (λ r. with_value (with_value r (λ v. with_value (all_values (map (value_of scope) (drop (i + 1) xs))) (λ us. Ok (v ∷ us)))) (λ us. Ok (values ++ us))) e

pub values_end : (scope : Scope) (xs : List Expr) (i : ℕ) (values : List Const) → ValuesSoFar scope xs i values → length xs ≤ i → Ok values ≡ all_values (map (value_of scope) xs)
values_end scope xs i values s le =
    sym (s.all ∙ ap (λ ys. with_value (all_values (map (value_of scope) ys)) (λ us. Ok (values ++ us))) (past xs i le) ∙ ap (λ (z : List Const). Ok z) (append_nil values))
  where
    append_nil : (ys : List Const) → ys ++ [] ≡ ys
    append_nil [] = refl
    append_nil (y ∷ ys) = ap (λ l. y ∷ l) (append_nil ys)

    past : (ys : List Expr) (i : ℕ) → length ys ≤ i → drop i ys ≡ []
    past [] zero le = refl
    past [] (suc i) le = refl
    past (y ∷ ys) zero le = absurd (omega arith)
    past (y ∷ ys) (suc i) le = past ys i (omega arith)
