-- Whole lists of words.
use Rattle.std.proofs.Common.{◌≡◌, ℕ, List, [], ◌∷◌, ◌++◌, length, Some, None, refl, sym, ap, ◌∙◌, subst, arith}
use Rattle.std.proofs.lemmas.Option.{none-some, some_pair_parts}
use Rattle.dsdl_parse.specs.declared.expr.Expr.{Expr}
use Rattle.dsdl_parse.specs.Words.{Word}
use Rattle.dsdl_parse.specs.Grammar as g
use Rattle.dsdl_parse.specs.Reading as r
use Rattle.dsdl_parse.proofs.Basics.{append_nil}
use Rattle.dsdl_parse.proofs.LevelReads.{reads_expression}

-- the reader takes all words of an expression
all_read_of : (n : ℕ) (ws : List Word) (x : Expr) → g.IsExpression n ws x → r.expression_of (r.within n) ws ≡ Some (x, [])
all_read_of n ws x d = ap (r.expression_of (r.within n)) (sym (append_nil ws)) ∙ (reads_expression n).complete ws [] x d tt

is_nil : {A : Type 0} (xs : List A) → length xs ≡ 0 → xs ≡ []
is_nil [] e = refl
is_nil (x ∷ xs) e = absurd (omega arith)

-- what is read with no words left is the expression of all words
pub whole : (n : ℕ) (ws rest : List Word) (x : Expr) → r.expression_of (r.within n) ws ≡ Some (x, rest) → length rest ≡ 0 → g.IsExpression n ws x
whole n ws rest x e h =
    let (front, eq, d) = (reads_expression n).sound ws rest x e in
    subst (λ l. g.IsExpression n l x) (sym (eq ∙ ap (λ l. front ++ l) (is_nil rest h) ∙ append_nil front)) d

-- where nothing is read the words are no expression
pub none_whole : (n : ℕ) (ws : List Word) → r.expression_of (r.within n) ws ≡ None → (x : Expr) → g.IsExpression n ws x → ⊥
none_whole n ws e x d = none-some (x, []) (sym e ∙ all_read_of n ws x d)

-- where words are left the words are no expression
pub not_whole : (n : ℕ) (ws rest : List Word) (y : Expr) → r.expression_of (r.within n) ws ≡ Some (y, rest) → (length rest ≡ 0 → ⊥) → (x : Expr) → g.IsExpression n ws x → ⊥
not_whole n ws rest y e h x d =
    let p : (y ≡ x) × (rest ≡ []) = some_pair_parts y x rest [] (sym e ∙ all_read_of n ws x d) in h (ap length p.1)

-- a whole list of words has at most one tree
pub one_tree : (n : ℕ) (ws : List Word) (x y : Expr) → g.IsExpression n ws x → g.IsExpression n ws y → x ≡ y
one_tree n ws x y d e =
    let reads = reads_expression n in
    let p : ((x ≡ y) × ([] ≡ [])) = some_pair_parts x y [] [] (sym (reads.complete ws [] x d tt) ∙ reads.complete ws [] y e tt) in p.0
