-- The leaves of an expression, taken with a stack of the expressions that are left.
use Rattle.std.proofs.Common.{◌≡◌, ℕ, suc, ◌+◌, ◌<◌, Bool, true, false, ◌||◌, List, [], ◌∷◌, ◌++◌, map, reverse, refl, sym, ap, ◌∙◌, arith, append_assoc, rules}
use Rattle.std.specs.List.{flat_map, list_any}
use Rattle.std.proofs.lemmas.List.{append-nil, reverse-append, reverse-reverse}
use Rattle.std.proofs.lemmas.List.Concat.{flat_map-append}
use Rattle.std.proofs.lemmas.List.Folds.{list_any-append}
use Rattle.std.proofs.lemmas.Bool.{false≢true}
use Rattle.dsdl_parse.specs.declared.expr.Expr.{Expr, Expr-F, out-Expr}
use Rattle.dsdl_parse.specs.declared.expr.ExprNode.{ExprNode, out-ExprNode, roll-ExprNode, roll-out-ExprNode}
use Rattle.dsdl_parse.specs.declared.expr.ExprNode.TheVariants as v
use Rattle.dsdl_parse.specs.declared.expr.ExprNode.TheOpen as e
use Rattle.dsdl_parse.specs.declared.expr.ExprNode.TheFolds.{fold-Expr, fold-ExprNode, fold_out-Expr, fold_out-ExprNode, map-ExprNode, the_lemmas}
use Rattle.dsdl_parse.specs.LeavesOf.{leaves_at, leaves_in, leaves_of, parts_at, parts_of, is_leaf_at, is_leaf, is_name_at, names_it}

-- ---- the leaves, layer by layer
joined : (xs : List Expr) → flat_map (λ (leaves : List ExprNode). leaves) (map leaves_of xs) ≡ flat_map leaves_of xs
joined [] = refl
joined (x ∷ xs) = ap (λ l. leaves_of x ++ l) (joined xs)

-- one layer
layer : e.ExprNode-F ExprNode Expr → List ExprNode
layer y = leaves_at (map-ExprNode ExprNode Expr (List ExprNode) (List ExprNode) (λ n. fold-ExprNode (List ExprNode) (List ExprNode) leaves_at leaves_in n) leaves_of y)

layer_is : (x : Expr) → leaves_of x ≡ layer (out-ExprNode (out-Expr x).node)
unfolding leaves_of layer
layer_is x =
    fold_out-Expr (List ExprNode) (List ExprNode) leaves_at leaves_in x
    ∙ fold_out-ExprNode (List ExprNode) (List ExprNode) leaves_at leaves_in (out-Expr x).node

node_is : (n : ExprNode) (y : e.ExprNode-F ExprNode Expr) → out-ExprNode n ≡ y → n ≡ roll-ExprNode y
node_is n y h = sym (roll-out-ExprNode n) ∙ ap roll-ExprNode h

leaf_layer : (n : ExprNode) (y : e.ExprNode-F ExprNode Expr) → out-ExprNode n ≡ y → is_leaf_at y ≡ true → layer y ≡ n ∷ []
unfolding layer
leaf_layer n (e.Number t) h l = let same : v.Number t ≡ n = sym (node_is n (e.Number t) h ∙ search (rules, the_lemmas)) in ap (λ m. m ∷ []) same
leaf_layer n (e.Str t) h l = let same : v.Str t ≡ n = sym (node_is n (e.Str t) h ∙ search (rules, the_lemmas)) in ap (λ m. m ∷ []) same
leaf_layer n (e.Truth b) h l = let same : v.Truth b ≡ n = sym (node_is n (e.Truth b) h ∙ search (rules, the_lemmas)) in ap (λ m. m ∷ []) same
leaf_layer n (e.Name t) h l = let same : v.Name t ≡ n = sym (node_is n (e.Name t) h ∙ search (rules, the_lemmas)) in ap (λ m. m ∷ []) same
leaf_layer n (e.Reference r) h l = let same : v.Reference r ≡ n = sym (node_is n (e.Reference r) h ∙ search (rules, the_lemmas)) in ap (λ m. m ∷ []) same
leaf_layer n (e.Set xs) h l = absurd (false≢true l)
leaf_layer n (e.Unary op a) h l = absurd (false≢true l)
leaf_layer n (e.Binary op a b) h l = absurd (false≢true l)
leaf_layer n (e.Member a name) h l = absurd (false≢true l)

pub leaf_leaves : (x : Expr) → is_leaf (out-Expr x).node ≡ true → leaves_of x ≡ (out-Expr x).node ∷ []
leaf_leaves x l = layer_is x ∙ leaf_layer (out-Expr x).node (out-ExprNode (out-Expr x).node) refl l

part_layer : (y : e.ExprNode-F ExprNode Expr) → is_leaf_at y ≡ false → layer y ≡ flat_map leaves_of (parts_at y)
unfolding layer
part_layer (e.Number t) l = absurd (false≢true (sym l))
part_layer (e.Str t) l = absurd (false≢true (sym l))
part_layer (e.Truth b) l = absurd (false≢true (sym l))
part_layer (e.Name t) l = absurd (false≢true (sym l))
part_layer (e.Reference r) l = absurd (false≢true (sym l))
part_layer (e.Set xs) l = joined xs
part_layer (e.Unary op a) l = sym (append-nil (leaves_of a))
part_layer (e.Binary op a b) l = ap (λ l. leaves_of a ++ l) (sym (append-nil (leaves_of b)))
part_layer (e.Member a name) l = sym (append-nil (leaves_of a))

pub part_leaves : (x : Expr) → is_leaf (out-Expr x).node ≡ false → leaves_of x ≡ flat_map leaves_of (parts_of x)
part_leaves x l = layer_is x ∙ part_layer (out-ExprNode (out-Expr x).node) l

-- ---- how many expressions there are
abbrev total : List ℕ → ℕ
total [] = 0
total (n ∷ ns) = n + total ns

abbrev count_at : e.ExprNode-F ℕ ℕ → ℕ
count_at (e.Number text) = 1
count_at (e.Str text) = 1
count_at (e.Truth b) = 1
count_at (e.Name name) = 1
count_at (e.Reference r) = 1
count_at (e.Set members) = suc (total members)
count_at (e.Unary op a) = suc (a + 0)
count_at (e.Binary op a b) = suc (a + (b + 0))
count_at (e.Member a name) = suc (a + 0)

abbrev count_in : Expr-F ℕ ℕ → ℕ
count_in x = x.node

-- an expression and all in it
count : Expr → ℕ
count = fold-Expr ℕ ℕ count_at count_in

-- all expressions of a list and in them
pub count_all : List Expr → ℕ
count_all xs = total (map count xs)

count_layer : e.ExprNode-F ExprNode Expr → ℕ
count_layer y = count_at (map-ExprNode ExprNode Expr ℕ ℕ (λ n. fold-ExprNode ℕ ℕ count_at count_in n) count y)

count_layer_is : (x : Expr) → count x ≡ count_layer (out-ExprNode (out-Expr x).node)
unfolding count count_layer
count_layer_is x = fold_out-Expr ℕ ℕ count_at count_in x ∙ fold_out-ExprNode ℕ ℕ count_at count_in (out-Expr x).node

count_parts : (y : e.ExprNode-F ExprNode Expr) → count_layer y ≡ suc (count_all (parts_at y))
unfolding count_layer count_all
count_parts (e.Number t) = refl
count_parts (e.Str t) = refl
count_parts (e.Truth b) = refl
count_parts (e.Name t) = refl
count_parts (e.Reference r) = refl
count_parts (e.Set xs) = refl
count_parts (e.Unary op a) = refl
count_parts (e.Binary op a b) = refl
count_parts (e.Member a name) = refl

count_is : (x : Expr) → count x ≡ suc (count_all (parts_of x))
count_is x = count_layer_is x ∙ count_parts (out-ExprNode (out-Expr x).node)

count_append : (xs ys : List Expr) → count_all (xs ++ ys) ≡ count_all xs + count_all ys
unfolding count_all
count_append [] ys = omega arith
count_append (x ∷ xs) ys = let h : total (map count (xs ++ ys)) ≡ total (map count xs) + total (map count ys) = count_append xs ys in omega arith

count_one : (x : Expr) → count_all (x ∷ []) ≡ count x
unfolding count_all
count_one x = omega arith

count_reverse : (xs : List Expr) → count_all (reverse xs) ≡ count_all xs
unfolding count_all
count_reverse [] = refl
count_reverse (x ∷ xs) = ap count_all (reverse-append (x ∷ []) xs) ∙ count_append (reverse xs) (x ∷ []) ∙ omega (arith, count_reverse xs, count_one x)

-- ---- the stack
-- what was taken, in front of what the stack holds, its last one first, is all
pub record Walks (root : Expr) (taken : List ExprNode) (stack : List Expr) : Type 0 where
  pub all : taken ++ flat_map leaves_of (reverse stack) ≡ leaves_of root

pub walk_start : (root : Expr) → Walks root [] (root ∷ [])
walk_start root = record { all = append-nil (leaves_of root) }

last_first : (stack : List Expr) (x : Expr) → flat_map leaves_of (reverse (stack ++ x ∷ [])) ≡ leaves_of x ++ flat_map leaves_of (reverse stack)
last_first stack x = ap (flat_map leaves_of) (reverse-append stack (x ∷ []))

pub walk_leaf : (root x : Expr) (taken : List ExprNode) (stack : List Expr) → Walks root taken (stack ++ x ∷ []) → is_leaf (out-Expr x).node ≡ true →
    Walks root (taken ++ (out-Expr x).node ∷ []) stack
walk_leaf root x taken stack w l = record {
  all = append_assoc taken ((out-Expr x).node ∷ []) (flat_map leaves_of (reverse stack))
      ∙ ap (λ m. taken ++ m) (ap (λ m. m ++ flat_map leaves_of (reverse stack)) (sym (leaf_leaves x l)) ∙ sym (last_first stack x)) ∙ w.all;
}

-- the expressions right in one take its place
parts_on_stack : (stack : List Expr) (x : Expr) → is_leaf (out-Expr x).node ≡ false → flat_map leaves_of (reverse (stack ++ reverse (parts_of x))) ≡ flat_map leaves_of (reverse (stack ++ x ∷ []))
parts_on_stack stack x l =
    ap (flat_map leaves_of) (reverse-append stack (reverse (parts_of x)) ∙ ap (λ m. m ++ reverse stack) (reverse-reverse (parts_of x)))
    ∙ flat_map-append leaves_of (parts_of x) (reverse stack)
    ∙ ap (λ m. m ++ flat_map leaves_of (reverse stack)) (sym (part_leaves x l)) ∙ sym (last_first stack x)

pub walk_parts : (root x : Expr) (taken : List ExprNode) (stack : List Expr) → Walks root taken (stack ++ x ∷ []) → is_leaf (out-Expr x).node ≡ false →
    Walks root taken (stack ++ reverse (parts_of x))
walk_parts root x taken stack w l = record { all = ap (λ m. taken ++ m) (parts_on_stack stack x l) ∙ w.all }

pub walk_end : (root : Expr) (taken : List ExprNode) → Walks root taken [] → taken ≡ leaves_of root
walk_end root taken w = sym (append-nil taken) ∙ w.all

-- ---- a name among the leaves
or_false : (b : Bool) → (b || false) ≡ b
or_false true = refl
or_false false = refl

pub leaf_names : (x : Expr) (leaf : ExprNode) (name : List ℕ) → leaves_of x ≡ leaf ∷ [] → is_name_at name leaf ≡ names_it x name
leaf_names x leaf name h = sym (ap (list_any (is_name_at name)) h ∙ or_false (is_name_at name leaf))

-- whether an expression on the stack names it
pub stack_names : List ℕ → List Expr → Bool
stack_names name stack = list_any (is_name_at name) (flat_map leaves_of (reverse stack))

pub names_start : (name : List ℕ) (root : Expr) → stack_names name (root ∷ []) ≡ names_it root name
unfolding stack_names
names_start name root = ap (list_any (is_name_at name)) (append-nil (leaves_of root))

names_first : (name : List ℕ) (stack : List Expr) (x : Expr) → stack_names name (stack ++ x ∷ []) ≡ (names_it x name || stack_names name stack)
unfolding stack_names
names_first name stack x = ap (list_any (is_name_at name)) (last_first stack x) ∙ list_any-append (is_name_at name) (leaves_of x) (flat_map leaves_of (reverse stack))

pub names_leaf : (name : List ℕ) (stack : List Expr) (x : Expr) → is_leaf (out-Expr x).node ≡ true → stack_names name (stack ++ x ∷ []) ≡ (is_name_at name (out-Expr x).node || stack_names name stack)
names_leaf name stack x l = names_first name stack x ∙ ap (λ b. b || stack_names name stack) (sym (leaf_names x (out-Expr x).node name (leaf_leaves x l)))

pub names_parts : (name : List ℕ) (stack : List Expr) (x : Expr) → is_leaf (out-Expr x).node ≡ false → stack_names name (stack ++ x ∷ []) ≡ stack_names name (stack ++ reverse (parts_of x))
unfolding stack_names
names_parts name stack x l = ap (list_any (is_name_at name)) (sym (parts_on_stack stack x l))

pub names_end : (name : List ℕ) → stack_names name [] ≡ false
unfolding stack_names
names_end name = refl

-- it gets smaller
pub fewer_leaf : (stack : List Expr) (x : Expr) → count_all stack < count_all (stack ++ x ∷ [])
fewer_leaf stack x = omega (arith, count_append stack (x ∷ []), count_one x, count_is x)

pub fewer_parts : (stack : List Expr) (x : Expr) → count_all (stack ++ reverse (parts_of x)) < count_all (stack ++ x ∷ [])
fewer_parts stack x = omega (arith, count_append stack (x ∷ []), count_one x, count_is x, count_append stack (reverse (parts_of x)), count_reverse (parts_of x))
