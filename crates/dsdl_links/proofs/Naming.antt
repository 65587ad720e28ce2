-- The lists of what references mean
use Rattle.std.proofs.Common.{◌≡◌, ℕ, ◌<◌, ◌+◌, List, [], ◌∷◌, ◌++◌, length, map, take, get_or, Option, Some, None, refl, sym, ap, ◌∙◌, arith, append_assoc, Bor}
use Rattle.std.specs.List.{filter_map, cons_option}
use Rattle.std.proofs.lemmas.List.{append-nil, take_more, length-take-le, map-append}
use Rattle.dsdl_parse.specs.declared.statement.Statement.{Statement}
use Rattle.dsdl_links.specs.Mentions.{noted, on_line, type_of, references_in, mentions_from}
use Rattle.dsdl_names.specs.declared.TypeId.{TypeId}
use Rattle.dsdl_parse.specs.declared.expr.Reference.{Reference}

pub mentions_push : (n : ℕ) (own : List ℕ) (ss : List Statement) (s : Statement) → mentions_from n own (ss ++ s ∷ []) ≡ mentions_from n own ss ++ noted own (n + length ss) (references_in s)
mentions_push n own [] s = append-nil (noted own n (references_in s)) ∙ ap (λ k. noted own k (references_in s)) (omega arith)
mentions_push n own (t ∷ ss) s =
    ap (λ l. noted own n (references_in t) ++ l) (mentions_push (n + 1) own ss s ∙ ap (λ k. mentions_from (n + 1) own ss ++ noted own k (references_in s)) (omega arith))
    ∙ sym (append_assoc (noted own n (references_in t)) (mentions_from (n + 1) own ss) (noted own (n + length (t ∷ ss)) (references_in s)))

pub mentions_more : (own : List ℕ) (ss : List Statement) (i : ℕ) (s : Statement) → i < length ss → s ≡ get_or ss i s → mentions_from 1 own (take (i + 1) ss) ≡ mentions_from 1 own (take i ss) ++ noted own (i + 1) (references_in s)
mentions_more own ss i s lt is =
    ap (mentions_from 1 own) (take_more ss i s lt ∙ ap (λ x. take i ss ++ x ∷ []) (sym is)) ∙ mentions_push 1 own (take i ss) s
    ∙ ap (λ k. mentions_from 1 own (take i ss) ++ noted own k (references_in s)) (omega (arith, length-take-le i ss (omega arith)))

cons_push : {A : Type 0} (o : Option A) (xs : List A) (y : A) → cons_option o (xs ++ y ∷ []) ≡ cons_option o xs ++ y ∷ []
cons_push None xs y = refl
cons_push (Some x) xs y = refl

pub filter_some : {A B : Type 0} (h : A → Option B) (xs : List A) (x : A) (y : B) → h x ≡ Some y → filter_map h (xs ++ x ∷ []) ≡ filter_map h xs ++ y ∷ []
filter_some h [] x y e = ap (λ o. cons_option o []) e
filter_some h (a ∷ xs) x y e = ap (cons_option (h a)) (filter_some h xs x y e) ∙ cons_push (h a) (filter_map h xs) y

pub filter_none : {A B : Type 0} (h : A → Option B) (xs : List A) (x : A) → h x ≡ None → filter_map h (xs ++ x ∷ []) ≡ filter_map h xs
filter_none h [] x e = ap (λ o. cons_option o []) e
filter_none h (a ∷ xs) x e = ap (cons_option (h a)) (filter_none h xs x e)

-- borrowed values so far, and the next
pub borrowed_more : {A : Type 0} (xs : List (Bor A)) (i : ℕ) (x : Bor A) → i < length xs → x ≡ get_or xs i x → map (λ (r : Bor A). r.now) (take (i + 1) xs) ≡ map (λ (r : Bor A). r.now) (take i xs) ++ x.now ∷ []
borrowed_more {A} xs i x lt is =
    ap (map (λ (r : Bor A). r.now)) (take_more xs i x lt ∙ ap (λ y. take i xs ++ y ∷ []) (sym is)) ∙ map-append (λ (r : Bor A). r.now) (take i xs) (x ∷ [])

pub noted_some : (own : List ℕ) (n : ℕ) (rs : List Reference) (r : Reference) (id : TypeId) → type_of own r ≡ Some id → noted own n (rs ++ r ∷ []) ≡ noted own n rs ++ on_line n id ∷ []
noted_some own n rs r id e = ap (map (on_line n)) (filter_some (type_of own) rs r id e) ∙ map-append (on_line n) (filter_map (type_of own) rs) (id ∷ [])

pub noted_none : (own : List ℕ) (n : ℕ) (rs : List Reference) (r : Reference) → type_of own r ≡ None → noted own n (rs ++ r ∷ []) ≡ noted own n rs
noted_none own n rs r e = ap (map (on_line n)) (filter_none (type_of own) rs r e)
