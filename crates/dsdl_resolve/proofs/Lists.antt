-- Facts of lists.
use Rattle.std.proofs.Common.{◌≡◌, ℕ, zero, suc, ◌+◌, ◌<◌, ◌⊎◌, inl, inr, List, [], ◌∷◌, ◌++◌, length, take, drop, get_or, Option, Some, None, refl, sym, ap, ◌∙◌, subst, arith}
use Rattle.std.proofs.Math.Seq.{drop-cons}
use Rattle.std.proofs.lemmas.List.{take-append-drop, take_more}
use Rattle.std.proofs.lemmas.List.Elements.{filter_map-append, All-append, All-nil}
use Rattle.std.specs.List.{All, AllZip, filter_map}

pub parts_at : {X : Type 0} (xs : List X) (i : ℕ) (d : X) → i < length xs → xs ≡ take i xs ++ get_or xs i d ∷ drop (suc i) xs
parts_at xs i d lt = sym (take-append-drop i xs) ∙ ap (λ l. take i xs ++ l) (drop-cons xs i d lt)

pub all_one : {X : Type 0} (P : X → Type 0) (x : X) → P x → All P (x ∷ [])
all_one P x h zero d lt = h
all_one P x h (suc k) d lt = absurd (omega arith)

pub all_more : {X : Type 0} (P : X → Type 0) (xs : List X) (x : X) → All P xs → P x → All P (xs ++ x ∷ [])
all_more P xs x h p = All-append P xs (x ∷ []) h (all_one P x p)

-- of an element in the middle too
pub all_at : {X : Type 0} (P : X → Type 0) (before : List X) (at : X) (behind : List X) → All P (before ++ at ∷ behind) → P at
all_at P [] at behind h = h 0 at (omega arith)
all_at P (x ∷ before) at behind h = all_at P before at behind (λ k d lt. h (suc k) d (omega arith))

all_first : {X : Type 0} (P : X → Type 0) (x : X) (xs : List X) → P x → All P xs → All P (x ∷ xs)
all_first P x xs p h zero d lt = p
all_first P x xs p h (suc k) d lt = h k d (omega arith)

pub zip_more : {A B : Type 0} (R : A → B → Type 0) (xs : List A) (ys : List B) (x : A) (y : B) → AllZip R xs ys → R x y → AllZip R (xs ++ x ∷ []) (ys ++ y ∷ [])
zip_more R [] [] x y h r = (r, tt)
zip_more R [] (b ∷ ys) x y h r = absurd h
zip_more R (a ∷ xs) [] x y h r = absurd h
zip_more R (a ∷ xs) (b ∷ ys) x y h r = (h.0, zip_more R xs ys x y h.1 r)

pub zip_all : {A B : Type 0} (R : A → B → Type 0) (P : A → Type 0) → ((x : A) (y : B) → R x y → P x) → (xs : List A) (ys : List B) → AllZip R xs ys → All P xs
zip_all R P f [] [] h = All-nil P
zip_all R P f [] (b ∷ ys) h = absurd h
zip_all R P f (a ∷ xs) [] h = absurd h
zip_all R P f (a ∷ xs) (b ∷ ys) h = all_first P a xs (f a b h.0) (zip_all R P f xs ys h.1)

pub zip_at : {A B : Type 0} (R : A → B → Type 0) (xs : List A) (ys : List B) (i : ℕ) (d : A) (e : B) → AllZip R xs ys → i < length xs → R (get_or xs i d) (get_or ys i e)
zip_at R [] [] i d e h lt = absurd (omega arith)
zip_at R [] (b ∷ ys) i d e h lt = absurd h
zip_at R (a ∷ xs) [] i d e h lt = absurd h
zip_at R (a ∷ xs) (b ∷ ys) zero d e h lt = h.0
zip_at R (a ∷ xs) (b ∷ ys) (suc i) d e h lt = zip_at R xs ys i d e h.1 (omega arith)

append_none : {X : Type 0} (xs : List X) → xs ++ [] ≡ xs
append_none [] = refl
append_none (x ∷ xs) = ap (λ l. x ∷ l) (append_none xs)

one_of : {X Y : Type 0} (h : X → Option Y) (s : X) (y : Y) → h s ≡ Some y → filter_map h (s ∷ []) ≡ y ∷ []
one_of h s y e = rw e refl

none_of : {X Y : Type 0} (h : X → Option Y) (s : X) → h s ≡ None → filter_map h (s ∷ []) ≡ []
none_of h s e = rw e refl

pub with_one : {X Y : Type 0} (h : X → Option Y) (ss : List X) (s : X) (y : Y) → h s ≡ Some y → filter_map h (ss ++ s ∷ []) ≡ filter_map h ss ++ y ∷ []
with_one h ss s y e = filter_map-append h ss (s ∷ []) ∙ ap (λ l. filter_map h ss ++ l) (one_of h s y e)

pub with_none : {X Y : Type 0} (h : X → Option Y) (ss : List X) (s : X) → h s ≡ None → filter_map h (ss ++ s ∷ []) ≡ filter_map h ss
with_none h ss s e = filter_map-append h ss (s ∷ []) ∙ ap (λ l. filter_map h ss ++ l) (none_of h s e) ∙ append_none (filter_map h ss)

-- an element of a list with one more behind it is that one, or one before it
pub split_last : {X : Type 0} (ss before behind : List X) (s at : X) → ss ++ s ∷ [] ≡ before ++ at ∷ behind →
    ((before ≡ ss) × (at ≡ s)) ⊎ ((back : List X) × (ss ≡ before ++ at ∷ back))
split_last [] [] behind s at e = inl (refl, cc)
split_last [] (x ∷ []) behind s at e = absurd (cc)
split_last [] (x ∷ y ∷ before) behind s at e = absurd (cc)
split_last (x ∷ ss) [] behind s at e = let same : x ≡ at = cc in inr (ss, ap (λ y. y ∷ ss) same)
split_last (x ∷ ss) (y ∷ before) behind s at e =
    let head : x ≡ y = cc in
    let tail : ss ++ s ∷ [] ≡ before ++ at ∷ behind = cc in
    elim (split_last ss before behind s at tail) [
      | inl (p, q) ↦ inl ((cc), q)
      | inr (back, p) ↦ inr (back, cc)
    ]

pub take_next : {X : Type 0} (xs : List X) (i : ℕ) (x : X) → i < length xs → x ≡ get_or xs i x → take (i + 1) xs ≡ take i xs ++ x ∷ []
take_next xs i x lt e = take_more xs i x lt ∙ ap (λ y. take i xs ++ y ∷ []) (sym e)

pub all_next : {X : Type 0} (P : X → Type 0) (xs : List X) (i : ℕ) (x : X) → i < length xs → x ≡ get_or xs i x → All P (take i xs) → P x → All P (take (i + 1) xs)
all_next P xs i x lt e h p = subst (All P) (sym (take_next xs i x lt e)) (all_more P (take i xs) x h p)

pub zip_next : {A B : Type 0} (R : A → B → Type 0) (xs : List A) (ys zs : List B) (i : ℕ) (x : A) (y : B) → i < length xs → x ≡ get_or xs i x → AllZip R (take i xs) ys →
    R x y → zs ≡ ys ++ y ∷ [] → AllZip R (take (i + 1) xs) zs
zip_next R xs ys zs i x y lt e h r f =
    subst (λ l. AllZip R l zs) (sym (take_next xs i x lt e)) (subst (AllZip R (take i xs ++ x ∷ [])) (sym f) (zip_more R (take i xs) ys x y h r))

pub zip_long : {A B : Type 0} (R : A → B → Type 0) (xs : List A) (ys : List B) → AllZip R xs ys → length xs ≡ length ys
zip_long R [] [] h = refl
zip_long R [] (b ∷ ys) h = absurd h
zip_long R (a ∷ xs) [] h = absurd h
zip_long R (a ∷ xs) (b ∷ ys) h = ap (λ n. suc n) (zip_long R xs ys h.1)

pub zip_here : {A B : Type 0} (R : A → B → Type 0) (xs : List A) (ys zs : List B) (i : ℕ) (x : A) (y : B) → AllZip R xs ys → i < length xs → x ≡ get_or xs i x →
    zs ≡ ys → y ≡ get_or zs i y → R x y
zip_here R xs ys zs i x y h lt e p f =
    subst (λ a. R a y) (sym e) (subst (λ b. R (get_or xs i x) b) (sym (f ∙ ap (λ l. get_or l i y) p)) (zip_at R xs ys i x y h lt))
