-- Lemmas on the parts of a text.
use Rattle.std.proofs.Common.{◌≡◌, ◌≢◌, ◌==◌, ◌∙◌, ◌<◌, ◌≤◌, ◌+◌, ◌-◌, Bool, true, false, List, [], ◌∷◌, ◌++◌, ℕ, zero, suc, Option, Some, None, length, map, take, drop, get_or, refl, sym, ap, subst, arith, drop-cons, add-one, length-drop}
use Rattle.std.proofs.Math.Seq.{take-length}
use Rattle.std.proofs.lemmas.Bool.Decides.{nat_tests}
use Rattle.std.specs.Prelude.{if◌then◌else◌, Err, Ok, ◌&&◌, ◌||◌}
use Rattle.std.specs.List.{list_all, list_any}
use Rattle.dsdl_names.specs.Parts.{parts_of, with_first, dotted, point_for, cut_last, cut_before, names_of}
use Rattle.dsdl_names.specs.Names.{file_of, with_name}
use Rattle.dsdl_names.specs.declared.NameError.TheVariants as error

-- bytes in front of the first part
abbrev pub with_front : List ℕ → List (List ℕ) → List (List ℕ)
with_front s [] = s ∷ []
with_front s (p ∷ ps) = (s ++ p) ∷ ps

-- there is a part
pub with_front-none : (b : ℕ) (s : List ℕ) → parts_of b s ≡ with_front [] (parts_of b s)
with_front-none b [] = refl
with_front-none b (x ∷ s) = of_test (x == b) (parts_of b s)
  where
    of_test : (t : Bool) (ps : List (List ℕ)) → (if t then [] ∷ ps else with_first x ps) ≡ with_front [] (if t then [] ∷ ps else with_first x ps)
    of_test true ps = refl
    of_test false [] = refl
    of_test false (p ∷ ps) = refl

-- a text that ends at once has no cut
pub cut_last-end : (b i : ℕ) (s : List ℕ) → length s ≤ i → cut_last b (drop i s) ≡ None
cut_last-end b zero [] h = refl
cut_last-end b zero (x ∷ s) h = absurd (omega arith)
cut_last-end b (suc i) [] h = refl
cut_last-end b (suc i) (x ∷ s) h = cut_last-end b i s (omega arith)

cut_before-yes : (b x : ℕ) (s : List ℕ) → x ≡ b → cut_before b x s None ≡ Some ([], s)
cut_before-yes b x s e = grind (arith, nat_tests)

cut_before-no : (b x : ℕ) (s : List ℕ) → x ≢ b → cut_before b x s None ≡ None
cut_before-no b x s n = grind (arith, nat_tests)

-- the last byte is found
pub cut_last-found : (b i : ℕ) (s : List ℕ) → i < length s → get_or s i 0 ≡ b → cut_last b (drop (suc i) s) ≡ None → cut_last b s ≡ Some (take i s, drop (suc i) s)
cut_last-found b i [] p e h = absurd (omega arith)
cut_last-found b zero (x ∷ s) p e h = ap (cut_before b x s) h ∙ cut_before-yes b x s e
cut_last-found b (suc i) (x ∷ s) p e h = ap (cut_before b x s) (cut_last-found b i s (omega arith) e h)

take_rest : (k : ℕ) (s : List ℕ) → take (length s - k) (drop k s) ≡ drop k s
take_rest k s = ap (λ n. take n (drop k s)) (sym (length-drop k s)) ∙ take-length (drop k s)

-- the same, as the code has the two slices
pub cut_last-at : (b i : ℕ) (s : List ℕ) → 0 < i → i ≤ length s → get_or s (i - 1) 0 ≡ b → cut_last b (drop i s) ≡ None → cut_last b s ≡ Some (take (i - 1) s, take (length s - (i - 1 + 1)) (drop (i - 1 + 1) s))
cut_last-at b i s p q e h =
    let j = i - 1 in
    let next : i ≡ suc j = omega arith in
    let none : cut_last b (drop (suc j) s) ≡ None = subst (λ k. cut_last b (drop k s) ≡ None) next h in
    let rest : drop (suc j) s ≡ take (length s - (j + 1)) (drop (j + 1) s) = ap (λ k. drop k s) (sym (add-one j)) ∙ sym (take_rest (j + 1) s) in
    cut_last-found b j s (omega arith) e none ∙ ap (λ t. Some (take j s, t)) rest

-- another byte is passed
pub cut_last-passed : (b i : ℕ) (s : List ℕ) → i < length s → get_or s i 0 ≢ b → cut_last b (drop (suc i) s) ≡ None → cut_last b (drop i s) ≡ None
cut_last-passed b i s p n h = ap (cut_last b) (drop-cons s i 0 p) ∙ ap (cut_before b (get_or s i 0) (drop (suc i) s)) h ∙ cut_before-no b (get_or s i 0) (drop (suc i) s) n

some_part : (c : ℕ) (s : List ℕ) → 1 ≤ length (parts_of c s)
some_part c [] = omega arith
some_part c (x ∷ s) = of_test (x == c) (parts_of c s) (some_part c s)
  where
    of_test : (t : Bool) (ps : List (List ℕ)) → 1 ≤ length ps → 1 ≤ length (if t then [] ∷ ps else with_first x ps)
    of_test true ps h = omega arith
    of_test false [] h = absurd (omega arith)
    of_test false (p ∷ ps) h = omega arith

-- a text with a point has two names or more
pub two_names : (x y : List ℕ) → 2 ≤ length (names_of (x ++ 46 ∷ y))
two_names [] y = omega (arith, some_part 46 y)
two_names (b ∷ x) y = of_test (b == 46) (names_of (x ++ 46 ∷ y)) (two_names x y)
  where
    of_test : (t : Bool) (ps : List (List ℕ)) → 2 ≤ length ps → 2 ≤ length (if t then [] ∷ ps else with_first b ps)
    of_test true ps h = omega arith
    of_test false [] h = absurd (omega arith)
    of_test false (p ∷ ps) h = omega arith

dotted_first : (p : List ℕ) (ps : List (List ℕ)) (s : List ℕ) → dotted (p ∷ (ps ++ s ∷ [])) ≡ p ++ 46 ∷ dotted (ps ++ s ∷ [])
dotted_first p [] s = refl
dotted_first p (q ∷ ps) s = refl

-- the dotted name of folders and a short name is their text with points, and the name behind it
pub dotted_parts : (c : ℕ) (text short : List ℕ) → dotted (parts_of c text ++ short ∷ []) ≡ map (point_for c) text ++ 46 ∷ short
dotted_parts c [] short = refl
dotted_parts c (x ∷ text) short = of_test (x == c) (parts_of c text) (with_front-none c text) ∙ ap (λ s. point_for c x ∷ s) (dotted_parts c text short)
  where
    of_test : (t : Bool) (ps : List (List ℕ)) → ps ≡ with_front [] ps → dotted ((if t then [] ∷ ps else with_first x ps) ++ short ∷ []) ≡ (if t then 46 else x) ∷ dotted (ps ++ short ∷ [])
    of_test true ps h = dotted_first [] ps short
    of_test false [] h = absurd cc
    of_test false (p ∷ ps) h = dotted_first (x ∷ p) ps short ∙ sym (ap (λ s. x ∷ s) (dotted_first p ps short))

length-map : (c : ℕ) (s : List ℕ) → length (map (point_for c) s) ≡ length s
length-map c [] = refl
length-map c (x ∷ s) = ap suc (length-map c s)

length-joined : (s t : List ℕ) → length (s ++ 46 ∷ t) ≡ length s + 1 + length t
length-joined [] t = omega arith
length-joined (x ∷ s) t = omega (arith, length-joined s t)

pub length-dotted : (c : ℕ) (text short : List ℕ) → length (dotted (parts_of c text ++ short ∷ [])) ≡ length text + 1 + length short
length-dotted c text short = ap length (dotted_parts c text short) ∙ length-joined (map (point_for c) text) short ∙ ap (λ n. n + 1 + length short) (length-map c text)

-- six parts or more are no file
pub file_of-many : (folders : List (List ℕ)) (a b c d e s : List ℕ) → file_of folders (a ∷ b ∷ c ∷ d ∷ e ∷ parts_of 46 s) ≡ Err error.BadName
file_of-many folders a b c d e s = of_parts (parts_of 46 s) (with_front-none 46 s)
  where
    of_parts : (ps : List (List ℕ)) → ps ≡ with_front [] ps → file_of folders (a ∷ b ∷ c ∷ d ∷ e ∷ ps) ≡ Err error.BadName
    of_parts [] h = absurd cc
    of_parts (p ∷ ps) h = refl

pub with_name-long : (name : List ℕ) (version : ℕ × ℕ) (port : Option ℕ) → 255 < length name → with_name name version port ≡ Err error.TooLong
with_name-long name version port h = grind (arith, nat_tests)

pub with_name-short : (name : List ℕ) (version : ℕ × ℕ) (port : Option ℕ) → length name ≤ 255 → with_name name version port ≡ Ok (record { id = record { name = name; major = version.0; minor = version.1 }; port = port })
with_name-short name version port h = grind (arith, nat_tests)

-- a test of all, and of one of all, with one more behind them
pub list_all-last : (p : List ℕ → Bool) (xs : List (List ℕ)) (x : List ℕ) → list_all p (xs ++ x ∷ []) ≡ list_all p xs && p x
list_all-last p [] x = of_test (p x)
  where
    of_test : (t : Bool) → (t && true) ≡ t
    of_test true = refl
    of_test false = refl
list_all-last p (y ∷ xs) x = of_test (p y) (list_all-last p xs x)
  where
    of_test : (t : Bool) → list_all p (xs ++ x ∷ []) ≡ list_all p xs && p x → (t && list_all p (xs ++ x ∷ [])) ≡ (t && list_all p xs) && p x
    of_test true h = h
    of_test false h = refl

pub list_any-last : (p : List ℕ → Bool) (xs : List (List ℕ)) (x : List ℕ) → list_any p (xs ++ x ∷ []) ≡ list_any p xs || p x
list_any-last p [] x = of_test (p x)
  where
    of_test : (t : Bool) → (t || false) ≡ t
    of_test true = refl
    of_test false = refl
list_any-last p (y ∷ xs) x = of_test (p y) (list_any-last p xs x)
  where
    of_test : (t : Bool) → list_any p (xs ++ x ∷ []) ≡ list_any p xs || p x → (t || list_any p (xs ++ x ∷ [])) ≡ (t || list_any p xs) || p x
    of_test true h = refl
    of_test false h = h
