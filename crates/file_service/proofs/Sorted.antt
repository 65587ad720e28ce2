-- Names in their order, each once.
use Rattle.std.proofs.Common.{◌≡◌, ◌∙◌, ℕ, zero, suc, ◌<◌, Bool, true, false, cond, ◌&&◌, ◌||◌, T, List, [], ◌∷◌, ◌++◌, Option, Some, None, refl, sym, ap, length, get_or, map, arith}
use Rattle.std.specs.Prelude.{String, is_some}
use Rattle.std.specs.List.{list_any, filter}
use Rattle.std.specs.String.{string_bytes, string_cmp}
use Rattle.std.specs.BTreeSet.{insert_key}
use Rattle.std.specs.declared.cmp.Ordering.{Ordering}
use Rattle.std.specs.declared.cmp.Ordering.TheVariants.{Less, Equal, Greater}
use Rattle.std.specs.Ordering.{eq_by_cmp, is_lt, match_ordering}
use Rattle.std.specs.Cmp.Lexicographic.{nat_list_cmp_total, bytes_decides}
use Rattle.std.specs.FinMap.{IsAntisymmetric, nat_cmp-IsAntisymmetric, slice_cmp-IsAntisymmetric, same_map, keys, entries, entries_sorted, entries-insert, from_entries, insert, get, get-insert, get-from_entries, contains_key-keys}
use Rattle.std.specs.FinMap.Entries.{find, put, by_order, is_sorted, below_all}
use Rattle.std.proofs.lemmas.Bool.{true≢false}
use Rattle.std.proofs.lemmas.List.{get_or_past}
use Rattle.std.proofs.lemmas.List.Folds.{list_any-append}
use Rattle.std.proofs.lemmas.List.Elements.{filter-append}
use Rattle.std.proofs.lemmas.Map.Text.{is_eq-slice_cmp}
use Rattle.std.proofs.lemmas.Map.Views.{any-filter_same}
use Rattle.file_service.specs.Names.{by_bytes, alone, ascending, is_listed, listed, name_at}

-- a name is among these
abbrev pub Has : List (List ℕ) → List ℕ → Bool
Has names q = list_any (eq_by_cmp by_bytes q) names

pub same_name : (p q : List ℕ) → eq_by_cmp by_bytes p q ≡ true → p ≡ q
same_name p q e = (bytes_decides p q).0 (sym (is_eq-slice_cmp p q) ∙ e)

pub name_itself : (p q : List ℕ) → p ≡ q → eq_by_cmp by_bytes p q ≡ true
name_itself p q e = is_eq-slice_cmp p q ∙ (bytes_decides p q).1 e

anti : IsAntisymmetric by_bytes
anti = slice_cmp-IsAntisymmetric nat_cmp-IsAntisymmetric

-- ---- a map with nothing at each key is known by its keys

abbrev marked : Bool → Option (Unit {0})
marked b = cond b (Some tt) None

found_or : (a b : Bool) → cond a (Some tt) (marked b) ≡ marked (a || b)
found_or true b = refl
found_or false b = refl

find_alone : (q : List ℕ) (names : List (List ℕ)) → find by_bytes q (map alone names) ≡ marked (Has names q)
find_alone q [] = refl
find_alone q (name ∷ names) =
    ap (cond (eq_by_cmp by_bytes q name) (Some tt)) (find_alone q names) ∙ found_or (eq_by_cmp by_bytes q name) (Has names q)

get_set : (names : List (List ℕ)) (q : List ℕ) → get (from_entries {R = by_bytes} (map alone names)) q ≡ marked (Has names q)
get_set names q = get-from_entries nat_list_cmp_total (map alone names) q ∙ find_alone q names

is_found : (b : Bool) → is_some (marked b) ≡ b
is_found true = refl
is_found false = refl

-- the same names are the same in their order
pub same_ascending : (ps qs : List (List ℕ)) → ((q : List ℕ) → Has ps q ≡ Has qs q) → ascending ps ≡ ascending qs
same_ascending ps qs same =
    ap keys (same_map nat_list_cmp_total anti (from_entries {R = by_bytes} (map alone ps)) (from_entries {R = by_bytes} (map alone qs))
    (λ q. get_set ps q ∙ ap marked (same q) ∙ sym (get_set qs q)))

-- ---- a name that is added

or_last : (a b : Bool) → (a || (b || false)) ≡ (b || a)
or_last true true = refl
or_last true false = refl
or_last false true = refl
or_last false false = refl

set_push : (names : List (List ℕ)) (name : List ℕ)
    → from_entries {R = by_bytes} (map alone (names ++ name ∷ [])) ≡ insert (from_entries {R = by_bytes} (map alone names)) name tt
set_push names name =
    same_map nat_list_cmp_total anti _ _
    (λ q. get_set (names ++ name ∷ []) q
    ∙ ap marked (list_any-append (eq_by_cmp by_bytes q) names (name ∷ []) ∙ or_last (Has names q) (eq_by_cmp by_bytes q name))
    ∙ sym (get-insert nat_list_cmp_total (from_entries {R = by_bytes} (map alone names)) name tt q
    ∙ ap (cond (eq_by_cmp by_bytes q name) (Some tt)) (get_set names q) ∙ found_or (eq_by_cmp by_bytes q name) (Has names q)))

put_key : (k : List ℕ) (es : List (List ℕ × Unit {0})) → map (λ e. e.0) (put by_bytes k tt es) ≡ insert_key by_bytes (map (λ e. e.0) es) k
put_key k [] = refl
put_key k (e ∷ es) =
    elim (by_bytes k e.0) as (λ o. map (λ f. f.0) (by_order o ((k, tt) ∷ e ∷ es) ((e.0, tt) ∷ es) (e ∷ put by_bytes k tt es))
    ≡ match_ordering o (k ∷ e.0 ∷ map (λ f. f.0) es) (e.0 ∷ map (λ f. f.0) es) (e.0 ∷ insert_key by_bytes (map (λ f. f.0) es) k)) [
      | Less ↦ refl
      | Equal ↦ refl
      | Greater ↦ ap (λ ks. e.0 ∷ ks) (put_key k es)
    ]

pub ascending_push : (names : List (List ℕ)) (name : List ℕ) → ascending (names ++ name ∷ []) ≡ insert_key by_bytes (ascending names) name
ascending_push names name =
    ap keys (set_push names name)
    ∙ ap (λ es. map (λ e. e.0) es) (entries-insert nat_list_cmp_total (from_entries {R = by_bytes} (map alone names)) name tt)
    ∙ put_key name (entries (from_entries {R = by_bytes} (map alone names)))

pub texts_insert : {Z : Type 0} (texts : List (String Z)) (t : String Z)
    → map (λ u. string_bytes u) (insert_key string_cmp texts t) ≡ insert_key by_bytes (map (λ u. string_bytes u) texts) (string_bytes t)
texts_insert [] t = refl
texts_insert (x ∷ xs) t =
    elim (by_bytes (string_bytes t) (string_bytes x)) as (λ o. map (λ u. string_bytes u) (match_ordering o (t ∷ x ∷ xs) (x ∷ xs) (x ∷ insert_key string_cmp xs t))
    ≡ match_ordering o (string_bytes t ∷ string_bytes x ∷ map (λ u. string_bytes u) xs) (string_bytes x ∷ map (λ u. string_bytes u) xs)
    (string_bytes x ∷ insert_key by_bytes (map (λ u. string_bytes u) xs) (string_bytes t))) [
      | Less ↦ refl
      | Equal ↦ refl
      | Greater ↦ ap (λ ks. string_bytes x ∷ ks) (texts_insert xs t)
    ]

-- ---- what the names in their order are

has_ascending : (names : List (List ℕ)) (q : List ℕ) → Has (ascending names) q ≡ Has names q
has_ascending names q =
    sym (contains_key-keys (from_entries {R = by_bytes} (map alone names)) q) ∙ ap is_some (get_set names q) ∙ is_found (Has names q)

pub has_filtered : (names : List (List ℕ)) (q : List ℕ) → Has (filter is_listed names) q ≡ (is_listed q && Has names q)
has_filtered names q = any-filter_same (eq_by_cmp by_bytes q) is_listed (is_listed q) (λ k e. ap is_listed (sym (same_name q k e))) names

pub has_listed : (names : List (List ℕ)) (q : List ℕ) → Has (listed names) q ≡ (is_listed q && Has names q)
has_listed names q =
    has_ascending (filter is_listed names) q ∙ has_filtered names q

-- ---- each is below those behind it

less : (o : Ordering) → T (is_lt o) → o ≡ Less
less Less t = refl
less Equal t = absurd t
less Greater t = absurd t

left_of : (a b : Bool) → T (a && b) → T a
left_of true b t = tt
left_of false b t = t

right_of : (a b : Bool) → T (a && b) → T b
right_of true b t = t
right_of false b t = absurd t

first_below : (name : List ℕ) (es : List (List ℕ × Unit {0})) (j : ℕ) → T (below_all by_bytes name es) → j < length (map (λ e. e.0) es)
    → by_bytes name (get_or (map (λ e. e.0) es) j []) ≡ Less
first_below name [] j t l = absurd (omega (arith, l))
first_below name (e ∷ es) zero t l = less (by_bytes name e.0) (left_of (is_lt (by_bytes name e.0)) (below_all by_bytes name es) t)
first_below name (e ∷ es) (suc j) t l = first_below name es j (right_of (is_lt (by_bytes name e.0)) (below_all by_bytes name es) t) (omega (arith, l))

rising : (es : List (List ℕ × Unit {0})) (i j : ℕ) → T (is_sorted by_bytes es) → i < j → j < length (map (λ e. e.0) es)
    → by_bytes (get_or (map (λ e. e.0) es) i []) (get_or (map (λ e. e.0) es) j []) ≡ Less
rising [] i j t h l = absurd (omega (arith, l))
rising (e ∷ es) i zero t h l = absurd (omega (arith, h))
rising (e ∷ es) zero (suc j) t h l = first_below e.0 es j (left_of (below_all by_bytes e.0 es) (is_sorted by_bytes es) t) (omega (arith, l))
rising (e ∷ es) (suc i) (suc j) t h l = rising es i j (right_of (below_all by_bytes e.0 es) (is_sorted by_bytes es) t) (omega (arith, h)) (omega (arith, l))

pub ascending_rises : (names : List (List ℕ)) (i j : ℕ) → i < j → j < length (ascending names)
    → by_bytes (get_or (ascending names) i []) (get_or (ascending names) j []) ≡ Less
ascending_rises names i j h l =
    rising (entries (from_entries {R = by_bytes} (map alone names))) i j (entries_sorted (from_entries {R = by_bytes} (map alone names))) h l

-- ---- names that are listed, as they are found

pub listed_more : (names : List (List ℕ)) (name : List ℕ) → is_listed name ≡ true → listed (names ++ name ∷ []) ≡ insert_key by_bytes (listed names) name
listed_more names name e =
    ap ascending (filter-append is_listed names (name ∷ []) ∙ ap (λ b. filter is_listed names ++ cond b (name ∷ []) []) e)
    ∙ ascending_push (filter is_listed names) name

nothing_has : (names : List (List ℕ)) → ((q : List ℕ) → Has names q ≡ true → ⊥) → names ≡ []
nothing_has [] h = refl
nothing_has (x ∷ xs) h = absurd (h x (ap (λ b. b || Has xs x) (name_itself x x refl)))

and_none : (a : Bool) → (a && false) ≡ true → ⊥
and_none true e = true≢false (sym e)
and_none false e = true≢false (sym e)

pub none_listed : listed [] ≡ []
none_listed = nothing_has (listed []) (λ q e. and_none (is_listed q) (sym (has_listed [] q) ∙ e))

second_none : (a b : Bool) → (b ≡ true → ⊥) → (a && b) ≡ true → ⊥
second_none true b h e = h e
second_none false b h e = true≢false (sym e)

pub no_names : (names : List (List ℕ)) → ((q : List ℕ) → Has names q ≡ true → ⊥) → listed names ≡ []
no_names names h = nothing_has (listed names) (λ q e. second_none (is_listed q) (Has names q) (h q) (sym (has_listed names q) ∙ e))

pub no_name : (index : ℕ) → [] ≡ name_at (listed []) index
no_name index = sym (get_or_past (listed []) index [] (omega (arith, ap length none_listed)))
