-- The paths of a set of texts.
use Rattle.std.proofs.Common.{◌≡◌, ℕ, Bool, true, false, cond, ◌||◌, List, [], ◌∷◌, refl, sym, subst, map}
use Rattle.std.proofs.lemmas.Map.Text.{is_eq-slice_cmp}
use Rattle.std.specs.Prelude.{String, Option, Some, None, IfSome, IfNone}
use Rattle.std.specs.String.{string_bytes, string_cmp}
use Rattle.std.specs.BTreeSet.{BTreeSet, IsOrdered, IsUnchanged}
use Rattle.std.specs.BTreeMap.Range.{IsLtBy}
use Rattle.std.specs.declared.cmp.Ordering.TheVariants.{Less}
use Rattle.std.specs.Ordering.{is_eq, nat_cmp}
use Rattle.std.specs.Cmp.Lexicographic.{slice_cmp}
use Rattle.std.specs.List.{list_any, All, AllByRecursion}
use Rattle.std.proofs.lemmas.List.Elements.{recursion_from_All}
use Rattle.std.specs.List.Sorted.{IsStrictlySortedBy}
use Rattle.std.specs.Str.{bytes_eq}
use Rattle.dsdl_files.specs.Order.{IsAscending}
use Rattle.dsdl_files.proofs.Ordered.{Before}

-- a path is one of these texts
pub any_text : {Z : Type 0} (p : List ℕ) (texts : List (String Z))
    → list_any (bytes_eq p) (map (λ t. string_bytes t) texts) ≡ list_any (λ t. is_eq (slice_cmp nat_cmp p (string_bytes t))) texts
any_text p [] = refl
any_text p (t ∷ texts) = λ i. sym (is_eq-slice_cmp p (string_bytes t)) i || any_text p texts i

all_texts : {Z : Type 0} (t : String Z) (texts : List (String Z)) → AllByRecursion (λ u. string_cmp t u ≡ Less) texts
    → AllByRecursion (Before (string_bytes t)) (map (λ u. string_bytes u) texts)
all_texts t [] a = tt
all_texts t (u ∷ texts) a = (a.0, all_texts t texts a.1)

pub sorted_texts : {Z : Type 0} (texts : List (String Z)) → IsStrictlySortedBy string_cmp texts → IsAscending (map (λ t. string_bytes t) texts)
unfolding IsStrictlySortedBy
sorted_texts [] a = tt
sorted_texts (t ∷ texts) a = (all_texts t texts a.0, sorted_texts texts a.1)

pub cond_or : (b c : Bool) → cond b true c ≡ (b || c)
cond_or true c = refl
cond_or false c = refl

after_first : {Z : Type 0} (t : String Z) (texts : List (String Z)) → All (IsLtBy string_cmp t) texts → IsStrictlySortedBy string_cmp texts
    → IsStrictlySortedBy string_cmp (t ∷ texts)
unfolding IsStrictlySortedBy
after_first t texts above sorted = (recursion_from_All (λ u. string_cmp t u ≡ Less) texts above, sorted)

-- the set that the first text was taken from, or that was empty
pub popped : {Z : Type 0} (old new : BTreeSet (String Z)) (first : Option (String Z)) → IfSome first (λ t. old.keys ≡ t ∷ new.keys)
    → IfSome first (λ t. All (IsLtBy string_cmp t) new.keys) → IfNone first (IsUnchanged old new) → IsOrdered string_cmp new
    → IsAscending (map (λ t. string_bytes t) old.keys)
popped old new None removal above same sorted = sorted_texts old.keys (subst (IsStrictlySortedBy string_cmp) same sorted)
popped old new (Some t) removal above same sorted =
    sorted_texts old.keys (subst (IsStrictlySortedBy string_cmp) (sym removal) (after_first t new.keys above sorted))
