-- What the statements of a section say together, one after the other.
use Rattle.std.proofs.Common.{◌≡◌, ℕ, suc, ◌+◌, ◌<◌, ◌≤◌, ◌||◌, ◌&&◌, not, Bool, true, false, List, [], ◌∷◌, ◌++◌, length, take, drop, get_or, if◌then◌else◌, refl, sym, ap, ◌∙◌, arith}
use Rattle.std.specs.List.{list_any, count_by, before_first}
use Rattle.std.proofs.lemmas.Bool.{cond-true, cond-false, or_parts}
use Rattle.std.proofs.lemmas.List.{take_more, take_all, take-append-drop}
use Rattle.std.proofs.Math.Seq.{drop-cons}
use Rattle.dsdl_parse.specs.declared.statement.Statement.{Statement}
use Rattle.dsdl_resolve.specs.Place.{is_union_section}
use Rattle.dsdl_resolve.specs.Says.{is_entry, is_field, is_split, is_union}
use Rattle.dsdl_resolve.proofs.SoundFile.{before_cons}
use Rattle.dsdl_resolve.proofs.SoundSection.{any_more, counted_more, union_snoc}

-- what stands before the first `---`, where it is known
pub before_here : (xs : List Statement) (y : Statement) (ys : List Statement) → list_any is_split xs ≡ false → is_split y ≡ true → before_first is_split (xs ++ y ∷ ys) ≡ xs
before_here [] y ys e f = before_cons is_split y ys ∙ cond-true (is_split y) _ _ f
before_here (x ∷ xs) y ys e f =
    let q = or_parts (is_split x) (list_any is_split xs) e in
    before_cons is_split x (xs ++ y ∷ ys) ∙ cond-false (is_split x) _ _ q.0 ∙ ap (λ l. x ∷ l) (before_here xs y ys q.1 f)

pub before_all : (xs : List Statement) → list_any is_split xs ≡ false → before_first is_split xs ≡ xs
before_all [] e = refl
before_all (x ∷ xs) e =
    let q = or_parts (is_split x) (list_any is_split xs) e in
    before_cons is_split x xs ∙ cond-false (is_split x) _ _ q.0 ∙ ap (λ l. x ∷ l) (before_all xs q.1)

module _ (lines : List Statement) (i : ℕ) (s : Statement) (lt : i < length lines) (is : s ≡ get_or lines i s) where
  more_is : take (i + 1) lines ≡ take i lines ++ s ∷ []
  more_is = take_more lines i s lt ∙ ap (λ x. take i lines ++ x ∷ []) (sym is)

  pub split_at : list_any is_split (take i lines) ≡ false → is_split s ≡ true → before_first is_split lines ≡ take i lines
  split_at e f =
      ap (before_first is_split) (sym (take-append-drop i lines) ∙ ap (λ l. take i lines ++ l) (drop-cons lines i s lt ∙ ap (λ x. x ∷ drop (suc i) lines) (sym is)))
      ∙ before_here (take i lines) s (drop (suc i) lines) e f

  pub plain_more : list_any is_split (take i lines) ≡ false → is_split s ≡ false → list_any is_split (take (i + 1) lines) ≡ false
  plain_more e f = ap (list_any is_split) more_is ∙ any_more is_split (take i lines) s ∙ ap (λ b. b || is_split s) e ∙ f

  pub begun_more : (old entry new : Bool) → old ≡ list_any is_entry (take i lines) → entry ≡ is_entry s → new ≡ (old || entry) → new ≡ list_any is_entry (take (i + 1) lines)
  begun_more old entry new e f g = g ∙ ap (λ b. b || entry) e ∙ ap (λ b. list_any is_entry (take i lines) || b) f ∙ sym (any_more is_entry (take i lines) s) ∙ ap (list_any is_entry) (sym more_is)

  pub union_more : (old begun new : Bool) → old ≡ is_union_section (take i lines) → begun ≡ list_any is_entry (take (i + 1) lines) → new ≡ (old || (not begun && is_union s)) → new ≡ is_union_section (take (i + 1) lines)
  union_more old begun new e f g =
      g ∙ ap (λ b. b || (not begun && is_union s)) e ∙ ap (λ b. is_union_section (take i lines) || (not b && is_union s)) (f ∙ ap (list_any is_entry) more_is)
      ∙ sym (union_snoc (take i lines) s) ∙ ap is_union_section (sym more_is)

  pub fields_more : (old new : ℕ) → old ≡ count_by is_field (take i lines) → new ≡ old + (if is_field s then 1 else 0) → new ≡ count_by is_field (take (i + 1) lines)
  fields_more old new e f = f ∙ ap (λ n. n + (if is_field s then 1 else 0)) e ∙ sym (counted_more (take i lines) s (is_field s) refl) ∙ ap (count_by is_field) (sym more_is)

one_at_most : (b : Bool) → (if b then 1 else 0) ≤ 1
one_at_most true = omega arith
one_at_most false = omega arith

pub few_more : (old new i : ℕ) (b : Bool) → old ≤ i → new ≡ old + (if b then 1 else 0) → new ≤ i + 1
few_more old new i b le e = omega (arith, one_at_most b)

pub all_lines : (lines : List Statement) (i : ℕ) → length lines ≤ i → list_any is_split (take i lines) ≡ false → before_first is_split lines ≡ take i lines
all_lines lines i le e = let all = take_all i lines le in before_all lines (ap (list_any is_split) (sym all) ∙ e) ∙ sym all
