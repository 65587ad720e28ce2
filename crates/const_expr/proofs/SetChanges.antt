-- Sets of constants as they change: members that come in and go out.
use Rattle.std.proofs.Common.{◌≡◌, Bool, true, false, cond, not, ◌||◌, List, [], ◌∷◌, ◌++◌, get_or, filter, All, refl, sym, ap, ◌∙◌, subst, append_assoc, arith, Less, Equal, Greater}
use Rattle.std.specs.Cmp.{Equal-is}
use Rattle.std.specs.Ordering.{is_eq, match_ordering}
use Rattle.std.specs.BTreeSet.{insert_key}
use Rattle.std.specs.Set.{remove_key}
use Rattle.std.specs.BTreeMap.{is_at}
use Rattle.std.specs.List.Sorted.{IsStrictlySortedBy}
use Rattle.std.specs.declared.cmp.Ordering.{Ordering}
use Rattle.std.proofs.lemmas.List.Elements.{All-cons, All-nil, All-tail}
use Rattle.std.proofs.lemmas.Map.Keys.{Less-from_sorted}
use Rattle.const_expr.specs.declared.constant.Const.{Const}
use Rattle.const_expr.specs.declared.operator.Bits.{Bits}
use Rattle.const_expr.specs.declared.operator.Bits.TheVariants as bits
use Rattle.const_expr.specs.Binary.{without, combined}
use Rattle.const_expr.specs.Constants.{const_order, placed, with_one, with_all, IsAscending, has}
use Rattle.const_expr.specs.Order.{const_order_total}
use Rattle.const_expr.proofs.SetLemmas.{all_ascend, some_ascend, head_below, tail_ascends, reverse_at}

-- ---- what comes in
same_place : (r : Ordering) (x y : Const) (ys inserted : List Const) → match_ordering r (x ∷ y ∷ ys) (y ∷ ys) (y ∷ inserted) ≡ placed r x y ys inserted
same_place Less x y ys inserted = refl
same_place Equal x y ys inserted = refl
same_place Greater x y ys inserted = refl

pub inserted : (xs : List Const) (x : Const) → insert_key const_order xs x ≡ with_one x xs
unfolding with_one
inserted [] x = refl
inserted (y ∷ ys) x = ap (λ l. match_ordering (const_order x y) (x ∷ y ∷ ys) (y ∷ ys) (y ∷ l)) (inserted ys x) ∙ same_place (const_order x y) x y ys (with_one x ys)

-- keys in order ascend
pub keys_ascend : (xs : List Const) → IsStrictlySortedBy const_order xs → IsAscending xs
keys_ascend xs s i j d lt h = Less-from_sorted const_order xs i j d s lt h

-- a constant above all members goes behind them
goes_last : (x : Const) (set : List Const) → All (λ y. const_order y x ≡ Less) set → with_one x set ≡ set ++ x ∷ []
unfolding with_one
goes_last x [] below = refl
goes_last x (y ∷ ys) below =
    ap (λ r. placed r x y ys (with_one x ys)) (reverse_at y x Less (below 0 x (omega arith)))
    ∙ ap (λ l. y ∷ l) (goes_last x ys (All-tail (λ z. const_order z x ≡ Less) y ys below))

of_next : (P : Const → Type 0) (ys : List Const) (x : Const) (xs : List Const) → All P (ys ++ x ∷ xs) → P x
of_next P [] x xs h = h 0 x (omega arith)
of_next P (y ∷ ys) x xs h = of_next P ys x xs (All-tail P y (ys ++ x ∷ xs) h)

below_next : (set : List Const) (x : Const) (xs : List Const) → IsAscending (set ++ x ∷ xs) → All (λ y. const_order y x ≡ Less) set
below_next [] x xs asc = All-nil _
below_next (y ∷ ys) x xs asc =
    All-cons (λ z. const_order z x ≡ Less) y ys
    (of_next (λ z. const_order y z ≡ Less) ys x xs (head_below y (ys ++ x ∷ xs) asc))
    (below_next ys x xs (tail_ascends y (ys ++ x ∷ xs) asc))

pub append_nil : (xs : List Const) → xs ++ [] ≡ xs
append_nil [] = refl
append_nil (x ∷ xs) = ap (λ l. x ∷ l) (append_nil xs)

go_behind : (set xs : List Const) → IsAscending (set ++ xs) → with_all set xs ≡ set ++ xs
go_behind set [] asc = sym (append_nil set)
go_behind set (x ∷ xs) asc =
    ap (λ s. with_all s xs) (goes_last x set (below_next set x xs asc))
    ∙ go_behind (set ++ x ∷ []) xs (subst IsAscending (sym (append_assoc set (x ∷ []) xs)) asc)
    ∙ append_assoc set (x ∷ []) xs

-- the set of constants that ascend
pub set_of_ascending : (xs : List Const) → IsAscending xs → with_all [] xs ≡ xs
set_of_ascending xs asc = go_behind [] xs asc

-- ---- what goes out
abbrev pub differs : Const → Const → Bool
differs y x = not (is_eq (const_order x y))

all_kept : (test : Const → Bool) (xs : List Const) → All (λ x. test x ≡ true) xs → filter test xs ≡ xs
all_kept test [] h = refl
all_kept test (x ∷ xs) h =
    ap (λ b. cond b (x ∷ filter test xs) (filter test xs)) (h 0 x (omega arith))
    ∙ ap (λ l. x ∷ l) (all_kept test xs (All-tail (λ z. test z ≡ true) x xs h))

alike : (f g : Const → Bool) (xs : List Const) → All (λ x. f x ≡ g x) xs → filter f xs ≡ filter g xs
alike f g [] h = refl
alike f g (x ∷ xs) h =
    ap (λ b. cond b (x ∷ filter f xs) (filter f xs)) (h 0 x (omega arith))
    ∙ ap (λ l. cond (g x) (x ∷ l) l) (alike f g xs (All-tail (λ z. f z ≡ g z) x xs h))

all_by : (P : Const → Type 0) (Q : Const → Type 0) (xs : List Const) → ((x : Const) → P x → Q x) → All P xs → All Q xs
all_by P Q xs h all k d lt = h (get_or xs k d) (all k d lt)

above_differs : (y x : Const) → const_order y x ≡ Less → differs y x ≡ true
above_differs y x e = ap (λ r. not (is_eq r)) (reverse_at y x Less e)

pub taken_out : (xs : List Const) (y : Const) → IsAscending xs → remove_key (is_at (const_order y)) xs ≡ filter (differs y) xs
taken_out [] y asc = refl
taken_out (x ∷ xs) y asc = by_order (const_order y x) refl (taken_out xs y (tail_ascends x xs asc))
  where
    kept : Ordering → List Const
    kept r = cond (not (is_eq r)) (x ∷ filter (differs y) xs) (filter (differs y) xs)

    by_order : (r : Ordering) → const_order y x ≡ r → remove_key (is_at (const_order y)) xs ≡ filter (differs y) xs →
        remove_key (is_at (const_order y)) (x ∷ xs) ≡ filter (differs y) (x ∷ xs)
    by_order Less e rest =
        ap (λ r. cond (is_eq r) xs (x ∷ remove_key (is_at (const_order y)) xs)) e ∙ ap (λ l. x ∷ l) rest
        ∙ ap kept (sym (reverse_at y x Less e))
    by_order Greater e rest =
        ap (λ r. cond (is_eq r) xs (x ∷ remove_key (is_at (const_order y)) xs)) e ∙ ap (λ l. x ∷ l) rest
        ∙ ap kept (sym (reverse_at y x Greater e))
    by_order Equal e rest =
        ap (λ r. cond (is_eq r) xs (x ∷ remove_key (is_at (const_order y)) xs)) e
        ∙ sym (all_kept (differs y) xs (all_by (λ z. const_order x z ≡ Less) (λ z. differs y z ≡ true) xs (λ z l. above_differs y z (const_order_total.congr y x z e ∙ l)) (head_below x xs asc)))
        ∙ ap kept (sym (reverse_at y x Equal e))

-- what is left without one constant and then without others
pub left_without : (set : List Const) (y : Const) (ys : List Const) → without (filter (differs y) set) ys ≡ without set (y ∷ ys)
left_without [] y ys = refl
left_without (x ∷ set) y ys = step (is_eq (const_order x y)) (left_without set y ys)
  where
    step : (b : Bool) → without (filter (differs y) set) ys ≡ without set (y ∷ ys) →
        without (cond (not b) (x ∷ filter (differs y) set) (filter (differs y) set)) ys ≡ cond (not (b || has ys x)) (x ∷ without set (y ∷ ys)) (without set (y ∷ ys))
    step true rest = rest
    step false rest = ap (λ l. cond (not (has ys x)) (x ∷ l) l) rest

still_has : (set : List Const) (y z : Const) → const_order y z ≡ Less → has (filter (differs y) set) z ≡ has set z
still_has [] y z below = refl
still_has (x ∷ set) y z below = step (is_eq (const_order x y)) refl (still_has set y z below)
  where
    step : (b : Bool) → is_eq (const_order x y) ≡ b → has (filter (differs y) set) z ≡ has set z →
        has (cond (not b) (x ∷ filter (differs y) set) (filter (differs y) set)) z ≡ (is_eq (const_order z x) || has set z)
    step true e rest =
        let equal : const_order x y ≡ Equal = (Equal-is (const_order x y)).0 e in
        rest ∙ ap (λ r. is_eq r || has set z) (sym (reverse_at x z Less (const_order_total.congr x y z equal ∙ below)))
    step false e rest = ap (λ c. is_eq (const_order z x) || c) rest

-- the next constants that are no members are the same once this one is out
pub others_without : (set : List Const) (y : Const) (ys : List Const) → IsAscending (y ∷ ys) → without ys (filter (differs y) set) ≡ without ys set
others_without set y ys asc =
    alike (λ z. not (has (filter (differs y) set) z)) (λ z. not (has set z)) ys
    (all_by (λ z. const_order y z ≡ Less) (λ z. not (has (filter (differs y) set) z) ≡ not (has set z)) ys (λ z l. ap not (still_has set y z l)) (head_below y ys asc))

none_out : (set : List Const) → without set [] ≡ set
none_out set = all_kept (λ x. not (has [] x)) set (λ k d lt. refl)

-- a set without one constant after the other
abbrev pub less : List Const → List Const → List Const
less set [] = set
less set (y ∷ ys) = less (filter (differs y) set) ys

pub less_is : (set ys : List Const) → less set ys ≡ without set ys
less_is set [] = sym (none_out set)
less_is set (y ∷ ys) = less_is (filter (differs y) set) ys ∙ left_without set y ys

-- Constants go out of a set, those that are left and the others still to come give the whole.
pub record GoesOut (first constants set others rest : List Const) : Type 0 where
  pub set_up : IsAscending set
  pub rest_up : IsAscending rest
  pub left : less set rest ≡ without first constants
  pub whole : others ++ without rest set ≡ without constants first

module _ (first constants set others rest : List Const) (g : GoesOut first constants set others rest) (y : Const) (ys new : List Const) (next : rest ≡ y ∷ ys) (out : new ≡ remove_key (is_at (const_order y)) set) where
  kept : new ≡ filter (differs y) set
  kept = out ∙ taken_out set y g.set_up

  up : IsAscending (y ∷ ys)
  up = subst IsAscending next g.rest_up

  smaller : IsAscending new
  smaller = subst IsAscending (sym kept) (some_ascend (differs y) set g.set_up)

  same_left : less new ys ≡ without first constants
  same_left = ap (λ l. less l ys) kept ∙ ap (less set) (sym next) ∙ g.left

  same_others : without ys new ≡ without ys set
  same_others = ap (without ys) kept ∙ others_without set y ys up

  of_others : (b : Bool) → has set y ≡ b → others ++ cond (not b) (y ∷ without ys set) (without ys set) ≡ without constants first
  of_others b e =
      ap (λ c. others ++ cond (not c) (y ∷ without ys set) (without ys set)) (sym e)
      ∙ ap (λ l. others ++ without l set) (sym next) ∙ g.whole

  -- a member goes out
  pub member_out : has set y ≡ true → GoesOut first constants new others ys
  member_out e = record {
    set_up = smaller;
    rest_up = tail_ascends y ys up;
    left = same_left;
    whole = ap (λ l. others ++ l) same_others ∙ of_others true e;
  }

  -- what is no member is one of the others
  pub other_out : has set y ≡ false → GoesOut first constants new (others ++ y ∷ []) ys
  other_out e = record {
    set_up = smaller;
    rest_up = tail_ascends y ys up;
    left = same_left;
    whole = append_assoc others (y ∷ []) (without ys new) ∙ ap (λ l. others ++ y ∷ l) same_others ∙ of_others false e;
  }

pub combined_ascends : (sign : Bits) (xs ys : List Const) → IsAscending xs → IsAscending ys → IsAscending (combined sign xs ys)
combined_ascends bits.Or xs ys left right = all_ascend xs ys left
combined_ascends bits.Xor xs ys left right = all_ascend (without xs ys) (without ys xs) (some_ascend (λ x. not (has ys x)) xs left)
combined_ascends bits.And xs ys left right = some_ascend (λ x. has ys x) xs left
