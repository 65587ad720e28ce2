-- The types of two namespaces, an old definition at a time.
use Rattle.std.proofs.Common.{◌≡◌, ◌∙◌, ℕ, ◌+◌, ◌-◌, ◌<◌, ◌≤◌, List, [], ◌∷◌, ◌++◌, length, get_or, take, drop, map, refl, sym, ap, arith, append_assoc, Bor}
use Rattle.std.proofs.lemmas.List.{drop_more, drop_all, drop-map, get_or-map, length-drop, length-map, map-append, take_all, take_more}
use Rattle.std.specs.declared.cmp.Ordering.TheVariants.{Less, Equal, Greater}
use Rattle.dsdl_names.specs.Types.{type_order}
use Rattle.dsdl_types.specs.declared.definition.Definition.{Definition}
use Rattle.type_changes.specs.Entries.{Entry, Pairing, among, paired, entry_of, of_old, of_new, of_both}
use Rattle.type_changes.specs.declared.entries.Entry as code

abbrev behind_each : List (Bor Definition) → List Definition
behind_each rs = map (λ r. r.now) rs

abbrev behind_one : Bor Definition → Definition
behind_one r = r.now

-- ---- an old definition among the new ones, by where the first of these stands
pub before : (old new : Definition) (behind : Pairing) (news : List Definition) → Less ≡ type_order old.id new.id → among old behind (new ∷ news) ≡ of_old old ∷ behind (new ∷ news)
before old new behind news e = rw (sym e, among) refl

pub with_it : (old new : Definition) (behind : Pairing) (news : List Definition) → Equal ≡ type_order old.id new.id → among old behind (new ∷ news) ≡ of_both old new ∷ behind news
with_it old new behind news e = rw (sym e, among) refl

pub after : (old new : Definition) (behind : Pairing) (news : List Definition) → Greater ≡ type_order old.id new.id → among old behind (new ∷ news) ≡ of_new new ∷ among old behind news
after old new behind news e = rw (sym e, among) refl

-- ---- one more entry
more_is : (items more : List code.Entry) (e : code.Entry) (entry : Entry) → more ≡ items ++ e ∷ [] → entry_of e ≡ entry → map entry_of more ≡ map entry_of items ++ entry ∷ []
more_is items more e entry m is = ap (map entry_of) m ∙ map-append entry_of items (e ∷ []) ∙ ap (λ x. map entry_of items ++ x ∷ []) is

one_more : (items more : List code.Entry) (e : code.Entry) (entry : Entry) (rest whole : List Entry) → more ≡ items ++ e ∷ [] → entry_of e ≡ entry
    → map entry_of items ++ entry ∷ rest ≡ whole → map entry_of more ++ rest ≡ whole
one_more items more e entry rest whole m is w =
    ap (λ l. l ++ rest) (more_is items more e entry m is) ∙ append_assoc (map entry_of items) (entry ∷ []) rest ∙ w

rest_at : (rs : List (Bor Definition)) (at : ℕ) (r : Bor Definition) → at < length rs → r ≡ get_or rs at r → drop at (behind_each rs) ≡ r.now ∷ drop (at + 1) (behind_each rs)
rest_at rs at r h is =
    let long : at < length (behind_each rs) = omega (arith, length-map rs behind_one) in
    drop_more (behind_each rs) at r.now long ∙ ap (λ d. d ∷ drop (at + 1) (behind_each rs)) (get_or-map behind_one rs at r r.now h ∙ ap behind_one (sym is))

module _ (old : Definition) (news : List (Bor Definition)) (at : ℕ) (new : Bor Definition) (h : at < length news) (is : new ≡ get_or news at new)
    (items more : List code.Entry) (e : code.Entry) (pushed : more ≡ items ++ e ∷ []) (behind : Pairing) (whole : List Entry)
    (all : map entry_of items ++ among old behind (drop at (behind_each news)) ≡ whole) where
  here : among old behind (drop at (behind_each news)) ≡ among old behind (new.now ∷ drop (at + 1) (behind_each news))
  here = ap (among old behind) (rest_at news at new h is)

  -- the old one stands in front of the new one
  pub is_before : Less ≡ type_order old.id new.now.id → entry_of e ≡ of_old old → map entry_of more ++ behind (drop at (behind_each news)) ≡ whole
  is_before o f =
      let back : behind (new.now ∷ drop (at + 1) (behind_each news)) ≡ behind (drop at (behind_each news)) = ap behind (sym (rest_at news at new h is)) in
      one_more items more e (of_old old) _ whole pushed f
      (ap (λ l. map entry_of items ++ l) (sym (here ∙ before old new.now behind _ o ∙ ap (λ l. of_old old ∷ l) back)) ∙ all)

  -- both are of one type
  pub is_with : Equal ≡ type_order old.id new.now.id → entry_of e ≡ of_both old new.now → map entry_of more ++ behind (drop (at + 1) (behind_each news)) ≡ whole
  is_with o f =
      one_more items more e (of_both old new.now) _ whole pushed f
      (ap (λ l. map entry_of items ++ l) (sym (here ∙ with_it old new.now behind _ o)) ∙ all)

  -- the new one stands in front of the old one
  pub is_after : Greater ≡ type_order old.id new.now.id → entry_of e ≡ of_new new.now → map entry_of more ++ among old behind (drop (at + 1) (behind_each news)) ≡ whole
  is_after o f =
      one_more items more e (of_new new.now) _ whole pushed f
      (ap (λ l. map entry_of items ++ l) (sym (here ∙ after old new.now behind _ o)) ∙ all)

-- ---- new ones alone
pub news_more : (news : List (Bor Definition)) (at : ℕ) (new : Bor Definition) (first items more : List code.Entry) (e : code.Entry) → at < length news → new ≡ get_or news at new → more ≡ items ++ e ∷ [] → entry_of e ≡ of_new new.now
    → map entry_of items ≡ map entry_of first ++ map of_new (take at (behind_each news)) → map entry_of more ≡ map entry_of first ++ map of_new (take (at + 1) (behind_each news))
news_more news at new first items more e h is m f all =
    let long : at < length (behind_each news) = omega (arith, length-map news behind_one) in
    let one : get_or (behind_each news) at new.now ≡ new.now = get_or-map behind_one news at new new.now h ∙ ap behind_one (sym is) in
    let taken : take (at + 1) (behind_each news) ≡ take at (behind_each news) ++ new.now ∷ [] = take_more (behind_each news) at new.now long ∙ ap (λ d. take at (behind_each news) ++ d ∷ []) one in
    more_is items more e (of_new new.now) m f ∙ ap (λ l. l ++ of_new new.now ∷ []) all
    ∙ append_assoc (map entry_of first) (map of_new (take at (behind_each news))) (of_new new.now ∷ [])
    ∙ ap (λ l. map entry_of first ++ l) (sym (ap (map of_new) taken ∙ map-append of_new (take at (behind_each news)) (new.now ∷ [])))

-- ---- one old definition more
pub old_more : (olds news : List (Bor Definition)) (i at next : ℕ) (old : Bor Definition) (items more : List code.Entry) (whole : List Entry) → i < length olds → old ≡ get_or olds i old
    → ((behind : Pairing) → map entry_of more ++ behind (drop next (behind_each news)) ≡ map entry_of items ++ among old.now behind (drop at (behind_each news)))
    → map entry_of items ++ paired (drop i (behind_each olds)) (drop at (behind_each news)) ≡ whole
    → map entry_of more ++ paired (drop (i + 1) (behind_each olds)) (drop next (behind_each news)) ≡ whole
old_more olds news i at next old items more whole h is pushed all =
    pushed (paired (drop (i + 1) (behind_each olds)))
    ∙ ap (λ l. map entry_of items ++ paired l (drop at (behind_each news))) (sym (rest_at olds i old h is))
    ∙ all

-- ---- and the new ones that are left
left : (news : List (Bor Definition)) (at : ℕ) → behind_each (take (length news - at) (drop at news)) ≡ drop at (behind_each news)
left news at = ap behind_each (take_all (length news - at) (drop at news) (omega (arith, length-drop at news))) ∙ sym (drop-map behind_one at news)

pub all_told : (olds news : List (Bor Definition)) (i at : ℕ) (items more : List code.Entry) (whole : List Entry) → length olds ≤ i
    → map entry_of more ≡ map entry_of items ++ paired [] (behind_each (take (length news - at) (drop at news)))
    → map entry_of items ++ paired (drop i (behind_each olds)) (drop at (behind_each news)) ≡ whole → map entry_of more ≡ whole
all_told olds news i at items more whole h pushed all =
    let none : drop i (behind_each olds) ≡ [] = drop_all i (behind_each olds) (omega (arith, length-map olds behind_one)) in
    pushed ∙ ap (λ l. map entry_of items ++ paired [] l) (left news at) ∙ ap (λ l. map entry_of items ++ paired l (drop at (behind_each news))) (sym none) ∙ all
