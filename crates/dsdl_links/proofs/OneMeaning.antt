-- References mean files in one way
use Rattle.std.proofs.Common.{◌≡◌, ℕ, suc, List, [], ◌∷◌, ◌++◌, length, Option, Some, None, cond, ◌⊎◌, inl, inr, refl, sym, ap, ◌∙◌, subst, arith, All}
use Rattle.std.specs.Prelude.{is_none}
use Rattle.std.specs.List.{AllZip, find}
use Rattle.std.proofs.lemmas.List.Elements.{All-cons}
use Rattle.dsdl_names.specs.declared.TypeId.{TypeId}
use Rattle.dsdl_links.specs.declared.source.Mention.{Mention}
use Rattle.dsdl_links.specs.declared.source.Source.{Source}
use Rattle.dsdl_links.specs.Laws.{HaveLinks, HaveUnresolved, HaveOneMeaning}
use Rattle.dsdl_links.specs.Links.{file_of, Means, AreLinksOf, AreLinks, is_missing, missing_in, IsUnresolved}
use Rattle.dsdl_links.proofs.Placing.{all_found, links_within}

-- ---- one list of links
same_some : {A : Type 0} (o : Option A) (a b : A) → o ≡ Some a → o ≡ Some b → a ≡ b
same_some o a b h k = let e : Some a ≡ Some b = sym h ∙ k in cc

one_of_file : (files : List Source) (ms : List Mention) (a b : List ℕ) → AllZip (Means files) ms a → AllZip (Means files) ms b → a ≡ b
one_of_file files [] [] [] h k = refl
one_of_file files [] [] (y ∷ b) h k = absurd k
one_of_file files [] (x ∷ a) b h k = absurd h
one_of_file files (m ∷ ms) [] b h k = absurd h
one_of_file files (m ∷ ms) (x ∷ a) [] h k = absurd k
one_of_file files (m ∷ ms) (x ∷ a) (y ∷ b) h k = ap (λ n. n ∷ a) (same_some (file_of files m.id) x y h.0 k.0) ∙ ap (λ l. y ∷ l) (one_of_file files ms a b h.1 k.1)

one_of_all : (files fs : List Source) (a b : List (List ℕ)) → AllZip (AreLinksOf files) fs a → AllZip (AreLinksOf files) fs b → a ≡ b
one_of_all files [] [] [] h k = refl
one_of_all files [] [] (y ∷ b) h k = absurd k
one_of_all files [] (x ∷ a) b h k = absurd h
one_of_all files (f ∷ fs) [] b h k = absurd h
one_of_all files (f ∷ fs) (x ∷ a) [] h k = absurd k
one_of_all files (f ∷ fs) (x ∷ a) (y ∷ b) h k = ap (λ l. l ∷ a) (one_of_file files f.mentions x y h.0 k.0) ∙ ap (λ l. y ∷ l) (one_of_all files fs a b h.1 k.1)

-- ---- links, or a mention that means none
links_or_missing : (files : List Source) (ms : List Mention) → ((links : List ℕ) × AllZip (Means files) ms links) ⊎ ((m : Mention) × (find (is_missing files) ms ≡ Some m))
links_or_missing files [] = inl ([], tt)
links_or_missing files (m ∷ ms) = at (file_of files m.id) refl (links_or_missing files ms)
  where
    at : (o : Option ℕ) → file_of files m.id ≡ o → ((links : List ℕ) × AllZip (Means files) ms links) ⊎ ((n : Mention) × (find (is_missing files) ms ≡ Some n)) →
        ((links : List ℕ) × AllZip (Means files) (m ∷ ms) links) ⊎ ((n : Mention) × (find (is_missing files) (m ∷ ms) ≡ Some n))
    at None e rest = inr (m, ap (λ o. cond (is_none o) (Some m) (find (is_missing files) ms)) e)
    at (Some i) e (inl p) = inl (i ∷ p.0, (e, p.1))
    at (Some i) e (inr p) = inr (p.0, ap (λ o. cond (is_none o) (Some m) (find (is_missing files) ms)) e ∙ p.1)

-- the first of these files that has such a mention
record FirstMissing (files fs : List Source) : Type 0 where
  before : List Source
  at : Source
  behind : List Source
  mention : Mention
  parts : fs ≡ before ++ at ∷ behind
  missing : missing_in files at ≡ Some mention
  earlier : All (λ f. missing_in files f ≡ None) before

none_at : (files : List Source) → All (λ f. missing_in files f ≡ None) []
none_at files k d lt = absurd (omega arith)

links_or_first : (files fs : List Source) → ((links : List (List ℕ)) × AllZip (AreLinksOf files) fs links) ⊎ FirstMissing files fs
links_or_first files [] = inl ([], tt)
links_or_first files (f ∷ fs) = at (links_or_missing files f.mentions) (links_or_first files fs)
  where
    at : ((links : List ℕ) × AllZip (Means files) f.mentions links) ⊎ ((m : Mention) × (find (is_missing files) f.mentions ≡ Some m)) →
        ((links : List (List ℕ)) × AllZip (AreLinksOf files) fs links) ⊎ FirstMissing files fs → ((links : List (List ℕ)) × AllZip (AreLinksOf files) (f ∷ fs) links) ⊎ FirstMissing files (f ∷ fs)
    at (inr p) rest = inr (record { before = []; at = f; behind = fs; mention = p.0; parts = refl; missing = p.1; earlier = none_at files })
    at (inl p) (inl q) = inl (p.0 ∷ q.0, (p.1, q.1))
    at (inl p) (inr q) = inr (record {
      before = f ∷ q.before;
      at = q.at;
      behind = q.behind;
      mention = q.mention;
      parts = ap (λ l. f ∷ l) q.parts;
      missing = q.missing;
      earlier = All-cons (λ x. missing_in files x ≡ None) f q.before (all_found files (f ∷ []) (p.0 ∷ []) (p.1, tt) 0 f (omega arith)) q.earlier;
    })

links_or_none : (files : List Source) → HaveLinks files ⊎ HaveUnresolved files
links_or_none files = at (links_or_first files files)
  where
    at : ((links : List (List ℕ)) × AreLinks files links) ⊎ FirstMissing files files → HaveLinks files ⊎ HaveUnresolved files
    at (inl p) = inl (p.0, p.1, links_within files p.0 p.1)
    at (inr q) = inr (length q.before, q.mention.line, q.mention.id, record { before = q.before; at = q.at; behind = q.behind; parts = q.parts; place = refl; missing = q.missing; earlier = q.earlier })

-- ---- one first mention
all_at : {X : Type 0} (P : X → Type 0) (before : List X) (at : X) (behind : List X) → All P (before ++ at ∷ behind) → P at
all_at P [] at behind h = h 0 at (omega arith)
all_at P (x ∷ before) at behind h = all_at P before at behind (λ k d lt. h (suc k) d (omega arith))

apart : (files : List Source) (links : List (List ℕ)) → AreLinks files links → HaveUnresolved files → ⊥
apart files links h (file, line, id, u) =
    let none : missing_in files u.at ≡ None = all_at (λ f. missing_in files f ≡ None) u.before u.at u.behind (subst (All (λ f. missing_in files f ≡ None)) u.parts (all_found files files links h)) in
    let some = u.missing in cc

-- of two elements of a list one stands before the other, or they are one
record Stands {X : Type 0} (xs before : List X) (at : X) : Type 0 where
  behind : List X
  parts : xs ≡ before ++ at ∷ behind

between : {X : Type 0} (a b c d : List X) (x y : X) → a ++ x ∷ c ≡ b ++ y ∷ d → ((a ≡ b) × (x ≡ y)) ⊎ (Stands b a x ⊎ Stands a b y)
between [] [] c d x y e = inl (refl, cc)
between [] (z ∷ b) c d x y e = let same : x ≡ z = cc in inr (inl (record { behind = b; parts = ap (λ w. w ∷ b) (sym same) }))
between (z ∷ a) [] c d x y e = let same : y ≡ z = cc in inr (inr (record { behind = a; parts = ap (λ w. w ∷ a) (sym same) }))
between (u ∷ a) (v ∷ b) c d x y e =
    let head : u ≡ v = cc in
    let tail : a ++ x ∷ c ≡ b ++ y ∷ d = cc in
    elim (between a b c d x y tail) [
      | inl (p, q) ↦ inl ((cc), q)
      | inr (inl s) ↦ inr (inl (record { behind = s.behind; parts = ap (λ w. w ∷ b) (sym head) ∙ ap (λ l. u ∷ l) s.parts }))
      | inr (inr s) ↦ inr (inr (record { behind = s.behind; parts = ap (λ w. w ∷ a) head ∙ ap (λ l. v ∷ l) s.parts }))
    ]

found_before : (files before here : List Source) (at : Source) (m : Mention) → All (λ f. missing_in files f ≡ None) before → Stands before here at → missing_in files at ≡ Some m → ⊥
found_before files before here at m all s some =
    let none : missing_in files at ≡ None = all_at (λ f. missing_in files f ≡ None) here at s.behind (subst (All (λ f. missing_in files f ≡ None)) s.parts all) in cc

one_first : (files : List Source) (i j m n : ℕ) (a b : TypeId) → IsUnresolved files i m a → IsUnresolved files j n b → (i ≡ j) × (m ≡ n) × (a ≡ b)
one_first files i j m n a b h k = elim (between h.before k.before h.behind k.behind h.at k.at (sym h.parts ∙ k.parts)) [
  | inl (same, is) ↦
      let x : Mention = record { line = m; id = a } in
      let y : Mention = record { line = n; id = b } in
      let one : x ≡ y = same_some (missing_in files k.at) x y (ap (missing_in files) (sym is) ∙ h.missing) k.missing in
      (h.place ∙ ap length same ∙ sym k.place, ap (λ (z : Mention). z.line) one, ap (λ (z : Mention). z.id) one)
  | inr (inl s) ↦ absurd (found_before files k.before h.before h.at (record { line = m; id = a }) k.earlier s h.missing)
  | inr (inr s) ↦ absurd (found_before files h.before k.before k.at (record { line = n; id = b }) h.earlier s k.missing)
]

pub one_meaning : HaveOneMeaning
one_meaning = record { either = links_or_none; one_links = λ files a b h k. one_of_all files files a b h k; not_both = apart; one_unresolved = one_first }
