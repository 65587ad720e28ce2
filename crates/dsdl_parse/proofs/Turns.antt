-- One turn of each reader, as the code takes it.
use Rattle.std.proofs.Common.{if◌then◌else◌, ◌≡◌, ℕ, zero, suc, ◌+◌, ◌<◌, ◌≤◌, Bool, true, false, List, [], ◌∷◌, ◌++◌, length, Option, Some, None, codes, refl, sym, ap, ◌∙◌, add-one, arith}
use Rattle.std.proofs.lemmas.Bool.{cond-true, cond-false}
use Rattle.dsdl_parse.specs.declared.expr.Expr.{Expr}
use Rattle.dsdl_parse.specs.Words.{Word, Signs, is_in, first_in, just}
use Rattle.dsdl_parse.specs.Trees.{binary, unary, member, set_of}
use Rattle.dsdl_parse.specs.Reading.{◌>>=◌, Reader, chain, read_chain, read_prefixed, raise, read_power, is_name_kind, members, read_member, close, comma, items, read_items, in_items, in_braces, braces_where, in_parens, around, within, nothings}
use Rattle.dsdl_parse.proofs.Basics.{bound}
use Rattle.dsdl_parse.specs.declared.read_error.ReadError.{ReadError}
use Rattle.dsdl_parse.specs.declared.read_error.ReadError.TheVariants.{Syntax, NoMemory}
use Rattle.dsdl_parse.specs.Answers.{Refuses}
use Rattle.dsdl_parse.proofs.Loops.{ChainLeft, MembersLeft, ItemsLeft}

pub refuses_along : {A B : Type 0} (e : ReadError) (o : Option A) (p : Option B) → (o ≡ None → p ≡ None) → Refuses e o → Refuses e p
refuses_along Syntax o p f h = f h
refuses_along NoMemory o p f h = tt

pub within_more : (depth d : ℕ) → depth ≡ d + 1 → within depth ≡ around (within d)
unfolding within
within_more depth d e = rw (e, add-one) refl

pub within_none : (depth : ℕ) → depth ≡ 0 → within depth ≡ nothings
unfolding within
within_none depth e = rw e refl

bound_none : {A B : Type 0} (f : A → Option B) (o : Option A) → o ≡ None → (o >>= f) ≡ None
bound_none f o e = ap (λ v. v >>= f) e

module _ (op : Signs) (inner normal : Reader Expr) where
  pub prefixed_some : (ws left : List Word) (w : Word) (x : Expr) (new : List Word) → ws ≡ w ∷ new → is_in op w ≡ true → inner new ≡ Some (x, left) →
      read_prefixed op inner normal ws ≡ Some (unary w x, left)
  prefixed_some ws left w x new e h g = ap (read_prefixed op inner normal) e ∙ cond-true (is_in op w) _ _ h ∙ bound _ _ _ _ g refl

  pub prefixed_none : (ws : List Word) (w : Word) (new : List Word) → ws ≡ w ∷ new → is_in op w ≡ true → inner new ≡ None → read_prefixed op inner normal ws ≡ None
  prefixed_none ws w new e h g = ap (read_prefixed op inner normal) e ∙ cond-true (is_in op w) _ _ h ∙ bound_none _ _ g

  pub prefixed_plain : (ws : List Word) → first_in op ws ≡ false → read_prefixed op inner normal ws ≡ normal ws
  prefixed_plain [] h = refl
  prefixed_plain (w ∷ ws) h = cond-false (is_in op w) _ _ h

abbrev pub stars : Signs
stars = just (codes "**")

module _ (below exponent : Reader Expr) where
  pub power_some : (ws mid new left : List Word) (a x : Expr) (w : Word) → below ws ≡ Some (a, mid) → mid ≡ w ∷ new → is_in stars w ≡ true → exponent new ≡ Some (x, left) →
      read_power below exponent ws ≡ Some (binary w a x, left)
  power_some ws mid new left a x w b e h g = bound _ _ _ _ b (ap (raise exponent a) e ∙ cond-true (is_in stars w) _ _ h ∙ bound _ _ _ _ g refl)

  pub power_none : (ws mid new : List Word) (a : Expr) (w : Word) → below ws ≡ Some (a, mid) → mid ≡ w ∷ new → is_in stars w ≡ true → exponent new ≡ None →
      read_power below exponent ws ≡ None
  power_none ws mid new a w b e h g = bound _ _ _ _ b (ap (raise exponent a) e ∙ cond-true (is_in stars w) _ _ h ∙ bound_none _ _ g)

  pub not_raised : (a : Expr) (mid : List Word) → first_in stars mid ≡ false → raise exponent a mid ≡ Some (a, mid)
  not_raised a [] h = refl
  not_raised a (w ∷ ws) h = cond-false (is_in stars w) _ _ h

  pub power_base : (ws mid new : List Word) (a : Expr) → below ws ≡ Some (a, mid) → new ≡ mid → first_in stars mid ≡ false → read_power below exponent ws ≡ Some (a, new)
  power_base ws mid new a b s h = bound _ _ _ _ b (not_raised a mid h ∙ ap (λ l. Some (a, l)) (sym s))

  pub power_fails : (ws : List Word) → below ws ≡ None → read_power below exponent ws ≡ None
  power_fails ws b = bound_none _ _ b

module _ (op : Signs) (operand : Reader Expr) where
  pub chain_starts : (ws now : List Word) (a : Expr) → operand ws ≡ Some (a, now) → length now ≤ length ws → ChainLeft op operand ws a now
  chain_starts ws now a e s = record { most = length now; fits = omega arith; same = bound _ _ _ _ e refl; shorter = s }

  one_more : (n : ℕ) (a : Expr) (now new : List Word) (w : Word) → length now ≤ n → now ≡ w ∷ new → is_in op w ≡ true →
      (m : ℕ) × (length new ≤ m) × (chain op operand n a now ≡ (operand new >>= λ r. chain op operand m (binary w a r.0) r.1))
  one_more zero a now new w le e h = absurd (omega (arith, ap length e))
  one_more (suc n) a now new w le e h = (n, omega (arith, ap length e), ap (chain op operand (suc n) a) e ∙ cond-true (is_in op w) _ _ h)

  pub chain_goes_on : (ws now new left : List Word) (a b : Expr) (w : Word) → ChainLeft op operand ws a now → now ≡ w ∷ new → is_in op w ≡ true →
      operand new ≡ Some (b, left) → length left ≤ length new → ChainLeft op operand ws (binary w a b) left
  chain_goes_on ws now new left a b w c e h g s =
      let (m, le, eq) = one_more c.most a now new w c.fits e h in
      record { most = m; fits = omega arith; same = c.same ∙ eq ∙ bound _ _ _ _ g refl; shorter = omega (arith, c.shorter, ap length e) }

  pub chain_fails : (ws now new : List Word) (a : Expr) (w : Word) → ChainLeft op operand ws a now → now ≡ w ∷ new → is_in op w ≡ true →
      operand new ≡ None → read_chain op operand ws ≡ None
  chain_fails ws now new a w c e h g =
      let (m, le, eq) = one_more c.most a now new w c.fits e h in c.same ∙ eq ∙ bound_none _ _ g

  pub stopped : (n : ℕ) (a : Expr) (now : List Word) → first_in op now ≡ false → chain op operand n a now ≡ Some (a, now)
  stopped zero a now h = refl
  stopped (suc n) a [] h = refl
  stopped (suc n) a (w ∷ ws) h = cond-false (is_in op w) _ _ h

  pub chain_ends : (ws now new : List Word) (a : Expr) → ChainLeft op operand ws a now → new ≡ now → first_in op now ≡ false → read_chain op operand ws ≡ Some (a, new)
  chain_ends ws now new a c s h = c.same ∙ stopped c.most a now h ∙ ap (λ l. Some (a, l)) (sym s)

abbrev pub dot : Signs
dot = just (codes ".")

module _ (atom : Reader Expr) where
  pub members_start : (ws now : List Word) (a : Expr) → atom ws ≡ Some (a, now) → length now ≤ length ws → MembersLeft atom ws a now
  members_start ws now a e s = record { most = length now; fits = omega arith; same = bound _ _ _ _ e refl; shorter = s }

  named : (n : ℕ) (a : Expr) (now new left : List Word) (w name : Word) → length now ≤ n → now ≡ w ∷ new → is_in dot w ≡ true → new ≡ name ∷ left →
      (m : ℕ) × (length left ≤ m) × (members n a now ≡ (if is_name_kind name.kind then members m (member a name) left else None))
  named zero a now new left w name le e h f = absurd (omega (arith, ap length e))
  named (suc n) a now new left w name le e h f = (
    n,
    omega (arith, ap length e, ap length f),
    ap (members (suc n) a) (e ∙ ap (λ l. w ∷ l) f) ∙ cond-true (is_in dot w) _ _ h,
  )

  unnamed : (n : ℕ) (a : Expr) (now : List Word) (w : Word) → length now ≤ n → now ≡ w ∷ [] → is_in dot w ≡ true → members n a now ≡ None
  unnamed zero a now w le e h = absurd (omega (arith, ap length e))
  unnamed (suc n) a now w le e h = ap (members (suc n) a) e ∙ cond-true (is_in dot w) _ _ h

  pub members_go_on : (ws now new left : List Word) (a : Expr) (w name : Word) → MembersLeft atom ws a now → now ≡ w ∷ new → is_in dot w ≡ true → new ≡ name ∷ left →
      is_name_kind name.kind ≡ true → MembersLeft atom ws (member a name) left
  members_go_on ws now new left a w name c e h f k =
      let (m, le, eq) = named c.most a now new left w name c.fits e h f in
      record { most = m; fits = le; same = c.same ∙ eq ∙ cond-true (is_name_kind name.kind) _ _ k; shorter = omega (arith, c.shorter, ap length e, ap length f) }

  pub members_no_name : (ws now new left : List Word) (a : Expr) (w name : Word) → MembersLeft atom ws a now → now ≡ w ∷ new → is_in dot w ≡ true → new ≡ name ∷ left →
      is_name_kind name.kind ≡ false → read_member atom ws ≡ None
  members_no_name ws now new left a w name c e h f k =
      let (m, le, eq) = named c.most a now new left w name c.fits e h f in c.same ∙ eq ∙ cond-false (is_name_kind name.kind) _ _ k

  pub members_no_word : (ws now new : List Word) (a : Expr) (w : Word) → MembersLeft atom ws a now → now ≡ w ∷ new → is_in dot w ≡ true → new ≡ [] → read_member atom ws ≡ None
  members_no_word ws now new a w c e h f = c.same ∙ unnamed c.most a now w c.fits (e ∙ ap (λ l. w ∷ l) f) h

  pub halted : (n : ℕ) (a : Expr) (now : List Word) → first_in dot now ≡ false → members n a now ≡ Some (a, now)
  halted zero a now h = refl
  halted (suc n) a [] h = refl
  halted (suc n) a (w ∷ []) h = cond-false (is_in dot w) _ _ h
  halted (suc n) a (w ∷ v ∷ ws) h = cond-false (is_in dot w) _ _ h

  pub members_end : (ws now new : List Word) (a : Expr) → MembersLeft atom ws a now → new ≡ now → first_in dot now ≡ false → read_member atom ws ≡ Some (a, new)
  members_end ws now new a c s h = c.same ∙ halted c.most a now h ∙ ap (λ l. Some (a, l)) (sym s)

abbrev commas : Signs
commas = just (codes ",")

module _ (item : Reader Expr) where
  pub items_start : (ws : List Word) → ItemsLeft item ws [] ws
  items_start ws = record { most = suc (length ws); fits = omega arith; same = refl; shorter = omega arith }

  item_read : (n : ℕ) (xs : List Expr) (now : List Word) → length now < n → (m : ℕ) × (n ≡ suc m) × (items item n xs now ≡ (item now >>= λ r. comma (items item m) (xs ++ r.0 ∷ []) r.1))
  item_read zero xs now lt = absurd (omega arith)
  item_read (suc n) xs now lt = (n, refl, refl)

  pub items_go_on : (ws now mid new : List Word) (xs : List Expr) (x : Expr) (w : Word) → ItemsLeft item ws xs now → item now ≡ Some (x, mid) → length mid ≤ length now →
      mid ≡ w ∷ new → is_in commas w ≡ true → ItemsLeft item ws (xs ++ x ∷ []) new
  items_go_on ws now mid new xs x w c g s e h =
      let (m, eq, step) = item_read c.most xs now c.fits in
      record {
        most = m;
        fits = omega (arith, ap length e, c.fits);
        same = c.same ∙ step ∙ bound _ _ _ _ g (ap (comma (items item m) (xs ++ x ∷ [])) e ∙ cond-true (is_in commas w) _ _ h);
        shorter = omega (arith, ap length e, c.shorter);
      }

  pub items_fail : (ws now : List Word) (xs : List Expr) → ItemsLeft item ws xs now → item now ≡ None → read_items item ws ≡ None
  items_fail ws now xs c g = let (m, eq, step) = item_read c.most xs now c.fits in c.same ∙ step ∙ bound_none _ _ g

  no_comma : (next : List Expr → Reader (List Expr)) (xs : List Expr) (mid : List Word) → first_in commas mid ≡ false → comma next xs mid ≡ Some (xs, mid)
  no_comma next xs [] h = refl
  no_comma next xs (w ∷ ws) h = cond-false (is_in commas w) _ _ h

  pub items_end : (ws now mid new : List Word) (xs : List Expr) (x : Expr) → ItemsLeft item ws xs now → item now ≡ Some (x, mid) → new ≡ mid → first_in commas mid ≡ false →
      read_items item ws ≡ Some (xs ++ x ∷ [], new)
  items_end ws now mid new xs x c g s h =
      let (m, eq, step) = item_read c.most xs now c.fits in
      c.same ∙ step ∙ bound _ _ _ _ g (no_comma (items item m) (xs ++ x ∷ []) mid h ∙ ap (λ l. Some (xs ++ x ∷ [], l)) (sym s))

abbrev pub opens : Signs
opens = just (codes "(")

abbrev closes : Signs
closes = just (codes ")")

abbrev pub opens_set : Signs
opens_set = just (codes "{")

abbrev closes_set : Signs
closes_set = just (codes "}")

closed : {A : Type 0} (s : Signs) (a : A) (mid new : List Word) (w : Word) → mid ≡ w ∷ new → is_in s w ≡ true → close s a mid ≡ Some ((a, w), new)
closed s a mid new w e h = ap (close s a) e ∙ cond-true (is_in s w) _ _ h

not_closed : {A : Type 0} (s : Signs) (a : A) (mid : List Word) → first_in s mid ≡ false → close s a mid ≡ None
not_closed s a [] h = refl
not_closed s a (w ∷ ws) h = cond-false (is_in s w) _ _ h

module _ (room : Bool) (inner : Reader Expr) where
  pub parens_some : (ws mid new : List Word) (x : Expr) (w : Word) → inner ws ≡ Some (x, mid) → mid ≡ w ∷ new → is_in closes w ≡ true → in_parens inner ws ≡ Some (x, new)
  parens_some ws mid new x w g e h = bound _ _ _ _ g (bound _ _ _ _ (closed closes x mid new w e h) refl)

  pub parens_open : (ws mid : List Word) (x : Expr) → inner ws ≡ Some (x, mid) → first_in closes mid ≡ false → in_parens inner ws ≡ None
  parens_open ws mid x g h = bound _ _ _ _ g (bound_none _ _ (not_closed closes x mid h))

  pub parens_fail : (ws : List Word) → inner ws ≡ None → in_parens inner ws ≡ None
  parens_fail ws g = bound_none _ _ g

  has_room : (o : Word) (ws : List Word) → room ≡ true → braces_where room inner o ws ≡ in_braces inner o ws
  has_room o ws h = cond-true room _ _ h

  pub no_room : (o : Word) (ws : List Word) → room ≡ false → braces_where room inner o ws ≡ None
  no_room o ws h = cond-false room _ _ h

  pub braces_empty : (o w : Word) (ws new : List Word) → room ≡ true → ws ≡ w ∷ new → is_in closes_set w ≡ true → braces_where room inner o ws ≡ Some (set_of o [] w, new)
  braces_empty o w ws new r e h = has_room o ws r ∙ ap (in_braces inner o) e ∙ cond-true (is_in closes_set w) _ _ h

  with_items : (o : Word) (ws : List Word) → first_in closes_set ws ≡ false → in_braces inner o ws ≡ in_items inner o ws
  with_items o [] h = refl
  with_items o (w ∷ ws) h = cond-false (is_in closes_set w) _ _ h

  pub braces_some : (o w : Word) (ws mid new : List Word) (xs : List Expr) → room ≡ true → first_in closes_set ws ≡ false → read_items inner ws ≡ Some (xs, mid) →
      mid ≡ w ∷ new → is_in closes_set w ≡ true → braces_where room inner o ws ≡ Some (set_of o xs w, new)
  braces_some o w ws mid new xs r f g e h = has_room o ws r ∙ with_items o ws f ∙ bound _ _ _ _ g (bound _ _ _ _ (closed closes_set xs mid new w e h) refl)

  pub braces_open : (o : Word) (ws mid : List Word) (xs : List Expr) → room ≡ true → first_in closes_set ws ≡ false → read_items inner ws ≡ Some (xs, mid) →
      first_in closes_set mid ≡ false → braces_where room inner o ws ≡ None
  braces_open o ws mid xs r f g h = has_room o ws r ∙ with_items o ws f ∙ bound _ _ _ _ g (bound_none _ _ (not_closed closes_set xs mid h))

  pub braces_fail : (o : Word) (ws : List Word) → room ≡ true → first_in closes_set ws ≡ false → read_items inner ws ≡ None → braces_where room inner o ws ≡ None
  braces_fail o ws r f g = has_room o ws r ∙ with_items o ws f ∙ bound_none _ _ g
