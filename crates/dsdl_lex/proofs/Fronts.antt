-- The fronts that a scan tells are the tokens of a line at a place.
use Rattle.std.proofs.Common.{◌≡◌, ℕ, ◌+◌, ◌≤◌, Bool, true, false, ◌&&◌, ◌||◌, ◌==◌, cond, List, [], ◌∷◌, length, take, drop, Option, Some, None, refl, sym, ◌∙◌, subst, arith, length-drop}
use Rattle.std.proofs.lemmas.Bool.{false≢true, eqb-true}
use Rattle.std.proofs.lemmas.Option.{none-some, same_Some}
use Rattle.std.proofs.lemmas.List.{drop-drop}
use Rattle.dsdl_lex.specs.declared.token.TokenKind.{TokenKind}
use Rattle.dsdl_lex.specs.declared.token.TokenKind.TheVariants as k
use Rattle.dsdl_lex.specs.declared.state.State.{State}
use Rattle.dsdl_lex.specs.declared.state.State.TheVariants.{Start, Plain, Dead, Word, Number, Inside, Closed, Point, Sign, Pair}
use Rattle.dsdl_lex.specs.declared.word.WordState.{WordState}
use Rattle.dsdl_lex.specs.declared.word.WordState.TheVariants as w
use Rattle.dsdl_lex.specs.declared.number.NumberState.{NumberState}
use Rattle.dsdl_lex.specs.declared.number.NumberState.TheVariants as n
use Rattle.dsdl_lex.specs.declared.number.Digits.{Digits}
use Rattle.dsdl_lex.specs.declared.number.Digits.TheVariants as d
use Rattle.dsdl_lex.specs.Bytes.{begins_name, is_letter, is_digit, is_word, is_quote, is_inside, is_plus_minus, is_exponent_letter}
use Rattle.dsdl_lex.specs.Words.{digit_more, or_dead}
use Rattle.dsdl_lex.specs.Numbers.{is_digit_of, digit_step, letter_step, end_step, more_step, number_step}
use Rattle.dsdl_lex.specs.Steps.{run, step, kind_of, is_pointed, begin_other, begin_sign, is_among}
use Rattle.dsdl_lex.specs.Tokens.{IsKind, IsToken, IsLongest, NoToken, MayStand, ends_in_point}
use Rattle.dsdl_lex.specs.Scans.{kind_before, front_kind, IsBest, NoSplit, NoReference}
use Rattle.dsdl_lex.proofs.May.{never}
use Rattle.dsdl_lex.proofs.KindLaw.{IsTold, IsPlain, told, tells, told_plain, tells_plain}
use Rattle.std.specs.Prelude.{IfSome, IfNone, codes}

-- ---- a number ends in its point where the scan says so
unpointed : (t : Bool) (x y : State) → is_pointed x ≡ false → is_pointed y ≡ false → is_pointed (cond t x y) ≡ false
unpointed true x y p q = p
unpointed false x y p q = q

module _ (b : ℕ) (no_point : (b == 46) ≡ false) where
  flat_digit : (digits : Digits) → is_pointed (digit_step digits b) ≡ false
  flat_digit digits = unpointed (is_digit_of digits b) (Number (n.Digit digits)) Dead refl refl

  flat_letter : is_pointed (letter_step b) ≡ false
  flat_letter = unpointed (is_exponent_letter b) (Number n.ExponentLetter) Dead refl refl

  flat_end : (digits : Digits) → is_pointed (end_step digits b) ≡ false
  flat_end d.Whole = rw no_point flat_letter
  flat_end d.Fraction = flat_letter
  flat_end d.Exponent = refl
  flat_end d.Binary = refl
  flat_end d.Octal = refl
  flat_end d.Hexadecimal = refl

  flat_more : (digits : Digits) → is_pointed (more_step digits b) ≡ false
  flat_more digits = unpointed (is_digit_of digits b) (Number (n.Digit digits)) (cond (b == 95) (Number (n.Underscore digits)) (end_step digits b)) refl
      (unpointed (b == 95) (Number (n.Underscore digits)) (end_step digits b) refl (flat_end digits))

  flat_number : (s : NumberState) → is_pointed (number_step s b) ≡ false
  flat_number n.Zero =
      unpointed (b == 98 || b == 66) (Number (n.Prefix d.Binary)) _ refl
      (unpointed (b == 111 || b == 79) (Number (n.Prefix d.Octal)) _ refl
      (unpointed (b == 120 || b == 88) (Number (n.Prefix d.Hexadecimal)) (more_step d.Whole b) refl (flat_more d.Whole)))
  flat_number (n.Prefix digits) = unpointed (b == 95) (Number (n.Underscore digits)) (digit_step digits b) refl (flat_digit digits)
  flat_number (n.Digit digits) = flat_more digits
  flat_number (n.Underscore digits) = flat_digit digits
  flat_number n.WholePoint = flat_digit d.Fraction
  flat_number n.ExponentLetter = unpointed (is_plus_minus b) (Number n.ExponentSign) (digit_step d.Exponent b) refl (flat_digit d.Exponent)
  flat_number n.ExponentSign = flat_digit d.Exponent

unpointed_perhaps : (o : Option ℕ) (f : ℕ → State) → ((m : ℕ) → is_pointed (f m) ≡ false) → is_pointed (or_dead o f) ≡ false
unpointed_perhaps None f h = refl
unpointed_perhaps (Some m) f h = h m

flat_word : (s : WordState) (b : ℕ) → is_pointed (step (Word s) b) ≡ false
flat_word w.Plain b = unpointed (is_word b) (Word w.Plain) Dead refl refl
flat_word w.First b = unpointed (is_word b) (Word w.First) _ refl (unpointed (b == 46) (Word w.Point) Dead refl refl)
flat_word w.Later b = unpointed (is_word b) (Word w.Later) _ refl (unpointed (b == 46) (Word w.Point) Dead refl refl)
flat_word w.Point b = unpointed (is_letter b) (Word w.Later) _ refl (unpointed (is_digit b) (Word (w.Major _)) Dead refl refl)
flat_word (w.Major major) b = unpointed (b == 46) (Word (w.MajorPoint major)) _ refl (unpointed_perhaps (digit_more major b) (λ m. Word (w.Major m)) (λ m. refl))
flat_word (w.MajorPoint major) b = unpointed (is_digit b) (Word (w.Minor major _)) Dead refl refl
flat_word (w.Minor major minor) b = unpointed_perhaps (digit_more minor b) (λ m. Word (w.Minor major m)) (λ m. refl)

flat_sign : (b : ℕ) → is_pointed (begin_sign b) ≡ false
flat_sign b =
    unpointed (is_among (codes "@[](){},^+-/%") b) Sign (cond (is_among (codes "<>=!") b) (Pair 61) (cond (is_among (codes "|&*") b) (Pair b) Dead)) refl
    (unpointed (is_among (codes "<>=!") b) (Pair 61) (cond (is_among (codes "|&*") b) (Pair b) Dead) refl (unpointed (is_among (codes "|&*") b) (Pair b) Dead refl refl))

flat_other : (b : ℕ) → is_pointed (begin_other b) ≡ false
flat_other b =
    unpointed (b == 48) (Number n.Zero) _ refl
    (unpointed (is_digit b) (Number (n.Digit d.Whole)) _ refl
    (unpointed (is_quote b) (Inside b) _ refl
    (unpointed (b == 46) Point (begin_sign b) refl (flat_sign b))))

-- behind any byte but a point no number ends in its point
flat : (s : State) (b : ℕ) → (b == 46) ≡ false → is_pointed (step s b) ≡ false
flat Start b e = unpointed (is_letter b) (Word w.First) (begin_other b) refl (flat_other b)
flat Plain b e = unpointed (is_letter b) (Word w.Plain) (begin_other b) refl (flat_other b)
flat Dead b e = refl
flat (Word s) b e = flat_word s b
flat (Number s) b e = flat_number b e s
flat (Inside quote) b e = unpointed (b == quote) Closed _ refl (unpointed (is_inside quote b) (Inside quote) Dead refl refl)
flat Closed b e = refl
flat Point b e = unpointed (is_digit b) (Number (n.Digit d.Fraction)) Dead refl refl
flat Sign b e = refl
flat (Pair second) b e = unpointed (second == b) Sign Dead refl refl

no_kind : (kind : TokenKind) → ◌≡◌ {A = Option TokenKind} None (Some kind) → ⊥
no_kind kind e = none-some kind e

-- of a point's digits there are none
dot_digit : (digits : Digits) → kind_of (digit_step digits 46) ≡ Some k.Number → ⊥
dot_digit d.Whole e = no_kind k.Number e
dot_digit d.Fraction e = no_kind k.Number e
dot_digit d.Exponent e = no_kind k.Number e
dot_digit d.Binary e = no_kind k.Number e
dot_digit d.Octal e = no_kind k.Number e
dot_digit d.Hexadecimal e = no_kind k.Number e

dot_number : (s : NumberState) → kind_of (number_step s 46) ≡ Some k.Number → is_pointed (number_step s 46) ≡ true
dot_number n.Zero e = refl
dot_number (n.Prefix digits) e = absurd (dot_digit digits e)
dot_number (n.Digit d.Whole) e = refl
dot_number (n.Digit d.Fraction) e = absurd (no_kind k.Number e)
dot_number (n.Digit d.Exponent) e = absurd (no_kind k.Number e)
dot_number (n.Digit d.Binary) e = absurd (no_kind k.Number e)
dot_number (n.Digit d.Octal) e = absurd (no_kind k.Number e)
dot_number (n.Digit d.Hexadecimal) e = absurd (no_kind k.Number e)
dot_number (n.Underscore digits) e = absurd (dot_digit digits e)
dot_number n.WholePoint e = absurd (no_kind k.Number e)
dot_number n.ExponentLetter e = absurd (no_kind k.Number e)
dot_number n.ExponentSign e = absurd (no_kind k.Number e)

no_word : (s : WordState) → kind_of (step (Word s) 46) ≡ Some k.Number → ⊥
no_word w.Plain e = never k.Number (46 ∷ []) (Word w.Plain) refl e
no_word w.First e = never k.Number (46 ∷ []) (Word w.First) refl e
no_word w.Later e = never k.Number (46 ∷ []) (Word w.Later) refl e
no_word w.Point e = never k.Number (46 ∷ []) (Word w.Point) refl e
no_word (w.Major major) e = never k.Number (46 ∷ []) (Word (w.Major major)) refl e
no_word (w.MajorPoint major) e = never k.Number (46 ∷ []) (Word (w.MajorPoint major)) refl e
no_word (w.Minor major minor) e = never k.Number (46 ∷ []) (Word (w.Minor major minor)) refl e

-- a number behind a point ends in it
dot : (s : State) → kind_of (step s 46) ≡ Some k.Number → is_pointed (step s 46) ≡ true
dot Start e = absurd (cc)
dot Plain e = absurd (cc)
dot Dead e = absurd (no_kind k.Number e)
dot (Word s) e = absurd (no_word s e)
dot (Number s) e = dot_number s e
dot (Inside quote) e = absurd (never k.Number (46 ∷ []) (Inside quote) refl e)
dot Closed e = absurd (no_kind k.Number e)
dot Point e = absurd (no_kind k.Number e)
dot Sign e = absurd (no_kind k.Number e)
dot (Pair second) e = absurd (never k.Number (46 ∷ []) (Pair second) refl e)

one_byte : (s : State) (b : ℕ) (t : Bool) → (b == 46) ≡ t → kind_of (step s b) ≡ Some k.Number → is_pointed (step s b) ≡ t
one_byte s b false p e = flat s b p
one_byte s b true p e = let same : b ≡ 46 = eqb-true b 46 p in subst (λ v. is_pointed (step s v) ≡ true) (sym same) (dot s (subst (λ v. kind_of (step s v) ≡ Some k.Number) same e))

pub ends : (s : State) (b : ℕ) (bs : List ℕ) → kind_of (run s (b ∷ bs)) ≡ Some k.Number → is_pointed (run s (b ∷ bs)) ≡ ends_in_point (b ∷ bs)
ends s b [] e = one_byte s b (b == 46) refl e
ends s b (c ∷ cs) e = ends (step s b) c cs e

pointed_number : (s : State) → is_pointed s ≡ true → kind_of s ≡ Some k.Number
pointed_number Start e = absurd (false≢true e)
pointed_number Plain e = absurd (false≢true e)
pointed_number Dead e = absurd (false≢true e)
pointed_number (Word s) e = absurd (false≢true e)
pointed_number (Number n.Zero) e = absurd (false≢true e)
pointed_number (Number (n.Prefix digits)) e = absurd (false≢true e)
pointed_number (Number (n.Digit digits)) e = absurd (false≢true e)
pointed_number (Number (n.Underscore digits)) e = absurd (false≢true e)
pointed_number (Number n.WholePoint) e = refl
pointed_number (Number n.ExponentLetter) e = absurd (false≢true e)
pointed_number (Number n.ExponentSign) e = absurd (false≢true e)
pointed_number (Inside quote) e = absurd (false≢true e)
pointed_number Closed e = absurd (false≢true e)
pointed_number Point e = absurd (false≢true e)
pointed_number Sign e = absurd (false≢true e)
pointed_number (Pair second) e = absurd (false≢true e)

-- ---- what stands behind a token, for the scan and for the line
before_kind : (s : State) (behind : List ℕ) (kind : TokenKind) → kind_before s behind ≡ Some kind → (kind_of s ≡ Some kind) × ((is_pointed s && begins_name behind) ≡ false)
before_kind s behind kind e = go (is_pointed s && begins_name behind) e
  where
    go : (t : Bool) → ◌≡◌ {A = Option TokenKind} (cond t None (kind_of s)) (Some kind) → (kind_of s ≡ Some kind) × (t ≡ false)
    go true x = absurd (none-some kind x)
    go false x = (x, refl)

of_before : (s : State) (behind : List ℕ) (kind : TokenKind) → kind_of s ≡ Some kind → (is_pointed s && begins_name behind) ≡ false → kind_before s behind ≡ Some kind
of_before s behind kind e p = rw p e

-- where the scan's state lets a number stand
Free : State → List ℕ → Type 0
Free s behind = (is_pointed s && begins_name behind) ≡ false

no_name : (t u : Bool) → (t && u) ≡ false → t ≡ true → u ≡ false
no_name true u e p = e
no_name false u e p = absurd (false≢true p)

free : (t u : Bool) → (t ≡ true → u ≡ false) → (t && u) ≡ false
free true u h = h refl
free false u h = refl

stand_number : (start : State) (text behind : List ℕ) → kind_of start ≡ None → kind_of (run start text) ≡ Some k.Number → (is_pointed (run start text) && begins_name behind) ≡ false → ends_in_point text ≡ true → begins_name behind ≡ false
stand_number s [] behind z e p q = absurd (false≢true q)
stand_number start (b ∷ bs) behind z e p q = no_name (is_pointed (run start (b ∷ bs))) (begins_name behind) p (ends start b bs e ∙ q)

free_number : (start : State) (text behind : List ℕ) → kind_of start ≡ None → kind_of (run start text) ≡ Some k.Number → (ends_in_point text ≡ true → begins_name behind ≡ false) → (is_pointed (run start text) && begins_name behind) ≡ false
free_number s [] behind z e h = absurd (none-some k.Number (sym z ∙ e))
free_number start (b ∷ bs) behind z e h = free (is_pointed (run start (b ∷ bs))) (begins_name behind) (λ p. h (sym (ends start b bs e) ∙ p))

free_other : (s : State) (behind : List ℕ) (kind : TokenKind) → kind_of s ≡ Some kind → (kind ≡ k.Number → ⊥) → (is_pointed s && begins_name behind) ≡ false
free_other s behind kind e h = free (is_pointed s) (begins_name behind) (λ p. absurd (h (same_Some kind k.Number (sym e ∙ pointed_number s p))))

module _ (start : State) (fresh : kind_of start ≡ None) (Told : TokenKind → Type 0)
    (told' : (text : List ℕ) (kind : TokenKind) → kind_of (run start text) ≡ Some kind → Told kind × IsKind kind text)
    (tells' : (text : List ℕ) (kind : TokenKind) → Told kind → IsKind kind text → kind_of (run start text) ≡ Some kind)
    (no_split : Told k.Split → ⊥) where
  stands : (text front behind : List ℕ) (kind : TokenKind) → kind_of (run start text) ≡ Some kind → (is_pointed (run start text) && begins_name behind) ≡ false → MayStand kind front text behind
  stands text front behind k.Reference e p = tt
  stands text front behind k.Name e p = tt
  stands text front behind k.Number e p = stand_number start text behind fresh e p
  stands text front behind k.Str e p = tt
  stands text front behind k.Split e p = absurd (no_split (told' text k.Split e).0)
  stands text front behind k.Sign e p = tt

  frees : (text front behind : List ℕ) (kind : TokenKind) → kind_of (run start text) ≡ Some kind → MayStand kind front text behind → (is_pointed (run start text) && begins_name behind) ≡ false
  frees text front behind k.Reference e h = free_other (run start text) behind k.Reference e (λ x. cc)
  frees text front behind k.Name e h = free_other (run start text) behind k.Name e (λ x. cc)
  frees text front behind k.Number e h = free_number start text behind fresh e h
  frees text front behind k.Str e h = free_other (run start text) behind k.Str e (λ x. cc)
  frees text front behind k.Split e h = free_other (run start text) behind k.Split e (λ x. cc)
  frees text front behind k.Sign e h = free_other (run start text) behind k.Sign e (λ x. cc)

  module _ (line : List ℕ) (at : ℕ) (inside : at ≤ length line) where
    behind_is : (n : ℕ) → drop n (drop at line) ≡ drop (at + n) line
    behind_is n = drop-drop n at line

    -- a front that the scan tells is a token
    is_token : (kind : TokenKind) (n : ℕ) → n ≤ length (drop at line) → front_kind start (drop at line) n ≡ Some kind → IsToken line at kind n
    is_token kind n le e =
        let p = before_kind (run start (take n (drop at line))) (drop n (drop at line)) kind e in
        record {
          within = omega (arith, length-drop at line);
          is_kind = (told' (take n (drop at line)) kind p.0).1;
          may_stand = subst (λ v. MayStand kind (take at line) (take n (drop at line)) v) (behind_is n) (stands (take n (drop at line)) (take at line) (drop n (drop at line)) kind p.0 p.1);
        }

    -- and a token of such a kind is told
    is_front : (kind : TokenKind) (n : ℕ) → Told kind → IsToken line at kind n → front_kind start (drop at line) n ≡ Some kind
    is_front kind n t h =
        let e = tells' (take n (drop at line)) kind t h.is_kind in
        let m : MayStand kind (take at line) (take n (drop at line)) (drop n (drop at line)) = subst (λ v. MayStand kind (take at line) (take n (drop at line)) v) (sym (behind_is n)) h.may_stand in
        of_before (run start (take n (drop at line))) (drop n (drop at line)) kind e (frees (take n (drop at line)) (take at line) (drop n (drop at line)) kind e m)

    token_fits : (kind : TokenKind) (n : ℕ) → IsToken line at kind n → n ≤ length (drop at line)
    token_fits kind n h = omega (arith, h.within, length-drop at line)

    module _ (told_here : (kind : TokenKind) (n : ℕ) → IsToken line at kind n → Told kind) where
      longest : (best : Option (TokenKind × ℕ)) → IsBest start (drop at line) (length (drop at line)) best → IfSome best (λ r. IsLongest line at r.0 r.1)
      longest None b = tt
      longest (Some r) b = record {
        is_token = is_token r.0 r.1 b.0 b.1;
        no_longer = λ other m lt h. none-some other (sym (b.2 m lt (token_fits other m h)) ∙ is_front other m (told_here other m h) h);
      }

      nothing : (best : Option (TokenKind × ℕ)) → IsBest start (drop at line) (length (drop at line)) best → IfNone best (NoToken line at)
      nothing None b = λ kind n h. none-some kind (sym (b n (token_fits kind n h)) ∙ is_front kind n (told_here kind n h) h)
      nothing (Some r) b = tt

told_start : (line : List ℕ) (at : ℕ) → NoSplit line → (kind : TokenKind) (n : ℕ) → IsToken line at kind n → IsTold kind
told_start line at s k.Reference n h = tt
told_start line at s k.Name n h = tt
told_start line at s k.Number n h = tt
told_start line at s k.Str n h = tt
told_start line at s k.Split n h = absurd (s at n h)
told_start line at s k.Sign n h = tt

told_there : (line : List ℕ) (at : ℕ) → NoSplit line → NoReference line at → (kind : TokenKind) (n : ℕ) → IsToken line at kind n → IsPlain kind
told_there line at s r k.Reference n h = absurd (r n h)
told_there line at s r k.Name n h = tt
told_there line at s r k.Number n h = tt
told_there line at s r k.Str n h = tt
told_there line at s r k.Split n h = absurd (s at n h)
told_there line at s r k.Sign n h = tt

module _ (line : List ℕ) (at : ℕ) (inside : at ≤ length line) (no_split : NoSplit line) (best : Option (TokenKind × ℕ)) where
  pub longest_start : IsBest Start (drop at line) (length (drop at line)) best → IfSome best (λ r. IsLongest line at r.0 r.1)
  longest_start b = longest Start refl IsTold told tells (λ x. x) line at inside (told_start line at no_split) best b

  pub nothing_start : IsBest Start (drop at line) (length (drop at line)) best → IfNone best (NoToken line at)
  nothing_start b = nothing Start refl IsTold told tells (λ x. x) line at inside (told_start line at no_split) best b

  pub longest_plain : NoReference line at → IsBest Plain (drop at line) (length (drop at line)) best → IfSome best (λ r. IsLongest line at r.0 r.1)
  longest_plain r b = longest Plain refl IsPlain told_plain tells_plain (λ x. x) line at inside (told_there line at no_split r) best b

  pub nothing_plain : NoReference line at → IsBest Plain (drop at line) (length (drop at line)) best → IfNone best (NoToken line at)
  nothing_plain r b = nothing Plain refl IsPlain told_plain tells_plain (λ x. x) line at inside (told_there line at no_split r) best b

pub token_front : (line : List ℕ) (at : ℕ) → at ≤ length line → (kind : TokenKind) (n : ℕ) → IsTold kind → IsToken line at kind n → front_kind Start (drop at line) n ≡ Some kind
token_front line at inside kind n t h = is_front Start refl IsTold told tells (λ x. x) line at inside kind n t h

pub front_token : (line : List ℕ) (at : ℕ) → at ≤ length line → (kind : TokenKind) (n : ℕ) → n ≤ length (drop at line) → front_kind Start (drop at line) n ≡ Some kind → IsToken line at kind n
front_token line at inside kind n le e = is_token Start refl IsTold told tells (λ x. x) line at inside kind n le e
