-- The bytes of tokens are printable ASCII.
use Rattle.std.proofs.Common.{◌≡◌, ℕ, ◌<◌, Bool, true, false, ◌&&◌, ◌||◌, ◌==◌, cond, List, [], ◌∷◌, ◌++◌, refl, sym, ◌∙◌, subst, arith}
use Rattle.std.specs.List.{list_all}
use Rattle.std.specs.Prelude.{nat_le, nat_lt, not, length}
use Rattle.std.specs.Str.{IsAscii, bytes_eq}
use Rattle.std.proofs.lemmas.Bool.{and_parts, false≢true, eqb-true}
use Rattle.std.proofs.lemmas.Bool.Decides.{nat_tests}
use Rattle.std.proofs.lemmas.List.Folds.{list_all-append}
use Rattle.std.proofs.lemmas.Slice.Eq.{bytes_eq-Decides}
use Rattle.std.proofs.lemmas.Str.Ascii.{IsAscii-nil, IsAscii-cons}
use Rattle.dsdl_lex.specs.declared.token.TokenKind.{TokenKind}
use Rattle.dsdl_lex.specs.declared.token.TokenKind.TheVariants as k
use Rattle.dsdl_lex.specs.Bytes.{is_letter, is_digit, is_word, is_quote, is_inside, is_plus_minus, is_exponent_letter, is_printable}
use Rattle.dsdl_lex.specs.NumberText.{is_binary, is_octal, is_hexadecimal, is_nothing, digits_from, is_signed, is_exponent, is_fraction, is_whole_end, is_based, is_zero_end, is_number}
use Rattle.dsdl_lex.specs.Texts.{is_name, is_closed, is_string, signs, is_one_of, is_dash, is_version, number_of, IsPath, IsReference}
use Rattle.dsdl_lex.specs.Tokens.{IsKind}

-- all bytes are printable
abbrev pub Printable : List ℕ → Type 0
Printable text = list_all is_printable text ≡ true

both : (s t : Bool) → s ≡ true → t ≡ true → (s && t) ≡ true
both true t e f = f
both false t e f = e

-- ---- bytes
letter : (b : ℕ) → is_letter b ≡ true → is_printable b ≡ true
letter b e = grind (arith, nat_tests)

digit : (b : ℕ) → is_digit b ≡ true → is_printable b ≡ true
digit b e = grind (arith, nat_tests)

word : (b : ℕ) → is_word b ≡ true → is_printable b ≡ true
word b e = grind (arith, nat_tests)

quote : (b : ℕ) → is_quote b ≡ true → is_printable b ≡ true
quote b e = grind (arith, nat_tests)

dash : (b : ℕ) → is_dash b ≡ true → is_printable b ≡ true
dash b e = grind (arith, nat_tests)

binary : (b : ℕ) → is_binary b ≡ true → is_printable b ≡ true
binary b e = grind (arith, nat_tests)

octal : (b : ℕ) → is_octal b ≡ true → is_printable b ≡ true
octal b e = grind (arith, nat_tests)

hexadecimal : (b : ℕ) → is_hexadecimal b ≡ true → is_printable b ≡ true
hexadecimal b e = grind (arith, nat_tests)

plus_minus : (b : ℕ) → is_plus_minus b ≡ true → is_printable b ≡ true
plus_minus b e = grind (arith, nat_tests)

exponent_letter : (b : ℕ) → is_exponent_letter b ≡ true → is_printable b ≡ true
exponent_letter b e = grind (arith, nat_tests)

equal : (b n : ℕ) → is_printable n ≡ true → (b == n) ≡ true → is_printable b ≡ true
equal b n h e = subst (λ v. is_printable v ≡ true) (sym (eqb-true b n e)) h

either : (b m n : ℕ) → is_printable m ≡ true → is_printable n ≡ true → (b == m || b == n) ≡ true → is_printable b ≡ true
either b m n f g e = go (b == m) refl e
  where
    go : (t : Bool) → (b == m) ≡ t → (t || b == n) ≡ true → is_printable b ≡ true
    go true x y = equal b m f x
    go false x y = equal b n g y

-- a test that printable bytes alone pass
abbrev Prints : (ℕ → Bool) → Type 0
Prints test = (b : ℕ) → test b ≡ true → is_printable b ≡ true

-- a test that printable texts alone pass
abbrev AllPrint : (List ℕ → Bool) → Type 0
AllPrint test = (text : List ℕ) → test text ≡ true → Printable text

put : (b : ℕ) (bs : List ℕ) → is_printable b ≡ true → Printable bs → Printable (b ∷ bs)
put b bs e f = both (is_printable b) (list_all is_printable bs) e f

branch : (text : List ℕ) (t x y : Bool) → (t ≡ true → x ≡ true → Printable text) → (y ≡ true → Printable text) → cond t x y ≡ true → Printable text
branch text true x y f g e = f refl e
branch text false x y f g e = g e

all_print : (test : ℕ → Bool) → Prints test → AllPrint (list_all test)
all_print test p [] e = refl
all_print test p (b ∷ bs) e =
    let q = and_parts (test b) (list_all test bs) e in
    put b bs (p b q.0) (all_print test p bs q.1)

joined : (front back : List ℕ) → Printable front → Printable back → Printable (front ++ back)
joined front back f g = list_all-append is_printable front back ∙ both (list_all is_printable front) (list_all is_printable back) f g

nothing : AllPrint is_nothing
nothing [] e = refl
nothing (b ∷ bs) e = absurd (false≢true e)

-- ---- names, strings and signs
name : AllPrint is_name
name [] e = refl
name (b ∷ bs) e =
    let q = and_parts (is_letter b) (list_all is_word bs) e in
    put b bs (letter b q.0) (all_print is_word word bs q.1)

inside : (q b : ℕ) → is_inside q b ≡ true → is_printable b ≡ true
inside q b e = (and_parts (is_printable b) (not (b == q)) (and_parts (is_printable b && not (b == q)) (not (b == 92)) e).0).0

closed : (q : ℕ) → is_quote q ≡ true → AllPrint (is_closed q)
closed q h [] e = refl
closed q h (b ∷ bs) e =
    branch (b ∷ bs) (b == q) (is_nothing bs) (is_inside q b && is_closed q bs)
    (λ x y. put b bs (equal b q (quote q h) x) (nothing bs y))
    (λ y. let p = and_parts (is_inside q b) (is_closed q bs) y in put b bs (inside q b p.0) (closed q h bs p.1)) e

string : AllPrint is_string
string [] e = refl
string (b ∷ bs) e =
    let p = and_parts (is_quote b) (is_closed b bs) e in
    put b bs (quote b p.0) (closed b p.0 bs p.1)

one_of : (ss : List (List ℕ)) → list_all (list_all is_printable) ss ≡ true → AllPrint (is_one_of ss)
one_of [] h text e = absurd (false≢true e)
one_of (s ∷ ss) h text e =
    let p = and_parts (list_all is_printable s) (list_all (list_all is_printable) ss) h in
    go (bytes_eq s text) p.0 (one_of ss p.1 text) (bytes_eq-Decides s text).0 e
  where
    go : (t : Bool) → Printable s → (is_one_of ss text ≡ true → Printable text) → (t ≡ true → s ≡ text) → (t || is_one_of ss text) ≡ true → Printable text
    go true x f g y = subst Printable (g refl) x
    go false x f g y = f y

-- ---- references
version : AllPrint is_version
version [] e = refl
version (b ∷ bs) e =
    let p = and_parts (list_all is_digit (b ∷ bs) && (not (b == 48) || is_nothing bs)) (nat_lt (number_of (b ∷ bs)) 256) e in
    all_print is_digit digit (b ∷ bs) (and_parts (list_all is_digit (b ∷ bs)) (not (b == 48) || is_nothing bs) p.0).0

path : (text : List ℕ) → IsPath text → Printable text
path text (IsPath.one n e) = name text e
path text (IsPath.more n rest e p t) = subst Printable (sym t) (joined n (46 ∷ rest) (name n e) (path rest p))

reference : (text : List ℕ) → IsReference text → Printable text
reference text r =
    subst Printable (sym r.is_text)
    (joined r.path (46 ∷ (r.major ++ 46 ∷ r.minor)) (path r.path r.is_path)
    (joined r.major (46 ∷ r.minor) (version r.major r.is_major) (version r.minor r.is_minor)))

-- ---- numbers
digits : (begun : Bool) (test : ℕ → Bool) (behind : List ℕ → Bool) → Prints test → AllPrint behind → AllPrint (digits_from begun test behind)
digits begun test behind p h [] e = refl
digits true test behind p h (b ∷ bs) e =
    branch (b ∷ bs) (test b) (digits_from true test behind bs) (cond (b == 95) (digits_from false test behind bs) (behind (b ∷ bs)))
    (λ x y. put b bs (p b x) (digits true test behind p h bs y))
    (branch (b ∷ bs) (b == 95) (digits_from false test behind bs) (behind (b ∷ bs))
    (λ x y. put b bs (equal b 95 refl x) (digits false test behind p h bs y))
    (h (b ∷ bs)))
    e
digits false test behind p h (b ∷ bs) e =
    branch (b ∷ bs) (test b) (digits_from true test behind bs) false
    (λ x y. put b bs (p b x) (digits true test behind p h bs y))
    (λ y. absurd (false≢true y))
    e

signed : AllPrint is_signed
signed [] e = refl
signed (b ∷ bs) e =
    branch (b ∷ bs) (is_plus_minus b) (digits_from false is_digit is_nothing bs) (digits_from false is_digit is_nothing (b ∷ bs))
    (λ x y. put b bs (plus_minus b x) (digits false is_digit is_nothing digit nothing bs y))
    (digits false is_digit is_nothing digit nothing (b ∷ bs))
    e

exponent : AllPrint is_exponent
exponent [] e = refl
exponent (b ∷ bs) e =
    let p = and_parts (is_exponent_letter b) (is_signed bs) e in
    put b bs (exponent_letter b p.0) (signed bs p.1)

fraction : AllPrint is_fraction
fraction [] e = refl
fraction (b ∷ bs) e = digits false is_digit is_exponent digit exponent (b ∷ bs) e

whole_end : AllPrint is_whole_end
whole_end [] e = refl
whole_end (b ∷ bs) e =
    branch (b ∷ bs) (b == 46) (is_fraction bs) (is_exponent (b ∷ bs))
    (λ x y. put b bs (equal b 46 refl x) (fraction bs y))
    (exponent (b ∷ bs))
    e

based : (test : ℕ → Bool) → Prints test → AllPrint (is_based test)
based test p [] e = refl
based test p (b ∷ bs) e =
    branch (b ∷ bs) (b == 95) (digits_from false test is_nothing bs) (digits_from false test is_nothing (b ∷ bs))
    (λ x y. put b bs (equal b 95 refl x) (digits false test is_nothing p nothing bs y))
    (digits false test is_nothing p nothing (b ∷ bs))
    e

zero_end : AllPrint is_zero_end
zero_end [] e = refl
zero_end (b ∷ bs) e =
    branch (b ∷ bs) (b == 98 || b == 66) (is_based is_binary bs) _
    (λ x y. put b bs (either b 98 66 refl refl x) (based is_binary binary bs y))
    (branch (b ∷ bs) (b == 111 || b == 79) (is_based is_octal bs) _
    (λ x y. put b bs (either b 111 79 refl refl x) (based is_octal octal bs y))
    (branch (b ∷ bs) (b == 120 || b == 88) (is_based is_hexadecimal bs) _
    (λ x y. put b bs (either b 120 88 refl refl x) (based is_hexadecimal hexadecimal bs y))
    (digits true is_digit is_whole_end digit whole_end (b ∷ bs))))
    e

number : AllPrint is_number
number [] e = refl
number (b ∷ bs) e =
    branch (b ∷ bs) (b == 48) (is_zero_end bs) _
    (λ x y. put b bs (equal b 48 refl x) (zero_end bs y))
    (branch (b ∷ bs) (b == 46) (digits_from false is_digit is_exponent bs) _
    (λ x y. put b bs (equal b 46 refl x) (digits false is_digit is_exponent digit exponent bs y))
    (digits false is_digit is_whole_end digit whole_end (b ∷ bs)))
    e

-- ---- tokens
pub printable : (kind : TokenKind) (text : List ℕ) → IsKind kind text → Printable text
printable k.Reference text h = reference text h
printable k.Name text h = name text h
printable k.Number text h = number text h
printable k.Str text h = string text h
printable k.Split text h = all_print is_dash dash text (and_parts (nat_le 3 (length text)) (list_all is_dash text) h).1
printable k.Sign text h = one_of signs refl text h

low : (b : ℕ) → is_printable b ≡ true → b < 128
low b e = grind (arith, nat_tests)

ascii_of : (text : List ℕ) → Printable text → IsAscii text
ascii_of [] e = IsAscii-nil
ascii_of (b ∷ bs) e =
    let p = and_parts (is_printable b) (list_all is_printable bs) e in
    IsAscii-cons b bs (low b p.0) (ascii_of bs p.1)

pub ascii : (kind : TokenKind) (text : List ℕ) → IsKind kind text → IsAscii text
ascii kind text h = ascii_of text (printable kind text h)
