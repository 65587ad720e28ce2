-- The words of a line, and what they are read as.
use Rattle.std.proofs.Common.{◌≡◌, ◌∙◌, inl, inr, ℕ, zero, suc, ◌+◌, ◌/◌, ◌%◌, ◌<◌, Bool, true, false, ◌&&◌, eqb, List, [], ◌∷◌, ◌++◌, length, get_or, Option, Some, None, unwrap_or, refl, sym, ap, arith}
use Rattle.std.specs.Prelude.{codes, decimal, if◌then◌else◌, nat_le, AllPairs, IfSome, ◌≢◌}
use Rattle.std.specs.List.{list_all}
use Rattle.std.specs.Str.Parse.{digits_value}
use Rattle.std.proofs.lemmas.Bool.{and_parts, and_from, cases_Bool, cond-false, cond-true, eq-eqb, eqb-true, true≢false}
use Rattle.std.proofs.lemmas.Fmt.{decimal_injective, decimal_is_IsNumeral}
use Rattle.std.proofs.lemmas.Option.{slice_get-get_or}
use Rattle.can_id.specs.declared.key.Kind.{Kind}
use Rattle.can_id.specs.declared.key.Kind.TheVariants.{Message, Request, Response}
use Rattle.line_text.specs.Text.{digit, moment_text, six_digits}
use Rattle.node_plan.specs.Names.{is_name_byte}
use Rattle.log_explain.specs.Reasons.{no_change}
use Rattle.tail_frame.specs.declared.discard.Discard.{Discard}
use Rattle.tail_frame.specs.declared.discard.Discard.TheVariants as discard
use Rattle.log_explain.specs.declared.reasons.reason.Change.{Change}
use Rattle.log_explain.specs.declared.reasons.reason.Reason.{Reason}
use Rattle.log_explain.specs.declared.reasons.reason.Reason.TheVariants.{
  BadCrc,
  Begun,
  Copy,
  Delivered,
  Discarded,
  Elsewhere,
  NoSession,
  Own,
  Standby,
  StrayNone,
  StrayTid,
  StrayToggle,
  Taken,
  Unknown,
  Unsubscribed,
}
use Rattle.log_explain.specs.declared.reasons.reason.Silence.{Silence}
use Rattle.session_lines.proofs.Cuts.{AreWords, Free, IsEnd, cut, decimal_no_hyphen, decimal_pointless, decimal_word, free_append}
use Rattle.log_explain.specs.Text.{change_words, discard_word, from_words, kind_word, name_of, name_or, over_words, reason_words, silence_words, source_word, transfer_words}
use Rattle.log_explain.specs.declared.line.Transfer.{Transfer}
use Rattle.explain_laws.specs.Text.{AreNames, IsBus, IsChange, IsNumber, IsReason, IsSilence, IsTransfer}

-- ---- words that stand as they are

pub free_above : (t : List ℕ) → list_all (nat_le 34) t ≡ true → Free IsEnd t
free_above [] h = tt
free_above (c ∷ t) h = let p = and_parts (nat_le 34 c) (list_all (nat_le 34) t) h in (none c p.0, free_above t p.1)
  where
    none : (c : ℕ) → nat_le 34 c ≡ true → IsEnd c → ⊥
    none c h (inl e) = true≢false (sym h ∙ ap (nat_le 34) e)
    none c h (inr e) = true≢false (sym h ∙ ap (nat_le 34) e)

pub words_append : (a b : List (List ℕ)) → AreWords a → AreWords b → AreWords (a ++ b)
words_append [] b p q = q
words_append (w ∷ a) b p q = (p.0, words_append a b p.1 q)

-- whether two words are the same
abbrev pub same : List ℕ → List ℕ → Bool
same [] [] = true
same [] (y ∷ ys) = false
same (x ∷ xs) [] = false
same (x ∷ xs) (y ∷ ys) = eqb x y && same xs ys

same_self : (t : List ℕ) → same t t ≡ true
same_self [] = refl
same_self (x ∷ xs) = and_from (eqb x x) (same xs xs) (eq-eqb x x refl) (same_self xs)

same_is : (s t : List ℕ) → same s t ≡ true → s ≡ t
same_is [] [] h = refl
same_is [] (y ∷ ys) h = absurd (true≢false (sym h))
same_is (x ∷ xs) [] h = absurd (true≢false (sym h))
same_is (x ∷ xs) (y ∷ ys) h =
    let p = and_parts (eqb x y) (same xs ys) h in
    let head = eqb-true x y p.0 in
    let tail = same_is xs ys p.1 in λ i. head i ∷ tail i

apart : (s t : List ℕ) → (s ≡ t → ⊥) → same s t ≡ false
apart s t n = elim (cases_Bool (same s t)) [ inl y ↦ absurd (n (same_is s t y)) | inr n ↦ n ]

abbrev hyphen : List ℕ
hyphen = codes "-"

-- ---- numbers and moments

pub number_in : List ℕ → ℕ
number_in word = digits_value 10 word

pub number_is : (n : ℕ) → IsNumber n → number_in (decimal n) ≡ n
unfolding number_in
number_is n h = (decimal_is_IsNumeral n h).1

digit_word : (n : ℕ) → IsEnd (digit n) → ⊥
digit_word n (inl e) = let k : 48 + n % 10 ≡ 32 = e in absurd (omega arith)
digit_word n (inr e) = let k : 48 + n % 10 ≡ 10 = e in absurd (omega arith)

six_word : (n : ℕ) → Free IsEnd (six_digits n)
six_word n = (digit_word (n / 100000), (digit_word (n / 10000), (digit_word (n / 1000), (digit_word (n / 100), (digit_word (n / 10), (digit_word n, tt))))))

pub moment_word : (m : ℕ) → IsNumber m → Free IsEnd (moment_text m)
moment_word m h = free_append IsEnd (decimal (m / 1000000)) (46 ∷ six_digits (m % 1000000)) (decimal_word (m / 1000000) (omega arith)) (point, six_word (m % 1000000))
  where
    point : IsEnd 46 → ⊥
    point (inl e) = absurd (omega arith)
    point (inr e) = absurd (omega arith)

-- a number by its quotient by ten and its last digit
by_tens : (n m : ℕ) → n / 10 ≡ m / 10 → digit n ≡ digit m → n ≡ m
by_tens n m e f = let k : 48 + n % 10 ≡ 48 + m % 10 = f in omega arith

one_six : (n m : ℕ) → n < 1000000 → m < 1000000 → six_digits n ≡ six_digits m → n ≡ m
one_six n m p q e =
    let d5 : digit (n / 100000) ≡ digit (m / 100000) = cc in
    let d4 : digit (n / 10000) ≡ digit (m / 10000) = cc in
    let d3 : digit (n / 1000) ≡ digit (m / 1000) = cc in
    let d2 : digit (n / 100) ≡ digit (m / 100) = cc in
    let d1 : digit (n / 10) ≡ digit (m / 10) = cc in
    let d0 : digit n ≡ digit m = cc in
    let s5 : n / 100000 ≡ m / 100000 = by_tens (n / 100000) (m / 100000) (omega arith) d5 in
    let s4 : n / 10000 ≡ m / 10000 = by_tens (n / 10000) (m / 10000) (omega (arith, s5)) d4 in
    let s3 : n / 1000 ≡ m / 1000 = by_tens (n / 1000) (m / 1000) (omega (arith, s4)) d3 in
    let s2 : n / 100 ≡ m / 100 = by_tens (n / 100) (m / 100) (omega (arith, s3)) d2 in
    let s1 : n / 10 ≡ m / 10 = by_tens (n / 10) (m / 10) (omega (arith, s2)) d1 in
    by_tens n m s1 d0

pub one_moment : (m n : ℕ) → IsNumber m → IsNumber n → moment_text m ≡ moment_text n → m ≡ n
one_moment m n p q e =
    let s = cut (λ c. c ≡ 46) (decimal (m / 1000000)) (decimal (n / 1000000)) 46 46 (six_digits (m % 1000000)) (six_digits (n % 1000000))
    (decimal_pointless (m / 1000000) (omega arith)) (decimal_pointless (n / 1000000) (omega arith)) refl refl e in
    let high : m / 1000000 ≡ n / 1000000 = decimal_injective (m / 1000000) (n / 1000000) (omega arith) (omega arith) s.front in
    let low : m % 1000000 ≡ n % 1000000 = one_six (m % 1000000) (n % 1000000) (omega arith) (omega arith) s.rest in
    omega arith

-- ---- kinds, sources and transfers

pub kind_are : (kind : Kind) → Free IsEnd (kind_word kind)
kind_are Message = free_above (codes "msg") refl
kind_are Request = free_above (codes "req") refl
kind_are Response = free_above (codes "res") refl

abbrev pub kind_in : List ℕ → Kind
kind_in word = if same word (codes "msg") then Message else if same word (codes "req") then Request else Response

pub kind_is : (kind : Kind) → kind_in (kind_word kind) ≡ kind
kind_is Message = refl
kind_is Request = refl
kind_is Response = refl

source_are : (source : Option ℕ) → IfSome source IsNumber → Free IsEnd (source_word source)
source_are None h = free_above hyphen refl
source_are (Some s) h = decimal_word s h

abbrev source_in : List ℕ → Option ℕ
source_in word = if same word hyphen then None else Some (number_in word)

source_is : (source : Option ℕ) → IfSome source IsNumber → source_in (source_word source) ≡ source
source_is None h = refl
source_is (Some s) h =
    cond-false (same (decimal s) hyphen) None (Some (number_in (decimal s))) (apart (decimal s) hyphen (decimal_no_hyphen s h)) ∙ ap Some (number_is s h)

pub transfer_are : (t : Option Transfer) → IfSome t IsTransfer → AreWords (transfer_words t)
transfer_are None h = let w = free_above hyphen refl in (w, (w, (w, (w, tt))))
transfer_are (Some t) h = (kind_are t.key.kind, (decimal_word t.key.port h.port, (source_are t.key.source h.source, (decimal_word t.tid h.tid, tt))))

abbrev pub word_at : List (List ℕ) → ℕ → List ℕ
word_at words i = get_or words i []

abbrev some_transfer : List (List ℕ) → Transfer
some_transfer words = record {
  key = record { kind = kind_in (word_at words 0); port = number_in (word_at words 1); source = source_in (word_at words 2) };
  tid = number_in (word_at words 3);
}

-- the transfer that four words tell
abbrev pub transfer_in : List (List ℕ) → Option Transfer
transfer_in words = if same (word_at words 0) hyphen then None else Some (some_transfer words)

pub transfer_is : (t : Option Transfer) (more : List (List ℕ)) → IfSome t IsTransfer → transfer_in (transfer_words t ++ more) ≡ t
transfer_is None more h = refl
transfer_is (Some t) more h =
    cond-false (same (kind_word t.key.kind) hyphen) None (Some (some_transfer (transfer_words (Some t) ++ more))) (no_kind t.key.kind)
    ∙ (λ i. Some (record {
      key = record { kind = kind_is t.key.kind i; port = number_is t.key.port h.port i; source = source_is t.key.source h.source i };
      tid = number_is t.tid h.tid i;
    }))
  where
    no_kind : (kind : Kind) → same (kind_word kind) hyphen ≡ false
    no_kind Message = refl
    no_kind Request = refl
    no_kind Response = refl

-- the words behind the first one, two, three and four
abbrev pub behind_one : List (List ℕ) → List (List ℕ)
behind_one [] = []
behind_one (word ∷ words) = words

abbrev pub behind_two : List (List ℕ) → List (List ℕ)
behind_two words = behind_one (behind_one words)

abbrev pub behind_three : List (List ℕ) → List (List ℕ)
behind_three words = behind_one (behind_two words)

abbrev pub behind_four : List (List ℕ) → List (List ℕ)
behind_four words = behind_one (behind_three words)

pub behind_transfer : (t : Option Transfer) (more : List (List ℕ)) → behind_four (transfer_words t ++ more) ≡ more
behind_transfer None more = refl
behind_transfer (Some t) more = refl

-- ---- buses

module _ (names : List (List ℕ)) (named : AreNames names) where
  name_at : (bus : ℕ) → IsBus names bus → name_of names bus ≡ get_or names bus []
  name_at bus h = ap (λ (o : Option (List ℕ)). unwrap_or o []) (slice_get-get_or names bus [] h)

  name_bytes : (bus : ℕ) → IsBus names bus → list_all is_name_byte (name_of names bus) ≡ true
  name_bytes bus h =
      let name = get_or names bus [] in
      ap (list_all is_name_byte) (name_at bus h) ∙ (and_parts (nat_le (length name) 15) (list_all is_name_byte name) (named.words bus [] h)).1

  name_word : (name : List ℕ) → list_all is_name_byte name ≡ true → Free IsEnd name
  name_word [] h = tt
  name_word (c ∷ cs) h = let p = and_parts (is_name_byte c) (list_all is_name_byte cs) h in (none c p.0, name_word cs p.1)
    where
      none : (c : ℕ) → is_name_byte c ≡ true → IsEnd c → ⊥
      none c h (inl e) = true≢false (sym h ∙ ap is_name_byte e)
      none c h (inr e) = true≢false (sym h ∙ ap is_name_byte e)

  pub bus_word : (bus : ℕ) → IsBus names bus → Free IsEnd (name_of names bus)
  bus_word bus h = name_word (name_of names bus) (name_bytes bus h)

  -- the place of a name
  abbrev pub place_in : List (List ℕ) → List ℕ → ℕ
  place_in [] word = 0
  place_in (name ∷ more) word = if same name word then 0 else suc (place_in more word)

  place_is : (some : List (List ℕ)) (i : ℕ) → AllPairs (λ a b. a ≢ b) some → i < length some → place_in some (get_or some i []) ≡ i
  place_is [] i differ h = absurd (omega arith)
  place_is (name ∷ more) zero differ h = cond-true (same name name) 0 (suc (place_in more name)) (same_self name)
  place_is (name ∷ more) (suc i) differ h =
      let less : i < length more = omega arith in
      let first : 0 < suc i = omega arith in
      let other = get_or more i [] in
      cond-false (same name other) 0 (suc (place_in more other)) (apart name other (differ 0 (suc i) [] first h))
      ∙ ap suc (place_is more i (λ a b d l k. differ (suc a) (suc b) d (omega arith) (omega arith)) less)

  pub bus_in : List ℕ → ℕ
  bus_in word = place_in names word

  pub bus_is : (bus : ℕ) → IsBus names bus → bus_in (name_of names bus) ≡ bus
  unfolding bus_in
  bus_is bus h = ap (place_in names) (name_at bus h) ∙ place_is names bus named.differ h

  pub some_bus_word : (bus : Option ℕ) → IfSome bus (IsBus names) → Free IsEnd (name_or names bus)
  some_bus_word None h = free_above hyphen refl
  some_bus_word (Some bus) h = bus_word bus h

  abbrev pub some_bus_in : List ℕ → Option ℕ
  some_bus_in word = if same word hyphen then None else Some (bus_in word)

  pub some_bus_is : (bus : Option ℕ) → IfSome bus (IsBus names) → some_bus_in (name_or names bus) ≡ bus
  some_bus_is None h = refl
  some_bus_is (Some bus) h =
      let name = name_of names bus in
      cond-false (same name hyphen) None (Some (bus_in name)) (apart name hyphen (λ e. true≢false (sym (name_bytes bus h) ∙ ap (list_all is_name_byte) e)))
      ∙ ap Some (bus_is bus h)

  -- ---- reasons

  silence_are : (s : Silence) → IsSilence names s → AreWords (silence_words names s)
  silence_are s h = (bus_word s.bus h.bus, (decimal_word s.micros h.micros, tt))

  abbrev silence_in : List (List ℕ) → Silence
  silence_in words = record { bus = bus_in (word_at words 0); micros = number_in (word_at words 1) }

  silence_is : (s : Silence) → IsSilence names s → silence_in (silence_words names s) ≡ s
  silence_is s h i = record { bus = bus_is s.bus h.bus i; micros = number_is s.micros h.micros i }

  change_are : (change : Change) → IsChange names change → AreWords (change_words names change)
  change_are change h = words_append (over_words change.over) (from_words names change.from) (over_are change.over h.over) (from_are change.from h.from)
    where
      over_are : (over : Option ℕ) → IfSome over IsNumber → AreWords (over_words over)
      over_are None h = tt
      over_are (Some first) h = (free_above (codes "over") refl, (decimal_word first h, tt))

      from_are : (from : Option Silence) → IfSome from (IsSilence names) → AreWords (from_words names from)
      from_are None h = tt
      from_are (Some s) h = (free_above (codes "from") refl, silence_are s h)

  abbrev from_in : List (List ℕ) → Option Silence
  from_in [] = None
  from_in (word ∷ words) = Some (silence_in words)

  abbrev change_in : List (List ℕ) → Change
  change_in [] = no_change
  change_in (word ∷ words) =
      if same word (codes "over")
      then record { over = Some (number_in (word_at words 0)); from = from_in (behind_one words) }
      else record { over = None; from = Some (silence_in words) }

  change_is : (change : Change) → IsChange names change → change_in (change_words names change) ≡ change
  change_is change h = by_parts change.over change.from h.over h.from
    where
      by_parts : (over : Option ℕ) (from : Option Silence) → IfSome over IsNumber → IfSome from (IsSilence names)
          → change_in (over_words over ++ from_words names from) ≡ record { over = over; from = from }
      by_parts None None p q = refl
      by_parts None (Some s) p q = λ i. record { over = None; from = Some (silence_is s q i) }
      by_parts (Some first) None p q = λ i. record { over = Some (number_is first p i); from = None }
      by_parts (Some first) (Some s) p q = λ i. record { over = Some (number_is first p i); from = Some (silence_is s q i) }

  discard_are : (why : Discard) → Free IsEnd (discard_word why)
  discard_are discard.Identifier = free_above (codes "identifier") refl
  discard_are discard.Empty = free_above (codes "empty") refl
  discard_are discard.Toggle = free_above (codes "toggle") refl
  discard_are discard.Anonymous = free_above (codes "anonymous") refl
  discard_are discard.Short = free_above (codes "short") refl
  discard_are discard.Bare = free_above (codes "bare") refl

  abbrev discard_in : List ℕ → Discard
  discard_in word =
      if same word (codes "identifier") then discard.Identifier
      else if same word (codes "empty") then discard.Empty
      else if same word (codes "toggle") then discard.Toggle
      else if same word (codes "anonymous") then discard.Anonymous
      else if same word (codes "short") then discard.Short
      else discard.Bare

  discard_is : (why : Discard) → discard_in (discard_word why) ≡ why
  discard_is discard.Identifier = refl
  discard_is discard.Empty = refl
  discard_is discard.Toggle = refl
  discard_is discard.Anonymous = refl
  discard_is discard.Short = refl
  discard_is discard.Bare = refl

  pub reason_are : (reason : Reason) → IsReason names reason → AreWords (reason_words names reason)
  reason_are (Discarded why) h = (free_above (codes "discarded") refl, (discard_are why, tt))
  reason_are Own h = (free_above (codes "own") refl, tt)
  reason_are (Elsewhere node) h = (free_above (codes "elsewhere") refl, (decimal_word node h, tt))
  reason_are Unsubscribed h = (free_above (codes "unsubscribed") refl, tt)
  reason_are Unknown h = (free_above (codes "unknown") refl, tt)
  reason_are NoSession h = (free_above (codes "nosession") refl, tt)
  reason_are (Standby silence) h = (free_above (codes "standby") refl, silence_are silence h)
  reason_are (Copy line) h = (free_above (codes "copy") refl, (decimal_word line h, tt))
  reason_are (Begun change) h = (free_above (codes "begun") refl, change_are change h)
  reason_are (Delivered first change) h = (free_above (codes "delivered") refl, (decimal_word first h.0, change_are change h.1))
  reason_are (BadCrc first) h = (free_above (codes "badcrc") refl, (decimal_word first h, tt))
  reason_are (Taken first) h = (free_above (codes "taken") refl, (decimal_word first h, tt))
  reason_are StrayNone h = (free_above (codes "stray") refl, (free_above (codes "none") refl, tt))
  reason_are (StrayTid tid) h = (free_above (codes "stray") refl, (free_above (codes "tid") refl, (decimal_word tid h, tt)))
  reason_are (StrayToggle first) h = (free_above (codes "stray") refl, (free_above (codes "toggle") refl, (decimal_word first h, tt)))

  abbrev stray_in : List (List ℕ) → Reason
  stray_in words =
      if same (word_at words 0) (codes "none") then StrayNone
      else if same (word_at words 0) (codes "tid") then StrayTid (number_in (word_at words 1))
      else StrayToggle (number_in (word_at words 1))

  -- the reason that words tell: by its first word, and what stands behind it
  abbrev by_word : List ℕ → List (List ℕ) → Reason
  by_word word words =
      if same word (codes "discarded") then Discarded (discard_in (word_at words 0))
      else if same word (codes "own") then Own
      else if same word (codes "elsewhere") then Elsewhere (number_in (word_at words 0))
      else if same word (codes "unsubscribed") then Unsubscribed
      else if same word (codes "unknown") then Unknown
      else if same word (codes "nosession") then NoSession
      else if same word (codes "standby") then Standby (silence_in words)
      else if same word (codes "copy") then Copy (number_in (word_at words 0))
      else if same word (codes "begun") then Begun (change_in words)
      else if same word (codes "delivered") then Delivered (number_in (word_at words 0)) (change_in (behind_one words))
      else if same word (codes "badcrc") then BadCrc (number_in (word_at words 0))
      else if same word (codes "taken") then Taken (number_in (word_at words 0))
      else stray_in words

  abbrev pub reason_in : List (List ℕ) → Reason
  reason_in words = by_word (word_at words 0) (behind_one words)

  pub reason_is : (reason : Reason) → IsReason names reason → reason_in (reason_words names reason) ≡ reason
  reason_is (Discarded why) h = ap Discarded (discard_is why)
  reason_is Own h = refl
  reason_is (Elsewhere node) h = ap Elsewhere (number_is node h)
  reason_is Unsubscribed h = refl
  reason_is Unknown h = refl
  reason_is NoSession h = refl
  reason_is (Standby silence) h = ap Standby (silence_is silence h)
  reason_is (Copy line) h = ap Copy (number_is line h)
  reason_is (Begun change) h = ap Begun (change_is change h)
  reason_is (Delivered first change) h = λ i. Delivered (number_is first h.0 i) (change_is change h.1 i)
  reason_is (BadCrc first) h = ap BadCrc (number_is first h)
  reason_is (Taken first) h = ap Taken (number_is first h)
  reason_is StrayNone h = refl
  reason_is (StrayTid tid) h = ap StrayTid (number_is tid h)
  reason_is (StrayToggle first) h = ap StrayToggle (number_is first h)
