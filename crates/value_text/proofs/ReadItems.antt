-- The items of an array, as they are read one by one.
use Rattle.std.proofs.Common.{◌≡◌, ◌∙◌, ℕ, ◌+◌, ◌<◌, ◌≤◌, ◌==◌, ◌&&◌, not, pos, Bool, true, false, List, [], ◌∷◌, ◌++◌, length, drop, refl, sym, ap, subst, arith}
use Rattle.std.proofs.lemmas.List.{drop_at}
use Rattle.std.proofs.lemmas.Bool.{false≢true}
use Rattle.std.proofs.lemmas.Bool.Decides.{nat_tests}
use Rattle.dsdl_types.specs.Fits.{Fits, AllOf}
use Rattle.dsdl_types.specs.Schemas.{Sch}
use Rattle.dsdl_types.specs.Values.{Val, Vals, Empty, More, Num, count, join}
use Rattle.dsdl_types.specs.Views.{val, vals}
use Rattle.dsdl_types.specs.declared.value.Value.{Value}
use Rattle.dsdl_types.proofs.Views.{join_none, join_push}
use Rattle.value_text.specs.Ends.{Halts, has_end, stop, top}
use Rattle.value_text.specs.Loose.{Counts, HasItems, HasBytes, GivesValue, GivesItems, GivesBytes}
use Rattle.value_text.specs.Texts.{value_text, texts, in_a_row, byte_text, is_byte, are_bytes}
use Rattle.value_text.specs.Words.{following, separated, lead, hex_digits}
use Rattle.value_text.proofs.Numerals.{hex_digits_clear}
use Rattle.value_text.proofs.OneValue.{value_begins, ends_at, unwrap, none_left, no_more}
use Rattle.value_text.proofs.Rest.{rest_of, regroup}
use Rattle.value_text.proofs.Tokens.{Begins, behind, begins_append, no_halt}
use Rattle.value_text.proofs.ValueKinds.{both, byte_is}

count_join : (vs ws : Vals) → count (join vs ws) ≡ count vs + count ws
count_join Empty ws = omega arith
count_join (More v vs) ws = omega (arith, count_join vs ws)

all_join : (P : Val → Type 0) (vs ws : Vals) → AllOf P vs → AllOf P ws → AllOf P (join vs ws)
all_join P Empty ws f g = g
all_join P (More v vs) ws f g = (f.0, all_join P vs ws f.1 g)

bytes_join : (vs ws : Vals) → are_bytes vs ≡ true → are_bytes ws ≡ true → are_bytes (join vs ws) ≡ true
bytes_join Empty ws f g = g
bytes_join (More v vs) ws f g =
    let b = both (is_byte v) (are_bytes vs) f in
    ap (λ x. x && are_bytes (join vs ws)) b.0 ∙ bytes_join vs ws b.1 g

-- one more value
pushed : (values : List Value) (v : Value) → vals (values ++ v ∷ []) ≡ join (vals values) (More (val v) Empty)
pushed values v = sym (join_none (vals (values ++ v ∷ []))) ∙ join_push values v Empty

pub count_pushed : (values : List Value) (v : Value) (i : ℕ) → count (vals values) ≡ i → count (vals (values ++ v ∷ [])) ≡ i + 1
count_pushed values v i h = ap count (pushed values v) ∙ count_join (vals values) (More (val v) Empty) ∙ ap (λ n. n + 1) h

pub all_pushed : (P : Val → Type 0) (values : List Value) (v : Value) → AllOf P (vals values) → P (val v) → AllOf P (vals (values ++ v ∷ []))
all_pushed P values v f g = subst (AllOf P) (sym (pushed values v)) (all_join P (vals values) (More (val v) Empty) f (g, tt))

pub bytes_pushed : (values : List Value) (v : Value) → are_bytes (vals values) ≡ true → is_byte (val v) ≡ true → are_bytes (vals (values ++ v ∷ [])) ≡ true
bytes_pushed values v f g = ap are_bytes (pushed values v) ∙ bytes_join (vals values) (More (val v) Empty) f (ap (λ x. x && true) g)

-- ---- how many

still_one : (exact : Bool) (n i : ℕ) (vs us : Vals) → i < n → count vs ≡ i → Counts exact n (count (join vs us)) → (exact ≡ true) → us ≡ Empty → ⊥
still_one true n i vs us h m k e z =
    let c = count_join vs us in
    let d : count us ≡ 0 = ap count z in
    omega (arith, h, m, k, c, d)
still_one false n i vs us h m k e z = false≢true e

counts_most : (exact : Bool) (n k : ℕ) → Counts exact n k → k ≤ n
counts_most true n k h = omega (arith, h)
counts_most false n k h = h

counts_all : (exact : Bool) (n k : ℕ) → k ≡ n → Counts exact n k
counts_all true n k h = h
counts_all false n k h = omega (arith, h)

none_after : (exact : Bool) (n i : ℕ) (vs us : Vals) → n ≤ i → count vs ≡ i → Counts exact n (count (join vs us)) → us ≡ Empty
none_after exact n i vs Empty h m k = refl
none_after exact n i vs (More u us) h m k =
    let c = count_join vs (More u us) in
    let l = counts_most exact n (count (join vs (More u us))) k in
    absurd (omega (arith, h, m, c, l))

any_number : (exact : Bool) (b : Bool) → not exact && b ≡ true → (exact ≡ false) × (b ≡ true)
any_number true b h = absurd (false≢true h)
any_number false b h = (refl, h)

not_over : (exact b : Bool) → not exact && b ≡ false → b ≡ true → exact ≡ true
not_over true b h e = refl
not_over false b h e = absurd (false≢true (sym h ∙ e))

loose_count : (exact : Bool) (n k : ℕ) → exact ≡ false → k ≤ n → Counts exact n k
loose_count true n k e h = absurd (false≢true (sym e))
loose_count false n k e h = h

top_is : (l : List ℕ) → top l == 93 ≡ true → l ≡ 93 ∷ behind l
top_is [] h = absurd (false≢true h)
top_is (c ∷ l) h = let e : c ≡ 93 = grind (arith, nat_tests, h) in ap (λ x. x ∷ l) e

-- ---- items

-- the items that are left, with a comma and a space in front of the first where it isn't the first of all
abbrev pub ItemsLeft : Sch → Bool → ℕ → Vals → Bool → List ℕ → List ℕ → Type 0
ItemsLeft s exact n vs first before now =
    (ws : Vals) → HasItems s exact n ws → (rest : List ℕ) → before ≡ separated (texts (λ x. value_text s x) ws) ++ 93 ∷ rest →
    (us : Vals) × (ws ≡ join vs us) × AllOf (λ x. Fits s x) us × (now ≡ rest_of first (texts (λ x. value_text s x) us) ++ 93 ∷ rest)

later : (i : ℕ) → i + 1 == 0 ≡ false
later i = grind (arith, nat_tests)

item_next : (s : Sch) (exact : Bool) (n i : ℕ) (values : List Value) (v : Value) (ws : Vals) (now then after rest : List ℕ) → i < n → count (vals values) ≡ i → not exact && (top now == 93) ≡ false →
    then ≡ drop (length (lead (i == 0))) now → GivesValue s then after (val v) → Counts exact n (count ws) →
    (us : Vals) → ws ≡ join (vals values) us → AllOf (λ x. Fits s x) us → now ≡ rest_of (i == 0) (texts (λ x. value_text s x) us) ++ 93 ∷ rest →
    (us : Vals) × (ws ≡ join (vals (values ++ v ∷ [])) us) × AllOf (λ x. Fits s x) us × (after ≡ rest_of (i + 1 == 0) (texts (λ x. value_text s x) us) ++ 93 ∷ rest)
item_next s exact n i values v ws now then after rest h m over skipped gives k Empty j a e =
    let t : top now == 93 ≡ true = ap (λ l. top l == 93) (e ∙ none_left (i == 0) 93 rest) in
    absurd (still_one exact n i (vals values) Empty h m (subst (λ x. Counts exact n (count x)) j k) (not_over exact (top now == 93) over t) refl)
item_next s exact n i values v ws now then after rest h m over skipped gives k (More u us) j a e =
    let tail = following (texts (λ x. value_text s x) us) ++ 93 ∷ rest in
    let w = e ∙ unwrap (i == 0) (value_text s u) (texts (λ x. value_text s x) us) (93 ∷ rest) in
    let at : then ≡ value_text s u ++ tail = skipped ∙ ap (λ l. drop (length (lead (i == 0))) l) w ∙ drop_at (lead (i == 0)) (value_text s u ++ tail) (length (lead (i == 0))) refl in
    let r = gives.1 u a.0 tail (ends_at 93 (texts (λ x. value_text s x) us) rest refl) at in (
      us,
      j ∙ ap (λ x. join (vals values) (More x us)) (sym r.0) ∙ sym (join_push values v us),
      a.1,
      r.1 ∙ ap (λ b. rest_of b (texts (λ x. value_text s x) us) ++ 93 ∷ rest) (sym (later i)),
    )

pub items_next : (s : Sch) (exact : Bool) (n i : ℕ) (values : List Value) (v : Value) (before now then after : List ℕ) → i < n → count (vals values) ≡ i → not exact && (top now == 93) ≡ false →
    then ≡ drop (length (lead (i == 0))) now → GivesValue s then after (val v) → ItemsLeft s exact n (vals values) (i == 0) before now → ItemsLeft s exact n (vals (values ++ v ∷ [])) (i + 1 == 0) before after
items_next s exact n i values v before now then after h m over skipped gives left ws f rest e =
    let l = left ws f rest e in
    item_next s exact n i values v ws now then after rest h m over skipped gives f.0 l.0 l.1 l.2 l.3

no_item : (s : Sch) (b : Bool) (us : Vals) (now rest : List ℕ) → top now == 93 ≡ true → AllOf (λ x. Fits s x) us → now ≡ rest_of b (texts (λ x. value_text s x) us) ++ 93 ∷ rest → us ≡ Empty
no_item s b Empty now rest h a e = refl
no_item s b (More u us) now rest h a e =
    absurd (no_more b 93 (value_text s u) (behind now) (following (texts (λ x. value_text s x) us) ++ 93 ∷ rest) refl (λ z. omega (arith, z)) (value_begins s u a.0)
    (sym (unwrap b (value_text s u) (texts (λ x. value_text s x) us) (93 ∷ rest)) ∙ sym e ∙ top_is now h))

items_end : (s : Sch) (b : Bool) (vs ws us : Vals) (now rest : List ℕ) → us ≡ Empty → ws ≡ join vs us → now ≡ rest_of b (texts (λ x. value_text s x) us) ++ 93 ∷ rest → (vs ≡ ws) × (now ≡ 93 ∷ rest)
items_end s b vs ws us now rest z j e =
    (sym (join_none vs) ∙ ap (λ x. join vs x) (sym z) ∙ sym j, e ∙ ap (λ x. rest_of b (texts (λ y. value_text s y) x) ++ 93 ∷ rest) z ∙ none_left b 93 rest)

-- no item is left where the closing bracket stands
pub items_over : (s : Sch) (exact : Bool) (n i : ℕ) (vs : Vals) (before now : List ℕ) → i < n → count vs ≡ i → AllOf (λ x. Fits s x) vs → not exact && (top now == 93) ≡ true →
    ItemsLeft s exact n vs (i == 0) before now → GivesItems s exact n before now vs
items_over s exact n i vs before now h m all over left =
    let o = any_number exact (top now == 93) over in (
      (loose_count exact n (count vs) o.0 (omega (arith, h, m)), all),
      λ ws f rest e. let l = left ws f rest e in items_end s (i == 0) vs ws l.0 now rest (no_item s (i == 0) l.0 now rest o.1 l.2 l.3) l.1 l.3,
    )

-- nor behind the last
pub items_all : (s : Sch) (exact : Bool) (n i : ℕ) (vs : Vals) (before now : List ℕ) → n ≤ i → i ≤ n → count vs ≡ i → AllOf (λ x. Fits s x) vs →
    ItemsLeft s exact n vs (i == 0) before now → GivesItems s exact n before now vs
items_all s exact n i vs before now h most m all left = (
  (counts_all exact n (count vs) (omega (arith, h, most, m)), all),
  λ ws f rest e.
      let l = left ws f rest e in
      items_end s (i == 0) vs ws l.0 now rest (none_after exact n i vs l.0 h m (subst (λ x. Counts exact n (count x)) l.1 f.0)) l.1 l.3,
)

-- ---- bytes

-- the bytes that are left
abbrev pub BytesLeft : Bool → ℕ → Vals → List ℕ → List ℕ → Type 0
BytesLeft exact n vs before now =
    (ws : Vals) → HasBytes exact n ws → (rest : List ℕ) → Halts stop rest → before ≡ in_a_row byte_text ws ++ rest →
    (us : Vals) × (ws ≡ join vs us) × (are_bytes us ≡ true) × (now ≡ in_a_row byte_text us ++ rest)

-- two hex digits are read as the number that they write
abbrev pub ReadsTwo : List ℕ → List ℕ → Val → Type 0
ReadsTwo now after v = (n : ℕ) (rest : List ℕ) → n < 256 → now ≡ hex_digits 2 n ++ rest → (v ≡ Num (pos n)) × (after ≡ rest)

halts_end : (l : List ℕ) → Halts stop l → has_end l ≡ true
halts_end [] h = refl
halts_end (c ∷ l) h = h

end_halts : (l : List ℕ) → has_end l ≡ true → Halts stop l
end_halts [] h = tt
end_halts (c ∷ l) h = h

byte_next : (exact : Bool) (n i : ℕ) (values : List Value) (v : Value) (ws : Vals) (now after rest : List ℕ) → i < n → count (vals values) ≡ i → not exact && has_end now ≡ false →
    ReadsTwo now after (val v) → Counts exact n (count ws) → Halts stop rest →
    (us : Vals) → ws ≡ join (vals values) us → are_bytes us ≡ true → now ≡ in_a_row byte_text us ++ rest →
    (us : Vals) × (ws ≡ join (vals (values ++ v ∷ [])) us) × (are_bytes us ≡ true) × (after ≡ in_a_row byte_text us ++ rest)
byte_next exact n i values v ws now after rest h m over reads k halts Empty j a e =
    let t : has_end now ≡ true = ap has_end e ∙ halts_end rest halts in
    absurd (still_one exact n i (vals values) Empty h m (subst (λ x. Counts exact n (count x)) j k) (not_over exact (has_end now) over t) refl)
byte_next exact n i values v ws now after rest h m over reads k halts (More u us) j a e =
    let b = both (is_byte u) (are_bytes us) a in
    let x = byte_is u b.0 in
    let tail = in_a_row byte_text us ++ rest in
    let at : now ≡ hex_digits 2 x.0 ++ tail = e ∙ regroup (byte_text u) (in_a_row byte_text us) rest ∙ ap (λ y. byte_text y ++ tail) x.2 in
    let r = reads x.0 tail x.1 at in
    let same : u ≡ val v = x.2 ∙ sym r.0 in
    (us, j ∙ ap (λ y. join (vals values) (More y us)) same ∙ sym (join_push values v us), b.1, r.1)

pub bytes_next : (exact : Bool) (n i : ℕ) (values : List Value) (v : Value) (before now after : List ℕ) → i < n → count (vals values) ≡ i → not exact && has_end now ≡ false →
    ReadsTwo now after (val v) → BytesLeft exact n (vals values) before now → BytesLeft exact n (vals (values ++ v ∷ [])) before after
bytes_next exact n i values v before now after h m over reads left ws f rest halts e =
    let l = left ws f rest halts e in
    byte_next exact n i values v ws now after rest h m over reads f.0 halts l.0 l.1 l.2 l.3

two_begin : (n : ℕ) → Begins stop (hex_digits 2 n)
unfolding hex_digits
two_begin n = (hex_digits_clear 2 n).0

no_byte_left : (us : Vals) (now rest : List ℕ) → has_end now ≡ true → are_bytes us ≡ true → now ≡ in_a_row byte_text us ++ rest → us ≡ Empty
no_byte_left Empty now rest h a e = refl
no_byte_left (More u us) now rest h a e =
    let b = both (is_byte u) (are_bytes us) a in
    let x = byte_is u b.0 in
    let tail = in_a_row byte_text us ++ rest in
    let at : now ≡ hex_digits 2 x.0 ++ tail = e ∙ regroup (byte_text u) (in_a_row byte_text us) rest ∙ ap (λ y. byte_text y ++ tail) x.2 in
    absurd (no_halt stop (hex_digits 2 x.0 ++ tail) now (begins_append stop (hex_digits 2 x.0) tail (two_begin x.0)) (end_halts now h) (sym at))

bytes_end : (vs ws us : Vals) (now rest : List ℕ) → us ≡ Empty → ws ≡ join vs us → now ≡ in_a_row byte_text us ++ rest → (vs ≡ ws) × (now ≡ rest)
bytes_end vs ws us now rest z j e =
    (sym (join_none vs) ∙ ap (λ x. join vs x) (sym z) ∙ sym j, e ∙ ap (λ x. in_a_row byte_text x ++ rest) z)

pub bytes_over : (exact : Bool) (n i : ℕ) (vs : Vals) (before now : List ℕ) → i < n → count vs ≡ i → are_bytes vs ≡ true → not exact && has_end now ≡ true →
    BytesLeft exact n vs before now → GivesBytes exact n before now vs
bytes_over exact n i vs before now h m all over left =
    let o = any_number exact (has_end now) over in (
      (loose_count exact n (count vs) o.0 (omega (arith, h, m)), all),
      λ ws f rest halts e. let l = left ws f rest halts e in bytes_end vs ws l.0 now rest (no_byte_left l.0 now rest o.1 l.2 l.3) l.1 l.3,
    )

pub bytes_all : (exact : Bool) (n i : ℕ) (vs : Vals) (before now : List ℕ) → n ≤ i → i ≤ n → count vs ≡ i → are_bytes vs ≡ true →
    BytesLeft exact n vs before now → GivesBytes exact n before now vs
bytes_all exact n i vs before now h most m all left = (
  (counts_all exact n (count vs) (omega (arith, h, most, m)), all),
  λ ws f rest halts e.
      let l = left ws f rest halts e in
      bytes_end vs ws l.0 now rest (none_after exact n i vs l.0 h m (subst (λ x. Counts exact n (count x)) l.1 f.0)) l.1 l.3,
)
