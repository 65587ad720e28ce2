-- Members that were put, one after the other: of fields and of variants.
use Rattle.std.proofs.Common.{◌≡◌, ◌∙◌, ℕ, zero, suc, ◌+◌, ◌-◌, ◌<◌, ◌≤◌, Bool, true, false, List}
use Rattle.std.proofs.Common.{[], ◌∷◌, ◌++◌, length, drop, get_or, take, refl, sym, ap, subst}
use Rattle.std.proofs.Common.{arith}
use Rattle.std.proofs.lemmas.Bool.{false≢true}
use Rattle.std.specs.Prelude.{codes}
use Rattle.cy_bits.specs.Bits.{number, gap}
use Rattle.dsdl_types.specs.Reading.{Got, Name, and_then, under, fields, own, part, variant}
use Rattle.dsdl_types.specs.Schemas.{Prim, Flds, Outline, Simple, End, is_aligned, tag_bits}
use Rattle.dsdl_types.specs.Schemas.{variants}
use Rattle.dsdl_types.specs.Schemas as D
use Rattle.dsdl_types.specs.Values.{Val, Empty, More, Tagged}
use Rattle.dsdl_types.specs.Views.{Kind, Typed, Padding, is_padding, type_of, with_field, named}
use Rattle.dsdl_types.specs.Views.{flds, body_of}
use Rattle.dsdl_types.specs.declared.schema.Field.{Field as F}
use Rattle.dsdl_types.specs.declared.schema.Body.{Body, out-Body}
use Rattle.wire_values.specs.Reads.{behind, skipped}
use Rattle.wire_values.proofs.Readings.{field_read, own_tagged, padding_read, behind_more}
use Rattle.wire_values.proofs.Readings.{then_fields, variant_later, variant_skip}
use Rattle.wire_values.proofs.Schemata.{flds_next, flds_end, fields_are}
use Rattle.value_json.specs.Json.{field_members, json_of, variant_member}
use Rattle.value_json.specs.Pieces.{Adds, Piece, exact}
use Rattle.value_json.specs.Words.{following, lead, member, name_text, rest_of}
use Rattle.value_json.proofs.Adding.{adds_around, adds_exact, adds_none, adds_then}
use Rattle.json_lines.specs.Typed.{Leaves, Put, comma, members_of, variant_of}
use Rattle.json_lines.proofs.Types.{leaves_then}

-- a comma, or none
pub comma_put : (first : Bool) (old new : List ℕ) → new ≡ old ++ comma first → Adds
    (lead first) old new
comma_put true old new e = record { more = []; is = e; spelled = refl }
comma_put false old new e = adds_exact old new (codes ",") e

-- a member in front of others
member_first : (first : Bool) (name : List ℕ) (json : List Piece) (ms : List (List Piece)) →
    lead first ++ (exact (name_text name) ++ (json ++ following ms)) ≡ rest_of first
    (member name json ∷ ms)
member_first true name json ms = refl
member_first false name json ms = refl

member_put : (first : Bool) (name : List ℕ) (json : List Piece) (ms : List (List Piece))
    (old mid new end : List ℕ) → mid ≡ (old ++ comma first) ++ name_text name → Adds json mid new →
    Adds (following ms) new end →
    Adds (rest_of first (member name json ∷ ms)) old end
member_put first name json ms old mid new end e a b =
    subst (λ ps. Adds ps old end) (member_first first name json ms)
    (adds_then (lead first) (exact (name_text name) ++ (json ++ following ms)) old
    (old ++ comma first) end (comma_put first old (old ++ comma first) refl)
    (adds_then (exact (name_text name)) (json ++ following ms) (old ++ comma first) mid end
    (adds_exact (old ++ comma first) mid (name_text name) e)
    (adds_then json (following ms) mid new end a b)))

-- a field that isn't padding
pub field_put : (name : List ℕ) (k : Kind) (fs : Flds) (first : Bool) (b c d : List ℕ) (p q r : ℕ)
    (old mid new : List ℕ) → is_padding k ≡ false → c ≡ b →
    q ≡ p + skipped (is_aligned (type_of k)) p →
    mid ≡ (old ++ comma first) ++ name_text name → Put (λ v. json_of (type_of k) v)
    (part (type_of k) q (behind c q)) mid new r (behind d r) →
    Leaves (members_of first (with_field name k fs)) (fields (with_field name k fs) p (behind b p))
    old (members_of false fs) (fields fs r (behind d r)) new
field_put name (Padding n) fs first b c d p q r old mid new h e f g w = absurd (false≢true (sym h))
field_put name (Typed s) fs first b c d p q r old mid new h e f g w =
    λ end place rest more. record {
      value = More w.value more.value;
      got = field_read name (Typed s) fs b c p q h e f ∙ ap (λ u. and_then (under (Name name) u)
          (then_fields fs)) w.got ∙ ap (λ u. and_then u (λ vs. Got (More w.value vs))) more.got;
      adds = member_put first name (json_of s w.value) (field_members fs more.value) old mid new end g
          w.adds more.adds;
    }

-- a primitive field, which begins where the one before ends
pub simple_field_put : (name : List ℕ) (k : Kind) (fs : Flds) (first : Bool) (b d : List ℕ)
    (p r : ℕ) (old mid new : List ℕ) → is_padding k ≡ false → (t : Prim) × (type_of k ≡ Simple t) →
    mid ≡ (old ++ comma first) ++ name_text name → Put (λ v. json_of (type_of k) v)
    (own (type_of k) p (behind b p)) mid new r (behind d r) →
    Leaves (members_of first (with_field name k fs)) (fields (with_field name k fs) p (behind b p))
    old (members_of false fs) (fields fs r (behind d r)) new
simple_field_put name (Padding n) fs first b d p r old mid new h is g w = absurd
    (false≢true (sym h))
simple_field_put name (Typed s) fs first b d p r old mid new h is g w =
    let e = is.1 in
    let here : p ≡ p + 0 = omega arith in
    subst (λ u. Leaves (members_of first (with_field name (Typed u) fs))
    (fields (with_field name (Typed u) fs) p (behind b p)) old (members_of false fs)
    (fields fs r (behind d r)) new) (sym e)
    (field_put name (Typed (Simple is.0)) fs first b b d p p r old mid new refl refl here g
    (subst (λ u. Put (λ v. json_of u v) (own u p (behind b p)) mid new r (behind d r)) e w))

-- padding
pub padding_put : (name : List ℕ) (n : ℕ) (k : Kind) (fs : Flds) (first : Bool) (b c : List ℕ)
    (p q : ℕ) (old new : List ℕ) → k ≡ Padding n → c ≡ b → q ≡ p + n → new ≡ old →
    Leaves (members_of first (with_field name k fs)) (fields (with_field name k fs) p (behind b p))
    old (members_of first fs) (fields fs q (behind c q)) new
padding_put name n k fs first b c p q old new e f g same = λ end place rest more. record {
  value = more.value;
  got = padding_read name n k fs p q (behind b p) (behind c q) e g (behind_more b c p q n f g)
      ∙ more.got;
  adds = subst (λ z. Adds (members_of first (with_field name z fs) more.value) old end) (sym e)
      (subst (λ t. Adds (members_of first fs more.value) t end) same more.adds);
}

-- the loop over fields
pub fields_next : (items : List F) (i : ℕ) (x : F) (first next : Bool) (old now new : List ℕ)
    (m p q : ℕ) (z u y : List Bool) → i < length items → x ≡ get_or items i x →
    ((fs : Flds) → Leaves (members_of first (with_field (named x).0 (named x).1 fs))
    (fields (with_field (named x).0 (named x).1 fs) p u) now (members_of next fs)
    (fields fs q y) new) →
    Leaves (members_of true (flds items)) (fields (flds items) m z) old
    (members_of first (flds (drop i items))) (fields (flds (drop i items)) p u) now →
    Leaves (members_of true (flds items)) (fields (flds items) m z) old
    (members_of next (flds (drop (i + 1) items))) (fields (flds (drop (i + 1) items)) q y) new
fields_next items i x first next old now new m p q z u y h at goes inv =
    let fs = flds (drop (i + 1) items) in
    leaves_then (members_of true (flds items))
    (members_of first (with_field (named x).0 (named x).1 fs)) (members_of next fs)
    (fields (flds items) m z) (fields (with_field (named x).0 (named x).1 fs) p u)
    (fields fs q y) old now new
    (subst (λ gs. Leaves (members_of true (flds items)) (fields (flds items) m z) old
    (members_of first gs) (fields gs p u) now) (flds_next items i x h at) inv) (goes fs)

none_put : (first : Bool) (now : List ℕ) (p : ℕ) (u : List Bool) → Put (members_of first End)
    (fields End p u) now now p u
none_put true now p u = record { value = Empty; got = refl; adds = adds_none now now refl }
none_put false now p u = record { value = Empty; got = refl; adds = adds_none now now refl }

pub fields_end : (body : Body) (items : List F) (i : ℕ) (first : Bool) (old now : List ℕ) (m p : ℕ)
    (z u : List Bool) → items ≡ (out-Body body).fields → length items ≤ i →
    Leaves (members_of true (flds items)) (fields (flds items) m z) old
    (members_of first (flds (drop i items))) (fields (flds (drop i items)) p u) now →
    Put (members_of true (body_of body).0) (fields (body_of body).0 m z) old now p u
fields_end body items i first old now m p z u are h inv =
    subst (λ fs. Put (members_of true fs) (fields fs m z) old now p u) (fields_are body items are)
    (inv now p u (subst (λ fs. Put (members_of first fs) (fields fs p u) now now p u)
    (sym (flds_end items i h)) (none_put first now p u)))

-- ---- variants

-- a union
pub union_put : (fs : Flds) (o : Outline) (w n p k q j : ℕ) (x z y u : List Bool)
    (old front mid new : List ℕ) → w ≡ tag_bits (variants fs) → n ≡ number (take w x) → k ≡ p + w →
    z ≡ drop w x →
    front ≡ old ++ codes "{" → Put (variant_of fs n) (variant fs n n k z) front mid q y →
    j ≡ q + gap q → u ≡ drop (gap q) y → new ≡ mid ++ codes "}" → Put
    (λ v. json_of (D.Union fs o) v) (own (D.Union fs o) p x) old new j u
union_put fs o w n p k q j x z y u old front mid new is_w e f g in_front r is_j is_u end = record {
  value = Tagged n r.value;
  got = own_tagged fs o w n p k q j x z y u r.value is_w e f g r.got is_j is_u;
  adds = adds_around (codes "{") (codes "}") (variant_member fs n r.value) old front mid new
      in_front r.adds end;
}

-- the variant of a tag is found
here_put : (name : List ℕ) (k : Kind) (fs : Flds) (tag p : ℕ) (x : List Bool) (old mid new : List ℕ)
    (q : ℕ) (y : List Bool) → is_padding k ≡ false →
    mid ≡ (old ++ []) ++ name_text name → Put (λ v. json_of (type_of k) v) (part (type_of k) p x)
    mid new q y → Put (variant_of (with_field name k fs) 0)
    (variant (with_field name k fs) tag 0 p x) old new q y
here_put name (Padding n) fs tag p x old mid new q y h e r = absurd (false≢true (sym h))
here_put name (Typed s) fs tag p x old mid new q y h e r = record {
  value = r.value;
  got = ap (λ u. under (Name name) u) r.got;
  adds = adds_then (lead true) (exact (name_text name) ++ json_of s r.value) old (old ++ []) new
      (comma_put true old (old ++ []) refl)
      (adds_then (exact (name_text name)) (json_of s r.value) (old ++ []) mid new
      (adds_exact (old ++ []) mid (name_text name) e) r.adds);
}

pub variant_here : (body : Body) (items : List F) (i : ℕ) (f : F) (tag left m p : ℕ)
    (z x : List Bool) (old now mid new : List ℕ) (q : ℕ) (y : List Bool) → items ≡
    (out-Body body).fields → i < length items → f ≡ get_or items i f →
    is_padding (named f).1 ≡ false → left ≡ 0 → mid ≡ (now ++ []) ++ name_text (named f).0 → Put
    (λ v. json_of (type_of (named f).1) v) (part (type_of (named f).1) p x) mid new q y →
    Leaves (variant_of (flds items) tag) (variant (flds items) tag tag m z) old
    (variant_of (flds (drop i items)) left) (variant (flds (drop i items)) tag left p x) now →
    Put (variant_of (body_of body).0 tag) (variant (body_of body).0 tag tag m z) old new q y
variant_here body items i f tag left m p z x old now mid new q y are h at typed none e r inv =
    let fs = flds (drop (i + 1) items) in
    let found : Put (variant_of (with_field (named f).0 (named f).1 fs) left)
    (variant (with_field (named f).0 (named f).1 fs) tag left p x) now new q y =
    subst (λ n. Put (variant_of (with_field (named f).0 (named f).1 fs) n)
    (variant (with_field (named f).0 (named f).1 fs) tag n p x) now new q y) (sym none)
    (here_put (named f).0 (named f).1 fs tag p x now mid new q y typed e r) in
    subst (λ gs. Put (variant_of gs tag) (variant gs tag tag m z) old new q y)
    (fields_are body items are)
    (inv new q y (subst (λ gs. Put (variant_of gs left) (variant gs tag left p x) now new q y)
    (sym (flds_next items i f h at)) found))

later_member : (name : List ℕ) (k : Kind) (fs : Flds) (left : ℕ) (v : Val) → is_padding k ≡ false →
    1 ≤ left → variant_member (with_field name k fs) left v ≡ variant_member fs (left - 1) v
later_member name (Padding n) fs left v h one = absurd (false≢true (sym h))
later_member name (Typed s) fs zero v h one = absurd (omega arith)
later_member name (Typed s) fs (suc left) v h one = let e : left ≡ suc left - 1 = omega arith in ap
    (λ m. variant_member fs m v) e

skip_member : (name : List ℕ) (k : Kind) (fs : Flds) (left : ℕ) (v : Val) → is_padding k ≡ true →
    variant_member (with_field name k fs) left v ≡ variant_member fs left v
skip_member name (Padding n) fs left v h = refl
skip_member name (Typed s) fs left v h = absurd (false≢true h)

-- the loop over variants: one is passed, and padding is
passed : (items : List F) (i : ℕ) (f : F) (tag left next m p q : ℕ) (z x y : List Bool)
    (old now new : List ℕ) → i < length items → f ≡ get_or items i f → q ≡ p → y ≡ x → new ≡ now →
    variant (with_field (named f).0 (named f).1 (flds (drop (i + 1) items))) tag left p x ≡ variant
    (flds (drop (i + 1) items)) tag next p x →
    ((v : Val) → variant_member (with_field (named f).0 (named f).1 (flds (drop (i + 1) items)))
    left v ≡ variant_member (flds (drop (i + 1) items)) next v) →
    Leaves (variant_of (flds items) tag) (variant (flds items) tag tag m z) old
    (variant_of (flds (drop i items)) left) (variant (flds (drop i items)) tag left p x) now →
    Leaves (variant_of (flds items) tag) (variant (flds items) tag tag m z) old
    (variant_of (flds (drop (i + 1) items)) next)
    (variant (flds (drop (i + 1) items)) tag next q y) new
passed items i f tag left next m p q z x y old now new h at is_q is_y is_new reads says inv =
    λ end place rest put.
    inv end place rest (record {
      value = put.value;
      got = ap (λ fs. variant fs tag left p x) (flds_next items i f h at) ∙ reads ∙
          (λ k. variant (flds (drop (i + 1) items)) tag next (sym is_q k) (sym is_y k)) ∙ put.got;
      adds = subst (λ t. Adds (variant_member (flds (drop i items)) left put.value) t end) is_new
          (subst (λ ps. Adds ps new end)
          (sym (ap (λ fs. variant_member fs left put.value) (flds_next items i f h at)
          ∙ says put.value)) put.adds);
    })

pub variant_passed : (items : List F) (i : ℕ) (f : F) (tag left m p q : ℕ) (z x y : List Bool)
    (old now new : List ℕ) → i < length items → f ≡ get_or items i f → q ≡ p → y ≡ x → new ≡ now →
    is_padding (named f).1 ≡ false → 1 ≤ left →
    Leaves (variant_of (flds items) tag) (variant (flds items) tag tag m z) old
    (variant_of (flds (drop i items)) left) (variant (flds (drop i items)) tag left p x) now →
    Leaves (variant_of (flds items) tag) (variant (flds items) tag tag m z) old
    (variant_of (flds (drop (i + 1) items)) (left - 1)) (variant (flds (drop (i + 1) items)) tag
    (left - 1) q y) new
variant_passed items i f tag left m p q z x y old now new h at is_q is_y is_new typed one inv =
    let fs = flds (drop (i + 1) items) in
    passed items i f tag left (left - 1) m p q z x y old now new h at is_q is_y is_new
    (variant_later (named f).0 (named f).1 fs tag left p x typed one)
    (λ v. later_member (named f).0 (named f).1 fs left v typed one) inv

pub variant_skipped : (items : List F) (i : ℕ) (f : F) (tag left m p q : ℕ) (z x y : List Bool)
    (old now new : List ℕ) → i < length items → f ≡ get_or items i f → q ≡ p → y ≡ x → new ≡ now →
    is_padding (named f).1 ≡ true →
    Leaves (variant_of (flds items) tag) (variant (flds items) tag tag m z) old
    (variant_of (flds (drop i items)) left) (variant (flds (drop i items)) tag left p x) now →
    Leaves (variant_of (flds items) tag) (variant (flds items) tag tag m z) old
    (variant_of (flds (drop (i + 1) items)) left)
    (variant (flds (drop (i + 1) items)) tag left q y) new
variant_skipped items i f tag left m p q z x y old now new h at is_q is_y is_new padding inv =
    let fs = flds (drop (i + 1) items) in
    passed items i f tag left left m p q z x y old now new h at is_q is_y is_new
    (variant_skip (named f).0 (named f).1 fs tag left p x padding)
    (λ v. skip_member (named f).0 (named f).1 fs left v padding) inv
