-- The lines of transfers.
use Rattle.std.proofs.Common.{◌≡◌, ◌∙◌, ℕ, List, [], ◌∷◌, ◌++◌, Option, Some, None, Result, OnOk, refl, sym, ap, subst, append_assoc}
use Rattle.std.specs.Prelude.{codes, option_map}
use Rattle.dsdl_types.specs.Schemas.{Sch}
use Rattle.dsdl_types.specs.Values.{Val}
use Rattle.dsdl_types.specs.Views.{sch, val}
use Rattle.dsdl_types.specs.declared.read_why.ReadWhy.{ReadWhy}
use Rattle.dsdl_types.specs.declared.value.Value.{Value}
use Rattle.node_plan.specs.declared.plan.BusPlan.{BusPlan}
use Rattle.value_json.specs.Json.{json_of}
use Rattle.value_json.specs.Pieces.{Adds, Exact, exact}
use Rattle.value_json.specs.Words.{name_text, quoted}
use Rattle.value_json.proofs.Adding.{adds_exact, adds_then, on_ok}
use Rattle.report_lines.specs.Readings.{reading_of}
use Rattle.report_lines.specs.Lent.{owned, reading_in}
use Rattle.report_lines.specs.declared.line.Reading.{Reading}
use Rattle.report_lines.specs.declared.line.Reading.TheVariants as R
use Rattle.report_lines.specs.declared.line_ref.LineRef.TheVariants as lent
use Rattle.report_lines.specs.declared.line_ref.RxRef.{RxRef}
use Rattle.json_lines.specs.Text.{error_text, line_end, line_json, more, reading_json}
use Rattle.json_lines.specs.Writer.{front_of, port_type, refused_text, type_in, valued_json}

-- what the line of a transfer is, by the type of its port and by what its payload says
rx_line : (buses : List BusPlan) (rx : RxRef) (type : Option Sch) (reading : Reading) → port_type rx ≡ type → reading_of type rx.payload.now ≡ reading →
    line_json (type_in (lent.Rx rx)) buses (owned (lent.Rx rx)) ≡ Exact (front_of buses rx) ∷ (reading_json type reading ++ exact line_end)
rx_line buses rx type reading e f =
    let g : reading_in rx ≡ reading = ap (λ t. reading_of t rx.payload.now) e ∙ f in
    λ i. Exact (front_of buses rx) ∷ (reading_json (e i) (g i) ++ exact line_end)

-- of a port without a type
pub raw_put : (buses : List BusPlan) (rx : RxRef) (old now front new : List ℕ) → rx.port_type ≡ None → now ≡ old → front ≡ now ++ front_of buses rx → new ≡ front ++ line_end →
    Adds (line_json (type_in (lent.Rx rx)) buses (owned (lent.Rx rx))) old new
raw_put buses rx old now front new e same f g =
    let n : port_type rx ≡ None = ap (λ t. option_map (λ shape. sch shape.now.schema) t) e in
    subst (λ ps. Adds ps old new) (sym (rx_line buses rx None R.Raw n refl))
    (adds_then (exact (front_of buses rx)) (exact line_end) old front new (adds_exact old front (front_of buses rx) (f ∙ ap (λ t. t ++ front_of buses rx) same)) (adds_exact front new line_end g))

-- whose payload is read as a value
pub good_put : {T E : Type 0} (r : Result T E) (buses : List BusPlan) (rx : RxRef) (s : Sch) (value : Value) (text : List ℕ) (old new : List ℕ) → port_type rx ≡ Some s →
    reading_of (Some s) rx.payload.now ≡ R.Good value text → OnOk r (Adds (valued_json buses rx s (val value)) old new) →
    OnOk r (Adds (line_json (type_in (lent.Rx rx)) buses (owned (lent.Rx rx))) old new)
good_put r buses rx s value text old new e f h = on_ok r (λ a. subst (λ ps. Adds ps old new) (sym (rx_line buses rx (Some s) (R.Good value text) e f)) a) h

-- whose payload can't be read
pub bad_put : {T E : Type 0} (r : Result T E) (buses : List BusPlan) (rx : RxRef) (s : Sch) (path : List ℕ) (why : ReadWhy) (old new : List ℕ) → port_type rx ≡ Some s →
    reading_of (Some s) rx.payload.now ≡ R.Bad path why → OnOk r (new ≡ old ++ refused_text buses rx path why) →
    OnOk r (Adds (line_json (type_in (lent.Rx rx)) buses (owned (lent.Rx rx))) old new)
bad_put r buses rx s path why old new e f h =
    on_ok r (λ a. subst (λ ps. Adds ps old new) (sym (rx_line buses rx (Some s) (R.Bad path why) e f))
    (let front = front_of buses rx in
    let error = more (codes "error") (error_text path why) in
    adds_then (exact front) (exact error ++ exact line_end) old (old ++ front) new (adds_exact old (old ++ front) front refl)
    (adds_then (exact error) (exact line_end) (old ++ front) ((old ++ front) ++ error) new (adds_exact (old ++ front) ((old ++ front) ++ error) error refl)
    (adds_exact ((old ++ front) ++ error) new line_end (a ∙ simp append_assoc))))) h

-- whose payload is read as a type
pub typed_put : {T E : Type 0} (r : Result T E) (buses : List BusPlan) (rx : RxRef) (s : Sch) (old now front new : List ℕ) → port_type rx ≡ Some s → now ≡ old → front ≡ now ++ front_of buses rx →
    OnOk r (Adds (reading_json (Some s) (reading_of (Some s) rx.payload.now) ++ exact line_end) front new) → OnOk r (Adds (line_json (type_in (lent.Rx rx)) buses (owned (lent.Rx rx))) old new)
typed_put r buses rx s old now front new e same f h =
    let reading = reading_of (Some s) rx.payload.now in
    on_ok r (λ a. subst (λ ps. Adds ps old new) (sym (rx_line buses rx (Some s) reading e refl))
    (adds_then (exact (front_of buses rx)) (reading_json (Some s) reading ++ exact line_end) old front new (adds_exact old front (front_of buses rx) (f ∙ ap (λ t. t ++ front_of buses rx) same)) a)) h

-- the front, the member's name, and the rest
pub valued_put : {T E : Type 0} (r : Result T E) (buses : List BusPlan) (rx : RxRef) (s : Sch) (v : Val) (old now front named new : List ℕ) → now ≡ old → front ≡ now ++ front_of buses rx → named ≡ front ++ 44 ∷ name_text (codes "value") →
    OnOk r (Adds (json_of s v ++ exact line_end) named new) → OnOk r (Adds (valued_json buses rx s v) old new)
valued_put r buses rx s v old now front named new same f g h =
    on_ok r (λ a. adds_then (exact (front_of buses rx)) (Exact (44 ∷ name_text (codes "value")) ∷ (json_of s v ++ exact line_end)) old front new (adds_exact old front (front_of buses rx) (f ∙ ap (λ t. t ++ front_of buses rx) same))
    (adds_then (exact (44 ∷ name_text (codes "value"))) (json_of s v ++ exact line_end) front named new (adds_exact front named (44 ∷ name_text (codes "value")) g) a)) h

-- a name between quotes, and a colon
pub name_written : (comma name old a b new : List ℕ) → a ≡ old ++ (comma ++ codes "\"") → b ≡ a ++ name → new ≡ b ++ codes "\":" → new ≡ (old ++ comma) ++ name_text name
name_written comma name old a b new e f g = g ∙ ap (λ t. t ++ codes "\":") (f ∙ ap (λ t. t ++ name) e) ∙ simp append_assoc

-- four parts, one behind the other
pub four_written : (w x y z old now a b c new : List ℕ) → now ≡ old → a ≡ now ++ w → b ≡ a ++ x → c ≡ b ++ y → new ≡ c ++ z → new ≡ old ++ (w ++ (x ++ (y ++ z)))
four_written w x y z old now a b c new same e f g h =
    h ∙ ap (λ t. t ++ z) (g ∙ ap (λ t. t ++ y) (f ∙ ap (λ t. t ++ x) (e ∙ ap (λ t. t ++ w) same))) ∙ simp append_assoc

five_written : (a k b d c s old t u v w new : List ℕ) → t ≡ old ++ a → u ≡ t ++ k → v ≡ u ++ (b ++ d) → w ≡ v ++ c → new ≡ w ++ s → new ≡ old ++ (a ++ (k ++ (b ++ (d ++ (c ++ s)))))
five_written a k b d c s old t u v w new e f g h i =
    i ∙ ap (λ x. x ++ s) (h ∙ ap (λ x. x ++ c) (g ∙ ap (λ x. x ++ (b ++ d)) (f ∙ ap (λ x. x ++ k) e))) ∙ simp append_assoc

-- the members of a key
pub key_written : (kind k d s old t u new : List ℕ) → k ≡ kind → t ≡ old ++ (k ++ d) → u ≡ t ++ codes ",\"source\":" → new ≡ u ++ s →
    new ≡ old ++ (kind ++ (d ++ more (codes "source") s))
key_written kind k d s old t u new is e f g =
    g ∙ ap (λ x. x ++ s) (f ∙ ap (λ x. x ++ codes ",\"source\":") (e ∙ ap (λ x. old ++ (x ++ d)) is)) ∙ parts old kind d (codes ",\"source\":") s
  where
    parts : (o k d c s : List ℕ) → ((o ++ (k ++ d)) ++ c) ++ s ≡ o ++ (k ++ (d ++ (c ++ s)))
    parts o k d c s = simp append_assoc

-- why a payload can't be read
pub error_written : (name k number d path p old t u v w x new : List ℕ) → k ≡ name → d ≡ number → p ≡ path → t ≡ old ++ codes "{\"why\":\"" → u ≡ t ++ k → v ≡ u ++ (codes "\",\"number\":" ++ d) → w ≡ v ++ codes ",\"at\":\"" →
    x ≡ w ++ p → new ≡ x ++ codes "\"}" → new ≡ old ++ (codes "{\"why\":" ++ (quoted name ++ (more (codes "number") number ++ (more (codes "at") (quoted path) ++ codes "}"))))
error_written name k number d path p old t u v w x new is_name is_number is_path e f g h i j =
    let whole = five_written (codes "{\"why\":\"") k (codes "\",\"number\":") d (codes ",\"at\":\"") p old t u v w x e f g h i in
    let last = append_assoc path (34 ∷ []) (codes "}") in
    let rest = more (codes "number") number ++ (more (codes "at") (quoted path) ++ codes "}") in
    j ∙ ap (λ y. y ++ codes "\"}") whole
    ∙ ends old (codes "{\"why\":\"") k (codes "\",\"number\":") d (codes ",\"at\":\"") p (codes "\"}")
    ∙ (λ n. old ++ (codes "{\"why\":\"" ++ (is_name n ++ (codes "\",\"number\":" ++ (is_number n ++ (codes ",\"at\":\"" ++ (is_path n ++ codes "\"}")))))))
    ∙ sym (ap (λ y. old ++ (codes "{\"why\":\"" ++ y)) (append_assoc name (34 ∷ []) rest ∙ ap (λ y. name ++ (codes "\",\"number\":" ++ (number ++ (codes ",\"at\":\"" ++ y)))) last))
  where
    ends : (o a k b d c p z : List ℕ) → (o ++ (a ++ (k ++ (b ++ (d ++ (c ++ p)))))) ++ z ≡ o ++ (a ++ (k ++ (b ++ (d ++ (c ++ (p ++ z))))))
    ends o a k b d c p z = simp append_assoc
