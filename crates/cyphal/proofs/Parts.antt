-- Parts of a line that are written one behind another.
use Rattle.std.proofs.Common.{◌≡◌, ◌∙◌, ℕ, ◌<◌, List, [], ◌++◌, Option, Some, None, Result, Ok, Err, OnOk, OnErr, Bor, refl, sym, ap, append_assoc, append-nil, take, drop, length, get_or, suc, ap₂}
use Rattle.std.proofs.Math.Seq.{drop-cons}
use Rattle.std.proofs.lemmas.List.{take-append-drop}
use Rattle.std.proofs.lemmas.Grind.{flat_map-append}
use Rattle.std.specs.List.{flat_map}
use Rattle.cy_outside.specs.Written.{behind, Begins}

behind_more : (before : Option (List ℕ)) (x y : List ℕ) → behind (behind before x) y ≡ behind before (x ++ y)
behind_more None x y = refl
behind_more (Some w) x y = ap Some (append_assoc w x y)

abbrev bytes_of : List (Bor (List ℕ)) → List ℕ
bytes_of = flat_map (λ (part : Bor (List ℕ)). part.now)

-- a part of the next one came
pub begins_part : (parts : List (Bor (List ℕ))) (i : ℕ) (d : Bor (List ℕ)) (before mid after : Option (List ℕ)) → i < length parts → mid ≡ behind before (bytes_of (take i parts)) → Begins (get_or parts i d).now mid after
    → Begins (bytes_of parts) before after
begins_part parts i d before mid after h e b =
    let done = bytes_of (take i parts) in
    let part = get_or parts i d in
    let rest = bytes_of (drop (suc i) parts) in
    let split : bytes_of (take i parts ++ drop i parts) ≡ done ++ bytes_of (drop i parts) = flat_map-append _ (take i parts) (drop i parts) in
    let next : bytes_of (drop i parts) ≡ part.now ++ rest = ap bytes_of (drop-cons parts i d h) in
    let whole : bytes_of parts ≡ done ++ (part.now ++ rest) = ap bytes_of (sym (take-append-drop i parts)) ∙ (split ∙ ap (λ t. done ++ t) next) in record {
      front = done ++ b.front;
      rest = b.rest ++ rest;
      whole = whole ∙ (ap (λ t. done ++ (t ++ rest)) b.whole ∙ (ap (λ t. done ++ t) (append_assoc b.front b.rest rest) ∙ sym (append_assoc done b.front (b.rest ++ rest))));
      written = b.written ∙ (ap (λ o. behind o b.front) e ∙ behind_more before done b.front);
    }

pub three : (a b c x y z : List ℕ) → a ≡ x → b ≡ y → c ≡ z → a ++ (b ++ (c ++ [])) ≡ x ++ (y ++ z)
three a b c x y z e f g = ap₂ (λ s t. s ++ t) e (ap₂ (λ s t. s ++ t) f (append-nil c ∙ g))

pub five : (a b c d e x y z u v : List ℕ) → a ≡ x → b ≡ y → c ≡ z → d ≡ u → e ≡ v → a ++ (b ++ (c ++ (d ++ (e ++ [])))) ≡ x ++ (y ++ (z ++ (u ++ v)))
five a b c d e x y z u v f g h k l = ap₂ (λ s t. s ++ t) f (ap₂ (λ s t. s ++ t) g (three c d e z u v h k l))

pub eight : (a b c d e f g h p q r s t u v w : List ℕ) → a ≡ p → b ≡ q → c ≡ r → d ≡ s → e ≡ t → f ≡ u → g ≡ v → h ≡ w
    → a ++ (b ++ (c ++ (d ++ (e ++ (f ++ (g ++ (h ++ []))))))) ≡ p ++ (q ++ (r ++ (s ++ (t ++ (u ++ (v ++ w))))))
eight a b c d e f g h p q r s t u v w i j k l m n o z =
    ap₂ (λ x y. x ++ y) i (ap₂ (λ x y. x ++ y) j (ap₂ (λ x y. x ++ y) k (five d e f g h s t u v w l m n o z)))

-- all of a line came, or its beginning
pub begins_either : {T E : Type 0} (r : Result T E) (line : List ℕ) (before after : Option (List ℕ)) → OnOk r (after ≡ behind before line) → OnErr r (Begins line before after) → Begins line before after
begins_either (Ok x) line before after w b = record { front = line; rest = []; whole = sym (append-nil line); written = w }
begins_either (Err x) line before after w b = b

-- all of a line came, where nothing failed
pub whole_either : {T E : Type 0} (r : Result T E) (Whole Fault : Type 0) → OnOk r Whole → OnErr r Fault → ¬ Fault → Whole
whole_either (Ok x) Whole Fault w f none = w
whole_either (Err x) Whole Fault w f none = absurd (none f)
