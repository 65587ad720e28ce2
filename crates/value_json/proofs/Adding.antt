-- Pieces that are put behind a text.
use Rattle.std.proofs.Common.{◌≡◌, ◌∙◌, ℕ, ◌+◌, ◌==◌, Bool, true, false, arith, List, [], ◌∷◌, ◌++◌, append_assoc, refl, sym, ap, subst, Result, Ok, Err, OnOk}
use Rattle.std.proofs.lemmas.List.{append-nil}
use Rattle.std.specs.Prelude.{codes}
use Rattle.std.proofs.lemmas.Bool.{ne_eqb}
use Rattle.std.proofs.Math.Dec.{eqb}
use Rattle.std.specs.Float.{Float}
use Rattle.value_json.specs.Floats.{IsNumberOf}
use Rattle.value_json.specs.Pieces.{Adds, Begins, Exact, Number, Piece, Spells, exact}
use Rattle.value_json.specs.Words.{following, lead, rest_of}

pub on_ok : {T E : Type 0} (r : Result T E) {A B : Type 0} → (A → B) → OnOk r A → OnOk r B
on_ok (Ok x) f h = f h
on_ok (Err x) f h = tt

-- one spelling behind the other
pub spells_then : (a b : List Piece) (s t : List ℕ) → Spells a s → Spells b t → Spells (a ++ b) (s ++ t)
spells_then [] b s t h k = subst (λ x. Spells b (x ++ t)) (sym h) k
spells_then (Exact bytes ∷ a) b s t (rest, e, h) k =
    (rest ++ t, ap (λ x. x ++ t) e ∙ append_assoc bytes rest t, spells_then a b rest t h k)
spells_then (Number w x ∷ a) b s t (number, rest, n, e, h) k =
    (number, rest ++ t, n, ap (λ x. x ++ t) e ∙ append_assoc number rest t, spells_then a b rest t h k)

-- nothing, bytes as they are, and a number
pub adds_none : (old new : List ℕ) → new ≡ old → Adds [] old new
adds_none old new e = record { more = []; is = e ∙ sym (append-nil old); spelled = refl }

pub adds_exact : (old new bytes : List ℕ) → new ≡ old ++ bytes → Adds (exact bytes) old new
adds_exact old new bytes e = record { more = bytes; is = e; spelled = ([], sym (append-nil bytes), refl) }

pub adds_number : (w : ℕ) (x : Float) (old new number : List ℕ) → IsNumberOf w x number → new ≡ old ++ number → Adds (Number w x ∷ []) old new
adds_number w x old new number h e = record { more = number; is = e; spelled = (number, [], h, sym (append-nil number), refl) }

pub adds_then : (a b : List Piece) (x y z : List ℕ) → Adds a x y → Adds b y z → Adds (a ++ b) x z
adds_then a b x y z h k = record {
  more = h.more ++ k.more;
  is = k.is ∙ ap (λ t. t ++ k.more) h.is ∙ append_assoc x h.more k.more;
  spelled = spells_then a b h.more k.more h.spelled k.spelled;
}

pub adds_begins : (pieces : List Piece) (old new : List ℕ) → Adds pieces old new → Begins old new
adds_begins pieces old new h = record { more = h.more; is = h.is }

-- ---- of pieces that are put one after the other

-- A front of them was put, and these are left.
pub record Towards (whole rest : List Piece) (old now : List ℕ) : Type 0 where
  pub done : List Piece
  pub put : Adds done old now
  pub is : done ++ rest ≡ whole

pub towards_all : (whole : List Piece) (old now : List ℕ) → now ≡ old → Towards whole whole old now
towards_all whole old now e = record { done = []; put = adds_none old now e; is = refl }

pub towards_more : (whole a rest : List Piece) (old now new : List ℕ) → Towards whole (a ++ rest) old now → Adds a now new → Towards whole rest old new
towards_more whole a rest old now new t h = record {
  done = t.done ++ a;
  put = adds_then t.done a old now new t.put h;
  is = append_assoc t.done a rest ∙ t.is;
}

pub towards_end : (whole : List Piece) (old now : List ℕ) → Towards whole [] old now → Adds whole old now
towards_end whole old now t = subst (λ x. Adds x old now) (sym (append-nil t.done) ∙ t.is) t.put

-- ---- parts with a comma between each two

pub rest_next : (b : Bool) (t : List Piece) (ts : List (List Piece)) → rest_of b (t ∷ ts) ≡ lead b ++ (t ++ following ts)
rest_next true t ts = refl
rest_next false t ts = refl

pub rest_none : (b : Bool) → rest_of b [] ≡ []
rest_none true = refl
rest_none false = refl

-- one more part
pub parts_next : (whole t : List Piece) (ts : List (List Piece)) (n : ℕ) (old now led new : List ℕ) → Towards whole (rest_of (n == 0) (t ∷ ts)) old now →
    Adds (lead (n == 0)) now led → Adds t led new → Towards whole (rest_of (n + 1 == 0) ts) old new
parts_next whole t ts n old now led new h a b =
    let e : eqb (n + 1) 0 ≡ false = ne_eqb (n + 1) 0 (λ x. omega (arith, x)) in
    subst (λ c. Towards whole (rest_of c ts) old new) (sym e)
    (towards_more whole t (following ts) old led new
    (towards_more whole (lead (n == 0)) (t ++ following ts) old now led (subst (λ r. Towards whole r old now) (rest_next (n == 0) t ts) h) a) b)

-- all parts
pub parts_end : (whole : List Piece) (b : Bool) (old now : List ℕ) → Towards whole (rest_of b []) old now → Adds whole old now
parts_end whole b old now h = towards_end whole old now (subst (λ r. Towards whole r old now) (rest_none b) h)

-- ---- in braces, and in brackets

pub adds_around : (first last : List ℕ) (inner : List Piece) (a b c d : List ℕ) → b ≡ a ++ first → Adds inner b c → d ≡ c ++ last →
    Adds (Exact first ∷ (inner ++ exact last)) a d
adds_around first last inner a b c d e h f =
    adds_then (exact first) (inner ++ exact last) a b d (adds_exact a b first e) (adds_then inner (exact last) b c d h (adds_exact c d last f))

-- ---- a comma

pub adds_no_lead : (b : Bool) (old new : List ℕ) → b ≡ true → new ≡ old → Adds (lead b) old new
adds_no_lead b old new h e = subst (λ x. Adds (lead x) old new) (sym h) (adds_none old new e)

pub adds_lead : (b : Bool) (old new : List ℕ) → b ≡ false → new ≡ old ++ codes "," → Adds (lead b) old new
adds_lead b old new h e = subst (λ x. Adds (lead x) old new) (sym h) (adds_exact old new (codes ",") e)
