-- The way past fields of one length each
use Rattle.std.proofs.Common.{◌≡◌, ℕ, ◌+◌, ◌^◌, ◌<◌, ◌≤◌, List, length, map, get_or, refl, sym, ap, ◌∙◌, subst, arith}
use Rattle.std.proofs.lemmas.List.{get_or-map, get_or_default, length-map}
use Rattle.bit_length.specs.Lengths.{Numbers, Has, Same, Only, Sums}
use Rattle.dsdl_types.specs.Schemas.{Flds}
use Rattle.dsdl_types.specs.Views.{Kind, with_field}
use Rattle.layout.specs.Ends.{IsBits}
use Rattle.layout.specs.Sets.{IsShort}
use Rattle.layout.proofs.Walks.{Passes, PassesBehind}
use Rattle.layout.proofs.Passing.{fields_from, passes_field}

-- numbers to each of which another is added
has_more : (ns : List ℕ) (k : ℕ) → Same (Has (map (λ n. n + k) ns)) (Sums (Has ns) (Only k))
has_more ns k n = (
  λ (i, lt, e).
      let within : i < length ns = omega (arith, length-map ns (λ (m : ℕ). m + k)) in
      let at = get_or-map (λ m. m + k) ns i n n within in
      (get_or ns i n, k, (i, within, get_or_default ns i (get_or ns i n) n within), refl, sym e ∙ at),
  λ (a, b, (i, lt, e), f, g).
      let within : i < length (map (λ (m : ℕ). m + k) ns) = omega (arith, length-map ns (λ (m : ℕ). m + k)) in
      let sum : a + k ≡ n = omega (arith, f, g) in
      (i, within, get_or-map (λ m. m + k) ns i a n lt ∙ ap (λ m. m + k) e ∙ sum),
)

-- a set that has the same members as one number
pub sums_along : (S T U : Numbers) → Same T U → Same (Sums S T) (Sums S U)
sums_along S T U h n = (λ (a, b, x, y, e). (a, b, x, (h b).0 y, e), λ (a, b, x, y, e). (a, b, x, (h b).1 y, e))

passes_same : (fs rest : Flds) (ends others : List ℕ) → Same (Has others) (Has ends) → Passes fs rest ends → Passes fs rest others
passes_same fs rest ends others same w = record {
  arrives = λ n. (
    λ h. let (p, x, y) = (w.arrives n).0 h in (p, (same p).1 x, y),
    λ (p, x, y). (w.arrives n).1 (p, (same p).0 x, y),
  );
  farthest = w.farthest;
  within = λ p x. w.within p ((same p).0 x);
  short = w.short;
  formed = w.formed;
}

pub behind_start : (fs rest : Flds) (places : List ℕ) → Passes fs rest places → PassesBehind fs rest places 0
behind_start fs rest places w = record {
  ends = places;
  are = λ n. (
    λ x. (n, 0, x, refl, omega arith),
    λ (a, b, x, e, f). let same : a ≡ n = omega (arith, e, f) in subst (Has places) same x,
  );
  passes = w;
  small = omega arith;
}

module _ (fs rest : Flds) (places : List ℕ) (behind : ℕ) (w : PassesBehind fs rest places behind) where
  -- none of these places is above 2^32
  pub behind_short : IsShort (Sums (Has places) (Only behind))
  behind_short n x =
      let le : n ≤ w.passes.farthest = w.passes.within n ((w.are n).1 x) in
      omega (arith, le, fields_from rest w.passes.farthest, w.passes.short)

  pub behind_passes : (s : List ℕ) → Same (Has s) (Sums (Has places) (Only behind)) → Passes fs rest s
  behind_passes s h = passes_same fs rest w.ends s (λ n. (λ x. (w.are n).1 ((h n).0 x), λ x. (h n).1 ((w.are n).0 x))) w.passes

-- one field of one length more
pub behind_more : (fs : Flds) (name : List ℕ) (kind : Kind) (rest : Flds) (places : List ℕ) (behind k bits : ℕ) → PassesBehind fs (with_field name kind rest) places behind → IsBits kind k → bits ≡ behind + k → bits ≤ 2 ^ 32 →
    PassesBehind fs rest places bits
behind_more fs name kind rest places behind k bits w is e le = record {
  ends = map (λ n. n + k) w.ends;
  are = λ n. (
    λ x.
        let (a, b, y, f, g) = (has_more w.ends k n).0 x in
        let (p, q, z, i, j) = (w.are a).0 y in
        (p, bits, z, refl, omega (arith, e, f, g, i, j)),
    λ (p, q, z, i, j).
        (has_more w.ends k n).1 (p + behind, k, (w.are (p + behind)).1 (p, behind, z, refl, refl), refl, omega (arith, e, i, j)),
  );
  passes = passes_field fs name kind rest w.ends w.passes (map (λ n. n + k) w.ends) (λ n. (
    λ x. let (a, b, y, f, g) = (has_more w.ends k n).0 x in (a, y, (is name a n).1 (omega (arith, f, g))),
    λ (p, x, y). (has_more w.ends k n).1 (p, k, x, refl, (is name p n).0 y),
  ));
  small = le;
}
