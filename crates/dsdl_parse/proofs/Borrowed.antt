-- The parts of a reference as the code has them: as slices of its text.
use Rattle.std.proofs.Common.{◌≡◌, ◌≤◌, true, ℕ, List, [], ◌∷◌, ◌++◌, length, map, Some, Bor, sym, ap, ◌∙◌, arith}
use Rattle.std.proofs.lemmas.List.{length-map, map-append}
use Rattle.std.specs.List.{All}
use Rattle.std.proofs.lemmas.List.Sums.{AllPass-from_list_all}
use Rattle.std.proofs.lemmas.List.Folds.{list_all-map}
use Rattle.dsdl_lex.specs.Texts.{is_name, is_version, number_of, IsReference}
use Rattle.dsdl_parse.specs.LeafReading.{parts_of, reference_of}
use Rattle.dsdl_parse.proofs.References.{some_parts, parts_said}

abbrev pub Slices : Type 0
Slices = List (Bor (List ℕ))

abbrev pub texts : Slices → List (List ℕ)
texts parts = map (λ x. x.now) parts

pub two_parts : (text : List ℕ) (parts : Slices) → IsReference text → texts parts ≡ parts_of text → 2 ≤ length parts
two_parts text parts d e = omega (arith, some_parts text d, ap length e, length-map parts (λ (x : Bor (List ℕ)). x.now))

-- what the parts of a reference are
pub record Found (text : List ℕ) (names : Slices) (major minor : Bor (List ℕ)) : Type 0 where
  pub are_names : All (λ x. is_name x.now ≡ true) names
  pub is_major : is_version major.now ≡ true
  pub is_minor : is_version minor.now ≡ true
  pub is_read : reference_of text ≡ Some (record { names = texts names; major = number_of major.now; minor = number_of minor.now })

pub found : (text : List ℕ) (parts names : Slices) (major minor : Bor (List ℕ)) → IsReference text → texts parts ≡ parts_of text →
    parts ≡ names ++ major ∷ minor ∷ [] → Found text names major minor
found text parts names major minor d e f =
    let p = parts_said text (texts names) major.now minor.now d (sym e ∙ ap texts f ∙ map-append (λ x. x.now) names (major ∷ minor ∷ [])) in
    record {
      are_names = AllPass-from_list_all (λ x. is_name x.now) names (sym (list_all-map is_name (λ x. x.now) names) ∙ p.are_names);
      is_major = p.is_major;
      is_minor = p.is_minor;
      is_read = p.is_read;
    }
