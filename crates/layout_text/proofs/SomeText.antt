-- A namespace has a text.
use Rattle.std.proofs.Common.{◌≡◌, ℕ, suc, List, [], ◌∷◌, ◌++◌, length, take, drop, Option, refl, sym, ◌∙◌, arith, length-drop}
use Rattle.std.specs.List.{All, flat_map}
use Rattle.std.proofs.lemmas.List.{length-take}
use Rattle.std.proofs.lemmas.List.Elements.{All-head, All-tail}
use Rattle.std.proofs.lemmas.List.Sorted.{All-permutation}
use Rattle.dsdl_names.specs.declared.TypeId.{TypeId}
use Rattle.dsdl_types.specs.Schemas.{Sch}
use Rattle.dsdl_types.specs.Definitions.{IsDefinition, IsNamespace, count_in, typed_count}
use Rattle.dsdl_types.specs.Lengths.{At, Length, Size}
use Rattle.dsdl_types.specs.Views.{sch}
use Rattle.dsdl_types.specs.declared.definition.Definition.{Definition}
use Rattle.dsdl_types.specs.declared.definition.Parts.{Parts}
use Rattle.dsdl_types.specs.declared.definition.Parts.TheVariants as parts
use Rattle.dsdl_types.specs.declared.namespace.Namespace.{Namespace}
use Rattle.layout.specs.Layouts.{fields_of}
use Rattle.layout_text.specs.Definitions.{IsTypeText, ArePartsText, AreDefinitionTexts}
use Rattle.layout_text.specs.Fields.{AreFieldLines, IsFieldLine, field_line, is_union}
use Rattle.layout_text.specs.Heads.{IsTypeLine, named_words, outline_words}
use Rattle.layout_text.specs.Namespaces.{IsByName, IsNamespaceText, print_line}
use Rattle.layout_text.specs.Words.{line_of, spaced}
use Rattle.layout_text.specs.declared.head.Role.{Role}
use Rattle.layout_text.specs.declared.head.Role.TheVariants.{Message, Request, Response}
use Rattle.layout_text.proofs.ByName.{before, before_ranks}
use Rattle.layout_text.proofs.Finite.{has_text}
use Rattle.layout_text.proofs.Lengths.{lengths_of, places_of, sizes_of}
use Rattle.layout_text.proofs.Sorting.{sort, sort_keeps, sort_moves, sort_sorts}
use Rattle.layout_text.proofs.Texts.{fields_count}

some_line : (s : Sch) (k : ℕ) (f : List ℕ × Sch) (t : List ℕ) → (line : List ℕ) × IsFieldLine s k f t line
some_line s k f t =
    let (offsets, at) = has_text (At s k) (places_of s k) in
    let (sizes, size) = has_text (Size f.1) (sizes_of f.1) in
    (field_line (is_union s) k f.0 t offsets sizes, record { offsets = offsets; sizes = sizes; at = at; size = size; is = refl })

some_lines : (s : Sch) (k : ℕ) (fs : List (List ℕ × Sch)) (ts : List (List ℕ)) → length ts ≡ length fs → (text : List ℕ) × AreFieldLines s k fs ts text
some_lines s k [] [] e = ([], refl)
some_lines s k [] (t ∷ ts) e = absurd (omega arith)
some_lines s k (f ∷ fs) [] e = absurd (omega arith)
some_lines s k (f ∷ fs) (t ∷ ts) e =
    let (line, is) = some_line s k f t in
    let (rest, are) = some_lines s (suc k) fs ts (omega arith) in
    (line ++ rest, (line, rest, is, are, refl))

some_head : (role : Role) (id : TypeId) (port : Option ℕ) (s : Sch) → (line : List ℕ) × IsTypeLine role id port s line
some_head role id port s =
    let (lengths, whole) = has_text (Length s) (lengths_of s) in
    (spaced (named_words role id port) ++ line_of (outline_words s lengths), record { lengths = lengths; whole = whole; is = refl })

some_type : (role : Role) (id : TypeId) (port : Option ℕ) (s : Sch) (types : List (List ℕ)) → length types ≡ typed_count s → (text : List ℕ) × IsTypeText role id port s types text
some_type role id port s types count =
    let (line, heads) = some_head role id port s in
    let (lines, fields) = some_lines s 0 (fields_of s) types (count ∙ sym (fields_count s)) in
    (line ++ lines, record { line = line; lines = lines; heads = heads; fields = fields; is = refl })

some_definition : (id : TypeId) (port : Option ℕ) (types : List (List ℕ)) (p : Parts) → length types ≡ count_in p → (text : List ℕ) × ArePartsText id port types p text
some_definition id port types (parts.Message s) count = some_type Message id port (sch s) types count
some_definition id port types (parts.Service request response) count =
    let n = typed_count (sch request) in
    let front = length-take n types in
    let back = length-drop n types in
    let (asked, is) = some_type Request id port (sch request) (take n types) (omega arith) in
    let (answered, are) = some_type Response id port (sch response) (drop n types) (omega arith) in
    (asked ++ answered, (asked, answered, is, are, refl {a = asked ++ answered}))

some_row : (ds : List Definition) → All IsDefinition ds → (text : List ℕ) × AreDefinitionTexts ds text
some_row [] all = ([], refl)
some_row (d ∷ ds) all =
    let (own, is) = some_definition d.id d.port d.types d.parts (All-head IsDefinition d ds all).texts in
    let (rest, are) = some_row ds (All-tail IsDefinition d ds all) in
    (own ++ rest, (own, rest, is, are, refl))

pub some_order : (ds : List Definition) → IsByName ds (sort before ds)
some_order ds = record {
  same = sort_moves before ds;
  ascending = sort_sorts before before_ranks ds;
  stable = λ d. sort_keeps before before_ranks d ds;
}

pub some_text : (names : Namespace) → IsNamespace names → (text : List ℕ) × IsNamespaceText names text
some_text names all =
    let sorted = sort before names.definitions in
    let order = some_order names.definitions in
    let (types, texts) = some_row sorted (All-permutation IsDefinition names.definitions sorted order.same all) in
    (flat_map print_line names.prints ++ types, record { sorted = sorted; types = types; order = order; texts = texts; is = refl })
