-- A namespace has one text.
use Rattle.std.proofs.Common.{◌≡◌, ℕ, suc, List, [], ◌∷◌, ◌++◌, take, drop, Option, sym, ap, ◌∙◌, subst}
use Rattle.std.specs.List.{flat_map}
use Rattle.bit_length.specs.Lengths.{Numbers}
use Rattle.dsdl_names.specs.declared.TypeId.{TypeId}
use Rattle.dsdl_types.specs.Schemas.{Sch}
use Rattle.dsdl_types.specs.Definitions.{typed_count}
use Rattle.dsdl_types.specs.Views.{sch}
use Rattle.dsdl_types.specs.declared.definition.Definition.{Definition}
use Rattle.dsdl_types.specs.declared.definition.Parts.{Parts}
use Rattle.dsdl_types.specs.declared.definition.Parts.TheVariants as parts
use Rattle.dsdl_types.specs.declared.namespace.Namespace.{Namespace}
use Rattle.layout.specs.Layouts.{fields_of}
use Rattle.layout_text.specs.Definitions.{IsTypeText, ArePartsText, AreDefinitionTexts}
use Rattle.layout_text.specs.Fields.{AreFieldLines, IsFieldLine, field_line, is_union}
use Rattle.layout_text.specs.Heads.{IsTypeLine, named_words, outline_words}
use Rattle.layout_text.specs.Namespaces.{IsByName, IsNamespaceText, print_line}
use Rattle.layout_text.specs.Sets.{IsSetText, set_text}
use Rattle.layout_text.specs.Words.{line_of, spaced}
use Rattle.layout_text.specs.declared.head.Role.{Role}
use Rattle.layout_text.specs.declared.head.Role.TheVariants.{Message, Request, Response}
use Rattle.bit_length.proofs.AscendingLemmas.{one_list}
use Rattle.layout_text.proofs.ByName.{before, before_ranks}
use Rattle.layout_text.proofs.OneOrder.{one_order}

one_set : (S : Numbers) (a b : List ℕ) → IsSetText S a → IsSetText S b → a ≡ b
one_set S a b x y = x.is ∙ ap set_text (one_list x.members y.members x.ascending y.ascending (λ n h. (y.same n).1 ((x.same n).0 h)) (λ n h. (x.same n).1 ((y.same n).0 h))) ∙ sym y.is

joined : (a b c d : List ℕ) → a ≡ c → b ≡ d → a ++ b ≡ c ++ d
joined a b c d e f = cc

one_line : (s : Sch) (k : ℕ) (f : List ℕ × Sch) (t a b : List ℕ) → IsFieldLine s k f t a → IsFieldLine s k f t b → a ≡ b
one_line s k f t a b x y =
    let e = one_set _ x.offsets y.offsets x.at y.at in
    let g = one_set _ x.sizes y.sizes x.size y.size in
    x.is ∙ ap (λ o. field_line (is_union s) k f.0 t o x.sizes) e ∙ ap (λ z. field_line (is_union s) k f.0 t y.offsets z) g ∙ sym y.is

one_lines : (s : Sch) (k : ℕ) (fs : List (List ℕ × Sch)) (ts : List (List ℕ)) (a b : List ℕ) → AreFieldLines s k fs ts a → AreFieldLines s k fs ts b → a ≡ b
one_lines s k [] [] a b x y = x ∙ sym y
one_lines s k [] (t ∷ ts) a b x y = absurd x
one_lines s k (f ∷ fs) [] a b x y = absurd x
one_lines s k (f ∷ fs) (t ∷ ts) a b (l, r, is, are, e) (m, q, js, brs, g) = e ∙ joined l r m q (one_line s k f t l m is js) (one_lines s (suc k) fs ts r q are brs) ∙ sym g

one_head : (role : Role) (id : TypeId) (port : Option ℕ) (s : Sch) (a b : List ℕ) → IsTypeLine role id port s a → IsTypeLine role id port s b → a ≡ b
one_head role id port s a b x y =
    x.is ∙ ap (λ l. spaced (named_words role id port) ++ line_of (outline_words s l)) (one_set _ x.lengths y.lengths x.whole y.whole) ∙ sym y.is

one_type : (role : Role) (id : TypeId) (port : Option ℕ) (s : Sch) (types : List (List ℕ)) (a b : List ℕ) → IsTypeText role id port s types a → IsTypeText role id port s types b → a ≡ b
one_type role id port s types a b x y =
    x.is ∙ joined x.line x.lines y.line y.lines (one_head role id port s x.line y.line x.heads y.heads) (one_lines s 0 (fields_of s) types x.lines y.lines x.fields y.fields) ∙ sym y.is

one_definition : (id : TypeId) (port : Option ℕ) (types : List (List ℕ)) (p : Parts) (a b : List ℕ) → ArePartsText id port types p a → ArePartsText id port types p b → a ≡ b
one_definition id port types (parts.Message s) a b x y = one_type Message id port (sch s) types a b x y
one_definition id port types (parts.Service request response) a b (l, r, is, are, e) (m, q, js, brs, g) =
    e ∙ joined l r m q (one_type Request id port (sch request) (take (typed_count (sch request)) types) l m is js) (one_type Response id port (sch response) (drop (typed_count (sch request)) types) r q are brs) ∙ sym g

one_row : (ds : List Definition) (a b : List ℕ) → AreDefinitionTexts ds a → AreDefinitionTexts ds b → a ≡ b
one_row [] a b x y = x ∙ sym y
one_row (d ∷ ds) a b (l, r, is, are, e) (m, q, js, brs, g) =
    e ∙ joined l r m q (one_definition d.id d.port d.types d.parts l m is js) (one_row ds r q are brs) ∙ sym g

one_sort : (ds xs ys : List Definition) → IsByName ds xs → IsByName ds ys → xs ≡ ys
one_sort ds xs ys a b = one_order before before_ranks xs ys a.ascending b.ascending (λ d. a.stable d ∙ sym (b.stable d))

pub one_text : (names : Namespace) (a b : List ℕ) → IsNamespaceText names a → IsNamespaceText names b → a ≡ b
one_text names a b x y =
    let e = one_sort names.definitions x.sorted y.sorted x.order y.order in
    x.is ∙ ap (λ t. flat_map print_line names.prints ++ t) (one_row y.sorted x.types y.types (subst (λ ds. AreDefinitionTexts ds x.types) e x.texts) y.texts) ∙ sym y.is
