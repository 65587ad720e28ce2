-- The passes together
use Rattle.std.proofs.Common.{◌≡◌, ℕ, ◌+◌, ◌<◌, ◌≤◌, List, [], ◌∷◌, length, get_or, Option, Some, None, refl, sym, ap, ◌∙◌, subst, arith, length-append}
use Rattle.std.specs.Prelude.{filter_map}
use Rattle.std.specs.List.{All, range_with_len, cons_option}
use Rattle.std.proofs.lemmas.List.{length-map}
use Rattle.std.proofs.lemmas.List.FromFn.{length-range_with_len}
use Rattle.dsdl_clash.specs.Clashes.{first_clash, versions_clash, ports_clash}
use Rattle.dsdl_files.specs.declared.file.DsdlFile.{DsdlFile}
use Rattle.dsdl_links.specs.Links.{AreLinks, AreLinksOf, IsUnresolved}
use Rattle.dsdl_links.specs.Order.{Valued, begin, next}
use Rattle.dsdl_links.specs.declared.source.Source.{Source}
use Rattle.dsdl_names.specs.declared.FileName.{FileName}
use Rattle.dsdl_names.specs.declared.TypeId.{TypeId}
use Rattle.dsdl_parse.specs.Ast.{IsParsedOneWay}
use Rattle.dsdl_parse.specs.declared.statement.Statement.{Statement}
use Rattle.dsdl_types.specs.declared.definition.Definition.{Definition}
use Rattle.dsdl_resolve.specs.Ordering.{IsOrdering}
use Rattle.dsdl_resolve.specs.Passes.{AreWithinLimits, AreOrdered, AreValued, FirstRefusal, unresolved, cycle, valuing, version, port, IsUnresolvedAt, IsCycleAt, StopsAt, ClashesAt, definitions_of}
use Rattle.dsdl_resolve.specs.Progressing.{AreBeside, Holds, doubled}
use Rattle.dsdl_resolve.specs.Reads.{Read, IsRead, AreRead, sources_of}
use Rattle.dsdl_resolve.specs.Refusals.{IsRefusal}
use Rattle.dsdl_resolve.specs.Valuing.{Done, definition_of, definition_at, meant}
use Rattle.dsdl_resolve.specs.declared.error.DsdlError.{DsdlError}
use Rattle.dsdl_resolve.specs.declared.order.FileOrder.{FileOrder}
use Rattle.dsdl_resolve.specs.declared.progress.Progress.{Progress}
use Rattle.dsdl_resolve.specs.declared.why.DsdlWhy.TheVariants as cause
use Rattle.dsdl_resolve.proofs.Clear.{told}
use Rattle.dsdl_resolve.proofs.Lists.{all_more, zip_long}
use Rattle.dsdl_resolve.proofs.Rereading.{same_name, source_count}

-- ---- a file is read in one way
pub one_read : IsParsedOneWay → (f : DsdlFile) (a b : Read) → IsRead f a → IsRead f b → a ≡ b
one_read law f a b h k =
    let of : List ℕ → FileName → List Statement → Read = λ p n ss. record { path = p; name = n; lines = ss } in
    ap (λ p. of p a.name a.lines) (h.same ∙ sym k.same) ∙ ap (λ n. of b.path n a.lines) (same_name a.name b.name (sym h.named ∙ k.named))
    ∙ ap (of b.path b.name) (law.one_list f.text a.lines b.lines h.text k.text)

pub one_reads : IsParsedOneWay → (files : List DsdlFile) (xs ys : List Read) → AreRead files xs → AreRead files ys → xs ≡ ys
one_reads law [] [] [] h k = refl
one_reads law [] [] (b ∷ ys) h k = absurd k
one_reads law [] (a ∷ xs) ys h k = absurd h
one_reads law (f ∷ files) [] ys h k = absurd h
one_reads law (f ∷ files) (a ∷ xs) [] h k = absurd k
one_reads law (f ∷ files) (a ∷ xs) (b ∷ ys) h k = ap (λ x. x ∷ xs) (one_read law f a b h.0 k.0) ∙ ap (λ l. b ∷ l) (one_reads law files xs ys h.1 k.1)

-- ---- numbers of files
pub unresolved_within : (sources : List Source) (file line : ℕ) (id : TypeId) → IsUnresolved sources file line id → file < length sources
unresolved_within sources file line id h = omega (arith, h.place, ap length h.parts, length-append h.before (h.at ∷ h.behind))

pub link_count : (sources : List Source) (links : List (List ℕ)) → AreLinks sources links → length links ≡ length sources
link_count sources links h = sym (zip_long (AreLinksOf sources) sources links h)

none_within : (P : ℕ → Type 0) → All P []
none_within P k d lt = absurd (omega arith)

pub all_within : {links : List (List ℕ)} {order : List ℕ} → Valued links order → All (λ n. n < length links) order
all_within {links} begin = none_within (λ n. n < length links)
all_within {links} (next {valued} {i} v n) = all_more (λ k. k < length links) valued i (all_within v) n.within

pub order_within : (files : List DsdlFile) (names : List FileName) (o : FileOrder) → IsOrdering files names o → (k : ℕ) → k < length o.files → get_or o.files k 0 < length files
order_within files names o h k lt =
    omega (arith, all_within h.ordered.valued k 0 lt, link_count (sources_of h.reads) h.links h.linked, source_count files h.reads h.are_read)

-- ---- refusals
pub unresolved_refusal : (files : List DsdlFile) → AreWithinLimits files → (reads : List Read) → AreRead files reads → (sources : List Source) → sources ≡ sources_of reads → (e : DsdlError) →
    IsRefusal (IsUnresolvedAt files sources) e → IsRefusal (FirstRefusal files) e
unresolved_refusal files within reads read sources is e h =
    told _ _ (λ path line why r. unresolved reads (record { within = within; read = read }) (subst (λ s. IsUnresolvedAt files s path line why) is r)) e h

pub cycle_refusal : (files : List DsdlFile) → AreWithinLimits files → (reads : List Read) → AreRead files reads → (sources : List Source) → sources ≡ sources_of reads → (links : List (List ℕ)) → AreLinks sources links → (e : DsdlError) →
    IsRefusal (IsCycleAt files links) e → IsRefusal (FirstRefusal files) e
cycle_refusal files within reads read sources is links linked e h =
    told _ _ (λ path line why r. cycle reads links (record { passed = record { within = within; read = read }; linked = subst (λ s. AreLinks s links) is linked }) r) e h

pub are_ordered : (files : List DsdlFile) (names : List FileName) (o : FileOrder) → AreWithinLimits files → (h : IsOrdering files names o) → AreOrdered files h.reads o.files
are_ordered files names o within h = record { links = h.links; linked = record { passed = record { within = within; read = h.are_read }; linked = h.linked }; ordered = h.ordered }

pub valuing_refusal : (files : List DsdlFile) (names : List FileName) (o : FileOrder) → AreWithinLimits files → IsOrdering files names o → (order : List ℕ) → order ≡ o.files → (e : DsdlError) →
    IsRefusal (λ path line why. (reads : List Read) → AreRead files reads → StopsAt files reads order path line why) e → IsRefusal (FirstRefusal files) e
valuing_refusal files names o within h order is e stops =
    told _ _ (λ path line why r. valuing h.reads o.files (are_ordered files names o within h) (subst (λ l. StopsAt files h.reads l path line why) is (r h.reads h.are_read))) e stops

pub version_refusal : (files : List DsdlFile) (done : List Done) → AreValued files done → (ds : List Definition) → ds ≡ definitions_of files done → (e : DsdlError) →
    IsRefusal (ClashesAt versions_clash cause.VersionClash files ds) e → IsRefusal (FirstRefusal files) e
version_refusal files done valued ds is e h = told _ _ (λ path line why r. version done valued (subst (λ l. ClashesAt versions_clash cause.VersionClash files l path line why) is r)) e h

pub port_refusal : (files : List DsdlFile) (done : List Done) → AreValued files done → (ds : List Definition) → ds ≡ definitions_of files done → first_clash versions_clash ds ≡ None → (e : DsdlError) →
    IsRefusal (ClashesAt ports_clash cause.PortClash files ds) e → IsRefusal (FirstRefusal files) e
port_refusal files done valued ds is none e h =
    told _ _ (λ path line why r. port done valued (ap (first_clash versions_clash) (sym is) ∙ none) (subst (λ l. ClashesAt ports_clash cause.PortClash files l path line why) is r)) e h

-- ---- counts
more_or_none : {A : Type 0} → (o : Option A) (xs : List A) → length (cons_option o xs) ≤ length xs + 1
more_or_none None xs = omega arith
more_or_none (Some x) xs = omega arith

few_kept : {A B : Type 0} → (f : A → Option B) (xs : List A) → length (filter_map f xs) ≤ length xs
few_kept f [] = omega arith
few_kept f (x ∷ xs) = omega (arith, more_or_none (f x) (filter_map f xs), few_kept f xs)

pub definition_count : (files : List DsdlFile) (done : List Done) → length (definitions_of files done) ≤ length files
definition_count files done = omega (arith, few_kept (definition_at done) (range_with_len 0 (length files)), length-range_with_len 0 (length files))

pub are_beside : (sources : List Source) (done : List Done) (p : Progress) → Holds sources done p → AreBeside p
are_beside sources done p h =
    let number : Done → ℕ = λ d. d.number in
    record {
      meant = ap length h.types.numbers ∙ length-map (meant sources done) number ∙ sym (ap length h.types.definitions ∙ length-map (meant sources done) definition_of);
      doubled = ap length h.types.double_numbers ∙ length-map (doubled sources done) number ∙ sym (ap length h.types.doubles ∙ length-map (doubled sources done) definition_of);
    }
