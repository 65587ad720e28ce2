use Rattle.std.proofs.Common.{◌≡◌, ◌+◌, [], ◌∷◌, ◌++◌, take, map, ap, sym, ◌∙◌, subst}
use Rattle.std.specs.Prelude.{unwrap_or}
use Rattle.std.specs.Option.{option_copied}
use Rattle.std.specs.BTreeMap.{get}
use Rattle.std.proofs.lemmas.List.{take_more, map-append}
use Rattle.dsdl_names.specs.Types.{type_order}
use Rattle.dsdl_links.specs.Links.{file_of}
use Rattle.dsdl_links.specs.declared.source.Source.{Source}
use Rattle.dsdl_links.proofs.links.first_numbers.Goals as goal

pub loop-file-preserved : goal.loop-file-preserved
loop-file-preserved c =
    let files = c.args.files.now in
    let file = c.file-item.result in
    let i = c.loop-file.file-index in
    let number = λ (f : Source). unwrap_or (file_of files f.id) 0 in
    let found : option_copied c.get.result ≡ get type_order c.in_ok-places.places file.id =
    subst (λ R. option_copied c.get.result ≡ get R c.in_ok-places.places file.id) (λ n a b. c.order_of_types.ensures a b n) c.get.ensures.value in
    let value : c.unwrap_or.result ≡ number file = c.unwrap_or.ensures ∙ ap (λ o. unwrap_or o 0) (c.copied.ensures ∙ found ∙ c.in_ok-places.ensures file.id) in
    let more : take (i + 1) files ≡ take i files ++ file ∷ [] = take_more files i file c.loop-file-test.true ∙ ap (λ x. take i files ++ x ∷ []) (sym c.file-item.is) in
    c.in_ok-push.ensures.ok ∙ ap (λ x. c.loop-file.firsts ++ x ∷ []) value ∙ ap (λ l. l ++ number file ∷ []) c.loop-file.invariant ∙ sym (map-append number (take i files) (file ∷ [])) ∙ ap (map number) (sym more)
