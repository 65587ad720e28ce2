use Rattle.std.proofs.Common.{◌∙◌, ◌&&◌, sym, ap, rules, tests}
use Rattle.std.specs.List.{list_all}
use Rattle.std.proofs.lemmas.Iterator.Search.{all_from_yields_List}
use Rattle.std.proofs.lemmas.Iterator.Splits.{YieldsList-from_slice_split}
use Rattle.file_service.specs.Paths.{is_name, is_slash, parts_of}
use Rattle.file_service.proofs.place.is_legal.Goals as goal

pub returns-then-is_printable : goal.returns-then-is_printable
returns-then-is_printable c =
    let path = c.args.path.now in
    all_from_yields_List is_name _ _ _ c.all.ensures.ran
    (YieldsList-from_slice_split _ is_slash path c.split.ensures.rest c.split.ensures.done c.split.ensures.closure (λ x r q k. search (rules, tests)))
    (λ x b q k. search (rules, tests))
    ∙ ap (λ t. t && list_all is_name (parts_of path)) (sym c.if-is_printable.true ∙ c.is_printable.ensures)
