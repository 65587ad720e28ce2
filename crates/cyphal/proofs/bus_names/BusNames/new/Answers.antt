use Rattle.std.proofs.Common.{◌∙◌, ◌∷◌, ap, sym, arith, ℕ, List, Some, None}
use Rattle.std.proofs.lemmas.Str.Pattern.{split_parts}
use Rattle.std.specs.List.{slice_split}
use Rattle.clap.proofs.CutLemmas.{slice_split-Lacks, slice_split-at}
use Rattle.cyphal.specs.BusNames.{buses_among, buses_given}
use Rattle.cyphal.proofs.NameCuts.{third_name, is_comma}
use Rattle.cyphal.proofs.bus_names.BusNames.new.Goals as goal

pub returns-in_default : goal.returns-in_default
returns-in_default c =
    let lacks = split_parts 44 c.args.word.now None c.in_default.ensures.cases (omega arith) in
    c.one.ensures ∙ sym (ap buses_among (slice_split-Lacks 44 c.args.word.now lacks))

pub returns-in-None : goal.returns-in-None
returns-in-None c =
    let parts = split_parts 44 c.args.word.now (Some (c.in-Some.first, c.in-Some.others)) c.in-Some.ensures.cases (omega arith) in
    let lacks = split_parts 44 c.in-Some.others.now None c.in-None.ensures.cases (omega arith) in
    let first = c.in-Some.first.now in
    let others = c.in-Some.others.now in
    c.two.ensures
    ∙ sym (ap buses_given parts.0 ∙ ap buses_among (slice_split-at 44 first others parts.1 ∙ ap (λ (n : List (List ℕ)). first ∷ n) (slice_split-Lacks 44 others lacks)))

pub returns-in-Some-split_once : goal.returns-in-Some-split_once
returns-in-Some-split_once c =
    let parts = split_parts 44 c.args.word.now (Some (c.in-Some.first, c.in-Some.others)) c.in-Some.ensures.cases (omega arith) in
    let more = split_parts 44 c.in-Some.others.now (Some (c.in-Some-split_once.second, c.in-Some-split_once.third)) c.in-Some-split_once.ensures.cases (omega arith) in
    let first = c.in-Some.first.now in
    let others = c.in-Some.others.now in
    let second = c.in-Some-split_once.second.now in
    let third = c.in-Some-split_once.third.now in
    c.three.ensures
    ∙ sym (ap buses_given parts.0 ∙ ap buses_among (slice_split-at 44 first others parts.1 ∙ ap (λ (n : List (List ℕ)). first ∷ n) (ap (slice_split is_comma) more.0 ∙ slice_split-at 44 second third more.1)) ∙ third_name first second third)
