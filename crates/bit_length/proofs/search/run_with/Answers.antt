use Rattle.std.proofs.Common.{◌-◌, ◌/◌, ◌%◌, get_or, rules, arith, sym, ◌∙◌}
use Rattle.std.proofs.lemmas.List.Sorted.{IsPartitionPoint-from_clause}
use Rattle.std.proofs.lemmas.List.Elements.{All-get_or}
use Rattle.bit_length.specs.Runs.{starts_by, IsRun}
use Rattle.bit_length.proofs.MemberLemmas.{InRun-from_test}
use Rattle.bit_length.proofs.SetLemmas.{no_run, not_found}
use Rattle.bit_length.proofs.SearchLemmas.{starts_parted, only_before, run_within}
use Rattle.bit_length.proofs.search.run_with.Goals as goal

pub returns-then-before-eq0 : goal.returns-then-before-eq0
returns-then-before-eq0 c =
    let s = c.args.step in
    let n = c.args.n in
    let runs = c.args.runs.now in
    let point = IsPartitionPoint-from_clause (starts_by (n % s) (n / s)) runs c.partition_point-before.result c.partition_point-before.ensures.partitioned (starts_parted s (n % s) (n / s) runs c.requires.runs) (λ a r q k. search rules) in
    λ h. let w = only_before s n c.partition_point-before.result runs c.requires.runs point c.partition_point-before.ensures.bound h in omega (arith, w.0)

pub returns-then-has : goal.returns-then-has
returns-then-has c =
    let s = c.args.step in
    let at = c.partition_point-before.result - 1 in
    let runs = c.args.runs.now in
    record {
      run = All-get_or (IsRun s) runs at no_run (omega arith) c.requires.runs.each;
      has = InRun-from_test s (get_or runs at no_run) c.args.n c.requires.positive (sym c.has.ensures ∙ c.if-has.true);
      within = run_within s runs at (omega arith);
    }

pub returns-else-has : goal.returns-else-has
returns-else-has c =
    let s = c.args.step in
    let n = c.args.n in
    let runs = c.args.runs.now in
    let at = c.partition_point-before.result - 1 in
    let point = IsPartitionPoint-from_clause (starts_by (n % s) (n / s)) runs c.partition_point-before.result c.partition_point-before.ensures.partitioned (starts_parted s (n % s) (n / s) runs c.requires.runs) (λ a r q k. search rules) in
    λ h. let w = only_before s n c.partition_point-before.result runs c.requires.runs point c.partition_point-before.ensures.bound h in
    not_found s (get_or runs at no_run) n (All-get_or (IsRun s) runs at no_run (omega arith) c.requires.runs.each) (sym c.has.ensures ∙ c.if-has.false) w.1
