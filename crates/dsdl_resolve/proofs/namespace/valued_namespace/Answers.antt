use Rattle.std.proofs.Common.{◌≡◌, ◌<◌, List, Ok, get_or, sym, ap, ◌∙◌, length, subst, arith}
use Rattle.std.proofs.lemmas.Result.{err_from_is_err_and}
use Rattle.dsdl_links.specs.Links.{first_numbers}
use Rattle.dsdl_resolve.specs.Reads.{Read, sources_of}
use Rattle.dsdl_resolve.specs.Valuing.{valued}
use Rattle.dsdl_resolve.proofs.Resolving.{one_reads, order_within, are_ordered, valuing_refusal, are_beside}
use Rattle.dsdl_resolve.proofs.namespace.valued_namespace.Goals as goal

pub value_files-requires-clause-read : goal.value_files-requires-clause-read
value_files-requires-clause-read c = let o = c.requires.ordered in record { reads = o.reads; are_read = o.are_read; named = o.named }

pub value_files-requires-clause-firsts : goal.value_files-requires-clause-firsts
value_files-requires-clause-firsts c = λ reads h.
    let o = c.requires.ordered in
    c.as_slice.ensures ∙ o.first ∙ ap (λ (l : List Read). first_numbers (sources_of l)) (one_reads c.one_parsing.ensures c.args.files.now o.reads reads o.are_read h)

pub value_files-requires-clause-within : goal.value_files-requires-clause-within
value_files-requires-clause-within c = λ k lt.
    subst (λ l. get_or l k 0 < length c.args.files.now) (sym c.as_slice-2.ensures)
    (order_within c.args.files.now c.args.names.now c.args.order c.requires.ordered k (omega (arith, lt, ap length c.as_slice-2.ensures)))

pub returns-in_err-valued-clause-refused : goal.returns-in_err-valued-clause-refused
returns-in_err-valued-clause-refused c =
    let p = err_from_is_err_and c.from_residual.result c.from_residual.ensures.1 in
    rw (p.1, p.2)
    (valuing_refusal c.args.files.now c.args.names.now c.args.order c.requires.within c.requires.ordered c.as_slice-2.result.now c.as_slice-2.ensures c.in_err-valued.field-0.0 c.in_err-valued.ensures.refused)

pub namespace_of-requires : goal.namespace_of-requires
namespace_of-requires c =
    let o = c.requires.ordered in
    let v = c.in_ok-valued.ensures.valued o.reads o.are_read in
    are_beside (sources_of o.reads) v.done c.in_ok-valued.valued v.holds

pub returns-clause-valued : goal.returns-clause-valued
returns-clause-valued c =
    let o = c.requires.ordered in
    let v = c.in_ok-valued.ensures.valued o.reads o.are_read in
    record {
      done = v.done;
      valued_all = record {
        reads = o.reads;
        order = c.args.order.files;
        ordered = are_ordered c.args.files.now c.args.names.now c.args.order c.requires.within o;
        valued_all = subst (λ l. valued o.reads l ≡ Ok v.done) c.as_slice-2.ensures v.valued_all;
      };
      types = c.in_ok-namespace_of.ensures.definitions (sources_of o.reads) v.done v.holds;
      printed = c.in_ok-namespace_of.ensures.prints (sources_of o.reads) v.done v.holds;
    }

pub returns-clause-sound : goal.returns-clause-sound
returns-clause-sound c =
    let o = c.requires.ordered in
    let v = c.in_ok-valued.ensures.valued o.reads o.are_read in
    c.in_ok-namespace_of.ensures.sound (sources_of o.reads) v.done v.holds c.in_ok-valued.ensures.sound
