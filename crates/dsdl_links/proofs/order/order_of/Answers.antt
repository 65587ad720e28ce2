use Rattle.std.proofs.Common.{◌≡◌, ◌<◌, ℕ, true, false, length, replicate, drop, [], ◌∷◌, ◌++◌, set, inl, inr, ap, sym, ◌∙◌, subst, arith, rules, MatchOption}
use Rattle.std.proofs.lemmas.Bool.{false≢true, cases_order}
use Rattle.std.proofs.lemmas.List.{take_at, length-set, length-replicate, get_or_read, nil_from_length}
use Rattle.dsdl_links.specs.Order.{is_among, links_at, is_ready, Reaches, IsCycle}
use Rattle.dsdl_links.specs.Marks.{is_marked, KnowsFronts}
use Rattle.dsdl_links.specs.Ready.{AreOpen, AddsOpen}
use Rattle.dsdl_links.proofs.Readiness.{Ordering, none_marked, order_none, still_known, order_more, open_ready, users_unmarked}
use Rattle.dsdl_links.proofs.Openness.{least_open, none_open, open_next}
use Rattle.dsdl_links.proofs.Stuck.{a_file, stuck}
use Rattle.dsdl_links.proofs.order.order_of.Goals as goal

pub files-init : goal.files-init
files-init c =
    let links = c.args.links.now in
    let n = length links in
    let marks = c.in_ok-valued.valued.items in
    let known = c.ready_at_first.new.known in
    let valued : marks ≡ replicate n false = search rules in
    let none : (k : ℕ) → is_marked marks k ≡ false = λ k. ap (λ l. is_marked l k) valued ∙ none_marked n k in
    let count : length known ≡ c.in_ok-known.known.len = search rules in
    let kept = take_at known (drop (length known) c.in_ok-known.known.items) c.in_ok-known.known.len count in
    let all : c.in_ok-known.known.len ≡ n = search rules in
    let knows : KnowsFronts links marks known = subst (λ m. KnowsFronts links m known) c.as_slice.ensures.value c.in_ok-ready.ensures.known in
    record {
      ordering = subst (λ k. Ordering links marks k c.empty-order.result) (sym kept)
          (subst (λ o. Ordering links marks known o) (sym c.empty-order.ensures) (order_none links marks known none knows));
      ready = subst (λ m. AreOpen n links m c.in_ok-ready.ready) c.as_slice.ensures.value c.in_ok-ready.ensures.ready;
      marks = ap length valued ∙ length-replicate n false;
      counts = ap length kept ∙ count ∙ all;
    }

pub add_all_open-requires-clause-known : goal.add_all_open-requires-clause-known
add_all_open-requires-clause-known c =
    let links = c.args.links.now in
    let marks = c.files.valued.items in
    let file = c.in-Some.file in
    let first = least_open links marks c.files.ready file c.files.invariant.ready c.in-Some.ensures.member c.in-Some.ensures.least in
    let within : file < length marks = omega (arith, c.files.invariant.marks, first.within) in
    subst (λ k. KnowsFronts links c.as_slice-in-Some.result.now k) (sym c.as_mut_slice-in-Some.ensures.value)
    (subst (λ m. KnowsFronts links m c.files.known.items) (sym c.as_slice-in-Some.ensures.value)
    (still_known links marks c.files.known.items file within c.files.invariant.ordering.knows))

pub add_all_open-requires-clause-within : goal.add_all_open-requires-clause-within
add_all_open-requires-clause-within c =
    let links = c.args.links.now in
    let users = c.in_ok-users.users.items in
    let file = c.in-Some.file in
    let first = least_open links c.files.valued.items c.files.ready file c.files.invariant.ready c.in-Some.ensures.member c.in-Some.ensures.least in
    let lt : file < length users = omega (arith, c.in_ok-users.ensures.count, first.within) in
    let next : c.as_slice-next.result.now ≡ links_at users file = c.as_slice-next.ensures ∙ get_or_read users file c.index.result.now lt c.index.ensures [] in
    λ k h. a_file links k file (sym (c.in_ok-users.ensures.refer k file) ∙ subst (λ l. is_among l k ≡ true) next h)

pub add_all_open-requires-clause-unmarked : goal.add_all_open-requires-clause-unmarked
add_all_open-requires-clause-unmarked c =
    let links = c.args.links.now in
    let users = c.in_ok-users.users.items in
    let marks = c.files.valued.items in
    let file = c.in-Some.file in
    let first = least_open links marks c.files.ready file c.files.invariant.ready c.in-Some.ensures.member c.in-Some.ensures.least in
    let lt : file < length users = omega (arith, c.in_ok-users.ensures.count, first.within) in
    let next : c.as_slice-next.result.now ≡ links_at users file = c.as_slice-next.ensures ∙ get_or_read users file c.index.result.now lt c.index.ensures [] in
    λ k h. subst (λ m. is_marked m k ≡ false) (sym c.as_slice-in-Some.ensures.value)
    (users_unmarked links marks c.files.known.items c.files.order file k c.files.invariant.ordering first
    (sym (c.in_ok-users.ensures.refer k file) ∙ subst (λ l. is_among l k ≡ true) next h))

pub files-preserved : goal.files-preserved
files-preserved c =
    let links = c.args.links.now in
    let users = c.in_ok-users.users.items in
    let marks = c.files.valued.items in
    let file = c.in-Some.file in
    let known = c.add_all_open.new.known in
    let popped = c.pop_first.new.self in
    let ready = c.add_all_open.new.ready in
    let first = least_open links marks c.files.ready file c.files.invariant.ready c.in-Some.ensures.member c.in-Some.ensures.least in
    let within : file < length marks = omega (arith, c.files.invariant.marks, first.within) in
    let lt : file < length users = omega (arith, c.in_ok-users.ensures.count, first.within) in
    let next : c.as_slice-next.result.now ≡ links_at users file = c.as_slice-next.ensures ∙ get_or_read users file c.index.result.now lt c.index.ensures [] in
    let count : length known ≡ c.files.known.len = search rules in
    let kept = take_at known (drop (length known) c.files.known.items) c.files.known.len count in
    let pushed : c.push.new.self ≡ c.files.order ++ file ∷ [] = search rules in
    let knows : KnowsFronts links (set marks file true) known = subst (λ m. KnowsFronts links m known) c.as_slice-in-Some.ensures.value c.in_ok-add_all_open-in-Some.ensures.known in
    let added : AddsOpen links (set marks file true) (links_at users file) popped ready =
    subst (λ l. AddsOpen links (set marks file true) l popped ready) next
    (subst (λ m. AddsOpen links m c.as_slice-next.result.now popped ready) c.as_slice-in-Some.ensures.value c.in_ok-add_all_open-in-Some.ensures.added) in
    record {
      ordering = subst (λ k. Ordering links (set marks file true) k c.push.new.self) (sym kept)
          (subst (λ o. Ordering links (set marks file true) known o) (sym pushed)
          (order_more links marks c.files.known.items known c.files.order file c.files.invariant.ordering knows first within (search rules)));
      ready = open_next links users marks file c.files.ready popped ready c.in_ok-users.ensures c.files.invariant.ready within first.within c.in-Some.ensures.updates added;
      marks = length-set marks file true ∙ c.files.invariant.marks;
      counts = omega (arith, ap length kept, c.files.invariant.counts);
    }

pub unreachable-requires : goal.unreachable-requires
unreachable-requires c =
    let links = c.args.links.now in
    let marks = c.files.valued.items in
    let keys = c.files.ready.keys in
    let empty : length keys ≡ 0 = elim (cases_order (length keys) 0) [
      | inl e ↦ e
      | inr (inl less) ↦ absurd (omega arith)
      | inr (inr more) ↦ absurd (false≢true (c.in-None.ensures.variant.1 more))
    ] in
    let closed : (k : ℕ) → k < length links → is_ready links c.files.order k ≡ false =
    λ k lt. sym (open_ready links marks c.files.order c.files.invariant.ordering.agree k) ∙ none_open links marks c.files.ready c.files.invariant.ready (nil_from_length keys empty) k lt in
    let none : (i : ℕ) → Reaches links i i → ⊥ = subst (λ o. MatchOption o ((i : ℕ) → Reaches links i i → ⊥) (IsCycle links)) c.in-None-2.is c.in_ok-file-in-None.ensures in
    stuck links c.files.order c.len-in-files-2.ensures.within closed none (search rules)
