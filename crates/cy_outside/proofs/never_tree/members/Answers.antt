use Rattle.std.proofs.Common.{◌≡◌, ◌∙◌, ◌+◌, ℕ, T, List, length, subst, sym, ap, Some, None, arith}
use Rattle.std.specs.Option.{option_copied}
use Rattle.std.specs.List.{Any}
use Rattle.cy_outside.specs.declared.tree.Entry.{Entry}
use Rattle.cy_outside.specs.Files.{rest_in, first_name}
use Rattle.cy_outside.proofs.Listed.{Listed, listed_none, listed_outside, listed_again, listed_more, lists_members}
use Rattle.cy_outside.proofs.never_tree.members.Goals as goal
use Rattle.cy_outside.proofs.never_tree.members.Goals.{then-not-has_name+in_ok-name+in_ok-push, else-not-has_name}

pub loop-file-init : goal.loop-file-init
loop-file-init c = subst (Listed c.args.files.now c.args.path.now 0) (sym c.empty-entries.ensures) (listed_none c.args.files.now c.args.path.now)

pub loop-file-preserved-in_default : goal.loop-file-preserved-in_default
loop-file-preserved-in_default c =
    let outside : rest_in c.args.path.now c.file-item.result.path ≡ None =
    ap (rest_in c.args.path.now) (sym c.as_str.ensures) ∙ sym c.rest_in.ensures ∙ ap option_copied c.in_default.is in
    listed_outside c.args.files.now c.args.path.now c.loop-file.file-index c.file-item.result c.loop-file.entries c.loop-file-test.true c.file-item.is outside c.loop-file.invariant

pub loop-file-preserved : goal.loop-file-preserved
loop-file-preserved c =
    let path = c.args.path.now in
    let entries = c.loop-file.entries in
    let name = c.first_name-folder.result.0.now in
    let below : rest_in path c.file-item.result.path ≡ Some c.in-Some.rest.now =
    ap (rest_in path) (sym c.as_str.ensures) ∙ sym c.rest_in.ensures ∙ ap option_copied c.in-Some.is in
    elim c.if-not-has_name.branch as (λ _. Listed c.args.files.now path (c.loop-file.file-index + 1) c.if-not-has_name.entries) [
      | then-not-has_name+in_ok-name+in_ok-push w ↦
          let new : Entry = record { name = w.in_ok-name.name; folder = c.first_name-folder.result.1 } in
          let first : new ≡ first_name c.in-Some.rest.now = λ i. record {
            name = (w.in_ok-name.ensures ∙ c.first_name-folder.ensures.name) i;
            folder = c.first_name-folder.ensures.folder i;
          } in
          let unknown : Any (λ (e : Entry). e.name ≡ new.name) entries → ⊥ = λ known.
          subst T (sym (c.has_name.ensures.1
          (subst (λ (es : List Entry). Any (λ (e : Entry). e.name ≡ name) es) (sym c.as_slice.ensures)
          (subst (λ (n : List ℕ). Any (λ (e : Entry). e.name ≡ n) entries) w.in_ok-name.ensures known)))
          ∙ w.if-not-has_name.true) tt in
          subst (Listed c.args.files.now path (c.loop-file.file-index + 1)) (sym (w.entries-is ∙ w.in_ok-push.ensures.ok))
          (listed_more c.args.files.now path c.loop-file.file-index c.file-item.result c.in-Some.rest.now entries new
          c.loop-file-test.true c.file-item.is below first unknown c.loop-file.invariant)
      | else-not-has_name w ↦
          let known : Any (λ (e : Entry). e.name ≡ (first_name c.in-Some.rest.now).name) entries =
          subst (λ (n : List ℕ). Any (λ (e : Entry). e.name ≡ n) entries) c.first_name-folder.ensures.name
          (subst (λ (es : List Entry). Any (λ (e : Entry). e.name ≡ name) es) c.as_slice.ensures
          (c.has_name.ensures.0 w.if-not-has_name.false)) in
          subst (Listed c.args.files.now path (c.loop-file.file-index + 1)) (sym w.entries-is)
          (listed_again c.args.files.now path c.loop-file.file-index c.file-item.result c.in-Some.rest.now entries
          c.requires c.loop-file-test.true c.file-item.is below known c.loop-file.invariant)
    ]

pub returns : goal.returns
returns c =
    let all : c.loop-file.file-index ≡ length c.args.files.now = omega (arith, c.loop-file-test.false, c.loop-file.auto.file-index-end) in
    lists_members c.args.files.now c.args.path.now c.loop-file.entries
    (subst (λ (i : ℕ). Listed c.args.files.now c.args.path.now i c.loop-file.entries) all c.loop-file.invariant)
