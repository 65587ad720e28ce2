use Rattle.std.proofs.Common.{◌≡◌, true, false, ◌<◌, ◌+◌, length, get_or, set, take, [], ◌∷◌, ◌++◌, sym, subst, arith, rules}
use Rattle.std.proofs.lemmas.List.{take_more}
use Rattle.dsdl_links.specs.Marks.{is_marked, Marks}
use Rattle.dsdl_links.proofs.Among.{among_at}
use Rattle.dsdl_links.proofs.Marking.{mark_marked, mark_new}
use Rattle.dsdl_links.proofs.cycle.mark.Goals as goal
use Rattle.dsdl_links.proofs.cycle.mark.Goals.{then-not-marks-file+in_ok-push, else-not-marks-file}

pub bounds-marks-file : goal.bounds-marks-file
bounds-marks-file c = omega (arith, c.requires (get_or c.args.files.now c.loop-file.file-index 0) (among_at c.args.files.now c.loop-file.file-index 0 c.loop-file-test.true), c.loop-file.invariant.count)

pub bounds-marks-file-then-not-marks-file : goal.bounds-marks-file-then-not-marks-file
bounds-marks-file-then-not-marks-file c =
    omega (arith, c.requires (get_or c.args.files.now c.loop-file.file-index 0) (among_at c.args.files.now c.loop-file.file-index 0 c.loop-file-test.true), c.loop-file.invariant.count)

pub loop-file-preserved : goal.loop-file-preserved
loop-file-preserved c =
    let i = c.loop-file.file-index in
    let files = c.args.files.now in
    let file = get_or files i 0 in
    let within : file < length c.loop-file.marks = omega (arith, c.requires file (among_at files i 0 c.loop-file-test.true), c.loop-file.invariant.count) in
    let more : take (i + 1) files ≡ take i files ++ file ∷ [] = take_more files i 0 c.loop-file-test.true in
    record {
      marks =
          subst (λ l. Marks l c.args.marks.now c.if-not-marks-file.marks c.args.waiting.now.items c.if-not-marks-file.waiting.items) (sym more)
          (elim c.if-not-marks-file.branch [
            | then-not-marks-file+in_ok-push w ↦
                let fresh : is_marked c.loop-file.marks file ≡ false = search rules in
                let marks : c.if-not-marks-file.marks ≡ set c.loop-file.marks file true = search rules in
                let waits : c.if-not-marks-file.waiting.items ≡ c.loop-file.waiting.items ++ file ∷ [] = search rules in
                subst (λ m. Marks (take i files ++ file ∷ []) c.args.marks.now m c.args.waiting.now.items c.if-not-marks-file.waiting.items) (sym marks)
                (subst (λ v. Marks (take i files ++ file ∷ []) c.args.marks.now (set c.loop-file.marks file true) c.args.waiting.now.items v) (sym waits)
                (mark_new (take i files) file c.args.marks.now c.loop-file.marks c.args.waiting.now.items c.loop-file.waiting.items c.loop-file.invariant.marks within fresh))
            | else-not-marks-file w ↦
                let known : is_marked c.loop-file.marks file ≡ true = search rules in
                let marks : c.if-not-marks-file.marks ≡ c.loop-file.marks = search rules in
                let waits : c.if-not-marks-file.waiting.items ≡ c.loop-file.waiting.items = search rules in
                subst (λ m. Marks (take i files ++ file ∷ []) c.args.marks.now m c.args.waiting.now.items c.if-not-marks-file.waiting.items) (sym marks)
                (subst (λ v. Marks (take i files ++ file ∷ []) c.args.marks.now c.loop-file.marks c.args.waiting.now.items v) (sym waits)
                (mark_marked (take i files) file c.args.marks.now c.loop-file.marks c.args.waiting.now.items c.loop-file.waiting.items c.loop-file.invariant.marks known))
          ]);
      count = omega arith;
    }
