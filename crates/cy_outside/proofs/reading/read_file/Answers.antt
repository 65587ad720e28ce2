use Rattle.std.proofs.Common.{arith, rules, ◌≡◌, ◌∙◌, ◌≤◌, ◌-◌, ◌<◌, ◌++◌, ◌⊎◌, inl, inr, sym, subst, length, take, ℕ, List, Some}
use Rattle.std.proofs.lemmas.Grind.{common_steps}
use Rattle.std.specs.Prelude.{min}
use Rattle.cy_outside.specs.Files.{Reads, ReadsFront}
use Rattle.cy_outside.specs.declared.tree.Got.TheVariants.{Bytes}
use Rattle.cy_outside.proofs.Fronts.{IsFront, front_more, front_whole, reads_at}
use Rattle.cy_outside.proofs.reading.read_file.Goals as goal
use Rattle.cy_outside.proofs.reading.read_file.Goals.{then-n-room-via-then-n-room, then-n-room-via-else-n-room+then-len-most}

pub returns-then-n-room-clause-file : goal.returns-then-n-room-clause-file
returns-then-n-room-clause-file g c =
    let front = c.pieces.bytes.items in
    let buf = c.read_at.new.buf in
    let n = c.in-Ok-Bytes.n in
    let within : n ≤ length buf = grind (arith, common_steps) in
    let room : length buf ≡ min 8192 (c.args.most - length front) = grind (arith, common_steps) in
    let grown : c.extend_from_slice.new.self.items ≡ front ++ take n buf = grind (arith, common_steps) in
    let reads : Reads (g.T.Tree.files c.args.tree.now) c.args.path.now (length front) buf (Bytes n) =
    reads_at _ _ _ _ _ _ _ _ c.pieces.invariant.files (grind arith) c.in-Ok-Bytes.field-0-is c.in-Ok-Bytes.ensures.reads in
    let over : (n < length buf) ⊎ (length (front ++ take n buf) ≡ c.args.most) = elim c.then-n-room.branch [
      | then-n-room-via-then-n-room w ↦ inl (grind (arith, common_steps, w.if-n-room.true))
      | then-n-room-via-else-n-room+then-len-most w ↦ inr (grind (arith, common_steps))
    ] in
    let whole : ReadsFront (g.T.Tree.files c.args.tree.now) c.args.path.now c.args.most (Some (front ++ take n buf)) =
    front_whole _ _ front buf _ n within c.pieces.invariant.most room c.pieces.invariant.front reads over in
    subst (λ (file : List ℕ). ReadsFront (g.T.Tree.files c.args.tree.now) c.args.path.now c.args.most (Some file)) (sym (c.new.ensures ∙ grown)) whole

pub pieces-preserved : goal.pieces-preserved
pieces-preserved g c =
    let front = c.pieces.bytes.items in
    let buf = c.read_at.new.buf in
    let n = c.in-Ok-Bytes.n in
    let within : n ≤ length buf = grind (arith, common_steps) in
    let grown : c.extend_from_slice.new.self.items ≡ front ++ take n buf = grind (arith, common_steps) in
    let reads : Reads (g.T.Tree.files c.args.tree.now) c.args.path.now (length front) buf (Bytes n) =
    reads_at _ _ _ _ _ _ _ _ c.pieces.invariant.files (grind arith) c.in-Ok-Bytes.field-0-is c.in-Ok-Bytes.ensures.reads in
    record {
      files = search rules;
      faults = search rules;
      calls = grind (arith, common_steps);
      most = grind (arith, common_steps);
      front = subst (λ (file : List ℕ). IsFront (g.T.Tree.files c.args.tree.now) c.args.path.now file) (sym grown)
          (front_more _ _ front buf n within c.pieces.invariant.front reads);
    }
