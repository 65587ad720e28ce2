use Rattle.std.proofs.Common.{◌≡◌, ◌≤◌, ◌∙◌, ◌+◌, ◌++◌, ◌∷◌, sym, ap, subst, length, arith, string_bytes, true, false}
use Rattle.dsdl_files.specs.Folders.{is_dsdl}
use Rattle.dsdl_files.specs.Steps.{is_subfolder, is_dsdl_member}
use Rattle.dsdl_files.proofs.Adding.{Added, adds_more, adds_same, subfolder, no_subfolder, dsdl_member, other_member, folder_member}
use Rattle.dsdl_files.proofs.found.Found.add.Goals as goal
use Rattle.dsdl_files.proofs.found.Found.add.Goals.{then-member+in_ok-insert, else-member+then-is_dsdl+in_ok-insert-2, else-member+else-is_dsdl}

pub loop-member-preserved : goal.loop-member-preserved
loop-member-preserved c =
    let folder = c.args.folder.now in
    let members = c.as_slice-member-items.result.now in
    let i = c.loop-member.member-index in
    let m = c.member-item.result in
    let old = c.args.self.now in
    let now = c.loop-member.self in
    let path = string_bytes c.in_ok-path.path in
    let before = c.loop-member.invariant in
    let l = c.loop-member-test.true in
    let named : path ≡ folder ++ 47 ∷ m.name = c.in_ok-path.ensures ∙ ap (λ n. folder ++ 47 ∷ n) c.as_str.ensures in
    elim c.if-member.branch [
      | then-member+in_ok-insert w ↦
          let grown : length w.insert.new.self ≤ length now.folders + 1 = w.in_ok-insert.ensures.len in
          subst (Added folder members (i + 1) old) (sym w.self-is) (record {
            room = before.room;
            folders = adds_more (is_subfolder folder) members i m old.folders now.folders _ path l c.member-item.is before.folders w.in_ok-insert.ensures.paths
                (subfolder folder path m w.if-member.true named);
            files = adds_same (is_dsdl_member folder) members i m old.files now.files l c.member-item.is before.files (folder_member folder m w.if-member.true);
            len = omega (arith, grown, before.len);
          })
      | else-member+then-is_dsdl+in_ok-insert-2 w ↦
          let tested : is_dsdl path ≡ true = ap is_dsdl (sym w.deref.ensures) ∙ sym w.is_dsdl.ensures ∙ w.if-is_dsdl.true in
          subst (Added folder members (i + 1) old) (sym w.self-is) (record {
            room = before.room;
            folders = adds_same (is_subfolder folder) members i m old.folders now.folders l c.member-item.is before.folders (no_subfolder folder m w.if-member.false);
            files = adds_more (is_dsdl_member folder) members i m old.files now.files _ path l c.member-item.is before.files w.in_ok-insert-2.ensures.paths
                (dsdl_member folder path m w.if-member.false named tested);
            len = omega (arith, before.len);
          })
      | else-member+else-is_dsdl w ↦
          let tested : is_dsdl path ≡ false = ap is_dsdl (sym w.deref.ensures) ∙ sym w.is_dsdl.ensures ∙ w.if-is_dsdl.false in
          subst (Added folder members (i + 1) old) (sym w.self-is) (record {
            room = before.room;
            folders = adds_same (is_subfolder folder) members i m old.folders now.folders l c.member-item.is before.folders (no_subfolder folder m w.if-member.false);
            files = adds_same (is_dsdl_member folder) members i m old.files now.files l c.member-item.is before.files (other_member folder path m w.if-member.false named tested);
            len = omega (arith, before.len);
          })
    ]
