-- What stands while files are read: how often the tree was called, and that none was too big.
use Rattle.std.proofs.Common.{◌≡◌, ◌∙◌, ℕ, ◌+◌, ◌-◌, ◌<◌, ◌≤◌, Bool, true, false, cond, ◌||◌, List, ◌∷◌, map, take, Option, Some, None, sym, ap, subst, drop, drop-cons, add-one, get_or, length, arith}
use Rattle.std.proofs.lemmas.Bool.{le-ltb}
use Rattle.std.proofs.lemmas.Grind.{common_steps}
use Rattle.std.proofs.lemmas.List.Sums.{sum_by-cons}
use Rattle.std.specs.Prelude.{IfSome, min, ◌==◌}
use Rattle.cy_outside.specs.Files.{Files, bytes_at, front_length, reads_of}
use Rattle.dsdl_files.specs.Folders.{dsdl_file, first_too_big, reads_within}
use Rattle.dsdl_files.specs.Steps.{ReadsAt}
use Rattle.dsdl_files.specs.declared.file.DsdlFile.{DsdlFile}

-- with the reads that are still to come at most as often as all files take, where they are told
abbrev pub ToldReads : Option Files → ℕ → List (List ℕ) → List (List ℕ) → ℕ → ℕ → Type 0
ToldReads told most rest paths calls old = IfSome told (λ files. calls + reads_within most files rest ≤ old + reads_within most files paths)

-- one of them is read
read_first : (told : Option Files) (path : List ℕ) (rest paths : List (List ℕ)) (most calls next old : ℕ) → ToldReads told most (path ∷ rest) paths calls old
    → next ≤ calls + reads_of (front_length told path most) → ToldReads told most rest paths next old
read_first None path rest paths most calls next old c l = tt
read_first (Some files) path rest paths most calls next old c l =
    let e : reads_within most files (path ∷ rest) ≡ reads_of (min most (length (bytes_at files path))) + reads_within most files rest =
    sum_by-cons (λ p. reads_of (min most (length (bytes_at files p)))) path rest in
    omega (arith, c, l, e)

-- the items from a place on begin with the one there
from_place : (path : List ℕ) (items paths : List (List ℕ)) (i : ℕ) → items ≡ paths → i < length items → path ≡ get_or items i path → drop i paths ≡ path ∷ drop (i + 1) paths
from_place path items paths i e l is =
    subst (λ (ps : List (List ℕ)). drop i ps ≡ path ∷ drop (i + 1) ps) e
    (drop-cons items i path l ∙ ap (λ k. get_or items i path ∷ drop k items) (sym (add-one i)) ∙ ap (λ p. p ∷ drop (i + 1) items) (sym is))

-- the next of them is read
pub read_next : (told here : Option Files) (path name : List ℕ) (items paths : List (List ℕ)) (i most calls next old : ℕ) → items ≡ paths → i < length items
    → path ≡ get_or items i path → name ≡ path → here ≡ told → ToldReads told most (drop i paths) paths calls old
    → next ≤ calls + reads_of (front_length here name most) → ToldReads told most (drop (i + 1) paths) paths next old
read_next told here path name items paths i most calls next old e l is same told_here c r =
    let first : drop i paths ≡ path ∷ drop (i + 1) paths = from_place path items paths i e l is in
    read_first told path (drop (i + 1) paths) paths most calls next old
    (subst (λ ps. ToldReads told most ps paths calls old) first c)
    (subst (λ p. next ≤ calls + reads_of (front_length told p most)) same (subst (λ t. next ≤ calls + reads_of (front_length t name most)) told_here r))

-- ---- none was too big

or_none : (a b : Bool) → a ≡ false → b ≡ false → (a || b) ≡ false
or_none true b p q = p
or_none false b p q = q

none_too_big : (k most : ℕ) (file : DsdlFile) (rest : List DsdlFile) → (k == 0) ≡ false → length file.text ≤ most
    → first_too_big k most (file ∷ rest) ≡ first_too_big (k - 1) most rest
none_too_big k most file rest z l =
    ap (λ b. cond b (Some file.path) (first_too_big (k - 1) most rest)) (or_none (k == 0) _ z (le-ltb most (length file.text) l))

not_zero : (k : ℕ) → 0 < k → (k == 0) ≡ false
not_zero k l = grind (arith, common_steps)

whole_small : (text whole : List ℕ) (most : ℕ) → text ≡ take (most + 1) whole → length text ≤ most → length whole ≤ most
whole_small text whole most e l =
    let k : length text ≡ length (take (most + 1) whole) = ap length e in
    grind (arith, common_steps)

-- how many files there may be, and how many bytes one may have
abbrev pub ToldRest : Option Files → List ℕ → ℕ → ℕ → ℕ → List (List ℕ) → List (List ℕ) → Type 0
ToldRest told root left count most rest paths =
    IfSome told (λ files. first_too_big left most (map (dsdl_file files root) rest) ≡ first_too_big count most (map (dsdl_file files root) paths))

rest_first : (told : Option Files) (root path : List ℕ) (text : List ℕ) (rest paths : List (List ℕ)) (left next count most : ℕ) → 0 < left → left - 1 ≡ next
    → ReadsAt told path (most + 1) text → length text ≤ most → ToldRest told root left count most (path ∷ rest) paths → ToldRest told root next count most rest paths
rest_first None root path text rest paths left next count most l e r s h = tt
rest_first (Some files) root path text rest paths left next count most l e r s h =
    ap (λ n. first_too_big n most (map (dsdl_file files root) rest)) (sym e)
    ∙ sym (none_too_big left most (dsdl_file files root path) (map (dsdl_file files root) rest) (not_zero left l) (whole_small text (bytes_at files path) most r s)) ∙ h

-- the next file is none either
pub rest_next : (told here : Option Files) (root path name text : List ℕ) (items paths : List (List ℕ)) (i count most : ℕ) → items ≡ paths → i < length items
    → path ≡ get_or items i path → name ≡ path → here ≡ told → i < count → ReadsAt here name (most + 1) text → length text ≤ most
    → ToldRest told root (count - i) count most (drop i paths) paths → ToldRest told root (count - (i + 1)) count most (drop (i + 1) paths) paths
rest_next told here root path name text items paths i count most e l is same told_here room r small h =
    let first : drop i paths ≡ path ∷ drop (i + 1) paths = from_place path items paths i e l is in
    rest_first told root path text (drop (i + 1) paths) paths (count - i) (count - (i + 1)) count most (omega (arith, room)) (omega (arith, room))
    (subst (λ p. ReadsAt told p (most + 1) text) same (subst (λ t. ReadsAt t name (most + 1) text) told_here r)) small
    (subst (λ ps. ToldRest told root (count - i) count most ps paths) first h)
