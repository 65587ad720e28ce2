-- How many bytes of a text count.
use Rattle.std.specs.Prelude.{ℕ, zero, suc, ◌+◌, ◌^◌, ◌==◌, ◌||◌, Bool, true, false, List, [], ◌∷◌}
use Rattle.std.specs.Prelude.{◌++◌, Option, Some, None, if◌then◌else◌, codes, take}
use Rattle.std.specs.Str.{bytes_eq}

-- whether a line begins here that is `plan 2`
abbrev pub is_plan_two : List ℕ → Bool
is_plan_two s =
    bytes_eq (take 7 s) (codes "plan 2") || bytes_eq (take 7 s) (codes "plan 2" ++ 10 ∷ [])

-- whether a comment goes on behind this byte of a skipped line; nothing where the line isn't
-- skipped
abbrev pub skips : Bool → ℕ → Option Bool
skips comment b = if b == 10 then Some false
    else (if comment || (b == 35) then Some true else None)

-- Whether, of the lines that begin among so many bytes, the first that isn't skipped is `plan 2`;
-- a text may begin with the rest of a comment.
unfoldable pub begins_two : Bool → ℕ → List ℕ → Bool
begins_two comment zero s = false
begins_two comment (suc n) [] = false
begins_two comment (suc n) (b ∷ s) = if b == 10 then begins_two false n s
    else (if comment || (b == 35) then begins_two true n s else is_plan_two (b ∷ s))

-- whether a text is one of version 2
abbrev pub is_version_two : List ℕ → Bool
is_version_two text = begins_two false (2 ^ 20) text

-- the greatest number of bytes of a plan's text
abbrev pub limit_of : List ℕ → ℕ
limit_of text = if is_version_two text then 2 ^ 20 + 32 else 2 ^ 20
