-- How often the tree was called, from what each step says of it.
use Rattle.std.proofs.Common.{◌≡◌, ℕ, ◌+◌, ◌≤◌, List, Option, Some, None, refl, sym, subst, length, arith}
use Rattle.std.specs.Prelude.{min}
use Rattle.cy_outside.specs.Files.{Files, bytes_at, front_length, reads_of}
use Rattle.node_run.specs.Loaded.{calls_of}
use Rattle.cyphal.specs.Job.{CallsAtMost}
use Rattle.cyphal.specs.Plans.{plan_calls}
use Rattle.cyphal.specs.Words.{asked_by}
use Rattle.cyphal.specs.jobs.{job_of}
use Rattle.cyphal.specs.jobs.Changes.{calls_of_both}
use Rattle.cyphal.specs.declared.words.Accepted.{Accepted}

-- no call was made
pub no_calls : (most : Files → ℕ) (told : Option Files) (calls : ℕ) → CallsAtMost most told calls calls
no_calls most None calls = tt
no_calls most (Some files) calls = omega arith

-- the namespace of the root is all that was asked for
pub root_calls : (root path : List ℕ) (told : Option Files) (old new : ℕ) → CallsAtMost (calls_of root) told old new → CallsAtMost (plan_calls root path) told old new
root_calls root path None old new c = tt
root_calls root path (Some files) old new c = omega (arith, c)

-- the namespace of one folder is all that was asked for
pub first_calls : (old new : List ℕ) (told : Option Files) (before after : ℕ) → CallsAtMost (calls_of old) told before after
    → CallsAtMost (calls_of_both old new) told before after
first_calls old new None before after c = tt
first_calls old new (Some files) before after c = omega (arith, c)

-- and then that of another one
pub both_calls : (old new : List ℕ) (told there : Option Files) (before loaded after : ℕ) → there ≡ told → CallsAtMost (calls_of old) told before loaded
    → CallsAtMost (calls_of new) there loaded after → CallsAtMost (calls_of_both old new) told before after
both_calls old new told there before loaded after e c d = by_told told c (subst (λ t. CallsAtMost (calls_of new) t loaded after) e d)
  where
    by_told : (t : Option Files) → CallsAtMost (calls_of old) t before loaded → CallsAtMost (calls_of new) t loaded after
        → CallsAtMost (calls_of_both old new) t before after
    by_told None c d = tt
    by_told (Some files) c d = omega (arith, c, d)

-- the namespace of the root, and then the text at the path
pub text_calls : (root path : List ℕ) (told there : Option Files) (old loaded new : ℕ) → there ≡ told → CallsAtMost (calls_of root) told old loaded
    → new ≤ loaded + reads_of (front_length there path 1048609) → CallsAtMost (plan_calls root path) told old new
text_calls root path told there old loaded new e c l =
    by_told told c (subst (λ t. new ≤ loaded + reads_of (front_length t path 1048609)) e l)
  where
    by_told : (t : Option Files) → CallsAtMost (calls_of root) t old loaded → new ≤ loaded + reads_of (front_length t path 1048609) → CallsAtMost (plan_calls root path) t old new
    by_told None c l = tt
    by_told (Some files) c l =
        let same : plan_calls root path files ≡ calls_of root files + reads_of (min 1048609 (length (bytes_at files path))) = refl in
        omega (arith, c, l, same)

-- the calls of the command that is given
pub given_calls : (given command : Accepted) (told : Option Files) (old new : ℕ) → given ≡ command
    → CallsAtMost (job_of (asked_by command)).needs told old new → CallsAtMost (job_of (asked_by given)).needs told old new
given_calls given command told old new e = subst (λ (g : Accepted). CallsAtMost (job_of (asked_by g)).needs told old new) (sym e)
