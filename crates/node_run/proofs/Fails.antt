-- In which requests the tree failed, and how often it was called, from step to step.
use Rattle.std.proofs.Common.{◌≡◌, ◌∙◌, ◌≤◌, ◌<◌, ◌+◌, ◌-◌, ◌^◌, ◌⊎◌, ℕ, Bool, true, false, zero, suc, List, [], ◌∷◌, ◌++◌, Option, inl, inr, refl, sym, ap, subst, arith, append-nil, length-append}
use Rattle.std.proofs.lemmas.Bool.{cases_lt}
use Rattle.std.specs.Prelude.{if◌then◌else◌}
use Rattle.cy_outside.specs.Calls.{one_more}
use Rattle.cy_outside.specs.Files.{Files}
use Rattle.file_service.specs.Causes.{TellsFault}
use Rattle.node_core.specs.Files.{AsksNothing, Tells, is_failed}
use Rattle.report_lines.specs.LineSinks.{put_behind}
use Rattle.node_core.specs.Steps.{Heard, Step, failed_at, failed_lines, ticks_from}
use Rattle.node_core.specs.declared.file_reply.FileReply.{FileReply}
use Rattle.node_core.specs.declared.file_reply.FileReply.TheVariants as reply
use Rattle.node_core.specs.declared.question.Question.{Question}
use Rattle.node_core.specs.declared.question.Question.TheVariants as asks
use Rattle.tail_frame.specs.declared.logged.Record.{Record}
use Rattle.node_run.specs.Failures.{AreFailures, FailsAs, FailsUntold, Failures, HasRisen, TellsFailures, TreeCounts, failures, file_requests, one_if_file}
use Rattle.node_run.proofs.Tells.{put_more, put_none}

-- before the first step
pub failed_none : (told : Option (List ℕ)) (counts : TreeCounts) → AreFailures [] (failures told told counts counts)
failed_none told counts = record {
  tells = record { told = put_none told; rose = inl (omega arith); called = omega arith };
  kept = λ e. refl;
  called = omega arith;
}

risen_later : (lines : List ℕ) (a b c : ℕ) → HasRisen lines a b → b ≤ c → HasRisen lines a c
risen_later lines a b c (inl h) more = inl (omega arith)
risen_later lines a b c (inr h) more = inr (omega arith)

-- a count that rises by one rises, or stands at its end
rises : (b c : ℕ) → c ≡ one_more b → (b < c) ⊎ (c ≡ 2 ^ 64 - 1)
rises b c e = elim (cases_lt b (2 ^ 64 - 1)) as (λ _. (b < c) ⊎ (c ≡ 2 ^ 64 - 1)) [
  | inl l ↦ inl (omega (arith, e, l))
  | inr g ↦ inr (omega (arith, e, g))
]

risen_by : (lines : List ℕ) (line a b c : ℕ) → HasRisen lines a b → (b < c) ⊎ (c ≡ 2 ^ 64 - 1) → HasRisen (lines ++ line ∷ []) a c
risen_by lines line a b c (inl h) (inl k) = let size = length-append lines (line ∷ []) in inl (omega (arith, size, h, k))
risen_by lines line a b c (inl h) (inr k) = inr (omega (arith, k))
risen_by lines line a b c (inr h) (inl k) = inr (omega (arith, h, k))
risen_by lines line a b c (inr h) (inr k) = inr (omega (arith, k))

-- one more request, in which the tree failed or not
risen_next : (lines : List ℕ) (line : ℕ) (failed : Bool) (a b c : ℕ) → HasRisen lines a b → TellsFault failed b c
    → HasRisen (lines ++ (if failed then line ∷ [] else [])) a c
risen_next lines line true a b c h k = risen_by lines line a b c h (rises b c k)
risen_next lines line false a b c h k =
    subst (λ (ls : List ℕ). HasRisen ls a c) (sym (append-nil lines)) (subst (HasRisen lines a) (sym k) h)

none_before : (lines : List ℕ) (line : ℕ) (failed : Bool) (a b c : ℕ) → (lines ≡ [] → b ≡ a) → TellsFault failed b c
    → lines ++ (if failed then line ∷ [] else []) ≡ [] → c ≡ a
none_before [] line true a b c h k e = absurd cc
none_before (l ∷ lines) line true a b c h k e = absurd cc
none_before lines line false a b c h k e = k ∙ h (sym (append-nil lines) ∙ e)

-- how often it was called, behind one more step
calls_next : (past more a b c : ℕ) → b ≤ a + past → c ≤ b + more → c ≤ a + (past + more)
calls_next past more a b c h k = omega (arith, h, k)

calls_broke : (past a b c : ℕ) → b ≤ a + past → c ≤ b + 1 → c ≤ a + past + 1
calls_broke past a b c h k = omega (arith, h, k)

calls_within : (n a b : ℕ) → b ≤ a + n → b ≤ a + n + 1
calls_within n a b h = omega (arith, h)

-- one more step
pub failed_next : (rec : Record) (file : FileReply) (past : List Step) (old mid new : Option (List ℕ)) (a b c : TreeCounts)
    → AreFailures past (failures old mid a b) → FailsAs file (Heard rec file) (failures mid new b c)
    → AreFailures (Heard rec file ∷ past) (failures old new a c)
failed_next rec file past old mid new a b c h f =
    let called = calls_next (file_requests past) (one_if_file file) a.calls b.calls c.calls h.called f.called in record {
      tells = record {
        told = f.told ∙ (ap (λ o. put_behind o (failed_at (Heard rec file))) h.tells.told ∙ put_more old (failed_lines past) (failed_at (Heard rec file)));
        rose = risen_next (failed_lines past) rec.line (is_failed file) a.faults b.faults c.faults h.tells.rose f.cause;
        called = calls_within (file_requests past + one_if_file file) a.calls c.calls called;
      };
      kept = none_before (failed_lines past) rec.line (is_failed file) a.faults b.faults c.faults h.kept f.cause;
      called = called;
    }

-- the same of other steps on whose records it failed, and that answered as many requests of files
pub tells_same : (a b : List Step) (f : Failures) → failed_lines a ≡ failed_lines b → file_requests a ≡ file_requests b → TellsFailures a f → TellsFailures b f
tells_same a b f lines asked h = record {
  told = subst (λ (ls : List ℕ). f.new ≡ put_behind f.old ls) lines h.told;
  rose = subst (λ (ls : List ℕ). HasRisen ls f.before.faults f.now.faults) lines h.rose;
  called = subst (λ (n : ℕ). f.now.calls ≤ f.before.calls + n + 1) asked h.called;
}

pub are_same : (a b : List Step) (f : Failures) → failed_lines a ≡ failed_lines b → file_requests a ≡ file_requests b → AreFailures a f → AreFailures b f
are_same a b f lines asked h = record {
  tells = tells_same a b f lines asked h.tells;
  kept = λ none. h.kept (lines ∙ none);
  called = subst (λ (n : ℕ). f.now.calls ≤ f.before.calls + n) asked h.called;
}

-- in ticks it doesn't fail
pub ticks_fail_not : (first number n : ℕ) (past : List Step) → failed_lines (ticks_from first number n ++ past) ≡ failed_lines past
ticks_fail_not first number zero past = refl
ticks_fail_not first number (suc n) past = append-nil (failed_lines (ticks_from first number n ++ past)) ∙ ticks_fail_not first number n past

-- and in none a file is asked for
none_more : (n m : ℕ) → n ≡ m → n + 0 ≡ m
none_more n m e = omega (arith, e)

pub ticks_ask_not : (first number n : ℕ) (past : List Step) → file_requests (ticks_from first number n ++ past) ≡ file_requests past
ticks_ask_not first number zero past = refl
ticks_ask_not first number (suc n) past = none_more (file_requests (ticks_from first number n ++ past)) (file_requests past) (ticks_ask_not first number n past)

-- where no more is told
pub failed_stay : (all : List Step) (old mid new : Option (List ℕ)) (a b : TreeCounts) → new ≡ mid → AreFailures all (failures old mid a b) → AreFailures all (failures old new a b)
failed_stay all old mid new a b e h = subst (λ o. AreFailures all (failures old o a b)) (sym e) h

-- where a step breaks off
pub failed_broke : (past : List Step) (old mid new : Option (List ℕ)) (a b c : TreeCounts)
    → AreFailures past (failures old mid a b) → FailsUntold (failures mid new b c)
    → TellsFailures past (failures old new a c)
failed_broke past old mid new a b c h u = record {
  told = u.told ∙ h.tells.told;
  rose = risen_later (failed_lines past) a.faults b.faults c.faults h.tells.rose u.count;
  called = calls_broke (file_requests past) a.calls b.calls c.calls h.called u.called;
}

-- so many ticks later
pub tells_later : (first number n : ℕ) (past : List Step) (f : Failures) → TellsFailures past f → TellsFailures (ticks_from first number n ++ past) f
tells_later first number n past f = tells_same past (ticks_from first number n ++ past) f (sym (ticks_fail_not first number n past)) (sym (ticks_ask_not first number n past))

-- Where the tree told nothing of a file, nothing is asked of it.
asks_none : (told : Option Files) (root : List ℕ) (question : Question) → Tells told root question reply.NoFile → AsksNothing root question
asks_none told root (asks.FileInfo request) h = absurd h
asks_none told root (asks.FileName request) h = absurd h
asks_none told root (asks.FileBytes request) h = absurd h
asks_none told root asks.Info h = tt
asks_none told root (asks.Access request) h = tt
asks_none told root (asks.Listing request) h = tt
asks_none told root asks.Unsupported h = tt

-- so it is called once at most for a request of a file, and for no other
pub calls_for : (told : Option Files) (root : List ℕ) (question : Question) (file : FileReply) (old new : ℕ) → Tells told root question file → (AsksNothing root question → new ≡ old) → new ≤ old + 1 → new ≤ old + one_if_file file
calls_for told root question reply.NoFile old new tells none most = let same = none (asks_none told root question tells) in omega (arith, same)
calls_for told root question (reply.Info it) old new tells none most = most
calls_for told root question (reply.Name it) old new tells none most = most
calls_for told root question (reply.Bytes it) old new tells none most = most
