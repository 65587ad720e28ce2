-- What is said to a whole input.
use Rattle.std.proofs.Common.{◌≡◌, ◌∙◌, ◌+◌, ◌<◌, ℕ, Bool, true, false, List, [], ◌∷◌, ◌++◌, length, Option, Some, None, Result, Ok, Err, refl, sym, ap, subst, append_assoc, append-nil, arith}
use Rattle.std.specs.Prelude.{MatchBool, nat_lt}
use mathlib.Core.List.{reverse_aux}
use Rattle.std.proofs.lemmas.Bool.Decides.{nat_tests}
use Rattle.std.proofs.lemmas.List.{append_cancel_left}
use Rattle.frame_log.specs.declared.error.LogWhy.TheVariants as why
use Rattle.line_loop.specs.Gone.{HasGone}
use Rattle.line_loop.specs.Input.{IsTaken}
use Rattle.line_loop.specs.Reply.{AreAnswered, AreEnded, HasOneAnswer, IsReply, heard_lines, newest_first}
use Rattle.line_loop.specs.declared.ended.LinesEnded.TheVariants as end
use Rattle.line_order.specs.Answers.{Answers, all_written, bad_line, bounds, order_voice, refusal_by, refusal_of, too_late, written}
use Rattle.line_order.specs.Form.{Said, NoForm, Nothing, Line, said_of}
use Rattle.line_order.specs.Order.{Entry, entries_of, greatest, ordered, texts}
use Rattle.line_order.specs.Sorted.{AreInOrder, AreTimely, HasSorted, IsLate, IsOrdered, entries_in, oldest_first}
use Rattle.line_order.specs.declared.refusal.Refusal.{Refusal}
use Rattle.line_order.proofs.Lists.{yes, no}
use Rattle.line_order.proofs.SortedLemmas.{order_of, ordered_kept}

-- a line that is answered isn't too long
in_bounds : (long : Bool) (text : List ℕ) (refusal : Refusal) (P : Type 0) → MatchBool long (Ok text ≡ Err refusal) P → P
in_bounds true text refusal P h = absurd cc
in_bounds false text refusal P h = h

module _ (window : ℕ) where
  -- the answers are what is written more
  pub all_answered : (past lines : List (List ℕ)) (text : List ℕ) → AreAnswered (order_voice window) past lines text → written window (reverse_aux lines past) ≡ written window past ++ text
  all_answered past [] text a = sym (ap (λ (t : List ℕ). written window past ++ t) a ∙ append-nil (written window past))
  all_answered past (line ∷ lines) text a =
      let here = in_bounds (nat_lt 4096 (length line)) a.0 (bad_line (length past + 1)) (Answers window past line (Ok a.0)) a.2 in
      all_answered (line ∷ past) lines a.1 a.3
      ∙ (ap (λ (t : List ℕ). t ++ a.1) here.1
      ∙ (append_assoc (written window past) a.0 a.1 ∙ ap (λ (t : List ℕ). written window past ++ t) (sym a.4)))

  pub all_said : (lines : List (List ℕ)) (text : List ℕ) → AreEnded (order_voice window) lines text → text ≡ all_written (newest_first lines)
  all_said lines text h = sym (h.last ∙ (ap (λ (t : List ℕ). t ++ h.words) (all_answered [] lines h.answers h.answered) ∙ sym h.parts))

  pub said_sorted : (bytes text : List ℕ) → IsReply (order_voice window) bytes text end.Ok → IsOrdered bytes text
  said_sorted bytes text r =
      let past = newest_first (heard_lines bounds bytes) in record {
        list = ordered (entries_of past);
        order = order_of past;
        texts = all_said (heard_lines bounds bytes) text r.1;
      }

  pub said_kept : (bytes text : List ℕ) → IsReply (order_voice window) bytes text end.Ok → AreInOrder (entries_in bytes) → text ≡ texts (oldest_first (entries_in bytes))
  said_kept bytes text r h = all_said (heard_lines bounds bytes) text r.1 ∙ ap (λ (l : List Entry). texts l) (ordered_kept (entries_in bytes) h)

  pub not_late : (past before behind : List (List ℕ)) (line text : List ℕ) → AreAnswered (order_voice window) past (before ++ (line ∷ behind)) text → refusal_of window (reverse_aux before past) line ≡ None
  not_late past [] behind line text a = (in_bounds (nat_lt 4096 (length line)) a.0 (bad_line (length past + 1)) (Answers window past line (Ok a.0)) a.2).0
  not_late past (first ∷ before) behind line text a = not_late (first ∷ past) before behind line a.1 a.3

  pub said_timely : (bytes text : List ℕ) → IsReply (order_voice window) bytes text end.Ok → AreTimely window (heard_lines bounds bytes)
  said_timely bytes text r before behind line e =
      not_late [] before behind line r.1.answers (subst (λ (ls : List (List ℕ)). AreAnswered (order_voice window) [] ls r.1.answers) e r.1.answered)

  -- Lines that are late.

  some_is : (a b : Refusal) → Some a ≡ Some b → a ≡ b
  some_is a b h = cc

  apart : {n : ℕ} → bad_line n ≡ too_late n → ⊥
  apart h = let same : why.BadLine ≡ why.TimeBack = ap (λ (r : Refusal). r.why) h in absurd cc

  by_said : (past : List (List ℕ)) (s : Said) → refusal_by window (entries_of past) (length past + 1) s ≡ Some (too_late (length past + 1)) → (moment : ℕ) × (text : List ℕ) × (s ≡ Line moment text) × (moment + window < greatest (entries_of past))
  by_said past NoForm h = absurd (apart (some_is (bad_line (length past + 1)) (too_late (length past + 1)) h))
  by_said past Nothing h = absurd cc
  by_said past (Line moment text) h = either (nat_lt (moment + window) (greatest (entries_of past))) refl
    where
      either : (t : Bool) → nat_lt (moment + window) (greatest (entries_of past)) ≡ t → (m : ℕ) × (u : List ℕ) × (Line moment text ≡ Line m u) × (m + window < greatest (entries_of past))
      either true t = (moment, text, refl, grind (arith, nat_tests, t))
      either false t =
          let none = sym (no (nat_lt (moment + window) (greatest (entries_of past))) (Some (too_late (length past + 1))) None t) ∙ h in absurd cc

  pub late_if : (past : List (List ℕ)) (line : List ℕ) → refusal_of window past line ≡ Some (too_late (length past + 1)) → IsLate window past line
  late_if past line h = by_said past (said_of line) h

  pub late_then : (past : List (List ℕ)) (line : List ℕ) → IsLate window past line → refusal_of window past line ≡ Some (too_late (length past + 1))
  late_then past line h =
      ap (λ (s : Said). refusal_by window (entries_of past) (length past + 1) s) h.2
      ∙ yes (nat_lt (h.0 + window) (greatest (entries_of past))) (Some (too_late (length past + 1))) None (grind (arith, nat_tests, h.3))

  -- One answer.

  one_of : (past : List (List ℕ)) (line : List ℕ) (a b : Result (List ℕ) Refusal) → Answers window past line a → Answers window past line b → a ≡ b
  one_of past line (Ok t) (Ok u) x y = ap Ok (append_cancel_left (written window past) t u (sym x.1 ∙ y.1))
  one_of past line (Ok t) (Err r) x y = let never = sym x.0 ∙ y in absurd cc
  one_of past line (Err r) (Ok u) x y = let never = sym y.0 ∙ x in absurd cc
  one_of past line (Err r) (Err q) x y = let same = sym x ∙ y in cc

  pub one_answer : HasOneAnswer (order_voice window)
  one_answer = record {
    answer = one_of;
    last = λ past a b x y. append_cancel_left (written window past) a b (sym x ∙ y);
  }

  -- What is written.

  pub gone_sorted : (left new before after : Option (List ℕ)) → HasGone (order_voice window) left new end.Ok before after → HasSorted left new before after
  gone_sorted left new before after g = record {
    bytes = g.taken;
    told = subst (λ (rest : List ℕ). IsTaken left new g.taken rest) g.gone.0 g.told;
    text = g.gone.1.text;
    sorted = said_sorted g.taken g.gone.1.text g.gone.1.reply;
    written = g.gone.1.written;
  }
