-- What a listener that brings lines into order does with a line.
use Rattle.std.proofs.Common.{◌≡◌, ◌∙◌, ◌+◌, ◌-◌, ◌<◌, ◌≤◌, ℕ, false, List, [], ◌∷◌, ◌++◌, length, Some, None, sym, ap, subst, append_assoc, append-nil, arith}
use Rattle.std.specs.Prelude.{max, nat_lt}
use Rattle.std.specs.List.{filter}
use Rattle.std.proofs.lemmas.Bool.Decides.{nat_tests}
use Rattle.line_loop.specs.Heard.{IsHeard}
use Rattle.line_order.specs.Answers.{Answers, AreLast, bad_line, refusal_by, refusal_of, too_late, written}
use Rattle.line_order.specs.Form.{Said, NoForm, Nothing, Line, said_of}
use Rattle.line_order.specs.Held.{AreBelow, AreDue, HasTaken, Holds, IsSound, Releases, first_due, held_of}
use Rattle.line_order.specs.Moments.{Rises}
use Rattle.line_order.specs.Order.{Entry, entry, entries_of, greatest, put, ordered, is_due, due, texts, with_said}
use Rattle.line_order.specs.declared.orderer.Orderer.{Orderer}
use Rattle.line_order.specs.declared.window.Window.{Window}
use Rattle.line_order.proofs.Lists.{yes, no, below_behind, below_ordered, due_later, due_up_to, filter_due, filter_front, filter_none, put_behind, rises_behind, rises_ordered, texts_append}
use Rattle.line_order.proofs.SortedLemmas.{entries_below}

-- One entry more.
module _ (window : ℕ) (es : List Entry) (e : Entry) (held rest gone : List Entry) (parts : ordered es ≡ due window es ++ held) (timely : greatest es ≤ e.moment + window) (put_parts : put e held ≡ gone ++ rest)
    (all_due : AreDue window (greatest (e ∷ es)) gone) (none : first_due window (greatest (e ∷ es)) rest ≡ false) where
  in_order : ordered (e ∷ es) ≡ due window es ++ (gone ++ rest)
  in_order =
      ap (λ (l : List Entry). put e l) parts
      ∙ (put_behind e (due window es) held (due_up_to window (greatest es) e.moment (due window es) timely (filter_due window (greatest es) (ordered es)))
      ∙ ap (λ (l : List Entry). due window es ++ l) put_parts)

  rest_rises : Rises rest
  rest_rises = rises_behind gone rest (rises_behind (due window es) (gone ++ rest) (subst (λ (l : List Entry). Rises l) in_order (rises_ordered (e ∷ es))))

  pub due_more : due window (e ∷ es) ≡ due window es ++ gone
  due_more =
      let latest = greatest (e ∷ es) in
      ap (λ (l : List Entry). filter (is_due window latest) l) in_order
      ∙ (filter_front window latest (due window es) (gone ++ rest) (due_later window (greatest es) latest (due window es) (omega arith) (filter_due window (greatest es) (ordered es)))
      ∙ (ap (λ (l : List Entry). due window es ++ l) (filter_front window latest gone rest all_due)
      ∙ (ap (λ (l : List Entry). due window es ++ (gone ++ l)) (filter_none window latest rest rest_rises none)
      ∙ ap (λ (l : List Entry). due window es ++ l) (append-nil gone))))

  pub parts_more : ordered (e ∷ es) ≡ due window (e ∷ es) ++ rest
  parts_more = in_order ∙ (sym (append_assoc (due window es) gone rest) ∙ ap (λ (l : List Entry). l ++ rest) (sym due_more))

-- the same lines but for empty ones
taken_same : (window : ℕ) (held : Window) (past : List (List ℕ)) (es : List Entry) → entries_of past ≡ es → held.latest ≡ greatest es → ordered es ≡ due window es ++ held_of held → IsSound held → Holds window held past
taken_same window held past es e l p sound = record {
  latest = subst (λ (x : List Entry). held.latest ≡ greatest x) (sym e) l;
  parts = subst (λ (x : List Entry). ordered x ≡ due window x ++ held_of held) (sym e) p;
  sound = sound;
}

module _ (first old : Orderer) (past : List (List ℕ)) (h : HasTaken first old past) (line : List ℕ) where
  -- what is held has lower numbers than the line
  pub held_below : AreBelow (length past + 1) (held_of old.held)
  held_below =
      below_behind (length past + 1) (due first.window (entries_of past)) (held_of old.held)
      (subst (λ (l : List Entry). AreBelow (length past + 1) l) h.1.parts (below_ordered (length past + 1) (entries_of past) (entries_below past)))

  -- an empty line
  module _ (said : said_of line ≡ Nothing) where
    same : entries_of (line ∷ past) ≡ entries_of past
    same = ap (λ (s : Said). with_said (length past + 1) s (entries_of past)) said

    pub nothing_taken : HasTaken first old (line ∷ past)
    nothing_taken = (h.0, taken_same first.window old.held (line ∷ past) (entries_of past) same h.1.latest h.1.parts h.1.sound)

    pub nothing_heard : (gathered : List ℕ) → IsHeard (Answers first.window past line) gathered gathered
    nothing_heard gathered = (
      [],
      (
        ap (λ (s : Said). refusal_by first.window (entries_of past) (length past + 1) s) said,
        ap (λ (es : List Entry). texts (due first.window es)) same ∙ sym (append-nil (written first.window past)),
      ),
      sym (append-nil gathered),
    )

  -- a line without a form
  pub no_form : said_of line ≡ NoForm → (n : ℕ) → n ≡ length past + 1 → refusal_of first.window past line ≡ Some (bad_line n)
  no_form said n e = ap (λ (s : Said). refusal_by first.window (entries_of past) (length past + 1) s) said ∙ ap (λ m. Some (bad_line m)) (sym e)

  -- a line of a log
  module _ (moment : ℕ) (text : List ℕ) (said : said_of line ≡ Line moment text) where
    pub late_refused : (n : ℕ) → n ≡ length past + 1 → moment < old.held.latest - old.window → refusal_of first.window past line ≡ Some (too_late n)
    late_refused n e late =
        let less : moment + first.window < greatest (entries_of past) = omega (arith, late, h.1.latest, h.0) in
        ap (λ (s : Said). refusal_by first.window (entries_of past) (length past + 1) s) said
        ∙ (yes (nat_lt (moment + first.window) (greatest (entries_of past))) (Some (too_late (length past + 1))) None (grind (arith, nat_tests, less)) ∙ ap (λ m. Some (too_late m)) (sym e))

    in_time : old.held.latest - old.window ≤ moment → greatest (entries_of past) ≤ moment + first.window
    in_time timely = omega (arith, timely, h.1.latest, h.0)

    pub not_refused : old.held.latest - old.window ≤ moment → refusal_of first.window past line ≡ None
    not_refused timely =
        ap (λ (s : Said). refusal_by first.window (entries_of past) (length past + 1) s) said
        ∙ no (nat_lt (moment + first.window) (greatest (entries_of past))) (Some (too_late (length past + 1))) None (grind (arith, nat_tests, in_time timely))

    module _ (new : Orderer) (n : ℕ) (number : n ≡ length past + 1) (mid : List Entry) (before after : List ℕ) (timely : old.held.latest - old.window ≤ moment) (window : new.window ≡ old.window) (latest : new.held.latest ≡ max old.held.latest moment)
        (put_mid : mid ≡ put (entry moment n text) (held_of old.held)) (released : Releases old.window new.held.latest mid (held_of new.held) before after) (none : first_due old.window new.held.latest (held_of new.held) ≡ false) (sound : IsSound new.held) where
      abbrev e : Entry
      e = entry moment (length past + 1) text

      abbrev es : List Entry
      es = entries_of past

      one_more : entries_of (line ∷ past) ≡ e ∷ es
      one_more = ap (λ (s : Said). with_said (length past + 1) s es) said

      greatest_new : new.held.latest ≡ greatest (e ∷ es)
      greatest_new = latest ∙ ap (λ m. max m moment) h.1.latest

      put_parts : put e (held_of old.held) ≡ released.gone ++ held_of new.held
      put_parts = sym (put_mid ∙ ap (λ m. put (entry moment m text) (held_of old.held)) number) ∙ released.parts

      all_due : AreDue first.window (greatest (e ∷ es)) released.gone
      all_due = subst (λ w. AreDue w (greatest (e ∷ es)) released.gone) h.0 (subst (λ l. AreDue old.window l released.gone) greatest_new released.all_due)

      none_due : first_due first.window (greatest (e ∷ es)) (held_of new.held) ≡ false
      none_due = subst (λ w. first_due w (greatest (e ∷ es)) (held_of new.held) ≡ false) h.0 (subst (λ l. first_due old.window l (held_of new.held) ≡ false) greatest_new none)

      pub line_taken : HasTaken first new (line ∷ past)
      line_taken = (
        window ∙ h.0,
        taken_same first.window new.held (line ∷ past) (e ∷ es) one_more greatest_new
            (parts_more first.window es e (held_of old.held) (held_of new.held) released.gone h.1.parts (in_time timely) put_parts all_due none_due) sound,
      )

      pub line_heard : IsHeard (Answers first.window past line) before after
      line_heard = (
        texts released.gone,
        (
          not_refused timely,
          ap (λ (l : List Entry). texts (due first.window l)) one_more
              ∙ (ap (λ (l : List Entry). texts l) (due_more first.window es e (held_of old.held) (held_of new.held) released.gone h.1.parts (in_time timely) put_parts all_due none_due)
              ∙ texts_append (due first.window es) released.gone),
        ),
        released.text,
      )

-- the last words
pub last_words : (first now : Orderer) (past : List (List ℕ)) → HasTaken first now past → AreLast first.window past (texts (held_of now.held))
last_words first now past h = ap (λ (l : List Entry). texts l) h.1.parts ∙ texts_append (due first.window (entries_of past)) (held_of now.held)
