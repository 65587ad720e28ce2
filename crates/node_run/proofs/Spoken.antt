-- What a run said on what it met, in a form, and what is written of that.
use Rattle.std.proofs.Common.{◌≡◌, ◌∙◌, inl, inr, ℕ, List, length, [], ◌∷◌, ◌++◌, Option, Some, None, drop, map, refl, sym, ap, ap₂, subst, append_assoc, append-nil, length-append, arith}
use Rattle.std.specs.Prelude.{unwrap_or}
use Rattle.std.proofs.Math.Seq.{drop-append_seam}
use Rattle.std.proofs.lemmas.List.{length-map, map-append}
use Rattle.std.proofs.lemmas.Simd.{map-map}
use Rattle.cy_outside.specs.Files.{Files}
use Rattle.cy_outside.specs.Written.{behind, Begins}
use Rattle.frame_log.specs.declared.error.LogError.{LogError}
use Rattle.log_loop.specs.Gone.{FirstOf}
use Rattle.log_loop.specs.Streamed.{HasWritten}
use Rattle.log_loop.specs.Voice.{MayCome, Voice, said, whole_text as all_said}
use Rattle.node_plan.specs.declared.plan.Plan.{Plan}
use Rattle.report_lines.specs.declared.line.Line.{Line}
use Rattle.node_core.specs.Steps.{Met, Step, emptying, end_numbers, lines, lines_behind, lines_on, met_records, new_steps, steps}
use Rattle.node_core.specs.Types.{type_on}
use Rattle.node_run.specs.Forms.{Form, Text, Json, Spells, Types, in_style, last_line, leaving_in}
use Rattle.node_run.specs.Hears.{AreSaid, MaySay, Said, mets_of, run_voice}
use Rattle.node_run.specs.Ran.{BeginsSteps, IsBegun, IsJsonBegun, IsWritten, due_lines, end_part, json_end_part, whole_text}
use Rattle.node_run.specs.Streamed.{HasWrittenLines}
use Rattle.node_run.proofs.Forms.{spells_more, spells_none}
use Rattle.node_run.proofs.Leaving.{leaving_spelled}
use Rattle.node_run.proofs.Steps.{first_steps, lines_newer}

-- What was met, and its records.

pub first_mets : (events came : List Said) → FirstOf events came → FirstOf (mets_of events) (mets_of came)
first_mets events came f = record { newer = mets_of f.newer; parts = ap mets_of f.parts ∙ map-append (λ (it : Said). it.met) f.newer came }

pub records_same : (past : List Said) → met_records (mets_of past) ≡ map (λ (it : Said). it.met.rec) past
records_same past = map-map (λ (m : Met). m.rec) (λ (it : Said). it.met) past

pub may_front : {E : Type 0} (v : Voice E) (newer came : List E) → MayCome v (newer ++ came) → MayCome v came
may_front v [] came h = h
may_front v (event ∷ newer) came h = may_front v newer came h.1

pub may_first : {E : Type 0} (v : Voice E) (events came : List E) → FirstOf events came → MayCome v events → MayCome v came
may_first v events came f h = may_front v f.newer came (subst (MayCome v) f.parts h)

pub said_front : (newer came : List Said) → AreSaid (newer ++ came) → AreSaid came
said_front [] came h = h
said_front (it ∷ newer) came h = said_front newer came h.1

-- the first of some, with as many items, are the same
same_end : {A : Type 0} (newer other a b : List A) → newer ++ a ≡ other ++ b → length a ≡ length b → a ≡ b
same_end newer other a b e size =
    let x = length-append newer a in
    let y = length-append other b in
    let z = ap length e in
    let n : length newer ≡ length other = omega (arith, x, y, z, size) in sym (drop-append_seam newer a) ∙ (ap₂ drop n e ∙ drop-append_seam other b)

-- the first events with these records are these
pub same_first : (events a b : List Said) → FirstOf events a → FirstOf events b → map (λ (it : Said). it.met.rec) a ≡ map (λ (it : Said). it.met.rec) b → a ≡ b
same_first events a b f g e =
    let size = sym (length-map a (λ (it : Said). it.met.rec)) ∙ (ap length e ∙ length-map b (λ (it : Said). it.met.rec)) in same_end f.newer g.newer a b (sym f.parts ∙ g.parts) size

-- The lines of the first steps are due first.

due_front : (plan : Plan) (all past : List Step) → FirstOf all past → (refusal : Option LogError) → (rest : List Line) × (due_lines plan all refusal ≡ lines plan past ++ rest)
due_front plan all past f refusal = go refusal
  where
    here : lines plan all ≡ lines plan past ++ lines_behind plan f.newer past
    here = ap (lines plan) f.parts ∙ lines_newer plan f.newer past

    go : (refusal : Option LogError) → (rest : List Line) × (due_lines plan all refusal ≡ lines plan past ++ rest)
    go None = (lines_behind plan f.newer past ++ emptying plan all, ap (λ ls. ls ++ emptying plan all) here ∙ append_assoc (lines plan past) (lines_behind plan f.newer past) (emptying plan all))
    go (Some e) = (lines_behind plan f.newer past, here)

no_text : (text : List ℕ) → None ≡ Some text → ⊥
no_text text e = cc

not_json : Text ≡ Json → ⊥
not_json e = cc

-- What was said.

module _ (form : Form) (told : Option Files) (plan : Plan) where
  abbrev pub voice_in : Voice Said
  voice_in = run_voice (in_style form plan.buses) told plan

  abbrev types : Types
  types = type_on plan

  spells_one : (m : Met) (mets : List Met) (text : Option (List ℕ)) → MaySay (in_style form plan.buses) plan m mets text → (t : List ℕ) × (text ≡ Some t) → Spells form types plan.buses (lines_on plan m mets) (unwrap_or text [])
  spells_one m mets (Some t) may is = may
  spells_one m mets None may is = absurd (no_text is.0 is.1)

  -- a text of the lines of the steps
  pub spells_said : (past : List Said) → MayCome voice_in past → AreSaid past → Spells form types plan.buses (lines plan (steps plan (mets_of past))) (said voice_in past)
  spells_said [] may h = spells_none form types plan.buses
  spells_said (it ∷ past) may h =
      let mets = mets_of past in
      subst (λ (ls : List Line). Spells form types plan.buses ls (said voice_in past ++ unwrap_or it.text [])) (sym (lines_newer plan (new_steps plan it.met mets) (steps plan mets)))
      (spells_more form types plan.buses (lines plan (steps plan mets)) (lines_on plan it.met mets) (said voice_in past) (unwrap_or it.text []) (spells_said past may.1 h.1) (spells_one it.met mets it.text may.0.1 h.0))

  -- and of all lines that are due
  abbrev due_said : List Said → Option LogError → List ℕ
  due_said past None = said voice_in past ++ leaving_in form plan.buses (emptying plan (steps plan (mets_of past)))
  due_said past (Some refusal) = said voice_in past

  spells_due : (past : List Said) (refusal : Option LogError) → MayCome voice_in past → AreSaid past → Spells form types plan.buses (due_lines plan (steps plan (mets_of past)) refusal) (due_said past refusal)
  spells_due past None may h =
      let all = steps plan (mets_of past) in
      spells_more form types plan.buses (lines plan all) (emptying plan all) (said voice_in past) (leaving_in form plan.buses (emptying plan all)) (spells_said past may h) (leaving_spelled form types plan.buses plan all)
  spells_due past (Some refusal) may h = spells_said past may h

  abbrev end_said : List Step → Option LogError → List ℕ
  end_said all None = last_line form (end_numbers plan all)
  end_said all (Some refusal) = []

  whole_said : (past : List Said) (refusal : Option LogError) → all_said voice_in past refusal ≡ due_said past refusal ++ end_said (steps plan (mets_of past)) refusal
  whole_said past None =
      let all = steps plan (mets_of past) in sym (append_assoc (said voice_in past) (leaving_in form plan.buses (emptying plan all)) (last_line form (end_numbers plan all)))
  whole_said past (Some refusal) = refl

-- As text something was said on each event that came.

text_said : (told : Option Files) (plan : Plan) (past : List Said) → MayCome (voice_in Text told plan) past → AreSaid past
text_said told plan [] may = tt
text_said told plan (it ∷ past) may = (go it.text may.0.1, text_said told plan past may.1)
  where
    go : (text : Option (List ℕ)) → MaySay (in_style Text plan.buses) plan it.met (mets_of past) text → (t : List ℕ) × (text ≡ Some t)
    go (Some t) m = (t, refl)
    go None m = absurd (not_json m)

text_end : (told : Option Files) (plan : Plan) (all : List Step) (refusal : Option LogError) → end_said Text told plan all refusal ≡ end_part plan all refusal
text_end told plan all None = refl
text_end told plan all (Some refusal) = refl

json_end : (told : Option Files) (plan : Plan) (all : List Step) (refusal : Option LogError) → end_said Json told plan all refusal ≡ json_end_part plan all refusal
json_end told plan all None = refl
json_end told plan all (Some refusal) = refl

text_whole : (told : Option Files) (plan : Plan) (past : List Said) (refusal : Option LogError) → MayCome (voice_in Text told plan) past → all_said (voice_in Text told plan) past refusal ≡ whole_text plan (steps plan (mets_of past)) refusal
text_whole told plan past refusal may =
    whole_said Text told plan past refusal
    ∙ ap₂ (λ (x y : List ℕ). x ++ y) (spells_due Text told plan past refusal may (text_said told plan past may)) (text_end told plan (steps plan (mets_of past)) refusal)

json_whole : (told : Option Files) (plan : Plan) (past : List Said) (refusal : Option LogError) → all_said (voice_in Json told plan) past refusal ≡ due_said Json told plan past refusal ++ json_end_part plan (steps plan (mets_of past)) refusal
json_whole told plan past refusal =
    whole_said Json told plan past refusal
    ∙ ap (λ t. due_said Json told plan past refusal ++ t) (json_end told plan (steps plan (mets_of past)) refusal)

-- All of it is written.

pub is_written : (form : Form) (told : Option Files) (plan : Plan) (past : List Said) (refusal : Option LogError) (before after : Option (List ℕ)) → MayCome (voice_in form told plan) past → AreSaid past → after ≡ behind before (all_said (voice_in form told plan) past refusal)
    → IsWritten form plan (steps plan (mets_of past)) refusal before after
is_written Text told plan past refusal before after may h w = w ∙ ap (behind before) (text_whole told plan past refusal may)
is_written Json told plan past refusal before after may h w = record {
  said = due_said Json told plan past refusal;
  spelled = spells_due Json told plan past refusal may h;
  written = w ∙ ap (behind before) (json_whole told plan past refusal);
}

pub lines_written : (form : Form) (told : Option Files) (plan : Plan) (past : List Said) (before after : Option (List ℕ)) → MayCome (voice_in form told plan) past → AreSaid past → HasWritten (said (voice_in form told plan) past) before after
    → HasWrittenLines form plan (steps plan (mets_of past)) before after
lines_written Text told plan past before after may h w = subst (λ t. HasWritten t before after) (spells_said Text told plan past may h) w
lines_written Json told plan past before after may h w = record { said = said (voice_in Json told plan) past; spelled = spells_said Json told plan past may h; written = w }

-- A beginning of it is written.

-- all that was said on all events is said
pub is_begun_whole : (form : Form) (told : Option Files) (plan : Plan) (past : List Said) (refusal : Option LogError) (before after : Option (List ℕ)) → MayCome (voice_in form told plan) past → AreSaid past → Begins (all_said (voice_in form told plan) past refusal) before after
    → IsBegun form plan (steps plan (mets_of past)) refusal before after
is_begun_whole Text told plan past refusal before after may h b = subst (λ t. Begins t before after) (text_whole told plan past refusal may) b
is_begun_whole Json told plan past refusal before after may h b = record {
  front = due_lines plan (steps plan (mets_of past)) refusal;
  rest = [];
  parts = sym (append-nil (due_lines plan (steps plan (mets_of past)) refusal));
  said = due_said Json told plan past refusal;
  spelled = spells_due Json told plan past refusal may h;
  end = json_end_part plan (steps plan (mets_of past)) refusal;
  ended = inr (refl, refl);
  written = subst (λ t. Begins t before after) (json_whole told plan past refusal) b;
}

-- what was said on the first events, each of which was heard
module _ (told : Option Files) (plan : Plan) (events : List Said) (may : MayCome (voice_in Json told plan) events) (refusal : Option LogError) (before after : Option (List ℕ)) where
  begun_front : (came : List Said) → FirstOf events came → AreSaid came → Begins (said (voice_in Json told plan) came) before after → IsJsonBegun plan (steps plan (mets_of events)) refusal before after
  begun_front came f h b =
      let front = due_front plan (steps plan (mets_of events)) (steps plan (mets_of came)) (first_steps plan (mets_of events) (mets_of came) (first_mets events came f)) refusal in record {
        front = lines plan (steps plan (mets_of came));
        rest = front.0;
        parts = front.1;
        said = said (voice_in Json told plan) came;
        spelled = spells_said Json told plan came (may_first (voice_in Json told plan) events came f may) h;
        end = [];
        ended = inl refl;
        written = subst (λ t. Begins t before after) (sym (append-nil (said (voice_in Json told plan) came))) b;
      }

-- a text of the lines of the steps over the first events that were heard, or a beginning of it
pub begins_steps : (form : Form) (told : Option Files) (plan : Plan) (all : List Step) (came : List Said) (before after : Option (List ℕ)) → FirstOf all (steps plan (mets_of came)) → MayCome (voice_in form told plan) came → AreSaid came → Begins (said (voice_in form told plan) came) before after
    → BeginsSteps form plan all before after
begins_steps form told plan all came before after f may h b =
    record { came = steps plan (mets_of came); first = f; said = said (voice_in form told plan) came; spelled = spells_said form told plan came may h; written = b }

pub is_begun : (form : Form) (told : Option Files) (plan : Plan) (events came : List Said) (refusal : Option LogError) (before after : Option (List ℕ)) → MayCome (voice_in form told plan) events → FirstOf events came → AreSaid came
    → Begins (said (voice_in form told plan) came) before after → Begins (all_said (voice_in form told plan) events refusal) before after → IsBegun form plan (steps plan (mets_of events)) refusal before after
is_begun Text told plan events came refusal before after may f h begins written = subst (λ t. Begins t before after) (text_whole told plan events refusal may) written
is_begun Json told plan events came refusal before after may f h begins written = begun_front told plan events may refusal before after came f h begins
