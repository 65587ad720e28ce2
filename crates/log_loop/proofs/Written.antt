-- What was written after more of a text is.
use Rattle.std.proofs.Common.{◌≡◌, ◌∙◌, ℕ, List, [], ◌++◌, Option, Some, None, refl, sym, ap, subst, append_assoc, append-nil}
use Rattle.cy_outside.specs.Written.{behind, Begins}
use Rattle.gathered_text.specs.Gathered.{Gathered}

pub behind_none : (before : Option (List ℕ)) → behind before [] ≡ before
behind_none None = refl
behind_none (Some w) = ap Some (append-nil w)

pub behind_more : (before : Option (List ℕ)) (x y : List ℕ) → behind (behind before x) y ≡ behind before (x ++ y)
behind_more None x y = refl
behind_more (Some w) x y = ap Some (append_assoc w x y)

-- nothing of it
pub begins_none : (whole : List ℕ) (before : Option (List ℕ)) → Begins whole before before
begins_none whole before = record { front = []; rest = whole; whole = refl; written = sym (behind_none before) }

-- and it is the beginning of more
pub begins_more : (x y : List ℕ) (before after : Option (List ℕ)) → Begins x before after → Begins (x ++ y) before after
begins_more x y before after b = record { front = b.front; rest = b.rest ++ y; whole = ap (λ t. t ++ y) b.whole ∙ append_assoc b.front b.rest y; written = b.written }

pub begins_later : (x y : List ℕ) (before mid after : Option (List ℕ)) → mid ≡ behind before x → Begins y mid after → Begins (x ++ y) before after
begins_later x y before mid after e b = record {
  front = x ++ b.front;
  rest = b.rest;
  whole = ap (λ t. x ++ t) b.whole ∙ sym (append_assoc x b.front b.rest);
  written = b.written ∙ (ap (λ o. behind o b.front) e ∙ behind_more before x b.front);
}

-- all of it was gathered
pub gathered_all : (whole : List ℕ) (before : Option (List ℕ)) → Gathered whole whole before before
gathered_all whole before = record { front = []; parts = refl; written = sym (behind_none before) }

-- all of it was written
pub gathered_none : (whole : List ℕ) (before after : Option (List ℕ)) → after ≡ behind before whole → Gathered whole [] before after
gathered_none whole before after e = record { front = whole; parts = sym (append-nil whole); written = e }

pub all_written : (whole : List ℕ) (before after : Option (List ℕ)) → Gathered whole [] before after → after ≡ behind before whole
all_written whole before after g = g.written ∙ ap (behind before) (sym (g.parts ∙ append-nil g.front))

-- a part of what was gathered was written
pub gathered_less : (whole old new : List ℕ) (before mid after : Option (List ℕ)) → Gathered whole old before mid → Gathered old new mid after → Gathered whole new before after
gathered_less whole old new before mid after g h = record {
  front = g.front ++ h.front;
  parts = g.parts ∙ (ap (λ t. g.front ++ t) h.parts ∙ sym (append_assoc g.front h.front new));
  written = h.written ∙ (ap (λ o. behind o h.front) g.written ∙ behind_more before g.front h.front);
}

-- more was gathered
pub gathered_more : (whole old more : List ℕ) (before after : Option (List ℕ)) → Gathered whole old before after → Gathered (whole ++ more) (old ++ more) before after
gathered_more whole old more before after g = record { front = g.front; parts = ap (λ t. t ++ more) g.parts ∙ append_assoc g.front old more; written = g.written }

-- a beginning of what was gathered was written
pub begins_gathered : (whole gathered : List ℕ) (before mid after : Option (List ℕ)) → Gathered whole gathered before mid → Begins gathered mid after → Begins whole before after
begins_gathered whole gathered before mid after g b = subst (λ t. Begins t before after) (sym g.parts) (begins_later g.front gathered before mid after g.written b)

-- the part that isn't gathered was written
pub begins_front : (whole gathered : List ℕ) (before after : Option (List ℕ)) → Gathered whole gathered before after → Begins whole before after
begins_front whole gathered before after g = record { front = g.front; rest = gathered; whole = g.parts; written = g.written }

-- what is gathered, and an end behind it
pub gathered_end : (whole gathered tail : List ℕ) (before mid after : Option (List ℕ)) → Gathered whole gathered before mid → after ≡ behind mid (gathered ++ tail) → after ≡ behind before (whole ++ tail)
gathered_end whole gathered tail before mid after g e =
    e ∙ (ap (λ o. behind o (gathered ++ tail)) g.written ∙ (behind_more before g.front (gathered ++ tail) ∙ ap (behind before) (sym (ap (λ t. t ++ tail) g.parts ∙ append_assoc g.front gathered tail))))

pub begins_end : (whole gathered tail : List ℕ) (before mid after : Option (List ℕ)) → Gathered whole gathered before mid → Begins (gathered ++ tail) mid after → Begins (whole ++ tail) before after
begins_end whole gathered tail before mid after g b = begins_gathered (whole ++ tail) (gathered ++ tail) before mid after (gathered_more whole gathered tail before mid g) b
