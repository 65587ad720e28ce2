-- A text is parsed in one way.
use Rattle.std.proofs.Common.{◌≡◌, ℕ, suc, ◌+◌, ◌≤◌, List, [], ◌∷◌, ◌++◌, length, refl, sym, ap, ◌∙◌, subst, append_assoc, length-append, ◌⊎◌, inl, inr, arith}
use Rattle.dsdl_lex.specs.Tokens.{IsReadOneWay}
use Rattle.dsdl_parse.specs.declared.statement.Statement.{Statement}
use Rattle.dsdl_parse.specs.Ast.{IsLine, AreStatements, none, more, IsAst, FirstBad, IsParsedOneWay}
use Rattle.dsdl_parse.specs.Lines.{AreLines, IsFirstLine}
use Rattle.dsdl_parse.specs.Lines as lines
use Rattle.dsdl_parse.proofs.Basics.{append_nil}
use Rattle.dsdl_parse.proofs.FirstLines.{some_lines, one_split}
use Rattle.dsdl_parse.proofs.LineReads.{one_line, line_or_none}

-- ---- line by line
pub one_more : {front : List (List ℕ)} {ss : List Statement} (line : List ℕ) (s : Statement) → AreStatements front ss → IsLine line s → AreStatements (front ++ line ∷ []) (ss ++ s ∷ [])
one_more line s none is = more is none
one_more line s (more first d) is = more first (one_more line s d is)

-- the statements of the lines so far, and the text behind these lines
pub record Going (text rest : List ℕ) (ss : List Statement) : Type 0 where
  pub before : List (List ℕ)
  pub good : AreStatements before ss
  pub in_front : (behind : List (List ℕ)) → AreLines rest behind → AreLines text (before ++ behind)
  pub fewer : length ss + length rest ≤ length text

same_length : {front : List (List ℕ)} {ss : List Statement} → AreStatements front ss → length ss ≡ length front
same_length none = refl
same_length (more is d) = ap (λ n. suc n) (same_length d)

pub begun : (text : List ℕ) → Going text text []
begun text = record { before = []; good = none; in_front = λ behind d. d; fewer = omega arith }

pub gone : (text rest line behind : List ℕ) (ss : List Statement) (s : Statement) → Going text rest ss → IsFirstLine rest line behind → IsLine line s → Going text behind (ss ++ s ∷ [])
gone text rest line behind ss s g f is = record {
  before = g.before ++ line ∷ [];
  good = one_more line s g.good is;
  in_front = λ more d. subst (AreLines text) (sym (append_assoc g.before (line ∷ []) more)) (g.in_front (line ∷ more) (f.in_front more d));
  fewer = omega (arith, length-append ss (s ∷ []), f.shorter, g.fewer);
}

pub ended : (text rest : List ℕ) (ss : List Statement) → Going text rest ss → rest ≡ [] → IsAst text ss
ended text rest ss g e = (g.before, subst (AreLines text) (append_nil g.before) (g.in_front [] (subst (λ l. AreLines l []) (sym e) lines.none)), g.good)

pub refused : (text rest line behind : List ℕ) (ss : List Statement) → Going text rest ss → IsFirstLine rest line behind → ((s : Statement) → IsLine line s → ⊥) → FirstBad text (length ss + 1)
refused text rest line behind ss g f h =
    let (after, d) = some_lines behind in
    record {
      before = g.before;
      bad = line;
      after = after;
      are_lines = g.in_front (line ∷ after) (f.in_front after d);
      place = ap (λ n. n + 1) (same_length g.good);
      good = (ss, g.good);
      no_line = h;
    }

-- ---- in one way
-- a line that is no line of the grammar
abbrev Bad : List ℕ → Type 0
Bad line = (s : Statement) → IsLine line s → ⊥

front_line : {line : List ℕ} {ls : List (List ℕ)} {ss : List Statement} → AreStatements (line ∷ ls) ss → (s : Statement) × IsLine line s
front_line (more {s} is d) = (s, is)

lines_behind : {line : List ℕ} {ls : List (List ℕ)} {ss : List Statement} → AreStatements (line ∷ ls) ss → (ts : List Statement) × AreStatements ls ts
lines_behind (more {line} {lines = ls} {s} {ss} is d) = (ss, d)

none_bad : (before after : List (List ℕ)) (bad : List ℕ) (ss : List Statement) → Bad bad → AreStatements (before ++ bad ∷ after) ss → ⊥
none_bad [] after bad ss h d = let (s, is) = front_line d in h s is
none_bad (line ∷ before) after bad ss h d = let (ts, e) = lines_behind d in none_bad before after bad ts h e

bad_first : {bad line : List ℕ} {ls : List (List ℕ)} {ss : List Statement} → Bad bad → bad ≡ line → AreStatements (line ∷ ls) ss → ⊥
bad_first h e d = let (s, is) = front_line d in h s (subst (λ l. IsLine l s) (sym e) is)

same_place : (before front after behind : List (List ℕ)) (bad worse : List ℕ) →
    (ss : List Statement) × AreStatements before ss → (ts : List Statement) × AreStatements front ts → Bad bad → Bad worse →
    before ++ bad ∷ after ≡ front ++ worse ∷ behind → length before ≡ length front
same_place [] [] after behind bad worse d e a b h = refl
same_place [] (line ∷ front) after behind bad worse d (ts, e) a b h = absurd (bad_first {bad = bad} {line = line} a (cc) e)
same_place (line ∷ before) [] after behind bad worse (ss, d) e a b h = absurd (bad_first {bad = worse} {line = line} b (cc) d)
same_place (line ∷ before) (other ∷ front) after behind bad worse (ss, d) (ts, e) a b h =
    let tail : before ++ bad ∷ after ≡ front ++ worse ∷ behind = cc in
    ap (λ n. suc n) (same_place before front after behind bad worse (lines_behind d) (lines_behind e) a b tail)

module _ (one_way : IsReadOneWay) where
  one_by_one : {ls : List (List ℕ)} {ss ts : List Statement} → AreStatements ls ss → AreStatements ls ts → ss ≡ ts
  one_by_one none none = refl
  one_by_one (more {line} {lines = ls} {s} {ss} is d) (more {line = l} {lines = ms} {s = t} {ss = ts} is' d') =
      ap (λ x. x ∷ ss) (one_line one_way line s t is is') ∙ ap (λ l. t ∷ l) (one_by_one d d')

  one_list : (text : List ℕ) (ss ts : List Statement) → IsAst text ss → IsAst text ts → ss ≡ ts
  one_list text ss ts (ls, d, good) (ms, e, fine) = one_by_one good (subst (λ l. AreStatements l ts) (sym (one_split d e)) fine)

  -- lines are statements', or one of them is the first that is none
  abbrev Bad_in : List (List ℕ) → Type 0
  Bad_in ls = (before : List (List ℕ)) × (bad : List ℕ) × (after : List (List ℕ)) × (ls ≡ before ++ bad ∷ after) × ((ss : List Statement) × AreStatements before ss) × Bad bad

  behind_line : {line : List ℕ} {ls : List (List ℕ)} (s : Statement) → IsLine line s → ((ss : List Statement) × AreStatements ls ss) ⊎ Bad_in ls → ((ss : List Statement) × AreStatements (line ∷ ls) ss) ⊎ Bad_in (line ∷ ls)
  behind_line s is (inl (ss, d)) = inl (s ∷ ss, more is d)
  behind_line {line} s is (inr (before, bad, after, e, (ss, d), h)) = inr (line ∷ before, bad, after, ap (λ l. line ∷ l) e, (s ∷ ss, more is d), h)

  all_or_bad : (ls : List (List ℕ)) → ((ss : List Statement) × AreStatements ls ss) ⊎ Bad_in ls
  all_or_bad [] = inl ([], none)
  all_or_bad (line ∷ ls) = elim (line_or_none one_way line) [
    | inl s ↦ behind_line s.0 s.1 (all_or_bad ls)
    | inr h ↦ inr ([], line, ls, refl, ([], none), h)
  ]

  either : (text : List ℕ) → ((ss : List Statement) × IsAst text ss) ⊎ ((n : ℕ) × FirstBad text n)
  either text = let (ls, d) = some_lines text in elim (all_or_bad ls) [
    | inl s ↦ inl (s.0, (ls, d, s.1))
    | inr b ↦ inr (length b.0 + 1, record { before = b.0; bad = b.1; after = b.2; are_lines = subst (AreLines text) b.3 d; place = refl; good = b.4; no_line = b.5 })
  ]

  pub parsed : IsParsedOneWay
  parsed = record {
    either = either;
    one_statement = λ line s t d e. one_line one_way line s t d e;
    one_list = one_list;
    one_place = λ text m n a b. a.place ∙ ap (λ n. n + 1) (same_place a.before b.before a.after b.after a.bad b.bad a.good b.good a.no_line b.no_line (one_split a.are_lines b.are_lines)) ∙ sym b.place;
    not_both = λ text n ss a (ls, d, good). none_bad a.before a.after a.bad ss a.no_line (subst (λ l. AreStatements l ss) (one_split d a.are_lines) good);
  }
