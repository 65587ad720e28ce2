-- Lines of which none is refused.
use Rattle.std.proofs.Common.{◌≡◌, ◌∙◌, ◌+◌, ◌^◌, ℕ, Bool, true, false, List, [], ◌∷◌, ◌++◌, length, take, Option, Some, None, refl, sym, ap, subst, length-append, arith}
use Rattle.std.specs.Prelude.{◌==◌, if◌then◌else◌, min}
use Rattle.std.proofs.lemmas.List.{append_cancel_right, length-take, take_all}
use mathlib.Core.List.{reverse_aux}
use Rattle.tail_frame.specs.declared.logged.Record.{Record}
use Rattle.frame_log.specs.Input.{Took}
use Rattle.frame_log.specs.Log.{Log, Place, Given, Skip, Take, Refuse, followed, given, lines_of, log_of_lines, with_byte, start}
use Rattle.log_loop.specs.Taken.{NoneRefused, whole_records}
use Rattle.log_loop.specs.Voice.{newest_first}

-- where no line is refused, none of the first is
given_open : (g : Given) (f h : Place → Log) → ((at : Place) → (f at).refusal ≡ None → (h at).refusal ≡ None) → (followed g f).refusal ≡ None → (followed g h).refusal ≡ None
given_open (Skip at) f h i e = i at e
given_open (Take r at) f h i e = i at e
given_open (Refuse err) f h i e = e

pub lines_open : (names : List (List ℕ)) (first others : List (List ℕ)) (at : Place) → (log_of_lines names None (first ++ others) at).refusal ≡ None → (log_of_lines names None first at).refusal ≡ None
lines_open names [] others at e = refl
lines_open names (l ∷ first) others at e = given_open (given names at l) _ _ (λ new. lines_open names first others new) e

-- the first of some lines, up to one that is refused
record OpenFirst (names lines : List (List ℕ)) (at : Place) : Type 0 where
  pub first : List (List ℕ)
  pub others : List (List ℕ)
  pub parts : lines ≡ first ++ others
  pub records : (log_of_lines names None first at).records ≡ (log_of_lines names None lines at).records
  pub unrefused : (log_of_lines names None first at).refusal ≡ None

open_next : (names : List (List ℕ)) (l : List ℕ) (lines : List (List ℕ)) (at : Place) (g : Given) → given names at l ≡ g → ((new : Place) → OpenFirst names lines new) → OpenFirst names (l ∷ lines) at
open_next names l lines at (Skip new) e i =
    let o = i new in record {
      first = l ∷ o.first;
      others = o.others;
      parts = ap (λ t. l ∷ t) o.parts;
      records = ap (λ (t : Given). (followed t (λ p. log_of_lines names None o.first p)).records) e ∙ (o.records ∙ sym (ap (λ (t : Given). (followed t (λ p. log_of_lines names None lines p)).records) e));
      unrefused = ap (λ (t : Given). (followed t (λ p. log_of_lines names None o.first p)).refusal) e ∙ o.unrefused;
    }
open_next names l lines at (Take r new) e i =
    let o = i new in record {
      first = l ∷ o.first;
      others = o.others;
      parts = ap (λ t. l ∷ t) o.parts;
      records = ap (λ (t : Given). (followed t (λ p. log_of_lines names None o.first p)).records) e ∙ (ap (λ t. r ∷ t) o.records ∙ sym (ap (λ (t : Given). (followed t (λ p. log_of_lines names None lines p)).records) e));
      unrefused = ap (λ (t : Given). (followed t (λ p. log_of_lines names None o.first p)).refusal) e ∙ o.unrefused;
    }
open_next names l lines at (Refuse err) e i =
    record { first = []; others = l ∷ lines; parts = refl; records = sym (ap (λ (t : Given). (followed t (λ p. log_of_lines names None lines p)).records) e); unrefused = refl }

open_first : (names lines : List (List ℕ)) (at : Place) → OpenFirst names lines at
open_first names [] at = record { first = []; others = []; parts = refl; records = refl; unrefused = refl }
open_first names (l ∷ lines) at = open_next names l lines at (given names at l) refl (λ new. open_first names lines new)

-- the bytes of the first lines
record LinesFront (bytes : List ℕ) (first : List (List ℕ)) : Type 0 where
  pub front : List ℕ
  pub more : List ℕ
  pub parts : bytes ≡ front ++ more
  pub lines : (lines_of front).0 ≡ first

-- the same behind one more byte, which is a newline or isn't
record ByteFront (t : Bool) (b : ℕ) (s : List ℕ) (first : List (List ℕ)) : Type 0 where
  pub front : List ℕ
  pub more : List ℕ
  pub parts : s ≡ front ++ more
  pub lines : (if t then ([] ∷ (lines_of front).0, (lines_of front).1) else with_byte b (lines_of front)).0 ≡ first

with_lines : (b : ℕ) (m : List ℕ) (first : List (List ℕ)) (q : List (List ℕ) × List ℕ) → q.0 ≡ m ∷ first → (with_byte b q).0 ≡ (b ∷ m) ∷ first
with_lines b m first ([], r) e = absurd cc
with_lines b m first (n ∷ ns, r) e =
    let head : n ≡ m = cc in
    let tails : ns ≡ first = cc in ap (λ (x : List ℕ). (b ∷ x) ∷ ns) head ∙ ap (λ t. (b ∷ m) ∷ t) tails

line_front : (b : ℕ) (s l : List ℕ) (first others : List (List ℕ)) (p : List (List ℕ) × List ℕ) → ((f o : List (List ℕ)) → p.0 ≡ f ++ o → LinesFront s f) → (with_byte b p).0 ≡ l ∷ (first ++ others) → ByteFront false b s (l ∷ first)
line_front b s l first others ([], r) ih e = absurd cc
line_front b s l first others (m ∷ ms, r) ih e =
    let head : b ∷ m ≡ l = cc in
    let tails : ms ≡ first ++ others = cc in
    let i = ih (m ∷ first) others (ap (λ t. m ∷ t) tails) in
    record { front = i.front; more = i.more; parts = i.parts; lines = with_lines b m first (lines_of i.front) i.lines ∙ ap (λ (x : List ℕ). x ∷ first) head }

newline_lines : (l : List ℕ) (first lines : List (List ℕ)) → [] ≡ l → lines ≡ first → [] ∷ lines ≡ l ∷ first
newline_lines l first lines head tails = cc

byte_front : (t : Bool) (b : ℕ) (s l : List ℕ) (first others : List (List ℕ)) → ((f o : List (List ℕ)) → (lines_of s).0 ≡ f ++ o → LinesFront s f) → (if t then ([] ∷ (lines_of s).0, (lines_of s).1) else with_byte b (lines_of s)).0 ≡ l ∷ (first ++ others)
    → ByteFront t b s (l ∷ first)
byte_front true b s l first others ih e =
    let head : [] ≡ l = cc in
    let tails : (lines_of s).0 ≡ first ++ others = cc in
    let i = ih first others tails in record { front = i.front; more = i.more; parts = i.parts; lines = newline_lines l first (lines_of i.front).0 head i.lines }
byte_front false b s l first others ih e = line_front b s l first others (lines_of s) ih e

lines_front : (bytes : List ℕ) (first others : List (List ℕ)) → (lines_of bytes).0 ≡ first ++ others → LinesFront bytes first
lines_front bytes [] others e = record { front = []; more = bytes; parts = refl; lines = refl }
lines_front [] (l ∷ first) others e = absurd cc
lines_front (b ∷ s) (l ∷ first) others e =
    let f = byte_front (b == 10) b s l first others (λ f o h. lines_front s f o h) e in record { front = b ∷ f.front; more = f.more; parts = ap (λ t. b ∷ t) f.parts; lines = f.lines }

-- a front of what counts counts whole
front_all : (n : ℕ) (bytes front more : List ℕ) → take n bytes ≡ front ++ more → take n front ≡ front
front_all n bytes front more e =
    let size : length (take n bytes) ≡ min n (length bytes) = length-take n bytes in
    let sum : length (take n bytes) ≡ length front + length more = ap (λ (t : List ℕ). length t) e ∙ length-append front more in take_all n front (omega arith)

-- bytes that may have been taken, with the same records, of which no line is refused
pub record OpenTaken (names : List (List ℕ)) (told left : Option (List ℕ)) (bytes : List ℕ) : Type 0 where
  pub taken : List ℕ
  pub took : Took told left taken
  pub same : whole_records names taken ≡ whole_records names bytes
  pub unrefused : NoneRefused names taken

-- where the input doesn't tell its bytes, those before a refused line
untold : (names : List (List ℕ)) (left : Option (List ℕ)) (bytes : List ℕ) → Took None left bytes → OpenTaken names None left bytes
untold names left bytes took =
    let b = take (2 ^ 28) bytes in
    let o = open_first names (lines_of b).0 start in
    let f = lines_front b o.first o.others o.parts in
    let lines : (lines_of (take (2 ^ 28) f.front)).0 ≡ o.first = ap (λ (t : List ℕ). (lines_of t).0) (front_all (2 ^ 28) bytes f.front f.more f.parts) ∙ f.lines in record {
      taken = f.front;
      took = took;
      same = ap (λ (t : List (List ℕ)). newest_first (log_of_lines names None t start)) lines ∙ ap (λ (t : List Record). reverse_aux t []) o.records;
      unrefused = ap (λ (t : List (List ℕ)). (log_of_lines names None t start).refusal) lines ∙ o.unrefused;
    }

pub open_taken : (names : List (List ℕ)) (told left : Option (List ℕ)) (bytes others : List ℕ) → Took told left bytes → Took told left others → NoneRefused names others → OpenTaken names told left bytes
open_taken names None left bytes others a b n = untold names left bytes a
open_taken names (Some l) None bytes others a b n = absurd a
open_taken names (Some l) (Some m) bytes others a b n =
    record { taken = bytes; took = a; same = refl; unrefused = subst (λ (t : List ℕ). NoneRefused names t) (append_cancel_right others bytes m (sym b ∙ a)) n }
