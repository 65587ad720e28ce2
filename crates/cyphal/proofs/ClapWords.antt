-- What `clap` makes of the words of each shape; no command is named here.
use Rattle.std.proofs.Common.{ℕ, ◌==◌, ◌&&◌, Bool, not, refl, codes, true, false, List, Option, Some, None, is_some, option_map, [], ◌∷◌, ◌≡◌, ◌∙◌, sym, ap, subst, Bor}
use Rattle.std.specs.Prelude.{if◌then◌else◌}
use Rattle.clap.specs.Words.{first_value, found_of, HasMatchesOf}
use Rattle.clap.specs.Simple.{App, is_simple, matches_of}
use Rattle.clap.specs.Walk.{Text, first_of}
use Rattle.clap.specs.declared.parser.matches.ArgMatches.{ArgMatches}
use Rattle.clap.proofs.WalkLemmas.{first_value-rows, both}
use Rattle.clap.proofs.OnLiterals.{clap_on_literals}
use Rattle.cyphal.specs.ClapShape.{one_shape, two_shape, three_shape}
use Rattle.cyphal.specs.Words.{is_argument, are_arguments, are_three, one_given, two_given, three_given}

unhyphened : (b : Bool) → not b ≡ true → b ≡ false
unhyphened true h = absurd cc
unhyphened false h = refl

-- what is given is accepted
accepted : {A : Type 0} (b : Bool) (x : A) → is_some (if b then Some x else None) ≡ true → b ≡ true
accepted true x h = refl
accepted false x h = absurd cc

-- one argument

-- the value that a parse of the words gives, which is the one that they have
pub record ParsedOne (words : List Text) : Type 0 where
  pub value : Text
  pub is : first_of (codes "ARGUMENT") (matches_of one_shape words) ≡ Some value
  pub asked : one_given words ≡ Some value

simple_one : is_simple one_shape ≡ true
simple_one = refl

value_of_one : (w : Text) (x : ℕ) (xs : Text) → (x == 45) ≡ false → first_of (codes "ARGUMENT") (matches_of one_shape (w ∷ (x ∷ xs) ∷ [])) ≡ Some (x ∷ xs)
unfolding clap_on_literals
value_of_one w x xs h = simp h refl

one_there : (w argument : Text) → is_argument argument ≡ true → ParsedOne (w ∷ argument ∷ [])
one_there w [] h = absurd cc
one_there w (x ∷ xs) h = let e = unhyphened (x == 45) h in record { value = x ∷ xs; is = value_of_one w x xs e; asked = simp e refl }

parsed_one : (words : List Text) → is_some (one_given words) ≡ true → ParsedOne words
parsed_one [] h = absurd cc
parsed_one (w ∷ []) h = absurd cc
parsed_one (w ∷ argument ∷ []) h = one_there w argument (accepted (is_argument argument) argument h)
parsed_one (w ∷ argument ∷ more ∷ rest) h = absurd cc

-- a root and another argument

simple_two : is_simple two_shape ≡ true
simple_two = refl

-- the values of both arguments that a parse of the words gives, which are those that they have
pub record ParsedTwo (words : List Text) : Type 0 where
  pub root : Text
  pub argument : Text
  pub is_root : first_of (codes "ROOT") (matches_of two_shape words) ≡ Some root
  pub is_argument : first_of (codes "ARGUMENT") (matches_of two_shape words) ≡ Some argument
  pub asked : two_given words ≡ Some (root, argument)

root_of_two : (w : Text) (x y : ℕ) (xs ys : Text) → (x == 45) ≡ false → (y == 45) ≡ false
    → first_of (codes "ROOT") (matches_of two_shape (w ∷ (x ∷ xs) ∷ (y ∷ ys) ∷ [])) ≡ Some (x ∷ xs)
unfolding clap_on_literals
root_of_two w x y xs ys h k = simp (h, k) refl

argument_of_two : (w : Text) (x y : ℕ) (xs ys : Text) → (x == 45) ≡ false → (y == 45) ≡ false
    → first_of (codes "ARGUMENT") (matches_of two_shape (w ∷ (x ∷ xs) ∷ (y ∷ ys) ∷ [])) ≡ Some (y ∷ ys)
unfolding clap_on_literals
argument_of_two w x y xs ys h k = simp (h, k) refl

two_there : (w root argument : Text) → is_argument root ≡ true → is_argument argument ≡ true → ParsedTwo (w ∷ root ∷ argument ∷ [])
two_there w [] argument h k = absurd cc
two_there w (x ∷ xs) [] h k = absurd cc
two_there w (x ∷ xs) (y ∷ ys) h k =
    let first = unhyphened (x == 45) h in
    let second = unhyphened (y == 45) k in record {
      root = x ∷ xs;
      argument = y ∷ ys;
      is_root = root_of_two w x y xs ys first second;
      is_argument = argument_of_two w x y xs ys first second;
      asked = simp (first, second) refl;
    }

parsed_two : (words : List Text) → is_some (two_given words) ≡ true → ParsedTwo words
parsed_two [] h = absurd cc
parsed_two (w ∷ []) h = absurd cc
parsed_two (w ∷ root ∷ []) h = absurd cc
parsed_two (w ∷ root ∷ argument ∷ []) h =
    let each = both (is_argument root) (is_argument argument) (accepted {A = Text × Text} (are_arguments root argument) (root, argument) h) in
    two_there w root argument each.0 each.1
parsed_two (w ∷ root ∷ argument ∷ more ∷ rest) h = absurd cc

-- three arguments

simple_three : is_simple three_shape ≡ true
simple_three = refl

-- the values of all three arguments that a parse of the words gives, which are those that they have
pub record ParsedThree (words : List Text) : Type 0 where
  pub first : Text
  pub second : Text
  pub third : Text
  pub is_first : first_of (codes "FIRST") (matches_of three_shape words) ≡ Some first
  pub is_second : first_of (codes "SECOND") (matches_of three_shape words) ≡ Some second
  pub is_third : first_of (codes "THIRD") (matches_of three_shape words) ≡ Some third
  pub asked : three_given words ≡ Some (first, second, third)

first_of_three : (w : Text) (x y z : ℕ) (xs ys zs : Text) → (x == 45) ≡ false → (y == 45) ≡ false → (z == 45) ≡ false
    → first_of (codes "FIRST") (matches_of three_shape (w ∷ (x ∷ xs) ∷ (y ∷ ys) ∷ (z ∷ zs) ∷ [])) ≡ Some (x ∷ xs)
unfolding clap_on_literals
first_of_three w x y z xs ys zs h k l = simp (h, k, l) refl

second_of_three : (w : Text) (x y z : ℕ) (xs ys zs : Text) → (x == 45) ≡ false → (y == 45) ≡ false → (z == 45) ≡ false
    → first_of (codes "SECOND") (matches_of three_shape (w ∷ (x ∷ xs) ∷ (y ∷ ys) ∷ (z ∷ zs) ∷ [])) ≡ Some (y ∷ ys)
unfolding clap_on_literals
second_of_three w x y z xs ys zs h k l = simp (h, k, l) refl

third_of_three : (w : Text) (x y z : ℕ) (xs ys zs : Text) → (x == 45) ≡ false → (y == 45) ≡ false → (z == 45) ≡ false
    → first_of (codes "THIRD") (matches_of three_shape (w ∷ (x ∷ xs) ∷ (y ∷ ys) ∷ (z ∷ zs) ∷ [])) ≡ Some (z ∷ zs)
unfolding clap_on_literals
third_of_three w x y z xs ys zs h k l = simp (h, k, l) refl

three_there : (w first second third : Text) → is_argument first ≡ true → is_argument second ≡ true → is_argument third ≡ true → ParsedThree (w ∷ first ∷ second ∷ third ∷ [])
three_there w [] second third h k l = absurd cc
three_there w (x ∷ xs) [] third h k l = absurd cc
three_there w (x ∷ xs) (y ∷ ys) [] h k l = absurd cc
three_there w (x ∷ xs) (y ∷ ys) (z ∷ zs) h k l =
    let no_first = unhyphened (x == 45) h in
    let no_second = unhyphened (y == 45) k in
    let no_third = unhyphened (z == 45) l in record {
      first = x ∷ xs;
      second = y ∷ ys;
      third = z ∷ zs;
      is_first = first_of_three w x y z xs ys zs no_first no_second no_third;
      is_second = second_of_three w x y z xs ys zs no_first no_second no_third;
      is_third = third_of_three w x y z xs ys zs no_first no_second no_third;
      asked = simp (no_first, no_second, no_third) refl;
    }

parsed_three : (words : List Text) → is_some (three_given words) ≡ true → ParsedThree words
parsed_three [] h = absurd cc
parsed_three (w ∷ []) h = absurd cc
parsed_three (w ∷ first ∷ []) h = absurd cc
parsed_three (w ∷ first ∷ second ∷ []) h = absurd cc
parsed_three (w ∷ first ∷ second ∷ third ∷ []) h =
    let both_parts = both (is_argument first) (is_argument second && is_argument third) (accepted {A = Text × Text × Text} (are_three first second third) (first, second, third) h) in
    let others = both (is_argument second) (is_argument third) both_parts.1 in
    three_there w first second third both_parts.0 others.0 others.1
parsed_three (w ∷ first ∷ second ∷ third ∷ more ∷ rest) h = absurd cc

-- the value that the matches have of one argument
pub record HasOne (m : ArgMatches) (words : List Text) : Type 0 where
  pub value : Text
  pub is : first_value (found_of m) (codes "ARGUMENT") ≡ Some value
  pub asked : one_given words ≡ Some value

-- what matches have of an argument is what a parse of the words gives
matched : (app a : App) (m : ArgMatches) (words : List Text) → is_simple app ≡ true → a ≡ app → HasMatchesOf a words m → (id : Text) → first_value (found_of m) id ≡ first_of id (matches_of app words)
matched app a m words simple e hm id =
    let whole : HasMatchesOf app words m = subst (λ (b : App). HasMatchesOf b words m) e hm in
    first_value-rows (found_of m) id ∙ ap (first_of id) (whole simple).0

pub has_one : (a : App) (m : ArgMatches) (words : List Text) → a ≡ one_shape → is_some (one_given words) ≡ true → HasMatchesOf a words m → HasOne m words
has_one a m words e h hm =
    let p = parsed_one words h in
    record { value = p.value; is = matched one_shape a m words simple_one e hm (codes "ARGUMENT") ∙ p.is; asked = p.asked }

-- the values that the matches have of a root and another argument
pub record HasTwo (m : ArgMatches) (words : List Text) : Type 0 where
  pub root : Text
  pub argument : Text
  pub is_root : first_value (found_of m) (codes "ROOT") ≡ Some root
  pub is_argument : first_value (found_of m) (codes "ARGUMENT") ≡ Some argument
  pub asked : two_given words ≡ Some (root, argument)

pub has_two : (a : App) (m : ArgMatches) (words : List Text) → a ≡ two_shape → is_some (two_given words) ≡ true → HasMatchesOf a words m → HasTwo m words
has_two a m words e h hm =
    let p = parsed_two words h in
    let value = matched two_shape a m words simple_two e hm in record {
      root = p.root;
      argument = p.argument;
      is_root = value (codes "ROOT") ∙ p.is_root;
      is_argument = value (codes "ARGUMENT") ∙ p.is_argument;
      asked = p.asked;
    }

-- the values that the matches have of three arguments
pub record HasThree (m : ArgMatches) (words : List Text) : Type 0 where
  pub first : Text
  pub second : Text
  pub third : Text
  pub is_first : first_value (found_of m) (codes "FIRST") ≡ Some first
  pub is_second : first_value (found_of m) (codes "SECOND") ≡ Some second
  pub is_third : first_value (found_of m) (codes "THIRD") ≡ Some third
  pub asked : three_given words ≡ Some (first, second, third)

pub has_three : (a : App) (m : ArgMatches) (words : List Text) → a ≡ three_shape → is_some (three_given words) ≡ true → HasMatchesOf a words m → HasThree m words
has_three a m words e h hm =
    let p = parsed_three words h in
    let value = matched three_shape a m words simple_three e hm in record {
      first = p.first;
      second = p.second;
      third = p.third;
      is_first = value (codes "FIRST") ∙ p.is_first;
      is_second = value (codes "SECOND") ∙ p.is_second;
      is_third = value (codes "THIRD") ∙ p.is_third;
      asked = p.asked;
    }

pub some_now : (o : Option (Bor Text)) (t : Text) → option_map (λ s. s.now) o ≡ Some t → is_some o ≡ true
some_now None t h = absurd cc
some_now (Some s) t h = refl

pub now_is : (o : Option (Bor Text)) (r : Bor Text) (v : Option Text) (t : Text) → o ≡ Some r → option_map (λ s. s.now) o ≡ v → v ≡ Some t → t ≡ r.now
now_is o r v t e f g = let h : Some r.now ≡ Some t = sym (ap (option_map (λ (s : Bor Text). s.now)) e) ∙ f ∙ g in cc
