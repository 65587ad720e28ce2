-- A line of version 1 and its migrated line.
use Rattle.std.proofs.Common.{◌≡◌, ◌∙◌, ◌+◌, ◌*◌, ◌≤◌, ◌==◌, ◌⊎◌, inl, inr, ℕ, Bool, true, false, List, [], ◌∷◌, ◌++◌, Option, Some, None, length, refl, sym, ap, subst, arith, length-append, decimal}
use Rattle.std.specs.Prelude.{Ok, Err, codes, if◌then◌else◌}
use Rattle.std.specs.Str.{bytes_eq}
use Rattle.std.proofs.lemmas.Slice.Eq.{bytes_eq-Decides}
use Rattle.dsdl_types.specs.declared.namespace.Namespace.{Namespace}
use Rattle.node_plan.specs.declared.draft.Draft.{Draft}
use Rattle.node_plan.specs.declared.line.PlanVersion.TheVariants as version
use Rattle.node_plan.specs.declared.line.Said.{Said}
use Rattle.node_plan.specs.declared.line.Said.TheVariants as said
use Rattle.node_plan.specs.declared.plan.BusPlan.{BusPlan}
use Rattle.node_plan.specs.declared.words.Number.TheVariants as number
use Rattle.node_plan.specs.Draft.{step}
use Rattle.node_plan.specs.Line.{RegisterText, Says, SaysEither, register_in, said_of, said_of_bus, said_of_clients, said_of_four, said_of_limits, said_of_node, said_of_queue, said_of_serve, said_of_status, said_of_timeout, said_of_two, said_of_type, said_of_words}
use Rattle.node_plan.specs.Migrate.{migrated_line, migrated_two, migrated_words, numbers_text}
use Rattle.node_plan.specs.Words.{joined, mtu_in, number_in, parts_of, whole_in, words_of}
use Rattle.node_plan.proofs.DecimalLemmas.{AreNumbers}
use Rattle.node_plan.proofs.JoinedLemmas.{parts-append, parts-free}
use Rattle.node_plan.proofs.MigratedSteps.{Kept, bus_step, first_bus, mtu_step, plain_step, rate_step, two_of, version_step}
use Rattle.node_plan.proofs.PlainLines.{AnyShape, Plain, either_same, plain, plain_either, plain_four}
use Rattle.node_plan.proofs.SaidTables as tables

-- buses of version 1 before `mtu` and `rate` count
abbrev pub AreFirst : List BusPlan → Type 0
AreFirst [] = Unit {0}
AreFirst (b ∷ bs) = (b.mtu ≡ 8) × (b.rate ≡ 4096) × AreFirst bs

first-push : (buses : List BusPlan) (name : List ℕ) → AreFirst buses → AreFirst (buses ++ first_bus name ∷ [])
first-push [] name h = (refl, refl, tt)
first-push (b ∷ bs) name h = (h.0, h.1, first-push bs name h.2)

-- what the migrated line makes of the migrated text's draft, and how much longer it is
pub record Moved (names : Namespace) (m r : ℕ) (d new : Draft) (line made : List ℕ) : Type 0 where
  pub meaning : Said
  pub says : Says names true made meaning
  pub step : step (two_of m r d) meaning ≡ Ok (two_of m r new)
  pub version : new.version ≡ Some version.One
  pub first : AreFirst new.buses
  pub longer : length made + 8 * length d.buses ≤ length line + 8 * length new.buses

-- ---- a line's words

-- a line that isn't skipped
pub said_line : (names : Namespace) (two : Bool) (b : ℕ) (s : List ℕ) → (b == 35) ≡ false → said_of names two (b ∷ s) ≡ said_of_words names two (words_of (b ∷ s))
said_line names two b s e = ap (λ test. if test then said.Nothing else said_of_words names two (words_of (b ∷ s))) e

-- whether a word is this one
pub word_case : (a w : List ℕ) → (a ≡ w) ⊎ (bytes_eq a w ≡ false)
word_case a w = of_test (bytes_eq a w) (λ t. (bytes_eq-Decides a w).0 t)
  where
    of_test : (t : Bool) → (t ≡ true → a ≡ w) → (a ≡ w) ⊎ (t ≡ false)
    of_test true h = inl (h refl)
    of_test false h = inr refl

module _ (names : Namespace) (m r : ℕ) (numbers : AreNumbers m r) (d new : Draft) (first : d.version ≡ Some version.One) (ones : AreFirst d.buses) where
  -- a line that stays
  of_kept : (line made : List ℕ) → length made ≤ length line → (s : Said) → Says names true made s → step (two_of m r d) s ≡ Ok (two_of m r new) → Kept d new → Moved names m r d new line made
  of_kept line made short s w h kept = record {
    meaning = s;
    says = w;
    step = h;
    version = kept.version ∙ first;
    first = subst AreFirst (sym kept.buses) ones;
    longer = let same : length new.buses ≡ length d.buses = ap (λ bs. length {A = BusPlan} bs) kept.buses in omega arith;
  }

  stays : (line : List ℕ) (s : Said) → Says names true line s → Plain false s → step d s ≡ Ok new → Moved names m r d new line line
  stays line s w p h =
      let same = plain_step m r d new first s p h in
      of_kept line line (omega arith) s w same.0 same.1

  -- what a line of version 2 says that isn't skipped, by its words
  says_line : (b : ℕ) (s : List ℕ) → (b == 35) ≡ false → (words : List (List ℕ)) → words_of (b ∷ s) ≡ words → (says : Said)
      → SaysEither (register_in words) (said_of_words names true words) says → Says names true (b ∷ s) says
  says_line b s t words e says w =
      subst (λ p. SaysEither (register_in (words_of (b ∷ s))) p says) (sym (said_line names true b s t))
      (subst (λ ws. SaysEither (register_in ws) (said_of_words names true ws) says) (sym e) w)

  -- ---- lines of two words

  module _ (b : ℕ) (s : List ℕ) (said_something : (b == 35) ≡ false) (value : List ℕ) where
    abbrev line : List ℕ
    line = b ∷ s

    abbrev IsTwo : List ℕ → Type 0
    IsTwo word = words_of (b ∷ s) ≡ word ∷ value ∷ []

    abbrev Goes : List ℕ → Type 0
    Goes word = IsTwo word → step d (said_of_two false word value) ≡ Ok new → Moved names m r d new (b ∷ s) (migrated_two (numbers_text m r) (b ∷ s) word)

    of_plan : Goes (codes "plan")
    of_plan e h = absurd (version_step d new first value h)

    -- what a line of version 2 says whose words are these
    says : (word : List ℕ) → IsTwo word → Says names true (b ∷ s) (said_of_two true word value)
    says word e = says_line b s said_something (word ∷ value ∷ []) e (said_of_two true word value) refl

    of_node : Goes (codes "node")
    of_node e h = stays (b ∷ s) (said_of_node (number_in 0 127 value)) (says (codes "node") e) (tables.of_node (Plain false) AnyShape (plain false) (number_in 0 127 value)) h

    of_timeout : Goes (codes "timeout")
    of_timeout e h = stays (b ∷ s) (said_of_timeout (number_in 1 60_000_000 value)) (says (codes "timeout") e) (tables.of_timeout (Plain false) AnyShape (plain false) (number_in 1 60_000_000 value)) h

    of_clients : Goes (codes "clients")
    of_clients e h = stays (b ∷ s) (said_of_clients (number_in 1 128 value)) (says (codes "clients") e) (tables.of_clients (Plain false) AnyShape (plain false) (number_in 1 128 value)) h

    of_queue : Goes (codes "queue")
    of_queue e h = stays (b ∷ s) (said_of_queue (number_in 1 4096 value)) (says (codes "queue") e) (tables.of_queue (Plain false) AnyShape (plain false) (number_in 1 4096 value)) h

    of_serve : Goes (codes "serve")
    of_serve e h = stays (b ∷ s) (said_of_serve value) (says (codes "serve") e) (tables.of_serve (Plain false) AnyShape (plain false) value) h

    of_mtu : Goes (codes "mtu")
    of_mtu e h =
        let g = mtu_step m r d new first (mtu_in value) h in
        of_kept (b ∷ s) [] (omega arith) said.Nothing refl (ap Ok g.0) g.1

    of_rate : Goes (codes "rate")
    of_rate e h =
        let g = rate_step m r d new first (number_in 1 4096 value) h in
        of_kept (b ∷ s) [] (omega arith) said.Nothing refl (ap Ok g.0) g.1

    -- the words of a bus's line, behind which its numbers stand
    bus_words : IsTwo (codes "bus") → words_of (b ∷ (s ++ numbers_text m r)) ≡ codes "bus" ∷ value ∷ decimal m ∷ decimal r ∷ []
    bus_words e =
        parts-append 32 (b ∷ s) (decimal m ++ 32 ∷ decimal r)
        ∙ ap (λ ws. ws ++ parts_of 32 (decimal m ++ 32 ∷ decimal r)) e
        ∙ ap (λ ws. codes "bus" ∷ value ∷ ws) (parts-append 32 (decimal m) (decimal r)
        ∙ ap (λ ws. ws ++ parts_of 32 (decimal r)) (parts-free 32 (decimal m) numbers.mtu_word)
        ∙ ap (λ ws. decimal m ∷ ws) (parts-free 32 (decimal r) numbers.rate_word))

    bus_says : IsTwo (codes "bus") → Says names true (b ∷ (s ++ numbers_text m r)) (said_of_bus value (number.Within m) (number.Within r))
    bus_says e =
        says_line b (s ++ numbers_text m r) said_something (codes "bus" ∷ value ∷ decimal m ∷ decimal r ∷ []) (bus_words e) (said_of_bus value (number.Within m) (number.Within r))
        (sym (ap (λ n. said_of_bus value n (number_in 1 4096 (decimal r))) numbers.mtu
        ∙ ap (said_of_bus value (number.Within m)) numbers.rate))

    of_bus : Goes (codes "bus")
    of_bus e h =
        let g = bus_step m r d new first value h in
        let more : length new.buses ≡ length d.buses + 1 = ap (λ bs. length {A = BusPlan} bs) g.2 ∙ length-append d.buses (first_bus value ∷ []) in
        let long : length ((b ∷ s) ++ numbers_text m r) ≡ length (b ∷ s) + length (numbers_text m r) = length-append (b ∷ s) (numbers_text m r) in
        let short : length (numbers_text m r) ≤ 8 = numbers.short in record {
          meaning = said_of_bus value (number.Within m) (number.Within r);
          says = bus_says e;
          step = g.0;
          version = g.1 ∙ first;
          first = subst AreFirst (sym g.2) (first-push d.buses value ones);
          longer = omega (arith, more, long, short);
        }

    at : (word w : List ℕ) → word ≡ w → Goes w → Goes word
    at word w e g = subst Goes (sym e) g

    of_two : (word : List ℕ) → Goes word
    of_two word = elim (word_case word (codes "plan")) [
      | inl e ↦ at word (codes "plan") e of_plan
      | inr not_plan ↦
          elim (word_case word (codes "node")) [
            | inl e ↦ at word (codes "node") e of_node
            | inr not_node ↦
                elim (word_case word (codes "timeout")) [
                  | inl e ↦ at word (codes "timeout") e of_timeout
                  | inr not_timeout ↦
                      elim (word_case word (codes "clients")) [
                        | inl e ↦ at word (codes "clients") e of_clients
                        | inr not_clients ↦
                            elim (word_case word (codes "queue")) [
                              | inl e ↦ at word (codes "queue") e of_queue
                              | inr not_queue ↦
                                  elim (word_case word (codes "bus")) [
                                    | inl e ↦ at word (codes "bus") e of_bus
                                    | inr not_bus ↦ elim (word_case word (codes "serve")) [
                                      | inl e ↦ at word (codes "serve") e of_serve
                                      | inr not_serve ↦
                                          elim (word_case word (codes "mtu")) [
                                            | inl e ↦ at word (codes "mtu") e of_mtu
                                            | inr not_mtu ↦
                                                elim (word_case word (codes "rate")) [
                                                  | inl e ↦ at word (codes "rate") e of_rate
                                                  | inr not_rate ↦
                                                      λ e h. absurd (none word not_plan not_node not_timeout not_clients not_queue not_bus not_mtu not_rate not_serve h)
                                                ]
                                          ]
                                    ]
                                  ]
                            ]
                      ]
                ]
          ]
    ]
      where
        none : (word : List ℕ) → bytes_eq word (codes "plan") ≡ false → bytes_eq word (codes "node") ≡ false → bytes_eq word (codes "timeout") ≡ false → bytes_eq word (codes "clients") ≡ false
            → bytes_eq word (codes "queue") ≡ false → bytes_eq word (codes "bus") ≡ false → bytes_eq word (codes "mtu") ≡ false → bytes_eq word (codes "rate") ≡ false → bytes_eq word (codes "serve") ≡ false
            → step d (said_of_two false word value) ≡ Ok new → ⊥
        none word p n t c q b m r v h =
            let e : said_of_two false word value ≡ said.NoForm = rw (v, p, n, t, c, q, b, m, r) in
            let g : Err _ ≡ Ok new = sym (ap (step d) e) ∙ h in cc

  -- ---- all lines

  -- a line of four words that version 1 has
  four_same : (a v c e : List ℕ) → step d (said_of_four names false a v c e) ≡ Ok new → said_of_four names true a v c e ≡ said_of_four names false a v c e
  four_same a v c e h = of_tests (bytes_eq a (codes "sub")) (bytes_eq a (codes "status")) (bytes_eq a (codes "bus")) (bytes_eq a (codes "limits")) h
    where
      of_tests : (t u w x : Bool) → step d (if t then said_of_type names v c e else (if u then said_of_status (number_in 0 3 v) (number_in 0 3 c) (number_in 0 255 e) else said.NoForm)) ≡ Ok new
          → (if t then said_of_type names v c e else (if u then said_of_status (number_in 0 3 v) (number_in 0 3 c) (number_in 0 255 e)
          else (if w then said_of_bus v (mtu_in c) (number_in 1 4096 e) else (if x then said_of_limits v (whole_in c) (whole_in e) else said.NoForm))))
          ≡ (if t then said_of_type names v c e else (if u then said_of_status (number_in 0 3 v) (number_in 0 3 c) (number_in 0 255 e) else said.NoForm))
      of_tests true u w x h = refl
      of_tests false true w x h = refl
      of_tests false false w x h = absurd cc

  -- a line that stays, of which version 2 says what version 1 says
  of_same : (b : ℕ) (s : List ℕ) → (b == 35) ≡ false → (words : List (List ℕ)) → words_of (b ∷ s) ≡ words → (says : Said) → SaysEither (register_in words) (said_of_words names false words) says → step d says ≡ Ok new
      → Plain false (said_of_words names false words) → (step d (said_of_words names false words) ≡ Ok new → said_of_words names true words ≡ said_of_words names false words) → Moved names m r d new (b ∷ s) (b ∷ s)
  of_same b s t words e says w h p same =
      stays (b ∷ s) says
      (says_line b s t words e says (either_same (register_in words) (said_of_words names false words) (said_of_words names true words) says (λ k. sym (same (ap (step d) (sym k) ∙ h))) w))
      (plain_either false (register_in words) (said_of_words names false words) says p w) h

  of_words : (b : ℕ) (s : List ℕ) → (b == 35) ≡ false → (words : List (List ℕ)) → words_of (b ∷ s) ≡ words → (says : Said) → SaysEither (register_in words) (said_of_words names false words) says → step d says ≡ Ok new
      → Moved names m r d new (b ∷ s) (migrated_words (numbers_text m r) (b ∷ s) words)
  of_words b s t [] e says w h = of_same b s t [] e says w h tt (λ k. refl)
  of_words b s t (a ∷ []) e says w h = of_same b s t (a ∷ []) e says w h (tables.of_one (Plain false) AnyShape (plain false) a) (λ k. refl)
  of_words b s t (a ∷ v ∷ []) e says w h = of_two b s t v a e (ap (step d) (sym w) ∙ h)
  of_words b s t (a ∷ v ∷ c ∷ []) e says w h = of_same b s t (a ∷ v ∷ c ∷ []) e says w h tt (λ k. refl)
  of_words b s t (a ∷ v ∷ c ∷ f ∷ []) e says w h =
      of_same b s t (a ∷ v ∷ c ∷ f ∷ []) e says w h (plain_four false names a v c f) (four_same a v c f)
  of_words b s t (a ∷ v ∷ c ∷ f ∷ g ∷ []) e says w h =
      of_same b s t (a ∷ v ∷ c ∷ f ∷ g ∷ []) e says w h (tables.of_five (Plain false) AnyShape (plain false) a v c f g) (λ k. refl)
  of_words b s t (a ∷ v ∷ c ∷ f ∷ g ∷ i ∷ more) e says w h =
      of_same b s t (a ∷ v ∷ c ∷ f ∷ g ∷ i ∷ more) e says w h (tables.of_many (Plain false) AnyShape (plain false) a v c f g (joined 32 (i ∷ more))) (λ k. refl)

  -- a line that is skipped
  of_skipped : (line : List ℕ) (o : Option RegisterText) (says : Said) → SaysEither o said.Nothing says → Says names true line says → step d says ≡ Ok new → Moved names m r d new line line
  of_skipped line None says w two h =
      let same : d ≡ new = let g : step d said.Nothing ≡ Ok new = ap (step d) (sym w) ∙ h in cc in
      of_kept line line (omega arith) says two (ap (step (two_of m r d)) w ∙ ap (λ y. Ok (two_of m r y)) same) (subst (Kept d) same (record { version = refl; buses = refl }))
  of_skipped line (Some t) says w two h = stays line says two (plain_either false (Some t) said.NoForm says tt w) h

  pub line_moved : (line : List ℕ) (says : Said) → Says names false line says → step d says ≡ Ok new → Moved names m r d new line (migrated_line (numbers_text m r) line)
  line_moved [] says w h = of_skipped [] None says w w h
  line_moved (b ∷ s) says w h = of_test (b == 35) refl w
    where
      of_test : (t : Bool) → (b == 35) ≡ t → SaysEither (register_in (words_of (b ∷ s))) (if t then said.Nothing else said_of_words names false (words_of (b ∷ s))) says
          → Moved names m r d new (b ∷ s) (if t then b ∷ s else migrated_words (numbers_text m r) (b ∷ s) (words_of (b ∷ s)))
      of_test true e w = of_skipped (b ∷ s) (register_in (words_of (b ∷ s))) says w
          (subst (λ test. SaysEither (register_in (words_of (b ∷ s))) (if test then said.Nothing else said_of_words names true (words_of (b ∷ s))) says) (sym e) w) h
      of_test false e w = of_words b s e (words_of (b ∷ s)) refl says w h
