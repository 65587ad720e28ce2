use Rattle.std.proofs.Common.{◌≡◌, ◌∙◌, ◌++◌, ℕ, List, [], map, slice_get, Option, Some, None, option_map, unwrap_or, refl, sym, ap}
use Rattle.std.proofs.lemmas.Option.{slice_get-map}
use Rattle.std.specs.Option.{option_copied}
use Rattle.line_text.specs.Buffer.{text_of}
use Rattle.log_explain.specs.Words.{bus_word}
use Rattle.text_lines.specs.Words.{word_text}
use Rattle.text_lines.specs.declared.word.Word.{Word}
use Rattle.log_explain.proofs.bus_words.BusWords.put.Goals as goal

-- the word at a place is that of the name there
words_at : (words : List Word) (names : List (List ℕ)) (bus : ℕ) → map word_text words ≡ map bus_word names
    → option_map word_text (slice_get words bus) ≡ option_map bus_word (slice_get names bus)
words_at words names bus e =
    sym (slice_get-map word_text words bus) ∙ ap (λ (ts : List (List ℕ)). slice_get ts bus) e ∙ slice_get-map bus_word names bus

some_word : (word : Word) (name : Option (List ℕ)) → Some (word_text word) ≡ option_map bus_word name → word_text word ≡ bus_word (unwrap_or name [])
some_word word (Some name) e = cc
some_word word None e = absurd cc

none_word : (name : Option (List ℕ)) → None ≡ option_map bus_word name → bus_word [] ≡ bus_word (unwrap_or name [])
none_word (Some name) e = absurd cc
none_word None e = refl

pub returns-in-Some-clause-text : goal.returns-in-Some-clause-text
returns-in-Some-clause-text c =
    let self = c.args.self.now in
    let at = sym (ap (option_map word_text) (sym c.get.ensures ∙ (ap option_copied c.in-Some.is))) ∙ words_at self.words self.names c.args.bus self.words_are in
    c.put.ensures.text ∙ ap (λ (t : List ℕ). text_of c.args.text.now ++ t) (some_word c.in-Some.word.now (slice_get self.names c.args.bus) at)

pub returns-in-None-clause-text : goal.returns-in-None-clause-text
returns-in-None-clause-text c =
    let self = c.args.self.now in
    let at = sym (ap (option_map word_text) (sym c.get.ensures ∙ (ap option_copied c.in-None.is))) ∙ words_at self.words self.names c.args.bus self.words_are in
    c.put_slice.ensures.text ∙ ap (λ (t : List ℕ). text_of c.args.text.now ++ t) (none_word (slice_get self.names c.args.bus) at)
