use Rattle.std.proofs.Common.{◌≡◌, ◌∙◌, ℕ, List, ◌∷◌, ◌++◌, codes, decimal, ap, append_assoc}
use Rattle.line_text.specs.Buffer.{text_of}
use Rattle.line_text.specs.Text.{line_of}
use Rattle.bus_survey.specs.Lines.{count_words, kind_word, name_of, number_or, sender_word}
use Rattle.bus_survey.proofs.lines.put_flow.Goals as goal

-- a text behind others
behind : (start front old new more : List ℕ) → old ≡ start ++ front → new ≡ old ++ more → new ≡ start ++ (front ++ more)
behind start front old new more e f = f ∙ ap (λ t. t ++ more) e ∙ append_assoc start front more

-- eight texts, one behind the other
in_a_row : (a b c d e f g h : List ℕ) → ((((((a ++ b) ++ c) ++ d) ++ e) ++ f) ++ g) ++ h ≡ a ++ (b ++ (c ++ (d ++ (e ++ (f ++ (g ++ h))))))
in_a_row a b c d e f g h = simp append_assoc

all : (start t1 t2 t3 t4 t5 t6 t7 t8 a b c d e f g h : List ℕ) → t1 ≡ start ++ a → t2 ≡ t1 ++ b → t3 ≡ t2 ++ c → t4 ≡ t3 ++ d → t5 ≡ t4 ++ e → t6 ≡ t5 ++ f → t7 ≡ t6 ++ g → t8 ≡ t7 ++ h
    → t8 ≡ start ++ (a ++ (b ++ (c ++ (d ++ (e ++ (f ++ (g ++ h)))))))
all start t1 t2 t3 t4 t5 t6 t7 t8 a b c d e f g h e1 e2 e3 e4 e5 e6 e7 e8 =
    behind start _ _ _ h (behind start _ _ _ g (behind start _ _ _ f (behind start _ _ _ e (behind start _ _ _ d (behind start _ _ _ c (behind start _ _ _ b e1 e2) e3) e4) e5) e6) e7) e8
    ∙ ap (λ t. start ++ t) (in_a_row a b c d e f g h)

pub returns : goal.returns
returns c =
    let flow = c.args.flow.now in
    let names = c.args.names.now in
    let start = c.put_slice.ensures.text ∙ ap (λ (t : List ℕ). t ++ codes "port ") c.reserve.ensures.text in
    let kind = c.put_slice-2.ensures.text ∙ ap (λ (w : List ℕ). text_of c.put_slice.new.self ++ w) c.kind_word.ensures.word in
    let name = c.put_slice-4.ensures.text ∙ ap (λ (w : List ℕ). text_of c.put_slice-3.new.self ++ w) c.name_of.ensures.name in
    all (text_of c.args.text.now) (text_of c.put_slice.new.self) (text_of c.put_slice-2.new.self) (text_of c.put_port.new.text) (text_of c.put_sender.new.text) (text_of c.put_receiver.new.text) (text_of c.put_slice-3.new.self) (text_of c.put_slice-4.new.self) (text_of c.put_counts.new.text)
    (codes "port ") (kind_word flow.kind) (32 ∷ decimal flow.port) (32 ∷ sender_word flow.sender) (32 ∷ number_or flow.destination) (codes " ") (name_of names flow.bus) (32 ∷ line_of (count_words c.args.counts.now))
    start kind c.put_port.ensures.text c.put_sender.ensures.text c.put_receiver.ensures.text c.put_slice-3.ensures.text name c.put_counts.ensures
