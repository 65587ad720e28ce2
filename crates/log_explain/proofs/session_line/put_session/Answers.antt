use Rattle.std.proofs.Common.{◌≡◌, ◌∙◌, ℕ, List, ◌∷◌, ◌++◌, codes, decimal, ap, append_assoc}
use Rattle.line_text.specs.Buffer.{text_of}
use Rattle.line_text.specs.Text.{line_of}
use Rattle.log_explain.specs.Text.{kind_word, name_or, tally_words}
use Rattle.log_explain.proofs.session_line.put_session.Goals as goal

-- a text behind others
behind : (start front old new more : List ℕ) → old ≡ start ++ front → new ≡ old ++ more → new ≡ start ++ (front ++ more)
behind start front old new more e f = f ∙ ap (λ t. t ++ more) e ∙ append_assoc start front more

-- seven texts, one behind the other
in_a_row : (a b c d e f g : List ℕ) → (((((a ++ b) ++ c) ++ d) ++ e) ++ f) ++ g ≡ a ++ (b ++ (c ++ (d ++ (e ++ (f ++ g)))))
in_a_row a b c d e f g = simp append_assoc

all : (start t1 t2 t3 t4 t5 t6 t7 a b c d e f g : List ℕ) → t1 ≡ start ++ a → t2 ≡ t1 ++ b → t3 ≡ t2 ++ c → t4 ≡ t3 ++ d → t5 ≡ t4 ++ e → t6 ≡ t5 ++ f → t7 ≡ t6 ++ g → t7 ≡ start ++ (a ++ (b ++ (c ++ (d ++ (e ++ (f ++ g))))))
all start t1 t2 t3 t4 t5 t6 t7 a b c d e f g e1 e2 e3 e4 e5 e6 e7 =
    behind start _ _ _ g (behind start _ _ _ f (behind start _ _ _ e (behind start _ _ _ d (behind start _ _ _ c (behind start _ _ _ b e1 e2) e3) e4) e5) e6) e7
    ∙ ap (λ t. start ++ t) (in_a_row a b c d e f g)

pub returns : goal.returns
returns c =
    let line = c.args.line.now in
    let names = c.args.names.now in
    let kind = c.in_ok-push-2.ensures.ok ∙ ap (λ (w : List ℕ). text_of c.push.new.self ++ w) c.kind_word.ensures in
    let name = c.in_ok-push-4.ensures.ok ∙ ap (λ (w : List ℕ). text_of c.push-3.new.self ++ w) c.name_or.ensures in
    let port = c.in_ok-put_count.ensures {u = tt} ∙ ap (λ (n : ℕ). text_of c.push-2.new.self ++ 32 ∷ decimal n) c.from.ensures in
    let source = c.in_ok-put_count-2.ensures {u = tt} ∙ ap (λ (n : ℕ). text_of c.put_count.new.text ++ 32 ∷ decimal n) c.from-2.ensures in
    all (text_of c.args.text.now) (text_of c.push.new.self) (text_of c.push-2.new.self) (text_of c.put_count.new.text) (text_of c.put_count-2.new.text) (text_of c.push-3.new.self) (text_of c.push-4.new.self) (text_of c.put_tally.new.text)
    (codes "session ") (kind_word line.kind) (32 ∷ decimal line.port) (32 ∷ decimal line.source) (codes " ") (name_or names line.bus) (32 ∷ line_of (tally_words line.tally))
    c.in_ok-push.ensures.ok kind port source c.in_ok-push-3.ensures.ok name (c.in_ok-put_tally.ensures {u = tt})
