-- The rule on words is that of the table of the commands.
use Rattle.std.proofs.Common.{◌≡◌, ◌∙◌, sym, ap, subst, refl, ℕ, Bool, true, false, not, ◌&&◌, ◌==◌, cond, List, [], ◌∷◌, codes, Option, Some, None, is_some, option_map}
use Rattle.std.specs.Prelude.{if◌then◌else◌}
use Rattle.std.specs.Option.{option_map_or}
use Rattle.std.specs.Str.{bytes_eq}
use Rattle.std.proofs.lemmas.Slice.Eq.{bytes_eq-Decides}
use Rattle.command_words.specs.Table.{Row, named}
use Rattle.command_words.specs.declared.table.TheConstants.{COMMANDS}
use Rattle.cyphal.specs.TableRule.{accepts, are_given, are_two}
use Rattle.cyphal.specs.Words.{Command, Gen, Order, Survey, Nodes, Monitor, Allocate, command_of, fetch_given, is_argument, is_path}
use Rattle.cyphal.specs.Words.{named_of_one, named_of_two, named_of_three, Fetch, number_given, node_given, window_given}
use Rattle.cyphal.specs.BusNames.{buses_given}

-- ---- tests

-- a word is this one, or another
data Test (word known : List ℕ) : Type 0 where
  same : word ≡ known → Test word known
  other : bytes_eq word known ≡ false → bytes_eq known word ≡ false → Test word known

tested : (word known : List ℕ) (here there : Bool) → bytes_eq word known ≡ here → bytes_eq known word ≡ there → Test word known
tested word known true there h k = same ((bytes_eq-Decides word known).0 h)
tested word known false true h k = same (sym ((bytes_eq-Decides known word).0 k))
tested word known false false h k = other h k

test : (word known : List ℕ) → Test word known
test word known = tested word known (bytes_eq word known) (bytes_eq known word) refl refl

no_more : (b : Bool) → b && false ≡ false
no_more true = refl
no_more false = refl

none_either_way : (b : Bool) → is_some {T = Command} (if b then None else None) ≡ false
none_either_way true = refl
none_either_way false = refl

text_alone : (a : Bool) (asked : Command) → is_some (if a then Some asked else None) ≡ a && (true && true)
text_alone true asked = refl
text_alone false asked = refl

form_alone : {X : Type 0} (a : Bool) (make : X → Command) (given : Option X) → is_some (if a then option_map make given else None) ≡ a && (is_some given && true)
form_alone true make None = refl
form_alone true make (Some x) = refl
form_alone false make given = refl

two_texts : (a b : Bool) (asked : Command) → is_some (if a && b then Some asked else None) ≡ a && (true && (b && (true && true)))
two_texts true true asked = refl
two_texts true false asked = refl
two_texts false b asked = refl

three_texts : (a b c : Bool) (asked : Command) → is_some (if a && (b && c) then Some asked else None) ≡ a && (true && (b && (true && (c && (true && true)))))
three_texts true true true asked = refl
three_texts true true false asked = refl
three_texts true false c asked = refl
three_texts false b c asked = refl

chosen : (far is : Bool) (asked : Command) → is_some (if far && is then Some asked else None) ≡ far && (is && true)
chosen true true asked = refl
chosen true false asked = refl
chosen false is asked = refl

-- a file of another node
fetched : (own server : Option ℕ) (path : List ℕ) → is_some (fetch_given own server path) ≡ is_some own && (are_two own server && (is_path path && true))
fetched None server path = refl
fetched (Some own) None path = refl
fetched (Some own) (Some server) path = chosen (not (server == own)) (is_path path) (Fetch own server path)

file_of_another : (a b c : Bool) (own server : Option ℕ) (path : List ℕ) → is_some (if a && (b && c) then fetch_given own server path else None) ≡ a && (is_some own && (b && (are_two own server && (c && (is_path path && true)))))
file_of_another true true true own server path = fetched own server path
file_of_another true true false own server path = sym (simp no_more refl)
file_of_another true false c own server path = sym (no_more (is_some own))
file_of_another false b c own server path = refl

-- ---- the commands

-- words behind this one are a command exactly where the table accepts them
abbrev Agrees : List ℕ → List (List ℕ) → Type 0
Agrees word words = is_some (command_of (word ∷ words)) ≡ accepts (word ∷ words)

run_agrees : (words : List (List ℕ)) → Agrees (codes "run") words
run_agrees [] = refl
run_agrees (a ∷ []) = none_either_way (is_argument a) ∙ sym (simp no_more refl)
run_agrees (a ∷ b ∷ []) = two_texts (is_argument a) (is_argument b) _
run_agrees (a ∷ b ∷ c ∷ []) = none_either_way (is_argument a && (is_argument b && is_argument c)) ∙ sym (simp no_more refl)
run_agrees (a ∷ b ∷ c ∷ d ∷ rest) = sym (simp no_more refl)

json_agrees : (words : List (List ℕ)) → Agrees (codes "json") words
json_agrees [] = refl
json_agrees (a ∷ []) = none_either_way (is_argument a) ∙ sym (simp no_more refl)
json_agrees (a ∷ b ∷ []) = two_texts (is_argument a) (is_argument b) _
json_agrees (a ∷ b ∷ c ∷ []) = none_either_way (is_argument a && (is_argument b && is_argument c)) ∙ sym (simp no_more refl)
json_agrees (a ∷ b ∷ c ∷ d ∷ rest) = sym (simp no_more refl)

explain_agrees : (words : List (List ℕ)) → Agrees (codes "explain") words
explain_agrees [] = refl
explain_agrees (a ∷ []) = none_either_way (is_argument a) ∙ sym (simp no_more refl)
explain_agrees (a ∷ b ∷ []) = two_texts (is_argument a) (is_argument b) _
explain_agrees (a ∷ b ∷ c ∷ []) = none_either_way (is_argument a && (is_argument b && is_argument c)) ∙ sym (simp no_more refl)
explain_agrees (a ∷ b ∷ c ∷ d ∷ rest) = sym (simp no_more refl)

survey_agrees : (words : List (List ℕ)) → Agrees (codes "survey") words
survey_agrees [] = refl
survey_agrees (a ∷ []) = form_alone (is_argument a) Survey (buses_given a)
survey_agrees (a ∷ b ∷ []) = none_either_way (is_argument a && is_argument b) ∙ sym (simp no_more refl)
survey_agrees (a ∷ b ∷ c ∷ []) = none_either_way (is_argument a && (is_argument b && is_argument c)) ∙ sym (simp no_more refl)
survey_agrees (a ∷ b ∷ c ∷ d ∷ rest) = sym (simp no_more refl)

nodes_agrees : (words : List (List ℕ)) → Agrees (codes "nodes") words
nodes_agrees [] = refl
nodes_agrees (a ∷ []) = form_alone (is_argument a) Nodes (buses_given a)
nodes_agrees (a ∷ b ∷ []) = none_either_way (is_argument a && is_argument b) ∙ sym (simp no_more refl)
nodes_agrees (a ∷ b ∷ c ∷ []) = none_either_way (is_argument a && (is_argument b && is_argument c)) ∙ sym (simp no_more refl)
nodes_agrees (a ∷ b ∷ c ∷ d ∷ rest) = sym (simp no_more refl)

order_agrees : (words : List (List ℕ)) → Agrees (codes "order") words
order_agrees [] = refl
order_agrees (a ∷ []) = form_alone (is_argument a) Order (window_given a)
order_agrees (a ∷ b ∷ []) = none_either_way (is_argument a && is_argument b) ∙ sym (simp no_more refl)
order_agrees (a ∷ b ∷ c ∷ []) = none_either_way (is_argument a && (is_argument b && is_argument c)) ∙ sym (simp no_more refl)
order_agrees (a ∷ b ∷ c ∷ d ∷ rest) = sym (simp no_more refl)

gen_agrees : (words : List (List ℕ)) → Agrees (codes "gen") words
gen_agrees [] = refl
gen_agrees (a ∷ []) = form_alone (is_argument a) Gen (number_given a)
gen_agrees (a ∷ b ∷ []) = none_either_way (is_argument a && is_argument b) ∙ sym (simp no_more refl)
gen_agrees (a ∷ b ∷ c ∷ []) = none_either_way (is_argument a && (is_argument b && is_argument c)) ∙ sym (simp no_more refl)
gen_agrees (a ∷ b ∷ c ∷ d ∷ rest) = sym (simp no_more refl)

monitor_agrees : (words : List (List ℕ)) → Agrees (codes "monitor") words
monitor_agrees [] = refl
monitor_agrees (a ∷ []) = form_alone (is_argument a) Monitor (node_given a)
monitor_agrees (a ∷ b ∷ []) = none_either_way (is_argument a && is_argument b) ∙ sym (simp no_more refl)
monitor_agrees (a ∷ b ∷ c ∷ []) = none_either_way (is_argument a && (is_argument b && is_argument c)) ∙ sym (simp no_more refl)
monitor_agrees (a ∷ b ∷ c ∷ d ∷ rest) = sym (simp no_more refl)

allocate_agrees : (words : List (List ℕ)) → Agrees (codes "allocate") words
allocate_agrees [] = refl
allocate_agrees (a ∷ []) = form_alone (is_argument a) Allocate (node_given a)
allocate_agrees (a ∷ b ∷ []) = none_either_way (is_argument a && is_argument b) ∙ sym (simp no_more refl)
allocate_agrees (a ∷ b ∷ c ∷ []) = none_either_way (is_argument a && (is_argument b && is_argument c)) ∙ sym (simp no_more refl)
allocate_agrees (a ∷ b ∷ c ∷ d ∷ rest) = sym (simp no_more refl)

fetch_agrees : (words : List (List ℕ)) → Agrees (codes "fetch") words
fetch_agrees [] = refl
fetch_agrees (a ∷ []) = none_either_way (is_argument a) ∙ sym (simp no_more refl)
fetch_agrees (a ∷ b ∷ []) = none_either_way (is_argument a && is_argument b) ∙ sym (simp no_more refl)
fetch_agrees (a ∷ b ∷ c ∷ []) = file_of_another (is_argument a) (is_argument b) (is_argument c) (node_given a) (node_given b) c
fetch_agrees (a ∷ b ∷ c ∷ d ∷ rest) = sym (simp no_more refl)

bound_agrees : (words : List (List ℕ)) → Agrees (codes "bound") words
bound_agrees [] = refl
bound_agrees (a ∷ []) = none_either_way (is_argument a) ∙ sym (simp no_more refl)
bound_agrees (a ∷ b ∷ []) = two_texts (is_argument a) (is_argument b) _
bound_agrees (a ∷ b ∷ c ∷ []) = none_either_way (is_argument a && (is_argument b && is_argument c)) ∙ sym (simp no_more refl)
bound_agrees (a ∷ b ∷ c ∷ d ∷ rest) = sym (simp no_more refl)

migrate_agrees : (words : List (List ℕ)) → Agrees (codes "migrate") words
migrate_agrees [] = refl
migrate_agrees (a ∷ []) = none_either_way (is_argument a) ∙ sym (simp no_more refl)
migrate_agrees (a ∷ b ∷ []) = two_texts (is_argument a) (is_argument b) _
migrate_agrees (a ∷ b ∷ c ∷ []) = none_either_way (is_argument a && (is_argument b && is_argument c)) ∙ sym (simp no_more refl)
migrate_agrees (a ∷ b ∷ c ∷ d ∷ rest) = sym (simp no_more refl)

compile_agrees : (words : List (List ℕ)) → Agrees (codes "compile") words
compile_agrees [] = refl
compile_agrees (a ∷ []) = text_alone (is_argument a) _
compile_agrees (a ∷ b ∷ []) = none_either_way (is_argument a && is_argument b) ∙ sym (simp no_more refl)
compile_agrees (a ∷ b ∷ c ∷ []) = none_either_way (is_argument a && (is_argument b && is_argument c)) ∙ sym (simp no_more refl)
compile_agrees (a ∷ b ∷ c ∷ d ∷ rest) = sym (simp no_more refl)

compat_agrees : (words : List (List ℕ)) → Agrees (codes "compat") words
compat_agrees [] = refl
compat_agrees (a ∷ []) = none_either_way (is_argument a) ∙ sym (simp no_more refl)
compat_agrees (a ∷ b ∷ []) = none_either_way (is_argument a && is_argument b) ∙ sym (simp no_more refl)
compat_agrees (a ∷ b ∷ c ∷ []) = three_texts (is_argument a) (is_argument b) (is_argument c) _
compat_agrees (a ∷ b ∷ c ∷ d ∷ rest) = sym (simp no_more refl)

versions_agrees : (words : List (List ℕ)) → Agrees (codes "versions") words
versions_agrees [] = refl
versions_agrees (a ∷ []) = text_alone (is_argument a) _
versions_agrees (a ∷ b ∷ []) = none_either_way (is_argument a && is_argument b) ∙ sym (simp no_more refl)
versions_agrees (a ∷ b ∷ c ∷ []) = none_either_way (is_argument a && (is_argument b && is_argument c)) ∙ sym (simp no_more refl)
versions_agrees (a ∷ b ∷ c ∷ d ∷ rest) = sym (simp no_more refl)

changes_agrees : (words : List (List ℕ)) → Agrees (codes "changes") words
changes_agrees [] = refl
changes_agrees (a ∷ []) = none_either_way (is_argument a) ∙ sym (simp no_more refl)
changes_agrees (a ∷ b ∷ []) = two_texts (is_argument a) (is_argument b) _
changes_agrees (a ∷ b ∷ c ∷ []) = none_either_way (is_argument a && (is_argument b && is_argument c)) ∙ sym (simp no_more refl)
changes_agrees (a ∷ b ∷ c ∷ d ∷ rest) = sym (simp no_more refl)

encode_agrees : (words : List (List ℕ)) → Agrees (codes "encode") words
encode_agrees [] = refl
encode_agrees (a ∷ []) = none_either_way (is_argument a) ∙ sym (simp no_more refl)
encode_agrees (a ∷ b ∷ []) = two_texts (is_argument a) (is_argument b) _
encode_agrees (a ∷ b ∷ c ∷ []) = none_either_way (is_argument a && (is_argument b && is_argument c)) ∙ sym (simp no_more refl)
encode_agrees (a ∷ b ∷ c ∷ d ∷ rest) = sym (simp no_more refl)

decode_agrees : (words : List (List ℕ)) → Agrees (codes "decode") words
decode_agrees [] = refl
decode_agrees (a ∷ []) = none_either_way (is_argument a) ∙ sym (simp no_more refl)
decode_agrees (a ∷ b ∷ []) = two_texts (is_argument a) (is_argument b) _
decode_agrees (a ∷ b ∷ c ∷ []) = none_either_way (is_argument a && (is_argument b && is_argument c)) ∙ sym (simp no_more refl)
decode_agrees (a ∷ b ∷ c ∷ d ∷ rest) = sym (simp no_more refl)

-- ---- other words

-- a word is none of these commands
abbrev pub IsNone_of : List ℕ → List Row → Type 0
IsNone_of word [] = Unit {0}
IsNone_of word (row ∷ rows) = (bytes_eq row.word.now word ≡ false) × IsNone_of word rows

passed : (here : Bool) (row : Row) (others : Option Row) → here ≡ false → cond here (Some row) others ≡ others
passed true row others h = absurd cc
passed false row others h = refl

unnamed : (word : List ℕ) (rows : List Row) → IsNone_of word rows → named word rows ≡ None
unnamed word [] h = refl
unnamed word (row ∷ rows) h = passed (bytes_eq row.word.now word) row (named word rows) h.0 ∙ unnamed word rows h.1

unaccepted : (word : List ℕ) (words : List (List ℕ)) → IsNone_of word COMMANDS.now → accepts (word ∷ words) ≡ false
unaccepted word words h = ap (λ (found : Option Row). option_map_or (λ row. are_given None row.arguments.now words) found false) (unnamed word COMMANDS.now h)

module _ (word : List ℕ)
    (no_run : bytes_eq word (codes "run") ≡ false)
    (no_json : bytes_eq word (codes "json") ≡ false)
    (no_explain : bytes_eq word (codes "explain") ≡ false)
    (no_survey : bytes_eq word (codes "survey") ≡ false)
    (no_nodes : bytes_eq word (codes "nodes") ≡ false)
    (no_order : bytes_eq word (codes "order") ≡ false)
    (no_gen : bytes_eq word (codes "gen") ≡ false)
    (no_monitor : bytes_eq word (codes "monitor") ≡ false)
    (no_allocate : bytes_eq word (codes "allocate") ≡ false)
    (no_fetch : bytes_eq word (codes "fetch") ≡ false)
    (no_bound : bytes_eq word (codes "bound") ≡ false)
    (no_migrate : bytes_eq word (codes "migrate") ≡ false)
    (no_compile : bytes_eq word (codes "compile") ≡ false)
    (no_compat : bytes_eq word (codes "compat") ≡ false)
    (no_versions : bytes_eq word (codes "versions") ≡ false)
    (no_changes : bytes_eq word (codes "changes") ≡ false)
    (no_encode : bytes_eq word (codes "encode") ≡ false)
    (no_decode : bytes_eq word (codes "decode") ≡ false) where
  of_one : (a : List ℕ) → named_of_one word a ≡ None
  of_one a = simp (no_compile, no_versions, no_gen, no_order, no_survey, no_nodes, no_monitor, no_allocate) refl

  of_two : (a b : List ℕ) → named_of_two word a b ≡ None
  of_two a b = simp (no_encode, no_decode, no_changes, no_run, no_json, no_bound, no_migrate, no_explain) refl

  of_three : (a b c : List ℕ) → named_of_three word a b c ≡ None
  of_three a b c = simp (no_compat, no_fetch) refl

  no_command : (words : List (List ℕ)) → is_some (command_of (word ∷ words)) ≡ false
  no_command [] = refl
  no_command (a ∷ []) = rw (of_one a) (none_either_way (is_argument a))
  no_command (a ∷ b ∷ []) = rw (of_two a b) (none_either_way (is_argument a && is_argument b))
  no_command (a ∷ b ∷ c ∷ []) = rw (of_three a b c) (none_either_way (is_argument a && (is_argument b && is_argument c)))
  no_command (a ∷ b ∷ c ∷ d ∷ rest) = refl

-- ---- all words

agrees : (word : List ℕ) (words : List (List ℕ)) → Agrees word words
agrees word words =
    elim (test word (codes "run")) [
      | same e ↦ subst (λ (w : List ℕ). Agrees w words) (sym e) (run_agrees words)
      | other no_run not_run ↦
          elim (test word (codes "json")) [
            | same e ↦ subst (λ (w : List ℕ). Agrees w words) (sym e) (json_agrees words)
            | other no_json not_json ↦
                elim (test word (codes "explain")) [
                  | same e ↦ subst (λ (w : List ℕ). Agrees w words) (sym e) (explain_agrees words)
                  | other no_explain not_explain ↦
                      elim (test word (codes "survey")) [
                        | same e ↦ subst (λ (w : List ℕ). Agrees w words) (sym e) (survey_agrees words)
                        | other no_survey not_survey ↦
                            elim (test word (codes "nodes")) [
                              | same e ↦ subst (λ (w : List ℕ). Agrees w words) (sym e) (nodes_agrees words)
                              | other no_nodes not_nodes ↦
                                  elim (test word (codes "order")) [
                                    | same e ↦ subst (λ (w : List ℕ). Agrees w words) (sym e) (order_agrees words)
                                    | other no_order not_order ↦
                                        elim (test word (codes "gen")) [
                                          | same e ↦ subst (λ (w : List ℕ). Agrees w words) (sym e) (gen_agrees words)
                                          | other no_gen not_gen ↦
                                              elim (test word (codes "monitor")) [
                                                | same e ↦ subst (λ (w : List ℕ). Agrees w words) (sym e) (monitor_agrees words)
                                                | other no_monitor not_monitor ↦
                                                    elim (test word (codes "allocate")) [
                                                      | same e ↦ subst (λ (w : List ℕ). Agrees w words) (sym e) (allocate_agrees words)
                                                      | other no_allocate not_allocate ↦
                                                          elim (test word (codes "fetch")) [
                                                            | same e ↦ subst (λ (w : List ℕ). Agrees w words) (sym e) (fetch_agrees words)
                                                            | other no_fetch not_fetch ↦
                                                                elim (test word (codes "bound")) [
                                                                  | same e ↦ subst (λ (w : List ℕ). Agrees w words) (sym e) (bound_agrees words)
                                                                  | other no_bound not_bound ↦
                                                                      elim (test word (codes "migrate")) [
                                                                        | same e ↦ subst (λ (w : List ℕ). Agrees w words) (sym e) (migrate_agrees words)
                                                                        | other no_migrate not_migrate ↦
                                                                            elim (test word (codes "compile")) [
                                                                              | same e ↦ subst (λ (w : List ℕ). Agrees w words) (sym e) (compile_agrees words)
                                                                              | other no_compile not_compile ↦
                                                                                  elim (test word (codes "compat")) [
                                                                                    | same e ↦ subst (λ (w : List ℕ). Agrees w words) (sym e) (compat_agrees words)
                                                                                    | other no_compat not_compat ↦
                                                                                        elim (test word (codes "versions")) [
                                                                                          | same e ↦ subst (λ (w : List ℕ). Agrees w words) (sym e) (versions_agrees words)
                                                                                          | other no_versions not_versions ↦
                                                                                              elim (test word (codes "changes")) [
                                                                                                | same e ↦ subst (λ (w : List ℕ). Agrees w words) (sym e) (changes_agrees words)
                                                                                                | other no_changes not_changes ↦
                                                                                                    elim (test word (codes "encode")) [
                                                                                                      | same e ↦ subst (λ (w : List ℕ). Agrees w words) (sym e) (encode_agrees words)
                                                                                                      | other no_encode not_encode ↦
                                                                                                          elim (test word (codes "decode")) [
                                                                                                            | same e ↦ subst (λ (w : List ℕ). Agrees w words) (sym e) (decode_agrees words)
                                                                                                            | other no_decode not_decode ↦
                                                                                                                no_command word no_run no_json no_explain no_survey no_nodes no_order no_gen no_monitor no_allocate no_fetch no_bound no_migrate no_compile no_compat no_versions no_changes no_encode no_decode words ∙ sym (unaccepted word words (not_run, (not_json, (not_explain, (not_survey, (not_nodes, (not_order, (not_gen, (not_monitor, (not_allocate, (not_fetch, (not_bound, (not_migrate, (not_compile, (not_compat, (not_versions, (not_changes, (not_encode, (not_decode, tt)))))))))))))))))))
                                                                                                          ]
                                                                                                    ]
                                                                                              ]
                                                                                        ]
                                                                                  ]
                                                                            ]
                                                                      ]
                                                                ]
                                                          ]
                                                    ]
                                              ]
                                        ]
                                  ]
                            ]
                      ]
                ]
          ]
    ]

pub table_decides : (words : List (List ℕ)) → is_some (command_of words) ≡ accepts words
table_decides [] = refl
table_decides (word ∷ words) = agrees word words
