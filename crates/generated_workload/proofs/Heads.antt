-- The lines of the generated text before its first task.
use Rattle.generated_workload.proofs.Names.{◌≡◌, ℕ, ◌≤◌, List, [], ◌∷◌, ◌++◌, true, Some, Ok, refl, ◌∙◌, ap, arith, codes, list_all, decimal, and_from, length-decimal-le, Reading, Statement, change_of, line_text, IsRead, node_settings, is_word, first_statements, generated_settings, node_words, first_lines, LineEffect}
use Rattle.mtapi_values.specs.Kinds.{kind_named}
use Rattle.workload_file.specs.declared.table.Word.TheVariants as word
use Rattle.workload_file.specs.declared.reading.LineEffect.TheVariants as change
use Rattle.workload_file.specs.Cuts.{words_of}
use Rattle.workload_file.specs.Table.{statement_row, key_text, word_of}
use Rattle.number_text.specs.Numbers.{number_within as wide_within, number as wide_number}
use Rattle.workload_file.specs.Values.{is_name, number_from_to, number_in_32}
use Rattle.workload_file.specs.Options.{has_twice, text_of}
use Rattle.workload_file.specs.Names.{is_taken, is_misplaced, is_ninth_caller}
use Rattle.workload_file.specs.Deeds.{deed_with, number_given, kind_in, cores_in}
use Rattle.workload_file.specs.Changes.{value_given, value_absent, change_with}
use Rattle.workload_file.specs.Reading.{line_gives, with_change, line_adds, lines_add, empty_reading}
use Rattle.generated_workload.proofs.Lines.{decimal_inner, inner_word, within_decimal, total, words_add, more}
use Rattle.generated_workload.proofs.Formed.{settings_fit}
use Rattle.workload_file.specs.Faulty.{is_faulty}

-- what was read behind the node's line: these statements, and how many lines were statements
abbrev pub state : ℕ → ℕ → List Statement → ℕ → Reading
state n w statements count = record {
  node_line = 1;
  settings = generated_settings n w;
  before = [];
  current = record { line = 0; name = codes "main"; statements = statements };
  count = count;
}

-- ---- the node

abbrev options : ℕ → ℕ → List (List ℕ)
options n w = (codes "workers=" ++ decimal w) ∷ (codes "max_tasks=" ++ decimal n) ∷ []

node_is : (n w : ℕ) → 1 ≤ n → n ≤ 19000 → 1 ≤ w → w ≤ 16 → IsRead empty_reading (codes "node") (options n w) word.Node [] (options n w)
unfolding empty_reading statement_row key_text word_of is_ninth_caller is_misplaced has_twice is_taken text_of value_given value_absent
node_is n w a b c d = record {
  comment = refl;
  word = refl;
  name_is = refl;
  options_are = refl;
  few = refl;
  callers = refl;
  placed = refl;
  named = refl;
  known = refl;
  once = refl;
  sound = rw (within_decimal 1 16 w c d (omega arith), within_decimal 1 65536 n a (omega arith) (omega arith)) refl;
  free = refl;
  bound = refl;
}

-- what is known of the words of a line
pub record Good (words : List (List ℕ)) : Type 0 where
  pub good : list_all is_word words ≡ true
  pub few : total words ≤ 45

pub node_good : (n w : ℕ) → n ≤ 19000 → w ≤ 16 → Good (node_words n w)
unfolding total
node_good n w le most =
    let workers = inner_word 119 (codes "orkers=" ++ decimal w) (decimal_inner w (omega arith)) in
    let tasks = inner_word 109 (codes "ax_tasks=" ++ decimal n) (decimal_inner n (omega arith)) in
    let a = length-decimal-le 5 n (omega arith) (omega arith) (omega arith) in
    let b = length-decimal-le 2 w (omega arith) (omega arith) (omega arith) in
    record { good = and_from _ _ workers (and_from _ _ tasks refl); few = omega (arith, a, b) }

node_change : (n w : ℕ) → 1 ≤ n → n ≤ 19000 → 1 ≤ w → w ≤ 16 → change_of empty_reading 1 word.Node [] (options n w) ≡ change.Node (generated_settings n w)
unfolding empty_reading statement_row key_text text_of value_given value_absent change_with
node_change n w a b c d = rw (within_decimal 1 16 w c d (omega arith), within_decimal 1 65536 n a (omega arith) (omega arith))
    (ap change.Node (node_settings [] (generated_settings n w) (settings_fit n w a b c d)))

node_adds : (n w : ℕ) → 1 ≤ n → n ≤ 19000 → 1 ≤ w → w ≤ 16 → line_adds empty_reading 1 (line_text (node_words n w)) ≡ Ok (state n w [] 1)
unfolding empty_reading with_change
node_adds n w a b c d =
    let g = node_good n w b d in
    words_add empty_reading 1 (codes "node") (options n w) word.Node [] (options n w) g.good (omega (arith, g.few)) (node_is n w a b c d)
    ∙ ap Ok (ap (λ (x : LineEffect). with_change empty_reading 1 (Some x)) (node_change n w a b c d))

-- ---- the actions and the group

rest_add : (n w : ℕ) → lines_add (state n w [] 1) 2 (codes "action a job=1 kind=add" ∷ codes "action b job=2 kind=triangle" ∷ codes "group g" ∷ [])
    ≡ Ok (state n w first_statements 4)
unfolding lines_add line_adds line_gives words_of is_faulty statement_row key_text word_of is_ninth_caller is_misplaced is_name has_twice is_taken change_with
    text_of
    value_given value_absent deed_with number_given kind_in cores_in with_change kind_named number_from_to number_in_32 wide_within wide_number
rest_add n w = refl

pub first_add : (n w : ℕ) → 1 ≤ n → n ≤ 19000 → 1 ≤ w → w ≤ 16 → lines_add empty_reading 1 (first_lines n w) ≡ Ok (state n w first_statements 4)
first_add n w a b c d = more empty_reading (state n w [] 1) (state n w first_statements 4) 1 _ _ (node_adds n w a b c d) (rest_add n w)
