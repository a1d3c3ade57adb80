-- The generated text is read as the generated workload.
use Rattle.generated_workload.proofs.Names.{◌≡◌, ℕ, zero, suc, ◌+◌, ◌*◌, ◌≤◌, true, eqb, List, [], ◌∷◌, ◌++◌, length, Some, Ok, refl, ap, ◌∙◌, arith, codes, drop, list_all, join_with_byte, and_parts, and_from, eq-eqb, decimal_digit, length-append, between, Reading, line_text, line_printable, printable_lacks, all_append, first_statements, last_statement, node_words, task_words, first_lines, final_line, generated_text}
use Rattle.std.proofs.lemmas.List.Splits.{slice_split_at, slice_split_none}
use Rattle.workload_file.specs.declared.reading.LineEffect.TheVariants as change
use Rattle.workload_file.specs.Reading.{with_change, lines_add, empty_reading, finished, workload_of}
use Rattle.generated_workload.specs.Generated.{generated_tasks, generated}
use Rattle.generated_workload.specs.Text.{generated_task_lines}
use Rattle.generated_workload.proofs.Lines.{total, total_append, joined_total, push}
use Rattle.generated_workload.proofs.Heads.{Good, state, node_good, first_add}
use Rattle.generated_workload.proofs.Starts.{task_good, task_adds, last_adds}
use Rattle.workload_file.specs.Faulty.{is_printable}

-- ---- lines one behind the other

-- lines without a line feed in them, joined and cut again
between_lines : (first : List ℕ) (rest : List (List ℕ)) → list_all (λ t. list_all is_printable t) (first ∷ rest) ≡ true
    → between 10 (join_with_byte 10 (first ∷ rest)) ≡ first ∷ rest
between_lines first [] h =
    let both = and_parts (list_all is_printable first) _ h in
    slice_split_none (λ b. eqb b 10) first (printable_lacks first both.0)
between_lines first (next ∷ rest) h =
    let both = and_parts (list_all is_printable first) (list_all (λ t. list_all is_printable t) (next ∷ rest)) h in
    slice_split_at (λ b. eqb b 10) first 10 (join_with_byte 10 (next ∷ rest)) (printable_lacks first both.0) (eq-eqb 10 10 refl)
    ∙ ap (λ (x : List (List ℕ)). first ∷ x) (between_lines next rest both.1)

task_count : (n : ℕ) → length (generated_task_lines n) ≡ n
unfolding generated_task_lines
task_count zero = refl
task_count (suc n) = let rest = task_count n in omega (arith, rest, length-append (generated_task_lines n) (line_text (task_words n) ∷ []))

tasks_add : (n w m : ℕ) → 1 ≤ n → n ≤ 19000 → 1 ≤ w → w ≤ 16 → m ≤ 19000
    → lines_add empty_reading 1 (first_lines n w ++ generated_task_lines m) ≡ Ok (state n w (first_statements ++ generated_tasks m) (m + 4))
unfolding generated_task_lines generated_tasks
tasks_add n w zero a b c d le = first_add n w a b c d
tasks_add n w (suc m) a b c d le =
    let at : 1 + length (first_lines n w ++ generated_task_lines m) ≡ m + 5 = omega (arith, task_count m) in
    push (first_lines n w ++ generated_task_lines m) empty_reading (state n w (first_statements ++ generated_tasks m) (m + 4)) _ 1 (line_text (task_words m))
    (tasks_add n w m a b c d (omega arith))
    (rw at (task_adds n w m (omega arith)))

abbrev last_state : ℕ → ℕ → Reading
last_state n w = with_change (state n w (first_statements ++ generated_tasks n) (n + 4)) (n + 5) (Some (change.Statement (last_statement n)))

end_is : (n w : ℕ) → finished (last_state n w) ≡ generated n w
unfolding with_change generated
end_is n w = refl

-- ---- their bytes

-- a line of words that are words
words_printable : (words : List (List ℕ)) → Good words → list_all is_printable (line_text words) ≡ true
words_printable [] g = refl
words_printable (first ∷ rest) g = line_printable first rest g.good

tasks_printable : (n : ℕ) → n ≤ 19000 → list_all (λ t. list_all is_printable t) (generated_task_lines n) ≡ true
unfolding generated_task_lines
tasks_printable zero le = refl
tasks_printable (suc n) le = all_append (λ t. list_all is_printable t) (generated_task_lines n) (line_text (task_words n)
    ∷ []) (tasks_printable n (omega arith)) (and_from _ _ (words_printable (task_words n) (task_good n (omega arith))) refl)

all_printable : (n w : ℕ) → n ≤ 19000 → w ≤ 16 → list_all (λ t. list_all is_printable t) (first_lines n w ++ (generated_task_lines n ++ final_line ∷ [])) ≡ true
all_printable n w le most =
    and_from _ _ (words_printable (node_words n w) (node_good n w le most))
    (all_append (λ t. list_all is_printable t) (generated_task_lines n) (final_line ∷ []) (tasks_printable n le) refl)

pub text_read : (n w : ℕ) → 1 ≤ n → n ≤ 19000 → 1 ≤ w → w ≤ 16 → workload_of (generated_text n w) ≡ Ok (generated n w)
unfolding workload_of
text_read n w a b c d =
    let at : 1 + length (first_lines n w ++ generated_task_lines n) ≡ n + 5 = omega (arith, task_count n) in
    let all = push (first_lines n w ++ generated_task_lines n) empty_reading (state n w (first_statements ++ generated_tasks n) (n + 4))
    (last_state n w) 1 final_line
    (tasks_add n w n a b c d b) (rw at (last_adds n w b)) in
    let cut = between_lines (line_text (node_words n w)) (drop 1 (first_lines n w) ++ (generated_task_lines n ++ final_line ∷ [])) (all_printable n w b d) in
    rw (cut, all) (ap Ok (end_is n w))

-- ---- their length

line_total : (words : List (List ℕ)) → Good words → length (line_text words) ≤ 44
unfolding total
line_total [] g = omega arith
line_total (first ∷ rest) g = let size = joined_total 32 first rest in omega (arith, size, g.few)

tasks_total : (n : ℕ) → n ≤ 19000 → total (generated_task_lines n) ≤ 45 * n
unfolding generated_task_lines total
tasks_total zero le = omega arith
tasks_total (suc n) le =
    let rest = tasks_total n (omega arith) in
    let last = line_total (task_words n) (task_good n (omega arith)) in
    omega (arith, rest, last, total_append (generated_task_lines n) (line_text (task_words n) ∷ []))

pub text_short : (n w : ℕ) → n ≤ 19000 → w ≤ 16 → length (generated_text n w) ≤ 1048576
unfolding total
text_short n w le most =
    let first = line_total (node_words n w) (node_good n w le most) in
    let whole = joined_total 10 (line_text (node_words n w)) (codes "action a job=1 kind=add" ∷ codes "action b job=2 kind=triangle" ∷ codes "group g"
    ∷ (generated_task_lines n ++ final_line ∷ [])) in
    omega (arith, first, whole, tasks_total n le, total_append (generated_task_lines n) (final_line ∷ []))

-- ---- a row

pub text_row : generated_text 3 4 ≡ codes
    "node workers=4 max_tasks=3\naction a job=1 kind=add\naction b job=2 kind=triangle\ngroup g\nstart t0 job=1 args=0,7 group=g\nstart t1 job=2 args=1 group=g\nstart t2 job=1 args=2,7 group=g\nwait_all g timeout=inf"
unfolding generated_task_lines
text_row = rw (
  decimal_digit 4 (omega arith),
  decimal_digit 3 (omega arith),
  decimal_digit 0 (omega arith),
  decimal_digit 1 (omega arith),
  decimal_digit 2
      (omega arith),
  decimal_digit 7 (omega arith),
) refl
