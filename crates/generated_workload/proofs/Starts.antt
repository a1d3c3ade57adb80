-- The lines of the generated text that start a task, and the wait for all of them.
use Rattle.std.proofs.lemmas.Bool.Decides.{nat_tests}
use Rattle.generated_workload.proofs.Names.{◌≡◌, ℕ, ℤ, suc, pos, ◌+◌, ◌%◌, ◌^◌, ◌≤◌, ◌<◌, Bool, true, false, cond, eqb, List, [], ◌∷◌, ◌++◌, length, Some, None, Ok, refl, ap, ◌∙◌, arith, codes, nat_le, position, list_all, list_any, position_or_len, decimal, and_from, lt-ltb, le-ltb, lt-leb, length-decimal-le, list_of, list_text, list_written, Reading, Statement, bound_at, is_called, change_of, line_text, IsRead, is_inner, is_word, all_append, binding_at, first_statements, generated_task_name, task_statement, last_statement, start_words, task_words, final_line, LineEffect}
use Rattle.std.proofs.Common.{length-append}
use Rattle.workload_file.specs.declared.table.Word.TheVariants as word
use Rattle.workload_file.specs.declared.table.Sort.TheVariants as sort
use Rattle.workload_file.specs.declared.reading.LineEffect.TheVariants as change
use Rattle.workload_file.specs.Table.{statement_row, key_text, word_of}
use Rattle.workload_file.specs.Values.{is_name, timeout_of}
use Rattle.workload_file.specs.Options.{has_twice, text_of}
use Rattle.workload_file.specs.Names.{place_of, is_taken, is_misplaced, is_ninth_caller}
use Rattle.workload_file.specs.Deeds.{deed_with, binds, number_given, args_in, cores_in, flag_in, place_in, timeout_in}
use Rattle.workload_file.specs.Changes.{value_given, value_absent, change_with}
use Rattle.workload_file.specs.Reading.{with_change, line_adds}
use Rattle.generated_workload.specs.Generated.{start_deed, generated_tasks}
use Rattle.generated_workload.proofs.Formed.{is_task_name, is_new, fits}
use Rattle.generated_workload.proofs.Lines.{decimal_inner, inner_word, within_decimal, total, words_add}
use Rattle.generated_workload.proofs.Heads.{Good, state}

-- ---- names

nowhere : {X : Type 0} (p : X → Bool) (xs : List X) → list_any p xs ≡ false → position_or_len p xs ≡ length xs
nowhere p [] h = refl
nowhere p (x ∷ xs) h = grind (arith, nat_tests, nowhere p xs)

no_position : {X : Type 0} (p : X → Bool) (xs : List X) → list_any p xs ≡ false → position p xs ≡ None
no_position p xs h = rw (nowhere p xs h, le-ltb (length xs) (length xs) (omega arith)) refl

not_bound : (i : ℕ) → i < 19000 → bound_at (generated_task_name i) (first_statements ++ generated_tasks i) ≡ None
not_bound i lt = no_position (λ (s : Statement). is_called (generated_task_name i) s.name) (first_statements ++ generated_tasks i) (is_new i lt).1

-- the group is bound by the third statement
group_place : (xs : List Statement) → place_of sort.Group (codes "g") (first_statements ++ xs) ≡ Some 2
unfolding place_of binds
group_place xs = rw (lt-ltb 2 (length (first_statements ++ xs)) (omega arith)) refl

-- ---- a start

abbrev options : ℕ → List ℤ → List (List ℕ)
options job args = (codes "job=" ++ decimal job) ∷ (codes "args=" ++ list_text args) ∷ codes "group=g" ∷ []

-- what the numbers and the name of a start have to be
record Fit (name : List ℕ) (job : ℕ) (args : List ℤ) : Type 0 where
  low : 1 ≤ job
  high : job ≤ 65535
  list : list_of (list_text args) ≡ Some args
  named : is_name name ≡ true

start_is : (r : Reading) (name : List ℕ) (job : ℕ) (args : List ℤ) → Fit name job args → nat_le 20000 r.count ≡ false
    → bound_at name r.current.statements ≡ None → place_of sort.Group (codes "g") r.current.statements ≡ Some 2
    → IsRead r (codes "start") (name ∷ options job args) word.Start name (options job args)
unfolding statement_row key_text word_of is_ninth_caller is_misplaced has_twice is_taken is_name text_of value_given value_absent
start_is r name job args f few new group = record {
  comment = refl;
  word = refl;
  name_is = refl;
  options_are = refl;
  few = few;
  callers = refl;
  placed = refl;
  named = rw f.named refl;
  known = refl;
  once = refl;
  sound = rw (within_decimal 1 65535 job f.low f.high (omega (arith, f.high)), f.list, group) refl;
  free = rw new refl;
  bound = refl;
}

start_change : (r : Reading) (line : ℕ) (name : List ℕ) (job : ℕ) (args : List ℤ) → Fit name job args
    → place_of sort.Group (codes "g") r.current.statements ≡ Some 2
    → change_of r line word.Start name (options job args) ≡ change.Statement (binding_at line name (start_deed job args))
unfolding statement_row key_text is_name text_of value_given value_absent change_with deed_with number_given args_in cores_in flag_in place_in
start_change r line name job args f group = rw (within_decimal 1 65535 job f.low f.high (omega (arith, f.high)), f.list, group) refl

start_adds : (n w i : ℕ) (name : List ℕ) (job : ℕ) (args : List ℤ) → i < 19000 → Fit name job args
    → bound_at name (first_statements ++ generated_tasks i) ≡ None
    → list_all is_word (start_words name job args) ≡ true → total (start_words name job args) ≤ 513
    → line_adds (state n w (first_statements ++ generated_tasks i) (i + 4)) (i + 5) (line_text (start_words name job args))
    ≡ Ok (with_change (state n w (first_statements ++ generated_tasks i) (i + 4)) (i
    + 5) (Some (change.Statement (binding_at (i + 5) name (start_deed job args)))))
start_adds n w i name job args lt f new words few =
    let r = state n w (first_statements ++ generated_tasks i) (i + 4) in
    let room : nat_le 20000 (i + 4) ≡ false = lt-leb 20000 (i + 4) (omega arith) in
    let group = group_place (generated_tasks i) in
    words_add r (i + 5) (codes "start") (name ∷ options job args) word.Start name (options job args) words few (start_is r name job args f room new group)
    ∙ ap (λ (x : LineEffect). Ok (with_change r (i + 5) (Some x)))
    (start_change r (i + 5) name job args f group)

-- ---- a task

two_numbers : (a b : ℕ) → a < 2 ^ 63 → b < 2 ^ 63 → list_of (list_text (pos a ∷ pos b ∷ [])) ≡ Some (pos a ∷ pos b ∷ [])
two_numbers a b la lb = list_written (pos a ∷ pos b ∷ []) (omega arith) (omega arith) (fits a la, (fits b lb, tt))

one_number : (a : ℕ) → a < 2 ^ 63 → list_of (list_text (pos a ∷ [])) ≡ Some (pos a ∷ [])
one_number a la = list_written (pos a ∷ []) (omega arith) (omega arith) (fits a la, tt)

start_good : (i job : ℕ) (args : List ℤ) → i < 19000 → job ≤ 9 → list_all is_inner (list_text args) ≡ true → length (list_text args) ≤ 7
    → Good (start_words (generated_task_name i) job args)
unfolding total
start_good i job args lt le inner short =
    let name = inner_word 116 (decimal i) (decimal_inner i (omega arith)) in
    let work = inner_word 106 (codes "ob=" ++ decimal job) (decimal_inner job (omega arith)) in
    let list = inner_word 97 (codes "rgs=" ++ list_text args) inner in
    let a = length-decimal-le 5 i (omega arith) (omega arith) (omega arith) in
    let b = length-decimal-le 1 job (omega arith) (omega arith) (omega arith) in
    record { good = and_from _ _ name (and_from _ _ work (and_from _ _ list refl)); few = omega (arith, a, b, short) }

even_good : (i : ℕ) → i < 19000 → Good (start_words (generated_task_name i) 1 (pos i ∷ pos 7 ∷ []))
even_good i lt =
    let a = length-decimal-le 5 i (omega arith) (omega arith) (omega arith) in
    let b = length-decimal-le 1 7 (omega arith) (omega arith) (omega arith) in
    start_good i 1 (pos i ∷ pos 7 ∷ []) lt (omega arith)
    (all_append is_inner (decimal i) (44 ∷ decimal 7) (decimal_inner i (omega arith)) (decimal_inner 7 (omega arith)))
    (omega (arith, a, b, length-append (decimal i) (44 ∷ decimal 7)))

odd_good : (i : ℕ) → i < 19000 → Good (start_words (generated_task_name i) 2 (pos (i % 64) ∷ []))
odd_good i lt =
    let a = length-decimal-le 2 (i % 64) (omega arith) (omega arith) (omega arith) in
    start_good i 2 (pos (i % 64) ∷ []) lt (omega arith) (decimal_inner (i % 64) (omega arith)) (omega (arith, a))

pub task_good : (i : ℕ) → i < 19000 → Good (task_words i)
task_good i lt = by (eqb (i % 2) 0)
  where
    by : (b : Bool) → Good (cond b (start_words (generated_task_name i) 1 (pos i ∷ pos 7 ∷ [])) (start_words (generated_task_name i) 2 (pos (i % 64) ∷ [])))
    by true = even_good i lt
    by false = odd_good i lt

next_state : (n w i : ℕ) → with_change (state n w (first_statements ++ generated_tasks i) (i + 4)) (i + 5) (Some (change.Statement (task_statement i)))
    ≡ state n w (first_statements ++ generated_tasks (suc i)) (suc i + 4)
unfolding with_change generated_tasks
next_state n w i = let e : i + 4 + 1 ≡ suc i + 4 = omega arith in
    ap (λ (c : ℕ). state n w (first_statements ++ (generated_tasks i ++ task_statement i ∷ [])) c) e

task_adds_by : (n w i : ℕ) (b : Bool) → i < 19000
    → line_adds (state n w (first_statements ++ generated_tasks i) (i + 4)) (i
    + 5) (line_text (cond b (start_words (generated_task_name i) 1 (pos i ∷ pos 7 ∷ [])) (start_words (generated_task_name i) 2 (pos (i % 64) ∷ []))))
    ≡ Ok (with_change (state n w (first_statements ++ generated_tasks i) (i + 4)) (i
    + 5) (Some (change.Statement (binding_at (i + 5) (generated_task_name i) (cond b (start_deed 1 (pos i ∷ pos 7 ∷ [])) (start_deed 2 (pos (i % 64) ∷ [])))))))
task_adds_by n w i true lt =
    let g = even_good i lt in
    start_adds n w i (generated_task_name i) 1 (pos i ∷ pos 7
    ∷ []) lt (record { low = omega arith; high = omega arith; list = two_numbers i 7 (omega arith) (omega arith); named = is_task_name i lt })
    (not_bound i lt) g.good (omega (arith, g.few))
task_adds_by n w i false lt =
    let g = odd_good i lt in
    start_adds n w i (generated_task_name i) 2 (pos (i % 64)
    ∷ []) lt (record { low = omega arith; high = omega arith; list = one_number (i % 64) (omega arith); named = is_task_name i lt }) (not_bound i lt) g.good
    (omega (arith, g.few))

pub task_adds : (n w i : ℕ) → i < 19000
    → line_adds (state n w (first_statements ++ generated_tasks i) (i + 4)) (i + 5) (line_text (task_words i))
    ≡ Ok (state n w (first_statements ++ generated_tasks (suc i)) (suc i + 4))
task_adds n w i lt = task_adds_by n w i (eqb (i % 2) 0) lt ∙ ap Ok (next_state n w i)

-- ---- the wait for all tasks

abbrev waits : List (List ℕ)
waits = codes "timeout=inf" ∷ []

last_is : (r : Reading) → nat_le 20000 r.count ≡ false → place_of sort.Group (codes "g") r.current.statements ≡ Some 2
    → IsRead r (codes "wait_all") (codes "g" ∷ waits) word.WaitAll (codes "g") waits
unfolding statement_row key_text word_of is_ninth_caller is_misplaced has_twice is_taken is_name timeout_of text_of value_given
last_is r few group = record {
  comment = refl;
  word = refl;
  name_is = refl;
  options_are = refl;
  few = few;
  callers = refl;
  placed = refl;
  named = refl;
  known = refl;
  once = refl;
  sound = refl;
  free = refl;
  bound = rw group refl;
}

last_change : (r : Reading) (n : ℕ) → place_of sort.Group (codes "g") r.current.statements ≡ Some 2
    → change_of r (n + 5) word.WaitAll (codes "g") waits ≡ change.Statement (last_statement n)
unfolding statement_row key_text text_of value_given timeout_of change_with deed_with timeout_in
last_change r n group = rw group refl

last_few : total (codes "wait_all" ∷ codes "g" ∷ waits) ≤ 513
unfolding total
last_few = omega arith

pub last_adds : (n w : ℕ) → n ≤ 19000 → line_adds (state n w (first_statements ++ generated_tasks n) (n + 4)) (n + 5) final_line
    ≡ Ok (with_change (state n w (first_statements ++ generated_tasks n) (n + 4)) (n + 5) (Some (change.Statement (last_statement n))))
last_adds n w le =
    let r = state n w (first_statements ++ generated_tasks n) (n + 4) in
    let group = group_place (generated_tasks n) in
    words_add r (n + 5) (codes "wait_all") (codes "g"
    ∷ waits) word.WaitAll (codes "g") waits refl last_few (last_is r (lt-leb 20000 (n + 4) (omega arith)) group)
    ∙ ap (λ (x : LineEffect). Ok (with_change r (n + 5) (Some x))) (last_change r n group)
