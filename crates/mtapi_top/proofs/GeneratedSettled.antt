-- The generated workload is settled.
use Rattle.mtapi_top.proofs.Names.{◌≡◌, ℕ, zero, suc, pos, ◌+◌, ◌%◌, ◌≤◌, ◌<◌, Bool, true, false, cond, List, [], ◌∷◌, ◌++◌, Some, None, length, refl, ap, ◌∙◌, arith, ◌==◌, ◌&&◌, ◌||◌, not, nat_lt, nat_le, is_some, ◌+ℤ◌, ◌*◌, ◌/◌, option_and_then, list_any, flat_map, action_in, actions_in, queue_in, task_in, plain_end, plain_fault, serves, is_settled_deed, are_settled, has_one_kind_a_job, has_new_id, has_different_ids, has_room, deed_puts_into, keep_limits, both, fault_in, have_one_fault_a_group, is_action_deed, makes_group, makes_task, is_settled, all_cores, first_statements, start_deed, task_deed, task_statement, generated_tasks, last_statement, generated_settings, generated, GeneratedIsSettled}
use Rattle.std.proofs.lemmas.Bool.Decides.{nat_tests}
use Rattle.std.proofs.lemmas.List.{append-nil}
use Rattle.mtapi_values.specs.Attributes.{NodeSettings}
use Rattle.mtapi_values.specs.Conditions.{holds}
use Rattle.mtapi_values.specs.declared.kinds.Kind.TheVariants as kind
use Rattle.action_fn.specs.Answers.{fits, number_end, answer_of}
use Rattle.handle_pool.specs.Issued.{how_many}
use Rattle.mtapi_objects.specs.Actions.{Action, new_action, is_eligible}
use Rattle.mtapi_objects.specs.Groups.{fault_of}
use Rattle.mtapi_machine.specs.WorkRows.{task_end}
use Rattle.workload_file.specs.declared.workload.Deed.{Deed}
use Rattle.workload_file.specs.declared.workload.Statement.{Statement}
use Rattle.settled_runs.proofs.Granted.{below_found}

-- What a task's statement asks for

data IsTask : Deed → Type 0 where
  adds : (i : ℕ) → i < 19000 → IsTask (start_deed 1 (pos i ∷ pos 7 ∷ []))
  triangles : (k : ℕ) → k < 64 → IsTask (start_deed 2 (pos k ∷ []))

abbrev AreTasks : List Statement → Type 0
AreTasks [] = Unit {0}
AreTasks (s ∷ ss) = IsTask s.deed × AreTasks ss

deed_is : (i : ℕ) → i < 19000 → IsTask (task_deed i)
deed_is i l = by_half (i % 2 == 0)
  where
    by_half : (b : Bool) → IsTask (cond b (start_deed 1 (pos i ∷ pos 7 ∷ [])) (start_deed 2 (pos (i % 64) ∷ [])))
    by_half true = adds i l
    by_half false = triangles (i % 64) (omega arith)

more : (ss : List Statement) (s : Statement) → AreTasks ss → IsTask s.deed → AreTasks (ss ++ s ∷ [])
more [] s a t = (t, tt)
more (x ∷ ss) s a t = (a.0, more ss s a.1 t)

tasks_are : (n : ℕ) → n ≤ 19000 → AreTasks (generated_tasks n)
unfolding generated_tasks
tasks_are zero l = tt
tasks_are (suc n) l = more (generated_tasks n) (task_statement n) (tasks_are n (omega arith)) (deed_is n (omega arith))

length_more : (ss : List Statement) (s : Statement) → length (ss ++ s ∷ []) ≡ length ss + 1
length_more [] s = refl
length_more (x ∷ ss) s = let k : length (ss ++ s ∷ []) ≡ length ss + 1 = length_more ss s in omega arith

tasks_length : (n : ℕ) → length (generated_tasks n) ≡ n
unfolding generated_tasks
tasks_length zero = refl
tasks_length (suc n) = let k : length (generated_tasks n) ≡ n = tasks_length n in
    let e : length (generated_tasks n ++ task_statement n ∷ []) ≡ length (generated_tasks n) + 1 =
    length_more (generated_tasks n) (task_statement n) in omega arith

-- The two actions

abbrev two : List Action
two = new_action 1 kind.Add all_cores.0 ∷ new_action 2 kind.Triangle all_cores.0 ∷ []

serves_job : (w : ℕ) → 1 ≤ w → (job : ℕ) → list_any (is_eligible w 0 job all_cores.0) two ≡ true → serves w two job all_cores.0 ≡ true
serves_job w l job e = below_found w 0 (λ v. list_any (is_eligible w v job all_cores.0) two) (omega arith) e

first_below : (w : ℕ) → 1 ≤ w → nat_lt 0 w ≡ true
first_below w l = grind (arith, nat_tests)

serves_add : (w : ℕ) → 1 ≤ w → serves w two 1 all_cores.0 ≡ true
serves_add w l = serves_job w l 1 (λ i. (first_below w l i && true && true) || false)

serves_triangle : (w : ℕ) → 1 ≤ w → serves w two 2 all_cores.0 ≡ true
serves_triangle w l = serves_job w l 2 (λ i. false || (first_below w l i && true && true) || false)

no_actions : (ss : List Statement) → AreTasks ss → actions_in ss ≡ []
no_actions [] a = refl
no_actions (s ∷ ss) a = by_deed s.deed a.0 (no_actions ss a.1)
  where
    by_deed : (d : Deed) → IsTask d → actions_in ss ≡ [] → action_in d ++ actions_in ss ≡ []
    by_deed _ (adds i l) e = e
    by_deed _ (triangles k l) e = e

-- Each statement is one of a settled workload

module _ (n w : ℕ) (some : 1 ≤ w) where
  abbrev settings : NodeSettings
  settings = generated_settings n w

  task_settled : (actions : List Action) (before all : List Statement) (d : Deed) → actions ≡ two → IsTask d
      → is_settled_deed settings actions before all d ≡ true
  unfolding is_settled_deed task_in
  task_settled actions before all _ e (adds i l) = ap (λ (xs : List Action). serves w xs 1 all_cores.0) e ∙ serves_add w some
  task_settled actions before all _ e (triangles k l) = ap (λ (xs : List Action). serves w xs 2 all_cores.0) e ∙ serves_triangle w some

  actions_append : (before : List Statement) (s : Statement) → IsTask s.deed → actions_in (before ++ s ∷ []) ≡ actions_in before
  actions_append [] s t = by_deed s.deed t
    where
      by_deed : (d : Deed) → IsTask d → action_in d ++ [] ≡ []
      by_deed _ (adds i l) = refl
      by_deed _ (triangles k l) = refl
  actions_append (x ∷ before) s t = ap (λ xs. action_in x.deed ++ xs) (actions_append before s t)

  actions_more : (before : List Statement) (s : Statement) → actions_in before ≡ two → IsTask s.deed → actions_in (before ++ s ∷ []) ≡ two
  actions_more before s e t = actions_append before s t ∙ e

  all_settled : (all before ss : List Statement) (m : ℕ) → actions_in before ≡ two → AreTasks ss
      → are_settled settings [] all before (ss ++ last_statement m ∷ []) ≡ true
  unfolding are_settled is_settled_deed
  all_settled all before [] m e a = refl
  all_settled all before (s ∷ ss) m e a =
      λ i. task_settled (actions_in before) before all s.deed e a.0 i && all_settled all (before ++ s ∷ []) ss m (actions_more before s e a.0) a.1 i

-- No queue, and how many of each

ids : (ss : List Statement) (m : ℕ) → AreTasks ss → has_different_ids (ss ++ last_statement m ∷ []) ≡ true
unfolding has_different_ids
ids [] m a = refl
ids (s ∷ ss) m a = by_deed s.deed a.0 (ids ss m a.1)
  where
    by_deed : (d : Deed) → IsTask d → has_different_ids (ss ++ last_statement m ∷ []) ≡ true
        → (has_new_id (queue_in d) (ss ++ last_statement m ∷ []) && has_different_ids (ss ++ last_statement m ∷ [])) ≡ true
    by_deed _ (adds i l) e = e
    by_deed _ (triangles k l) e = e

limits : (all : List Statement) (place : ℕ) (ss : List Statement) (m : ℕ) → AreTasks ss → keep_limits all place (ss ++ last_statement m ∷ []) ≡ true
unfolding keep_limits
limits all place [] m a = refl
limits all place (s ∷ ss) m a = by_deed s.deed a.0 (limits all (place + 1) ss m a.1)
  where
    by_deed : (d : Deed) → IsTask d → keep_limits all (place + 1) (ss ++ last_statement m ∷ []) ≡ true
        → (not (holds (λ q. nat_lt q.limit (how_many (λ e. deed_puts_into place e.deed) all)) (queue_in d))
        && keep_limits all (place + 1) (ss ++ last_statement m ∷ [])) ≡ true
    by_deed _ (adds i l) e = e
    by_deed _ (triangles k l) e = e

-- how many of these statements pass a test of deeds that the last one doesn't pass
counts : (p : Deed → Bool) (b : Bool) → ((d : Deed) → IsTask d → p d ≡ b) → ((m : ℕ) → p (last_statement m).deed ≡ false) → (ss : List Statement) (m : ℕ)
    → AreTasks ss
    → how_many (λ s. p s.deed) (ss ++ last_statement m ∷ []) ≡ cond b (length ss) 0
counts p b f g [] m a = (λ i. cond {A = ℕ} (g m i) 1 0 + 0) ∙ zero_of b
  where
    zero_of : (c : Bool) → 0 ≡ cond {A = ℕ} c (length {A = Statement} []) 0
    zero_of true = refl
    zero_of false = refl
counts p b f g (s ∷ ss) m a = by_bit b (f s.deed a.0) (counts p b f g ss m a.1)
  where
    by_bit : (c : Bool) → p s.deed ≡ c → how_many (λ x. p x.deed) (ss ++ last_statement m ∷ []) ≡ cond c (length ss) 0
        → cond (p s.deed) 1 0 + how_many (λ x. p x.deed) (ss ++ last_statement m ∷ []) ≡ cond c (length (s ∷ ss)) 0
    by_bit true e k = let d : cond {A = ℕ} (p s.deed) 1 0 ≡ 1 = ap (λ (z : Bool). cond {A = ℕ} z 1 0) e in omega arith
    by_bit false e k = let d : cond {A = ℕ} (p s.deed) 1 0 ≡ 0 = ap (λ (z : Bool). cond {A = ℕ} z 1 0) e in omega arith

none_of : (p : Deed → Bool) → ((i : ℕ) → p (start_deed 1 (pos i ∷ pos 7 ∷ [])) ≡ false) → ((k : ℕ) → p (start_deed 2 (pos k ∷ [])) ≡ false) → (d : Deed)
    → IsTask d
    → p d ≡ false
none_of p f g _ (adds i l) = f i
none_of p f g _ (triangles k l) = g k

each_of : (d : Deed) → IsTask d → makes_task d ≡ true
each_of _ (adds i l) = refl
each_of _ (triangles k l) = refl

-- No task fails

fits_small : (n : ℕ) → n < 1000000 → fits (pos n) ≡ true
unfolding fits
fits_small n l = grind (arith, nat_tests)

add_fine : (i : ℕ) (a b : Bool) → a ≡ true → b ≡ true
    → both (Some 2) (option_and_then fault_of (Some (task_end (number_end (cond a (cond b (Some ((pos 0 +ℤ pos i) +ℤ pos 7)) None) None))))) ≡ []
add_fine i true true e f = refl
add_fine i true false e f = absurd (cc)
add_fine i false b e f = absurd (cc)

triangle_fine : (k : ℕ) (a : Bool) → a ≡ true
    → both (Some 2) (option_and_then fault_of (Some (task_end (number_end (cond a (Some (pos (k * (k + 1) / 2))) None))))) ≡ []
triangle_fine k true e = refl
triangle_fine k false e = absurd (cc)

first_sum : (i : ℕ) → i < 19000 → fits (pos 0 +ℤ pos i) ≡ true
first_sum i l = fits_small (0 + i) (omega arith)

second_sum : (i : ℕ) → i < 19000 → fits ((pos 0 +ℤ pos i) +ℤ pos 7) ≡ true
second_sum i l = fits_small ((0 + i) + 7) (omega arith)

no_fault : (d : Deed) (all : List Statement) → IsTask d → fault_in two (task_in all d) ≡ []
unfolding task_in plain_fault plain_end answer_of
no_fault _ all (adds i l) = add_fine i (fits (pos 0 +ℤ pos i)) (fits ((pos 0 +ℤ pos i) +ℤ pos 7)) (first_sum i l) (second_sum i l)
no_fault _ all (triangles k l) = triangle_fine k (nat_le k 1000000) (grind (arith, nat_tests))

no_faults : (all ss : List Statement) (m : ℕ) → AreTasks ss → flat_map (λ s. fault_in two (task_in all s.deed)) (ss ++ last_statement m ∷ []) ≡ []
unfolding task_in
no_faults all [] m a = refl
no_faults all (s ∷ ss) m a = λ i. no_fault s.deed all a.0 i ++ no_faults all ss m a.1 i

-- The whole workload

no_more_actions : (ss : List Statement) (m : ℕ) → AreTasks ss → actions_in (ss ++ last_statement m ∷ []) ≡ []
no_more_actions [] m a = refl
no_more_actions (s ∷ ss) m a = by_deed s.deed a.0 (no_more_actions ss m a.1)
  where
    by_deed : (d : Deed) → IsTask d → actions_in (ss ++ last_statement m ∷ []) ≡ [] → action_in d ++ actions_in (ss ++ last_statement m ∷ []) ≡ []
    by_deed _ (adds i l) e = e
    by_deed _ (triangles k l) e = e

module _ (n w : ℕ) (some : 1 ≤ w) (few : n ≤ 19000) where
  abbrev all : List Statement
  all = first_statements ++ (generated_tasks n ++ last_statement n ∷ [])

  are : AreTasks (generated_tasks n)
  are = tasks_are n few

  acts : actions_in all ≡ two
  acts = ap (λ xs. new_action 1 kind.Add all_cores.0 ∷ new_action 2 kind.Triangle all_cores.0 ∷ xs) (no_more_actions (generated_tasks n) n are)

  parts_are : are_settled (generated_settings n w) [] all [] all ≡ true
  unfolding are_settled is_settled_deed
  parts_are = all_settled n w some all first_statements (generated_tasks n) n refl are

  kinds_are : has_one_kind_a_job two ≡ true
  unfolding has_one_kind_a_job
  kinds_are = refl

  ids_are : has_different_ids all ≡ true
  unfolding has_different_ids
  ids_are = ids (generated_tasks n) n are

  limits_are : keep_limits all 0 all ≡ true
  unfolding keep_limits
  limits_are = limits all 3 (generated_tasks n) n are

  faults_are : have_one_fault_a_group (flat_map (λ s. fault_in two (task_in all s.deed)) all) ≡ true
  unfolding have_one_fault_a_group task_in
  faults_are = ap have_one_fault_a_group (no_faults all (generated_tasks n) n are)

  room_is : has_room (generated_settings n w) all ≡ true
  room_is =
      let a : how_many (λ s. is_action_deed s.deed) (generated_tasks n ++ last_statement n ∷ []) ≡ 0 =
      counts is_action_deed false (none_of is_action_deed (λ i. refl) (λ k. refl)) (λ m. refl) (generated_tasks n) n are in
      let b : how_many (λ s. makes_group s.deed) (generated_tasks n ++ last_statement n ∷ []) ≡ 0 =
      counts makes_group false (none_of makes_group (λ i. refl) (λ k. refl)) (λ m. refl) (generated_tasks n) n are in
      let c : how_many (λ s. is_some (queue_in s.deed)) (generated_tasks n ++ last_statement n ∷ []) ≡ 0 =
      counts (λ d. is_some (queue_in d)) false (none_of (λ d. is_some (queue_in d)) (λ i. refl) (λ k. refl)) (λ m. refl) (generated_tasks n) n are in
      let d : how_many (λ s. makes_task s.deed) (generated_tasks n ++ last_statement n ∷ []) ≡ length (generated_tasks n) =
      counts makes_task true each_of (λ m. refl) (generated_tasks n) n are in
      let e : length (generated_tasks n) ≡ n = tasks_length n in
      let x : nat_le (1 + (1 + (0 + how_many (λ s. is_action_deed s.deed) (generated_tasks n ++ last_statement n ∷ [])))) 64 ≡ true =
      grind (arith, nat_tests) in
      let y : nat_le (0 + (0 + (1 + how_many (λ s. makes_group s.deed) (generated_tasks n ++ last_statement n ∷ [])))) 128 ≡ true = grind (arith, nat_tests) in
      let z : nat_le (0 + (0 + (0 + how_many (λ s. is_some (queue_in s.deed)) (generated_tasks n ++ last_statement n ∷ [])))) 16 ≡ true =
      grind (arith, nat_tests) in
      let t : nat_le (0 + (0 + (0 + how_many (λ s. makes_task s.deed) (generated_tasks n ++ last_statement n ∷ [])))) n ≡ true = grind (arith, nat_tests) in
      λ i. x i && y i && z i && t i

  whole : is_settled (generated n w) ≡ true
  unfolding is_settled generated
  whole =
      let e : all ++ [] ≡ all = append-nil all in
      let k : has_one_kind_a_job (actions_in (all ++ [])) ≡ true = ap (λ xs. has_one_kind_a_job (actions_in xs)) e ∙ (ap has_one_kind_a_job acts ∙ kinds_are) in
      let d : has_different_ids (all ++ []) ≡ true = ap has_different_ids e ∙ ids_are in
      let r : has_room (generated_settings n w) (all ++ []) ≡ true = ap (has_room (generated_settings n w)) e ∙ room_is in
      let f : have_one_fault_a_group (flat_map (λ s. fault_in (actions_in (all ++ [])) (task_in all s.deed)) all) ≡ true =
      ap (λ xs. have_one_fault_a_group (flat_map (λ s. fault_in xs (task_in all s.deed)) all)) (ap actions_in e ∙ acts) ∙ faults_are in
      λ i. parts_are i && k i && d i && r i && (limits_are i && true) && (f i && true)

pub generated_settled : GeneratedIsSettled
generated_settled n w a b c d = whole n w c b
