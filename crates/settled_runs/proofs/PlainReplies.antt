-- The report of plain replies is the plain report.
use Rattle.settled_runs.proofs.Names.{arith, nat_tests, ◌≡◌, ℕ, cond, List, [], ◌∷◌, ◌++◌, Option, refl, ◌∙◌, flat_map, append-nil, TaskEnd, Action, Reply, Deed, Statement, Part, Told, is_task, task_line, task_lines, call_line, call_lines, all_statements, actions_in, Faults, no_faults, plain_task_line, plain_task_lines, plain_call_lines, PlainRepliesShowPlainReport, shown_of, task_lines_of, task_name, call_lines_of, task_in, faults_behind, plain_call_line, plain_calls_from, plain_report, IsPlainReply, ArePlain, PartsArePlain}

module _ (actions : List Action) (all : List Statement) (ends : ℕ → Option TaskEnd) (part : List ℕ) where
  -- Lines of tasks

  task_shown : (faults : Faults) (s : Statement) (d : Deed) (r : Reply) → IsPlainReply actions all ends faults d r
      → cond (is_task (shown_of d)) (task_line part ends s r) [] ≡ plain_task_line actions part s (task_in all d)
  unfolding IsPlainReply shown_of task_in
  task_shown faults s d r e1 = grind (arith, nat_tests)

  pub tasks_shown : (faults : Faults) (ss : List Statement) (rs : List Reply) → ArePlain actions all ends faults ss rs
      → task_lines_of part ends ss rs ≡ flat_map (λ s. plain_task_line actions part s (task_in all s.deed)) ss
  unfolding ArePlain task_lines_of
  tasks_shown faults [] rs p = refl
  tasks_shown faults (s ∷ ss) [] p = absurd p
  tasks_shown faults (s ∷ ss) (r ∷ rs) p =
      grind (arith, nat_tests, task_shown faults s s.deed r p.0, tasks_shown (faults_behind actions all faults s.deed) ss rs p.1)

  -- Lines of calls

  call_shown : (faults : Faults) (name : ℕ → List ℕ) (s : Statement) (d : Deed) (r : Reply) → IsPlainReply actions all ends faults d r
      → call_line part name s.line (shown_of d) r ≡ plain_call_line part faults s d
  unfolding IsPlainReply shown_of plain_call_line
  call_shown faults name s d r e1 = grind (arith, nat_tests, append-nil)

module _ (actions : List Action) (ends : ℕ → Option TaskEnd) where
  calls_shown : (p : Part) (name : ℕ → List ℕ) (faults : Faults) (ss : List Statement) (rs : List Reply) → ArePlain actions p.statements ends faults ss rs
      → call_lines_of p.name name ss rs ≡ plain_calls_from actions p faults ss
  unfolding ArePlain call_lines_of plain_calls_from
  calls_shown p name faults [] rs a = refl
  calls_shown p name faults (s ∷ ss) [] a = absurd a
  calls_shown p name faults (s ∷ ss) (r ∷ rs) a = grind (
    arith,
    nat_tests,
    call_shown actions p.statements ends p.name faults name s s.deed r a.0,
    calls_shown p name (faults_behind actions p.statements faults s.deed) ss rs a.1,
  )

  -- where each part's lines are the plain ones, all are
  all_parts : (f : Told → List ℕ) (g : Part → List ℕ)
      → ((p : Part) (t : Told) → t.name ≡ p.name → t.statements ≡ p.statements → ArePlain actions p.statements ends no_faults p.statements t.replies
      → f t ≡ g p)
      → (ps : List Part) (ts : List Told) → PartsArePlain actions ends ps ts → flat_map f ts ≡ flat_map g ps
  unfolding PartsArePlain
  all_parts f g k [] [] a = refl
  all_parts f g k (p ∷ ps) (t ∷ ts) a = let b = k p t a.0 a.1 a.2 in let c = all_parts f g k ps ts a.3 in λ i. b i ++ c i
  all_parts f g k _ _ a = absurd a

pub plain_replies : PlainRepliesShowPlainReport
unfolding plain_report
plain_replies load ends told a =
    let actions : List Action = actions_in (all_statements load) in
    let b = all_parts actions ends (task_lines ends) (plain_task_lines actions) (λ p t n s e. (λ i. task_lines_of (n i) ends (s i) t.replies)
    ∙ tasks_shown actions p.statements ends p.name no_faults p.statements t.replies e) load.parts told a in
    let c = all_parts actions ends call_lines (plain_call_lines actions)
    (λ p t n s e. (λ i. call_lines_of (n i) (task_name t.statements t.replies) (s i) t.replies)
    ∙ calls_shown actions ends p (task_name t.statements t.replies) no_faults p.statements t.replies e) load.parts told a in
    λ i. b i ++ c i
