-- An entry tells the end that the record has.
use Rattle.history_law.proofs.Names.{arith, nat_tests, ◌≡◌, ℕ, cond, List, [], ◌∷◌, Option, Some, None, refl, ◌∙◌, ap, subst, ◌==◌, eqb-true, MtapiStatus, MrapiStatus, Mtapi, Mrapi, ends_task, notes, with_waiter, TaskEnd, live_object, change, Task, ended, watch_end, Terms, Op, Reply, State, opening, Move, after_moves, task_end, NodeEntry, IsNext, next, LegalFrom, Legal, after_from, after, end_in, end_at, after-append, after_grows, told_by, TellsItsEnd, Answers, tally_verdict, answered}
use Rattle.history_law.proofs.Moves.{once_from}
use Rattle.history_law.proofs.lists.Handles.{OnceIn}
use Rattle.history_law.proofs.Ends.{grows_end}
use Rattle.history_law.proofs.lists.Records.{read_changed}
use Rattle.history_law.proofs.Ordered.{end_found}
use Rattle.history_law.proofs.lists.Objects.{cut_from}
use Rattle.history_law.proofs.Answered.{none_some, on_test}
use Rattle.mtapi_machine.specs.Answers as is

module _ (s : State) (o : OnceIn s.tasks) where
  abbrev Before : ℕ → TaskEnd → Type 0
  Before h e = end_at s.tasks h ≡ Some e

  -- A worker ends its task: it has that end then

  abbrev Then : ℕ → TaskEnd → List Move → Type 0
  Then h e ms = end_at (after_moves ms s).tasks h ≡ Some e

  ends_then : (h : ℕ) (e : TaskEnd) (n : ℕ) (t : Task) → live_object s.tasks h ≡ Some t → end_at (change h (ended e n) s.tasks) h ≡ Some e
  unfolding end_at
  ends_then h e n t f = read_changed h (λ m. end_at m h) (λ (x : Task). end_in x.state) (λ r rs. refl) (ended e n) (Some e) (λ r. refl)
      (λ r. refl) s.tasks t o f

  of_this : (t h : ℕ) (p : Option TaskEnd) (e : TaskEnd) (P : ℕ → Type 0) → cond (t == h) p None ≡ Some e → (p ≡ Some e → P t) → P h
  of_this t h p e P i k = on_test (λ b. cond b p None ≡ Some e → P h) (t == h) (λ j d. subst P (eqb-true t h j) (k d)) (λ j d. none_some d) i

  -- no refusal tells an end
  refused_none : {A : Type 0} (h : ℕ) (p : Op) (c : MtapiStatus) (e : TaskEnd) → told_by h p (Mtapi c) ≡ Some e → A
  refused_none h p c e e1 = grind (arith, nat_tests)

  caller_none : {A : Type 0} (h : ℕ) (p : Op) (c : MrapiStatus) (e : TaskEnd) → told_by h p (Mrapi c) ≡ Some e → A
  caller_none h p c e e1 = grind (arith, nat_tests)

  -- a task with this end was looked at, and a worker's task ended so
  by : (who h : ℕ) (e : TaskEnd) (p : Op) (r : Reply) (ms : List Move) → told_by h p r ≡ Some e → Answers s who p r ms → (Before h e → Then h e ms)
      → Then h e ms
  by who h e _ _ _ i (is.refuses p c z) g = refused_none h p c e i
  by who h e _ _ _ i (is.refuses_caller p c z) g = caller_none h p c e i
  by who h e _ _ _ i (is.looks_over t last x z n f u d) g =
      g (of_this t.0 h (Some z) e (λ c. Before c e) i (λ j. end_found s.tasks t.0 x o f ∙ (ap end_in d ∙ j)))
  by who h e _ _ _ i (is.looks_early t x f u d) g = of_this t.0 h None e (λ c. Then h e (notes t.0 (with_waiter (Some who)) ∷ [])) i none_some
  by who h e _ _ _ i (is.looks_last t x f u d) g = of_this t.0 h None e (λ c. Then h e (notes t.0 (with_waiter None) ∷ [])) i none_some
  by who h e _ _ _ i (is.any_given q last v y ys x z n a b f d) g =
      g (of_this y.task h (Some z) e (λ c. Before c e) i (λ j. end_found s.tasks y.task x o f ∙ (ap end_in d ∙ j)))
  by who h e _ _ ms i (is.finishes t done x k u) g =
      of_this t.0 h (Some (task_end done.end)) e (λ c. Then c e (ends_task t.0 (task_end done.end) ∷ [])) i
      (λ j. ends_then t.0 (task_end done.end) s.ends x k.found ∙ j)
  by who h e _ _ _ i (is.ends_watch t x k u) g =
      of_this t.0 h (Some (watch_end x)) e (λ c. Then c e (ends_task t.0 (watch_end x) ∷ [])) i (λ j. ends_then t.0 (watch_end x) s.ends x k.found ∙ j)
  by who h e _ _ _ i (is.tally_ends_failed t x k f) g =
      of_this t.0 h (Some x.notes.tally.verdict) e (λ c. Then c e (ends_task t.0 x.notes.tally.verdict ∷ [])) i
      (λ j. ends_then t.0 x.notes.tally.verdict s.ends x k.found ∙ j)
  by who h e _ _ _ i (is.tally_ends t x y z k f d a b) g =
      of_this t.0 h (Some (tally_verdict x)) e (λ c. Then c e (ends_task t.0 (tally_verdict x) ∷ [])) i (λ j. ends_then t.0 (tally_verdict x) s.ends x k.found
      ∙ j)
  by who h e _ _ _ i _ g = none_some i

told_as : (s : State) (x : NodeEntry) (h : ℕ) (e : TaskEnd) → OnceIn s.tasks → IsNext s x → told_by h x.op x.reply ≡ Some e → end_at (next s x).tasks h ≡ Some e
unfolding after_from
told_as s x h e o n i = by s o x.who h e x.op x.reply _ i (answered s x.who x.op x.reply n.allowed)
    (λ j. grows_end h e s.tasks (next s x).tasks (after_grows s (x ∷ [])) j)

pub tells_its_end : (terms : Terms) (es : List NodeEntry) (h : ℕ) → Legal terms es → TellsItsEnd terms es h
unfolding after_from
tells_its_end terms es h legal P Q x e cut i =
    let n : IsNext (after terms P) x = cut_from (opening terms) P Q x (subst (λ (L : List NodeEntry). LegalFrom (opening terms) L) cut legal.from) in
    let here : end_at (next (after terms P) x).tasks h ≡ Some e = told_as (after terms P) x h e (once_from terms P) n i in
    ap (λ (t : State). end_at t.tasks h) (ap (after terms) cut ∙ after-append (opening terms) P (x ∷ Q))
    ∙ grows_end h e (next (after terms P) x).tasks (after_from (next (after terms P) x) Q).tasks (after_grows (next (after terms P) x) Q) here
