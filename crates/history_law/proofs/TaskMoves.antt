-- What each move of a seat keeps of every task, and of the live task of a handle.
use Rattle.history_law.proofs.Names.{nat_tests, arith, ◌≡◌, ℕ, Bool, true, false, Option, Some, None, ◌⊎◌, inl, inr, sym, ◌∙◌, subst, Kind, TaskEnd, Failed, is_other, Op, Listed, live_object, is_member, let_go, Task, NewTask, Notes, Running, Ended, runs_as, is_unstarted, is_unended, with_state, with_notes, ended, new_task, State, Move, apply, fst_true, snd_true, not_true, is_late_end, some_same}
use Rattle.mtapi_values.specs.declared.kinds.Kind.TheVariants as kind
use Rattle.history_law.proofs.SeatMoves.{May, MayEnd, Noted, Does, EndsTally, is_any_look}
use Rattle.history_law.proofs.lists.Every.{Every}
use Rattle.history_law.proofs.lists.Found.{FoundAs}
use Rattle.history_law.proofs.TaskSteps as step
use Rattle.history_law.proofs.TaskSteps.{Step, tasks_go, every_steps, found_steps}

-- Every task

-- P holds of a new task, and what this seat may do to one by the op keeps it
pub record IsKept (P : Task → Type 0) (who : ℕ) (o : Op) : Type 0 where
  pub new : (t : NewTask) (n : ℕ) → P (new_task t n)
  pub takes : (w : ℕ) (k : Kind) (t : Task) → is_unstarted t ≡ true → P t → P (with_state (Running w k) t)
  pub ends : (e : TaskEnd) (n : ℕ) (t : Task) (h : ℕ) → MayEnd who t → EndsTally h o t → (is_late_end e ≡ false) ⊎ (e ≡ t.notes.tally.verdict) → P t
      → P (with_state (Ended e n) t)
  pub notes : (f : Notes → Notes) (t : Task) → Noted who f t → Does o t.notes.tally (f t.notes).tally → P t → P (with_notes f t)
  pub groups : (d : Bool) (g : Option ℕ) (t : Task) → P t → P (with_notes (λ n. record n { detached = d; group = g }) t)

not_begun : (w : ℕ) (t : Task) → is_unstarted t ≡ true → runs_as w kind.Tally t ≡ false
not_begun w t e1 = grind (arith, nat_tests)

-- what this seat may do to a task by the op
step_keeps : (P : Task → Type 0) (who : ℕ) (o : Op) → IsKept P who o → (s : State) (r : Listed Task) (m : Move) (q : Listed Task) → Step s r m q → May s who o m
    → P r.fields → P q.fields
step_keeps P who o c s r _ _ (step.runs j w z a i e) k v = c.takes w z r.fields (subst (λ (t : Task). is_unstarted t ≡ true) (some_same (sym k.1 ∙ e)) k.2) v
step_keeps P who o c s r _ _ (step.ends j x a i e) k v = grind (arith, nat_tests, some_same (sym k.1 ∙ e), c.ends x s.ends r.fields j, is_late_end)
step_keeps P who o c s r _ _ (step.waited p x n a u i) k v = grind (arith, nat_tests, c.ends x n r.fields 0, fst_true, not_begun)
step_keeps P who o c s r _ _ (step.left j f x n a u i) k v = grind (arith, nat_tests, c.ends (Failed x) n r.fields 0, fst_true, not_begun)
step_keeps P who o c s r _ _ (step.noted j f a i e) k v =
    let same : k.0 ≡ r.fields = some_same (sym k.1 ∙ e) in
    c.notes f r.fields (subst (Noted who f) same k.2) (subst (λ (t : Task). Does o t.notes.tally (f t.notes).tally) same k.3) v
step_keeps P who o c s r _ _ (step.freed_of g a i) k v = c.groups r.fields.notes.detached None r.fields v
step_keeps P who o c s r _ _ (step.let_go_of g a i) k v = c.groups true None r.fields v
step_keeps P who o c s r _ _ _ k v = v

pub every_moved : (P : Task → Type 0) (who : ℕ) (o : Op) → IsKept P who o → (s : State) (x : Move) → May s who o x → Every P s.tasks → Every P (apply x s).tasks
every_moved P who o c s x k v =
    every_steps P s x s.tasks (apply x s).tasks (λ h t e. c.new t s.starts) (λ r q y. step_keeps P who o c s r x q y k) (tasks_go s x) v

-- The live task of a handle

pub same_found : (s : State) (j h : ℕ) → j ≡ h → (t u : Task) → live_object s.tasks j ≡ Some t → live_object s.tasks h ≡ Some u → t ≡ u
same_found s j h e1 t u e2 e3 = grind (arith, nat_tests)

-- what this seat may do by the op to the live task of the handle, of which Q holds, leaves it live, with Q
pub record StaysLive (Q : Task → Type 0) (who h : ℕ) (o : Op) : Type 0 where
  pub takes : (w : ℕ) (k : Kind) (t : Task) → is_unstarted t ≡ true → Q t → Q (with_state (Running w k) t)
  pub ends : (e : TaskEnd) (n : ℕ) (r : Listed Task) → MayEnd who r.fields → EndsTally h o r.fields → r.live ≡ true → Q r.fields
      → ((ended e n r).live ≡ true) × Q (with_state (Ended e n) r.fields)
  pub notes : (f : Notes → Notes) (t : Task) → Noted who f t → Does o t.notes.tally (f t.notes).tally → Q t → Q (with_notes f t)
  pub leaves : (t : Task) → is_unended t ≡ false → (is_any_look o ≡ true) ⊎ (is_other who t.notes.waiter ≡ false) → Q t → ⊥
  pub frees : (g : ℕ) (t : Task) → is_member g t ≡ true → is_unended t ≡ false → Q t → ⊥
  pub lets_go : (g : ℕ) (r : Listed Task) → is_member g r.fields ≡ true → r.live ≡ true → Q r.fields → ((let_go r).live ≡ true) × Q (let_go r).fields

-- what this seat may do to it by the op
step_stays : (Q : Task → Type 0) (who h : ℕ) (o : Op) → StaysLive Q who h o → (s : State) (r : Listed Task) (m : Move) (q : Listed Task) → Step s r m q
    → May s who o m → r.live ≡ true → r.handle ≡ h → Q r.fields → (q.live ≡ true) × Q q.fields
step_stays Q who h o c s r _ _ (step.stays m) k a d v = (a, v)
step_stays Q who h o c s r _ _ (step.runs j w z b i e) k a d v = grind (arith, nat_tests, c.takes w z r.fields, some_same (sym k.1 ∙ e), is_unstarted)
step_stays Q who h o c s r _ _ (step.ends j x b i e) k a d v = grind (arith, nat_tests, some_same (sym k.1 ∙ e), c.ends x s.ends r)
step_stays Q who h o c s r _ _ (step.waited p x n b u i) k a d v = c.ends x n r (inl (fst_true _ _ u)) (inr (λ w. not_begun w r.fields (fst_true _ _ u))) a v
step_stays Q who h o c s r _ _ (step.left j f x n b u i) k a d v = grind (arith, nat_tests, c.ends (Failed x) n r, fst_true, not_begun)
step_stays Q who h o c s r _ _ (step.noted j f b i e) k a d v =
    let same : k.0 ≡ r.fields =
    some_same (sym k.1 ∙ e) in
    (a, c.notes f r.fields (subst (Noted who f) same k.2) (subst (λ (t : Task). Does o t.notes.tally (f t.notes).tally) same k.3) v)
step_stays Q who h o c s r _ _ (step.goes j b i e) k a d v = grind (arith, nat_tests, c.leaves r.fields, is_any_look o)
step_stays Q who h o c s r _ _ (step.freed_of g b u) k a d v = absurd (c.frees g r.fields (fst_true _ _ u) (not_true _ (snd_true (is_member g r.fields) _ u)) v)
step_stays Q who h o c s r _ _ (step.let_go_of g b u) k a d v = c.lets_go g r u a v

pub found_moved : (Q : Task → Type 0) (who h : ℕ) (o : Op) → StaysLive Q who h o → (s : State) (x : Move) → May s who o x → FoundAs Q s.tasks h
    → FoundAs Q (apply x s).tasks h
found_moved Q who h o c s x k v =
    found_steps Q h s x s.tasks (apply x s).tasks v.0 (λ r q y a i f. step_stays Q who h o c s r x q y k a i (subst Q (sym f) v.2)) (tasks_go s x) v.1
