-- What each move does to the list of tasks: one task may be new, and each that was listed goes one step or stays as it is.
use Rattle.history_law.proofs.Names.{◌≡◌, ℕ, ◌+◌, ◌≤◌, Bool, true, false, List, [], ◌∷◌, Some, refl, ap, cond, ◌∙◌, arith, ◌==◌, ◌&&◌, not, eqb-true, cond_both, Kind, TaskEnd, Failed, MtapiStatus, Listed, live_of, live_object, how_many, change, change_all, issue, with_fields, gone, Action, has_worker, is_member, freed, let_go, Task, NewTask, Notes, Running, is_unstarted, is_unended, with_state, with_notes, ended, end_each, new_task, State, workers, Move, starts_task, runs_task, ends_task, ends_waiting, withdraws, notes, leaves, frees_members, lets_members_go, apply, fst_true, snd_true, rest_keeps, ℤ, pos, ◌+ℤ◌, sum_of, nat_tests}
use Rattle.history_law.proofs.lists.Every.{Each, Every}
use Rattle.history_law.proofs.lists.Found.{FoundAs, at_here, at_past, by_head}

-- what a move does to one listed task
pub data Step (s : State) (r : Listed Task) : Move → Listed Task → Type 0 where
  stays : (m : Move) → Step s r m r
  runs : (h w : ℕ) (k : Kind) → r.live ≡ true → r.handle ≡ h → live_object s.tasks h ≡ Some r.fields
      → Step s r (runs_task h w k) (with_fields (with_state (Running w k)) r)
  ends : (h : ℕ) (e : TaskEnd) → r.live ≡ true → r.handle ≡ h → live_object s.tasks h ≡ Some r.fields → Step s r (ends_task h e) (ended e s.ends r)
  waited : (p : Task → Bool) (e : TaskEnd) (n : ℕ) → r.live ≡ true → (is_unstarted r.fields && p r.fields) ≡ true → s.ends ≤ n
      → Step s r (ends_waiting p e) (ended e n r)
  left : (h : ℕ) (f : Listed Action → Listed Action) (c : MtapiStatus) (n : ℕ) → r.live ≡ true
      → (is_unstarted r.fields && not (has_worker (workers s) r.fields.job r.fields.cores (live_of (change h f s.actions)))) ≡ true → s.ends ≤ n
      → Step s r (withdraws h f c) (ended (Failed c) n r)
  noted : (h : ℕ) (f : Notes → Notes) → r.live ≡ true → r.handle ≡ h → live_object s.tasks h ≡ Some r.fields
      → Step s r (notes h f) (with_fields (with_notes f) r)
  goes : (h : ℕ) → r.live ≡ true → r.handle ≡ h → live_object s.tasks h ≡ Some r.fields → Step s r (leaves h) (gone r)
  freed_of : (g : ℕ) → r.live ≡ true → (is_member g r.fields && not (is_unended r.fields)) ≡ true → Step s r (frees_members g) (freed r)
  let_go_of : (g : ℕ) → r.live ≡ true → is_member g r.fields ≡ true → Step s r (lets_members_go g) (let_go r)

-- and to a list of them
pub data Steps (s : State) : Move → List (Listed Task) → List (Listed Task) → Type 0 where
  none : (m : Move) → Steps s m [] []
  new : (h : ℕ) (t : NewTask) → Steps s (starts_task h t) [] (record { handle = h; live = true; fields = new_task t s.starts } ∷ [])
  next : (m : Move) (r q : Listed Task) (rs qs : List (Listed Task)) → Step s r m q → Steps s m rs qs → Steps s m (r ∷ rs) (q ∷ qs)

steps_same : (s : State) (m : Move) (l : List (Listed Task)) → Steps s m l l
steps_same s m [] = none m
steps_same s m (r ∷ rs) = next m r r rs rs (stays m) (steps_same s m rs)

steps_issue : (s : State) (h : ℕ) (t : NewTask) (l : List (Listed Task)) → Steps s (starts_task h t) l (issue h (new_task t s.starts) l)
unfolding issue
steps_issue s h t [] = new h t
steps_issue s h t (r ∷ rs) = next _ r r rs _ (stays _) (steps_issue s h t rs)

steps_change : (s : State) (m : Move) (j : ℕ) (f : Listed Task → Listed Task) (l : List (Listed Task))
    → ((r : Listed Task) → r.live ≡ true → r.handle ≡ j → live_object l j ≡ Some r.fields → Step s r m (f r)) → Steps s m l (change j f l)
unfolding change
steps_change s m j f [] k = none m
steps_change s m j f (r ∷ rs) k = cond_both (r.live && (r.handle == j)) (f r ∷ rs) (r ∷ change j f rs) (Steps s m (r ∷ rs))
    (λ c.
    let a = fst_true r.live _ c in
    let b = snd_true r.live _ c in
    next m r (f r) rs rs (k r a (eqb-true r.handle j b) (at_here r rs j a b)) (steps_same s m rs))
    (λ c. next m r r rs (change j f rs) (stays m) (steps_change s m j f rs (λ q a i e. k q a i (at_past r rs j c ∙ e))))

steps_all : (s : State) (m : Move) (p : Task → Bool) (f : Listed Task → Listed Task) (l : List (Listed Task))
    → ((r : Listed Task) → r.live ≡ true → p r.fields ≡ true → Step s r m (f r)) → Steps s m l (change_all p f l)
unfolding change_all
steps_all s m p f [] k = none m
steps_all s m p f (r ∷ rs) k =
    let rest = steps_all s m p f rs k in
    cond_both (r.live && p r.fields) (f r) r (λ q. Steps s m (r ∷ rs) (q ∷ change_all p f rs))
    (λ c. next m r (f r) rs _ (k r (fst_true r.live _ c) (snd_true r.live _ c)) rest) (λ c. next m r r rs _ (stays m) rest)

steps_ends : (s : State) (m : Move) (p : Task → Bool) (e : TaskEnd) (n : ℕ) (l : List (Listed Task)) → s.ends ≤ n
    → ((r : Listed Task) (k : ℕ) → r.live ≡ true → p r.fields ≡ true → s.ends ≤ k → Step s r m (ended e k r)) → Steps s m l (end_each p e n l)
unfolding end_each
steps_ends s m p e n [] i k = none m
steps_ends s m p e n (r ∷ rs) i k = cond_both (r.live && p r.fields) (ended e n r ∷ end_each p e (n + 1) rs) (r ∷ end_each p e n rs) (Steps s m (r ∷ rs))
    (λ c. next m r (ended e n r) rs _ (k r n (fst_true r.live _ c) (snd_true r.live _ c) i) (steps_ends s m p e (n + 1) rs (omega arith) k))
    (λ c. next m r r rs _ (stays m) (steps_ends s m p e n rs i k))

-- the steps of each move
pub tasks_go : (s : State) (m : Move) → Steps s m s.tasks (apply m s).tasks
tasks_go s (starts_task h t) = steps_issue s h t s.tasks
tasks_go s (runs_task h w k) = steps_change s _ h _ s.tasks (λ r a i e. runs h w k a i e)
tasks_go s (ends_task h x) = steps_change s _ h _ s.tasks (λ r a i e. ends h x a i e)
tasks_go s (ends_waiting p x) = steps_ends s _ _ x s.ends s.tasks (omega arith) (λ r n a i l. waited p x n a i l)
tasks_go s (withdraws h f c) = steps_ends s _ _ (Failed c) s.ends s.tasks (omega arith) (λ r n a i l. left h f c n a i l)
tasks_go s (notes h f) = steps_change s _ h _ s.tasks (λ r a i e. noted h f a i e)
tasks_go s (leaves h) = steps_change s _ h gone s.tasks (λ r a i e. goes h a i e)
tasks_go s (frees_members g) = steps_all s _ _ freed s.tasks (λ r a i. freed_of g a i)
tasks_go s (lets_members_go g) = steps_all s _ (is_member g) let_go s.tasks (λ r a i. let_go_of g a i)
tasks_go s m = rest_keeps (λ t. Steps s m s.tasks t.tasks) (λ t g q y c r z p. p) m s (steps_same s m s.tasks)

-- a step keeps the handle, and brings nothing back to life
pub step_handle : (s : State) (r : Listed Task) (m : Move) (q : Listed Task) → Step s r m q → q.handle ≡ r.handle
step_handle s r m q x = grind (arith)

pub step_dead : (s : State) (r : Listed Task) (m : Move) (q : Listed Task) → Step s r m q → r.live ≡ false → q.live ≡ false
step_dead s r m q x e = grind (arith)

pub step_alive : (s : State) (r : Listed Task) (m : Move) (q : Listed Task) → Step s r m q → q.live ≡ true → r.live ≡ true
step_alive s r m q x e = grind (arith)

-- P of each listed task, where it holds of a new one and each step keeps it
pub each_steps : (P : Listed Task → Type 0) (s : State) (m : Move) (l k : List (Listed Task))
    → ((h : ℕ) (t : NewTask) → m ≡ starts_task h t → P (record { handle = h; live = true; fields = new_task t s.starts }))
    → ((r q : Listed Task) → Step s r m q → P r → P q) → Steps s m l k → Each P l → Each P k
each_steps P s _ _ _ f g (none m) v = tt
each_steps P s _ _ _ f g (new h t) v = (f h t refl, tt)
each_steps P s _ _ _ f g (next m r q rs qs x k) v = (g r q x v.0, each_steps P s m rs qs f g k v.1)

pub every_steps : (P : Task → Type 0) (s : State) (m : Move) (l k : List (Listed Task))
    → ((h : ℕ) (t : NewTask) → m ≡ starts_task h t → P (new_task t s.starts)) → ((r q : Listed Task) → Step s r m q → P r.fields → P q.fields)
    → Steps s m l k → Every P l → Every P k
every_steps P = each_steps (λ r. P r.fields)

-- the live task of a handle, where each step of it leaves it live, with Q
pub found_steps : (Q : Task → Type 0) (h : ℕ) (s : State) (m : Move) (l k : List (Listed Task)) (t : Task)
    → ((r q : Listed Task) → Step s r m q → r.live ≡ true → r.handle ≡ h → r.fields ≡ t → (q.live ≡ true) × Q q.fields)
    → Steps s m l k → live_object l h ≡ Some t → FoundAs Q k h
unfolding live_of
found_steps Q h s _ _ _ t g (none m) e = absurd (cc)
found_steps Q h s _ _ _ t g (new j n) e = absurd (cc)
found_steps Q h s _ _ _ t g (next m r q rs qs x k) e =
    grind (arith, nat_tests, step_handle s r m q x, by_head Q h r q rs qs t, step_dead s r m q x, g r q x, eqb-true q.handle h, found_steps Q h s m rs qs t g k)

-- how many pass, where no new task does and no step changes whether one passes
pub many_steps : (p : Listed Task → Bool) (s : State) (m : Move) (l k : List (Listed Task))
    → ((h : ℕ) (t : NewTask) → m ≡ starts_task h t → p (record { handle = h; live = true; fields = new_task t s.starts }) ≡ false)
    → ((r q : Listed Task) → Step s r m q → p q ≡ p r) → Steps s m l k → how_many p k ≡ how_many p l
many_steps p s _ _ _ f g (none m) = refl
many_steps p s _ _ _ f g (new h t) = ap (λ (b : Bool). cond {A = ℕ} b 1 0 + 0) (f h t refl)
many_steps p s _ _ _ f g (next m r q rs qs x k) = let rest = many_steps p s m rs qs f g k in λ i. cond {A = ℕ} (g r q x i) 1 0 + rest i

-- a sum, where each new task adds nothing and no step changes what one adds
pub sum_steps : (f : Task → ℤ) (s : State) (m : Move) (l k : List (Listed Task)) → ((t : NewTask) (n : ℕ) → f (new_task t n) ≡ pos 0)
    → ((r q : Listed Task) → Step s r m q → f q.fields ≡ f r.fields) → Steps s m l k → sum_of f k ≡ sum_of f l
sum_steps f s _ _ _ z g (none m) = refl
sum_steps f s _ _ _ z g (new h t) = ap (λ (x : ℤ). x +ℤ pos 0) (z t s.starts)
sum_steps f s _ _ _ z g (next m r q rs qs x k) = let rest = sum_steps f s m rs qs z g k in λ i. g r q x i +ℤ rest i
