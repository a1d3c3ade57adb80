-- An op that answers the handle of a new object has made just that one.
use Rattle.mtapi_renaming.proofs.Names.{◌≡◌, ℕ, ◌+◌, cond, List, Some, length, refl, sym, ◌∙◌, ap, ◌==◌, ObjectKind, slot_of, Listed, issue, issued_at, issued_at-issue, Action, NewTask, new_task, Op, Handle, State, FieldsOf, objects_of, Sort, Fields, all_of, makes_action, starts_task, makes, apply, Allows, after_row, row, own_kind, of_sort, sort_at, OnEach, each_so, each_with, made_kind, made_in, made_at, MakesOne}
use Rattle.mtapi_values.specs.declared.handles.ObjectKind.TheVariants as kind
use Rattle.mtapi_renaming.proofs.CreateRows.{after_create}
use Rattle.mtapi_renaming.proofs.Counts.{length-issue}

-- the lists of other kinds are as they were
pub others_so : (k : ObjectKind) (s t : State) → OnEach (λ T o l m. (o.kind ≡ k → ⊥) → m ≡ l) s t → (i : ObjectKind) → (i ≡ k → ⊥)
    → (objects_of i).list t ≡ (objects_of i).list s
others_so k s t v i e = v i (λ d. e (sym (own_kind i) ∙ d))

module _ (s : State) (h : ℕ) where
  pub other_actions : (a : Action) (i : ObjectKind) → (i ≡ kind.Action → ⊥) → (objects_of i).list (apply (makes_action h a) s) ≡ (objects_of i).list s
  other_actions a = others_so kind.Action s _
      (each_so (λ T o l m. (o.kind ≡ kind.Action → ⊥)
      → m ≡ l) (λ T o l e. refl) s s.phase s.released s.stopped s.starts s.ends _ s.tasks (λ e. absurd (e refl)) (λ e. refl))

  pub other_tasks : (t : NewTask) (i : ObjectKind) → (i ≡ kind.Task → ⊥) → (objects_of i).list (apply (starts_task h t) s) ≡ (objects_of i).list s
  other_tasks t = others_so kind.Task s _
      (each_so (λ T o l m. (o.kind ≡ kind.Task → ⊥)
      → m ≡ l) (λ T o l e. refl) s s.phase s.released s.stopped (s.starts + 1) s.ends s.actions _ (λ e. refl) (λ e. absurd (e refl)))

  pub other_sorts : (t : Sort) (v : Fields t) (i : ObjectKind) → (i ≡ (all_of t).kind → ⊥) → (objects_of i).list (apply (makes t h v) s) ≡ (objects_of i).list s
  other_sorts t v = others_so (all_of t).kind s _ (each_with (λ T o l m. (o.kind ≡ (all_of t).kind → ⊥) → m ≡ l) (λ T o l e. refl) s t _ (λ e. absurd (e refl)))

  -- and so what is read of them
  one_so : (k : ObjectKind) (t : State) → made_in k t ≡ made_in k s + 1 → ((j : ℕ) → made_at k t j ≡ made_at k s j + cond (slot_of h == slot_of j) 1 0) →
      ((i : ObjectKind) → (i ≡ k → ⊥) → (objects_of i).list t ≡ (objects_of i).list s) → MakesOne s t k h
  one_so k t one slot others = record {
    one = one;
    slot = slot;
    others = λ i e. ap (λ (l : List (Listed (FieldsOf i))). length l) (others i e);
    other_slots = λ i e j. ap (λ (l : List (Listed (FieldsOf i))). issued_at j l) (others i e);
  }

  one_sort : (t : Sort) (v : Fields t) → MakesOne s (apply (makes t h v) s) (all_of t).kind h
  one_sort t v =
      let l = (all_of t).list s in
      let u = apply (makes t h v) s in
      let same = sort_at t (issue h v l) s in
      one_so (all_of t).kind u (of_sort (λ T o. length (o.list u)
      ≡ length (o.list s) + 1) t (ap (λ (x : List (Listed (Fields t))). length x) same ∙ length-issue h v l))
      (λ j. of_sort (λ T o. issued_at j (o.list u)
      ≡ issued_at j (o.list s) + cond (slot_of h == slot_of j) 1 0) t (ap (λ (x : List (Listed (Fields t))). issued_at j x) same ∙ issued_at-issue j h v l))
      (other_sorts t v)

pub creates_make_one : (s : State) (who h : ℕ) (o : Op) (k : ObjectKind) → made_kind o ≡ Some k → Allows (row s who o (Handle h)) (Handle h)
    → MakesOne s (after_row s (row s who o (Handle h))) k h
creates_make_one s who h o k i a = after_create {Q = λ j t. MakesOne s t j h} (record {
  action = λ b. one_so s h kind.Action _ (length-issue h b s.actions) (λ j. issued_at-issue j h b s.actions) (other_actions s h b);
  task = λ t. one_so s h kind.Task _ (length-issue h (new_task t s.starts) s.tasks) (λ j. issued_at-issue j h (new_task t s.starts) s.tasks)
      (other_tasks s h t);
  sort = one_sort s h;
}) who k o i a
