-- What holds after every history: no task's handle is listed twice, no live queue stands twice, and the workers are so many.
use Rattle.run_report.proofs.Names.{nat_tests, ◌≡◌, ℕ, ◌+◌, ◌≤◌, Bool, true, List, [], ◌∷◌, refl, sym, subst, arith, ◌==◌, eqb-true, TaskEnd, Listed, live_of, change, change_all, issue, with_fields, gone, listed, may_issue, Distinct, listed-change, listed-issue, Distinct-issue, Distinct-update, Distinct-retire, Task, Running, with_state, with_notes, ended, end_each, freed, let_go, State, workers, is_open, Queues, starts_task, runs_task, ends_task, ends_waiting, withdraws, notes, leaves, frees_members, lets_members_go, alters, removes, NodeEntry, next, fst_true, snd_true, IsKept, by_moves}
use Rattle.mtapi_machine.specs.Moves.{makes}
use Rattle.run_report.proofs.Listed.{unlisted, same_number}

pub record Sound (n : ℕ) (s : State) : Type 0 where
  pub once : (k : ℕ) → listed k s.tasks ≤ 1
  pub distinct : Distinct (live_of s.queues)
  pub workers : workers s ≡ n

abbrev Once : List (Listed Task) → Type 0
Once l = (k : ℕ) → listed k l ≤ 1

-- a handle that may be issued isn't listed
pub none_listed : {T : Type 0} (last h : ℕ) (l : List (Listed T)) → may_issue last h l ≡ true → listed h l ≡ 0
unfolding may_issue
none_listed last h l may = eqb-true (listed h l) 0 (fst_true (listed h l == 0) _ (fst_true _ _ may))

once_change : (h : ℕ) (f : Listed Task → Listed Task) (l : List (Listed Task)) → ((r : Listed Task) → (f r).handle ≡ r.handle) → Once l → Once (change h f l)
once_change h f l keeps one k = subst (λ (n : ℕ). n ≤ 1) (sym (listed-change k h f keeps l)) (one k)

once_issue : (last h : ℕ) (t : Task) (l : List (Listed Task)) → may_issue last h l ≡ true → Once l → Once (issue h t l)
once_issue last h t l e1 e2 = grind (arith, nat_tests, same_number, none_listed, listed-issue)

listed_ends : (k : ℕ) (p : Task → Bool) (e : TaskEnd) (n : ℕ) (l : List (Listed Task)) → listed k (end_each p e n l) ≡ listed k l
unfolding listed end_each
listed_ends k p e n [] = refl
listed_ends k p e n (r ∷ rs) = grind (arith, nat_tests, listed_ends k p e n rs, listed_ends k p e (n + 1) rs)

once_ends : (p : Task → Bool) (e : TaskEnd) (n : ℕ) (l : List (Listed Task)) → Once l → Once (end_each p e n l)
once_ends p e n l one k = subst (λ (m : ℕ). m ≤ 1) (sym (listed_ends k p e n l)) (one k)

listed_all : (k : ℕ) (p : Task → Bool) (f : Listed Task → Listed Task) → ((r : Listed Task) → (f r).handle ≡ r.handle) → (l : List (Listed Task))
    → listed k (change_all p f l) ≡ listed k l
unfolding listed change_all
listed_all k p f keeps [] = refl
listed_all k p f keeps (r ∷ rs) = grind (arith, nat_tests, keeps r, listed_all k p f keeps rs)

once_all : (p : Task → Bool) (f : Listed Task → Listed Task) (l : List (Listed Task)) → ((r : Listed Task) → (f r).handle ≡ r.handle) → Once l
    → Once (change_all p f l)
once_all p f l keeps one k = subst (λ (m : ℕ). m ≤ 1) (sym (listed_all k p f keeps l)) (one k)

module _ (n : ℕ) where
  with_tasks : (s t : State) → Sound n s → Once t.tasks → t.queues ≡ s.queues → t.terms ≡ s.terms → Sound n t
  with_tasks s t e1 e2 e3 e4 = grind (arith, nat_tests)

  with_queues : (s t : State) → Sound n s → Distinct (live_of t.queues) → t.tasks ≡ s.tasks → t.terms ≡ s.terms → Sound n t
  with_queues s t e1 e2 e3 e4 = grind (arith, nat_tests)

  as_before : (s t : State) → Sound n s → t.tasks ≡ s.tasks → t.queues ≡ s.queues → t.terms ≡ s.terms → Sound n t
  as_before s t i same alone terms = with_queues s t i (subst (λ l. Distinct (live_of l)) (sym alone) i.distinct) same terms

  pub sound_move : IsKept (Sound n)
  sound_move o s (starts_task h t) e i =
      with_tasks s _ i (once_issue _ h _ s.tasks
      (snd_true _ _ (snd_true (is_open s.phase) _ (fst_true _ _ (fst_true _ _ (fst_true _ _ e.may))))) i.once) refl refl
  sound_move o s (runs_task h w k) e i = with_tasks s _ i (once_change h (with_fields (with_state (Running w k))) s.tasks (λ r. refl) i.once) refl refl
  sound_move o s (ends_task h x) e i = with_tasks s _ i (once_change h (ended x s.ends) s.tasks (λ r. refl) i.once) refl refl
  sound_move o s (ends_waiting q x) e i = with_tasks s _ i (once_ends _ x s.ends s.tasks i.once) refl refl
  sound_move o s (withdraws h f c) e i = with_tasks s _ i (once_ends _ _ s.ends s.tasks i.once) refl refl
  sound_move o s (notes h f) e i = with_tasks s _ i (once_change h (with_fields (with_notes f)) s.tasks (λ r. refl) i.once) refl refl
  sound_move o s (leaves h) e i = with_tasks s _ i (once_change h gone s.tasks (λ r. refl) i.once) refl refl
  sound_move o s (frees_members g) e i = with_tasks s _ i (once_all _ freed s.tasks (λ r. refl) i.once) refl refl
  sound_move o s (lets_members_go g) e i = with_tasks s _ i (once_all _ let_go s.tasks (λ r. refl) i.once) refl refl
  sound_move o s (makes Queues h x) e i =
      with_queues s _ i (Distinct-issue h x s.queues i.distinct (unlisted h s.queues (omega (arith, none_listed _ h s.queues (snd_true _ _ e.may))))) refl refl
  sound_move o s (alters Queues h f) e i = with_queues s _ i (Distinct-update h f s.queues i.distinct) refl refl
  sound_move o s (removes Queues h) e i = with_queues s _ i (Distinct-retire h s.queues i.distinct) refl refl
  sound_move o s _ e i = as_before s _ i refl refl refl

  pub sound_next : (s : State) (e : NodeEntry) → Sound n s → Sound n (next s e)
  sound_next s e i = by_moves (Sound n) s e (sound_move e.op) i
