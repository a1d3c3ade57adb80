-- After every legal list the tasks are listed in the order of their starts.
use Rattle.mtapi_machine.proofs.Names.{◌≡◌, ℕ, ◌+◌, Bool, true, false, cond, List, ◌∷◌, ◌++◌, refl, sym, ap, subst, arith, ◌==◌, ◌&&◌, TaskEnd, Failed, Listed, change, change_all, issue, with_fields, gone, Task, NewTask, new_task, Running, with_state, with_notes, ended, end_each, freed, let_go, State, Move, withdraws, starts_task, runs_task, ends_task, ends_waiting, notes, leaves, frees_members, lets_members_go, apply, NodeEntry, after_from, start_numbers, AreAbove, Rises, []}
use Rattle.mtapi_machine.proofs.Moves.{along, rest_keeps}

-- the numbers of the starts so far and of the next one rise
Numbered : State → Type 0
Numbered s = Rises (start_numbers s.tasks ++ s.starts ∷ [])

-- A change of tasks that starts none

KeepsStart : (Listed Task → Listed Task) → Type 0
KeepsStart f = (r : Listed Task) → (f r).fields.start ≡ r.fields.start

changed-starts : (h : ℕ) (f : Listed Task → Listed Task) (l : List (Listed Task)) → KeepsStart f → start_numbers (change h f l) ≡ start_numbers l
unfolding change KeepsStart
changed-starts h f [] k = refl
changed-starts h f (r ∷ rs) k = by_test (r.live && (r.handle == h)) (changed-starts h f rs k)
  where
    by_test : (b : Bool) → start_numbers (change h f rs) ≡ start_numbers rs
        → start_numbers (cond b (f r ∷ rs) (r ∷ change h f rs)) ≡ r.fields.start ∷ start_numbers rs
    by_test true e = ap (λ (n : ℕ). n ∷ start_numbers rs) (k r)
    by_test false e = ap (λ (ns : List ℕ). r.fields.start ∷ ns) e

all-changed-starts : (p : Task → Bool) (f : Listed Task → Listed Task) (l : List (Listed Task)) → KeepsStart f
    → start_numbers (change_all p f l) ≡ start_numbers l
unfolding change_all KeepsStart
all-changed-starts p f [] k = refl
all-changed-starts p f (r ∷ rs) k = λ i. by_test (r.live && p r.fields) i ∷ all-changed-starts p f rs k i
  where
    by_test : (b : Bool) → (cond b (f r) r).fields.start ≡ r.fields.start
    by_test true = k r
    by_test false = refl

ended-starts : (p : Task → Bool) (e : TaskEnd) (n : ℕ) (l : List (Listed Task)) → start_numbers (end_each p e n l) ≡ start_numbers l
unfolding end_each
ended-starts p e n [] = refl
ended-starts p e n (r ∷ rs) = by_test (r.live && p r.fields) (ended-starts p e n rs) (ended-starts p e (n + 1) rs)
  where
    by_test : (b : Bool) → start_numbers (end_each p e n rs) ≡ start_numbers rs → start_numbers (end_each p e (n + 1) rs) ≡ start_numbers rs
        → start_numbers (cond b (ended e n r ∷ end_each p e (n + 1) rs) (r ∷ end_each p e n rs)) ≡ r.fields.start ∷ start_numbers rs
    by_test true d e = ap (λ (ns : List ℕ). r.fields.start ∷ ns) e
    by_test false d e = ap (λ (ns : List ℕ). r.fields.start ∷ ns) d

-- A start

issued-starts : (h : ℕ) (t : NewTask) (n : ℕ) (l : List (Listed Task)) → start_numbers (issue h (new_task t n) l) ≡ start_numbers l ++ n ∷ []
unfolding issue
issued-starts h t n [] = refl
issued-starts h t n (r ∷ rs) = ap (λ (ns : List ℕ). r.fields.start ∷ ns) (issued-starts h t n rs)

above-one-more : (a k : ℕ) (ns : List ℕ) → AreAbove a (ns ++ k ∷ []) → AreAbove a ((ns ++ k ∷ []) ++ (k + 1) ∷ [])
above-one-more a k [] h = (h.0, (omega (arith, h.0), tt))
above-one-more a k (n ∷ ns) h = (h.0, above-one-more a k ns h.1)

one-more : (k : ℕ) (ns : List ℕ) → Rises (ns ++ k ∷ []) → Rises ((ns ++ k ∷ []) ++ (k + 1) ∷ [])
one-more k [] h = ((omega arith, tt), (tt, tt))
one-more k (n ∷ ns) h = (above-one-more n k ns h.0, one-more k ns h.1)

-- Each move

as-before : (s : State) (l : List (Listed Task)) → Numbered s → start_numbers l ≡ start_numbers s.tasks → Rises (start_numbers l ++ s.starts ∷ [])
unfolding Numbered
as-before s l v e = subst (λ (ns : List ℕ). Rises (ns ++ s.starts ∷ [])) (sym e) v

started : (s : State) (h : ℕ) (t : NewTask) → Numbered s → Rises (start_numbers (issue h (new_task t s.starts) s.tasks) ++ (s.starts + 1) ∷ [])
unfolding Numbered
started s h t v = subst (λ (ns : List ℕ). Rises (ns ++ (s.starts + 1) ∷ [])) (sym (issued-starts h t s.starts s.tasks))
    (one-more s.starts (start_numbers s.tasks) v)

numbered_move : (s : State) (m : Move) → Numbered s → Numbered (apply m s)
unfolding Numbered KeepsStart
numbered_move s (withdraws h f c) v = as-before s _ v (ended-starts _ (Failed c) s.ends s.tasks)
numbered_move s (starts_task h t) v = started s h t v
numbered_move s (runs_task h w k) v = as-before s _ v (changed-starts h (with_fields (with_state (Running w k))) s.tasks (λ r. refl))
numbered_move s (ends_task h e) v = as-before s _ v (changed-starts h (ended e s.ends) s.tasks (λ r. refl))
numbered_move s (ends_waiting p e) v = as-before s _ v (ended-starts _ e s.ends s.tasks)
numbered_move s (notes h f) v = as-before s _ v (changed-starts h (with_fields (with_notes f)) s.tasks (λ r. refl))
numbered_move s (leaves h) v = as-before s _ v (changed-starts h gone s.tasks (λ r. refl))
numbered_move s (frees_members g) v = as-before s _ v (all-changed-starts _ freed s.tasks (λ r. refl))
numbered_move s (lets_members_go g) v = as-before s _ v (all-changed-starts _ let_go s.tasks (λ r. refl))
numbered_move s x v = rest_keeps Numbered (λ t g q m c r y p. p) x s v

pub after_numbered : (s : State) (L : List NodeEntry) → Rises (start_numbers s.tasks ++ s.starts ∷ [])
    → Rises (start_numbers (after_from s L).tasks ++ (after_from s L).starts ∷ [])
unfolding Numbered
after_numbered s L v = along Numbered (λ o t m e w. numbered_move t m w) s L v

above-front : (a : ℕ) (ns ks : List ℕ) → AreAbove a (ns ++ ks) → AreAbove a ns
above-front a [] ks h = tt
above-front a (n ∷ ns) ks h = (h.0, above-front a ns ks h.1)

pub rises-front : (ns ks : List ℕ) → Rises (ns ++ ks) → Rises ns
rises-front [] ks h = tt
rises-front (n ∷ ns) ks h = (above-front n ns ks h.0, rises-front ns ks h.1)
