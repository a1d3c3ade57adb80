-- The waiting tasks that pass end in the pool as they end at once in the list.
use Rattle.node_steps.proofs.Names.{nat_tests, ◌≡◌, ℕ, ◌+◌, ◌<◌, Bool, true, false, cond, List, [], ◌∷◌, Option, Some, None, refl, sym, ◌∙◌, ap, subst, arith, ◌==◌, TaskEnd, holds, Slots, slot_value, Listed, live_of, lookup, live_object, handles_of, count_listed, change, Distinct, Task, is_unstarted, ended, end_each, TaskTable, ended_in, Seen, seen, seen_in, ListInOrder, AreWaiting, ended_if, ended_each, EndsWaiting, some_same, seen-as, seen-live, unstarted-seen, start_numbers, AreAbove, Rises, Holds, eq-eqb, none-some}
use Rattle.task_board.proofs.OrderLemmas.{waiting-once}
use Rattle.node_steps.proofs.Changes.{holds_ended}
use Rattle.node_steps.proofs.ListedEnds.{passes-listed, listed-passes, step_listed, each_listed, both_pass, at-once}

-- Each end in the pool is one in the list

-- the pool stands for the list, and the next end has this number
record Stood (size turns : ℕ) (q : TaskTable) (s : ℕ × List (Listed Task)) : Type 0 where
  pub holds : Holds size turns q.pool s.1
  pub number : s.0 ≡ q.ends

module _ (size turns : ℕ) (p : Task → Bool) (e : TaskEnd) where
  stood-found : (h : ℕ) (q : TaskTable) (s : ℕ × List (Listed Task)) (o : Option Task) → slot_value q.pool h ≡ o → Stood size turns q s
      → Stood size turns (cond (holds p o) (record q { pool = ended_in q.pool h e q.ends o; ends = q.ends + 1 }) q)
      (cond (holds p o) (s.0 + 1, change h (ended e s.0) s.1) s)
  stood-found h q s None g k = k
  stood-found h q s (Some t) g k = by_test (p t)
    where
      by_test : (b : Bool) → Stood size turns (cond b (record q { pool = ended_in q.pool h e q.ends (Some t); ends = q.ends + 1 }) q)
          (cond b (s.0 + 1, change h (ended e s.0) s.1) s)
      by_test true = record {
        holds = subst (λ (n : ℕ). Holds size turns (ended_in q.pool h e q.ends (Some t)) (change h (ended e n) s.1)) (sym k.number)
            (holds_ended size turns q.pool s.1 h e q.ends t k.holds g);
        number = ap (λ (n : ℕ). n + 1) k.number;
      }
      by_test false = k

  stood-step : (h : ℕ) (q : TaskTable) (s : ℕ × List (Listed Task)) → Stood size turns q s → Stood size turns (ended_if p e h q) (step_listed p e h s)
  stood-step h q s k = rw (← k.holds.stands.found h) (stood-found h q s (slot_value q.pool h) refl k)

  stood-each : (hs : List ℕ) (q : TaskTable) (s : ℕ × List (Listed Task)) → Stood size turns q s → Stood size turns (ended_each p e hs q) (each_listed p e hs s)
  stood-each [] q s k = k
  stood-each (h ∷ hs) q s k = stood-each hs (ended_if p e h q) (step_listed p e h s) (stood-step h q s k)

-- ends start nothing
pub same-starts : (p : Task → Bool) (e : TaskEnd) (hs : List ℕ) (q : TaskTable) → (ended_each p e hs q).starts ≡ q.starts
same-starts p e [] q = refl
same-starts p e (h ∷ hs) q = same-starts p e hs (ended_if p e h q) ∙ by_test (holds p (slot_value q.pool h))
  where
    by_test : (b : Bool) → (cond b (record q { pool = ended_in q.pool h e q.ends (slot_value q.pool h); ends = q.ends + 1 }) q).starts ≡ q.starts
    by_test true = refl
    by_test false = refl

-- The waiting tasks, in the order of the list

above-live : (a : ℕ) (l : List (Listed Task)) (h : ℕ) (t : Task) → AreAbove a (start_numbers l) → live_object l h ≡ Some t → a < t.start
unfolding live_of
above-live a [] h t k g = absurd (none-some _ g)
above-live a (r ∷ rs) h t k g = grind (arith, nat_tests, above-live a rs h t k.1, some_same)

-- by each handle of these objects its task is seen
abbrev Shows : (ℕ → Option Seen) → List (ℕ × Task) → Type 0
Shows at es = (h : ℕ) (t : Task) → lookup es h ≡ Some t → at h ≡ seen (Some t)

-- what is seen of a task has the number of its start
start-seen : (at : ℕ → Option Seen) (es : List (ℕ × Task)) (h : ℕ) (t : Task) (s : Seen) → Shows at es → lookup es h ≡ Some t → at h ≡ Some s
    → s.start ≡ t.start
start-seen at es h t s k g a = (seen-as t t.state s (sym (k h t g) ∙ a)).start

shows-behind : (at : ℕ → Option Seen) (x : ℕ × Task) (es : List (ℕ × Task)) → lookup es x.0 ≡ None → Shows at (x ∷ es) → Shows at es
shows-behind at x es e1 e2 = grind (arith, nat_tests)

waiting-order : (at : ℕ → Option Seen) (l : List (Listed Task)) → Distinct (live_of l) → Rises (start_numbers l) → Shows at (live_of l)
    → ListInOrder at (handles_of is_unstarted (live_of l))
unfolding live_of
waiting-order at [] d k w = tt
waiting-order at (r ∷ rs) d k w = by_live r.live d w (waiting-order at rs)
  where
    Rest : Type 0
    Rest = Distinct (live_of rs) → Rises (start_numbers rs) → Shows at (live_of rs) → ListInOrder at (handles_of is_unstarted (live_of rs))

    by_test : (b : Bool) → (lookup (live_of rs) r.handle ≡ None) × Distinct (live_of rs) → Shows at ((r.handle, r.fields) ∷ live_of rs)
        → ListInOrder at (handles_of is_unstarted (live_of rs))
        → ListInOrder at (cond b (r.handle ∷ handles_of is_unstarted (live_of rs)) (handles_of is_unstarted (live_of rs)))
    by_test false d w m = m
    by_test true d w m = (
      λ h s u e f g.
          let t = listed-passes is_unstarted (live_of rs) h d.1 e in
          let first : s.start ≡ r.fields.start = start-seen at ((r.handle, r.fields)
          ∷ live_of rs) r.handle r.fields s w (ap (λ (b : Bool). cond b (Some r.fields) (lookup (live_of rs) r.handle))
          (eq-eqb r.handle r.handle refl)) f in
          let second : u.start ≡ t.0.start = start-seen at (live_of rs) h t.0 u (shows-behind at (r.handle, r.fields) (live_of rs) d.0 w) t.1 g in
          let less : r.fields.start < t.0.start = above-live r.fields.start rs h t.0 k.0 t.1 in
          omega (arith, first, second, less),
      m,
    )

    by_live : (a : Bool) → Distinct (cond a ((r.handle, r.fields) ∷ live_of rs) (live_of rs))
        → Shows at (cond a ((r.handle, r.fields) ∷ live_of rs) (live_of rs)) → Rest
        → ListInOrder at (handles_of is_unstarted (cond a ((r.handle, r.fields) ∷ live_of rs) (live_of rs)))
    by_live true d w m = by_test (is_unstarted r.fields) d w (m d.1 k.1 (shows-behind at (r.handle, r.fields) (live_of rs) d.0 w))
    by_live false d w m = m d k.1 w

waiting-listed : (size turns : ℕ) (p : Slots Task) (l : List (Listed Task)) → Holds size turns p l → Rises (start_numbers l)
    → AreWaiting (seen_in p) (handles_of is_unstarted (live_of l))
waiting-listed size turns p l s k = record {
  listed = λ h u a n.
      let t = seen-live p h u a in
      passes-listed is_unstarted (live_of l) h t.0 (sym (s.stands.found h) ∙ t.1) ((seen-as t.0 t.0.state u t.2).unstarted n);
  waits = λ h m.
      let t = listed-passes is_unstarted (live_of l) h s.stands.distinct m in
      let u = unstarted-seen t.0 t.0.state t.2 in
      (u.0, ap seen (s.stands.found h ∙ t.1) ∙ u.1, u.2);
  ordered = waiting-order (seen_in p) l s.stands.distinct k (λ h t g. ap seen (s.stands.found h ∙ g));
}

-- what the ends of waiting tasks leave
pub record AtOnce (size turns : ℕ) (p : Task → Bool) (e : TaskEnd) (old new : TaskTable) (l : List (Listed Task)) : Type 0 where
  pub holds : Holds size turns new.pool (end_each (both_pass p e) e old.ends l)
  pub ends : new.ends ≡ old.ends + count_listed (both_pass p e) l
  pub starts : new.starts ≡ old.starts

pub ends-at-once : (size turns : ℕ) (p : Task → Bool) (e : TaskEnd) (old new : TaskTable) (l : List (Listed Task)) → Holds size turns old.pool l
    → Rises (start_numbers l) → EndsWaiting p e old new → AtOnce size turns p e old new l
ends-at-once size turns p e old new l s k w =
    let hs = handles_of is_unstarted (live_of l) in
    let same : w.list ≡ hs = waiting-once (seen_in old.pool) w.list hs w.waiting (waiting-listed size turns old.pool l s k) in
    let is : new ≡ ended_each p e hs old = w.now ∙ ap (λ (x : List ℕ). ended_each p e x old) same in
    let all = at-once p e old.ends l s.stands.distinct in
    let stood = subst (λ (x : ℕ × List (Listed Task)). Stood size turns (ended_each p e hs old) x) all
    (stood-each size turns p e hs old (old.ends, l) (record { holds = s; number = refl })) in
    record {
      holds = subst (λ (x : TaskTable). Holds size turns x.pool (end_each (both_pass p e) e old.ends l)) (sym is) stood.holds;
      ends = ap (λ (x : TaskTable). x.ends) is ∙ sym stood.number;
      starts = ap (λ (x : TaskTable). x.starts) is ∙ same-starts p e hs old;
    }
