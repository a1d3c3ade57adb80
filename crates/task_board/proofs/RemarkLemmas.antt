-- Marks made anew for the waiting tasks of one job.
use Rattle.task_board.proofs.Names.{nat_tests, ◌≡◌, ◌⊎◌, ℕ, zero, suc, ◌<◌, ◌+◌, Bool, true, List, [], ◌∷◌, length, length-set, Option, Some, None, set, slice_get, sym, ◌∙◌, ap, subst, inl, inr, arith, ◌==◌, cases_eq, slice_get_within, Kind, Slots, slot_of, slot_value, max_of, Inserts, changed, put, without, slot_of-live, get-with_value_same, get-with_value_other, get-insert_same, get-insert_before, get-insert_other, get-without_same, get-without_other, option_map, has_handle, has-index, index-has, Mark, ReadyMarks, mark_at, is_for_at, Action, has_enabled_job, new_action, with_enabled, runs_job_on, IsUnion, Task, Seen, seen_in, AreSeen, IsMarkOf, Marked, IsFresh, IsFreshFor, StandsBefore, Remarked, and_parts}
use Rattle.task_board.specs.Seen.{MayTake}
use Rattle.task_board.proofs.SeenLemmas.{some_same, seen-live}
use Rattle.task_board.proofs.MarkLemmas.{same-number}
use Rattle.task_board.proofs.MoveLemmas.{mark-here, mark-away, alone}

-- the slot of what is seen
pub seen-slot : (p : Slots Task) (h : ℕ) (s : Seen) → seen_in p h ≡ Some s → slot_of h < max_of p
seen-slot p h s e = let t = seen-live p h s e in slot_of-live p h t.0 t.1

pub walked-slot : (p : Slots Task) (hs : List ℕ) (i h : ℕ) → AreSeen (seen_in p) hs → slice_get hs i ≡ Some h → slot_of h < max_of p
walked-slot p hs i h w e = let s = w h (index-has h i hs e) in seen-slot p h s.0 s.1

pub remarked-none : (actions : Slots Action) (lets : ℕ → Option ℕ → Bool) (at : ℕ → Option Seen) (job : ℕ) (hs : List ℕ) (r : ReadyMarks)
    → Remarked actions lets at job hs 0 r r
remarked-none actions lets at job hs r = grind (arith, nat_tests)

-- a handle more
module _ (actions : Slots Action) (lets : ℕ → Option ℕ
    → Bool) (p : Slots Task) (job : ℕ) (hs : List ℕ) (index h : ℕ) (old now new : ReadyMarks) (waits : AreSeen (seen_in p) hs) (is : slice_get hs index
    ≡ Some h) (less : slot_of h < length now.marks) (done : Remarked actions lets (seen_in p) job hs index old now) where
  wider : (place : ℕ) → StandsBefore (seen_in p) job hs index place → StandsBefore (seen_in p) job hs (index + 1) place
  wider place b = record { i = b.i; h = b.h; s = b.s; before = omega (arith, b.before); stands = b.stands; is = b.is; has_job = b.has_job; slot = b.slot }

  skipped : ((s : Seen) → seen_in p h ≡ Some s → s.job ≡ job → ⊥) → new ≡ now → Remarked actions lets (seen_in p) job hs (index + 1) old new
  skipped e1 e2 = grind (arith, nat_tests)

  marked : ((s : Seen) → seen_in p h ≡ Some s → s.job ≡ job) → IsFresh actions lets (seen_in p) h now new
      → Remarked actions lets (seen_in p) job hs (index + 1) old new
  marked mine f = subst (λ (r : ReadyMarks). Remarked actions lets (seen_in p) job hs (index + 1) old r) (sym f.now) (record {
    workers = done.workers;
    priorities = done.priorities;
    slots = length-set now.marks (slot_of h) f.mark ∙ done.slots;
    fresh = λ i k s before e g j. elim (cases_eq (slot_of k) (slot_of h)) [
      | inl beside ↦
          let s_is = waits h (index-has h index hs is) in
          let same = alone p h k s_is.0 s s_is.1 g beside in
          subst (λ (m : Option Mark). IsMarkOf actions (lets k) (seen_in p k) m)
          (sym (ap (mark_at (set now.marks (slot_of h) f.mark)) beside ∙ mark-here now.marks (slot_of h) f.mark less))
          (subst (λ (j : ℕ). IsMarkOf actions (lets j) (seen_in p j) f.mark) (sym same) f.right)
      | inr away ↦ elim (cases_eq i index) [
        | inl last ↦ absurd (away (ap slot_of (some_same (sym e ∙ ap (slice_get hs) last ∙ is))))
        | inr earlier ↦ subst (λ (m : Option Mark). IsMarkOf actions (lets k) (seen_in p k) m) (sym (mark-away now.marks (slot_of h) (slot_of k) f.mark away))
            (done.fresh i k s (omega arith) e g j)
      ]
    ];
    others = λ place. elim (cases_eq place (slot_of h)) [
      | inl here ↦
          let s = waits h (index-has h index hs is) in
          inr (record { i = index; h = h; s = s.0; before = omega arith; stands = is; is = s.1; has_job = mine s.0 s.1; slot = sym here })
      | inr away ↦ elim (done.others place) [
        | inl e ↦ inl (mark-away now.marks (slot_of h) place f.mark away ∙ e)
        | inr b ↦ inr (wider place b)
      ]
    ];
  })

  pub remarked-next : IsFreshFor actions lets (seen_in p) job h now new → Remarked actions lets (seen_in p) job hs (index + 1) old new
  remarked-next f = grind (arith, nat_tests, marked, skipped)

-- Other actions

-- the actions of all other jobs are as they were
pub record SameBut (job : ℕ) (old new : Slots Action) : Type 0 where
  pub there : (h : ℕ) (a : Action) → (a.job ≡ job → ⊥) → slot_value old h ≡ Some a → slot_value new h ≡ Some a
  pub back : (h : ℕ) (a : Action) → (a.job ≡ job → ⊥) → slot_value new h ≡ Some a → slot_value old h ≡ Some a

pub same-insert : (p q : Slots Action) (h job : ℕ) (kind : Kind) (cores : ℕ) → Inserts p q h (new_action job kind cores) → SameBut job p q
same-insert p q h job kind cores e1 = grind (arith, nat_tests, cases_eq, get-insert_before, slot_value, get-insert_other, some_same, get-insert_same)

pub same-changed : (p : Slots Action) (h job : ℕ) (on : Bool) (x : Action) → slot_value p h ≡ Some x → x.job ≡ job
    → SameBut job p (changed p h (with_enabled on))
same-changed p h job on x g j =
    subst (λ (o : Option Action). SameBut job p (put p h (option_map (with_enabled on) o))) (sym g) (record {
      there = λ k a d e. grind (arith, nat_tests, get-with_value_other p h k x (with_enabled on x) g);
      back = λ k a d e. grind (arith, nat_tests, get-with_value_same p h x (with_enabled on x) g, get-with_value_other p h k x (with_enabled on x) g);
    })

pub same-without : (p : Slots Action) (h job : ℕ) (x : Action) → slot_value p h ≡ Some x → x.job ≡ job → SameBut job p (without p h)
same-without p h job x e1 e2 = grind (arith, nat_tests, cases_eq, some_same, slot_value, get-without_other, get-without_same)

runs-job : (job w : ℕ) (a : Action) → runs_job_on job w a ≡ true → a.job ≡ job
runs-job job w a r = same-number a.job job (and_parts a.enabled (a.job == job) (and_parts (has_enabled_job job a) _ r).0).1

-- the same workers may take the task
pub record TakenBy (old new : Slots Action) (lets now : Option ℕ → Bool) (s : Seen) : Type 0 where
  pub there : (w : ℕ) → MayTake old lets w s → MayTake new now w s
  pub back : (w : ℕ) → MayTake new now w s → MayTake old lets w s

-- a task of another job
pub taken-other : (job : ℕ) (old new : Slots Action) (lets : Option ℕ → Bool) (s : Seen) → SameBut job old new → (s.job ≡ job → ⊥) → TakenBy old new lets lets s
taken-other job old new lets s e1 e2 = grind (arith, nat_tests)

-- a task whose queue lets it begin as before
pub taken-steady : (actions : Slots Action) (lets now : Option ℕ → Bool) (s : Seen) → now s.queue ≡ lets s.queue → TakenBy actions actions lets now s
taken-steady actions lets now s e1 = grind (arith, nat_tests)

-- the marks are right for the other actions and queues once the tasks of the job in this list are marked anew, where all others may be
-- taken as before
pub marked-anew : (old new : Slots Action) (lets now : ℕ → Option ℕ → Bool) (p : Slots Task) (job : ℕ) (hs : List ℕ) (was after : ReadyMarks)
    → ((h : ℕ) (s : Seen) → seen_in p h ≡ Some s → s.on ≡ None → ((has_handle h hs ≡ true) × (s.job ≡ job)) ⊎ TakenBy old new (lets h) (now h) s)
    → Remarked new now (seen_in p) job hs (length hs) was after → Marked old lets (seen_in p) was.marks → Marked new now (seen_in p) after.marks
marked-anew old new lets now p job hs was after others done m = record {
  sound = λ w q place e. elim (done.others place) [
    | inl kept ↦
        let s = m.sound w q place (ap (is_for_at w q) (sym kept) ∙ e) in
        elim (others s.0 s.1 s.3 s.5.waits) [
          | inl mine ↦
              let f = (fresh s.0 s.1 s.3 mine.0 mine.1).sound w q (ap (λ (k : ℕ). is_for_at w q (mark_at after.marks k)) s.2 ∙ e) in
              (s.0, f.0, s.2, f.1, f.2, f.3)
          | inr other ↦ (s.0, s.1, s.2, s.3, s.4, other.there w s.5)
        ]
    | inr b ↦
        let f = (done.fresh b.i b.h b.s b.before b.stands b.is b.has_job).sound w q (ap (λ (k : ℕ). is_for_at w q (mark_at after.marks k)) b.slot ∙ e) in
        (b.h, f.0, b.slot, f.1, f.2, f.3)
  ];
  whole = λ w h s e k. elim (others h s e k.waits) [
    | inl mine ↦ (fresh h s e mine.0 mine.1).whole w s e k
    | inr other ↦
        let kept = m.whole w h s e (other.back w k) in
        elim (done.others (slot_of h)) [
          | inl as_was ↦ ap (is_for_at w s.priority) as_was ∙ kept
          | inr b ↦
              let is = alone p b.h h b.s s b.is e (sym b.slot) in
              let f = subst (λ (j : ℕ). IsMarkOf new (now j) (seen_in p j) (mark_at after.marks (slot_of j))) (sym is)
              (done.fresh b.i b.h b.s b.before b.stands b.is b.has_job) in
              f.whole w s e k
        ]
  ];
}
  where
    fresh : (h : ℕ) (s : Seen) → seen_in p h ≡ Some s → has_handle h hs ≡ true → s.job ≡ job
        → IsMarkOf new (now h) (seen_in p h) (mark_at after.marks (slot_of h))
    fresh h s e has j =
        let i = has-index h hs has in
        done.fresh i.0 h s (slice_get_within hs i.0 h i.1) i.1 e j

-- The same cores

takes-over : (job mask : ℕ) (old new : Slots Action) (lets : Option ℕ → Bool) (w : ℕ) (s : Seen) → SameBut job old new → IsUnion old job mask
    → IsUnion new job mask → MayTake old lets w s → MayTake new lets w s
takes-over job mask old new lets w s e1 e2 e3 e4 = grind (arith, nat_tests)

-- the marks are right for the other actions as they are, where those of the job cover the cores that they covered
pub marked-over : (job mask : ℕ) (old new : Slots Action) (lets : ℕ → Option ℕ → Bool) (at : ℕ → Option Seen) (marks : List (Option Mark)) → SameBut job old new
    → IsUnion old job mask → IsUnion new job mask → Marked old lets at marks → Marked new lets at marks
marked-over job mask old new lets at marks same was now m = record {
  sound = λ w q place e.
      let s = m.sound w q place e in
      (s.0, s.1, s.2, s.3, s.4, takes-over job mask old new (lets s.0) w s.1 same was now s.5);
  whole = λ w h s e k. m.whole w h s e (takes-over job mask new old (lets h) w s (record { there = same.back; back = same.there }) now was k);
}

-- the list has something at each index below its length
pub past-none : (hs : List ℕ) (i : ℕ) → i < length hs → slice_get hs i ≡ None → ⊥
past-none [] i less none = omega arith
past-none (x ∷ hs) zero less none = grind (arith, nat_tests)
past-none (x ∷ hs) (suc i) less none = past-none hs i (omega arith) none
