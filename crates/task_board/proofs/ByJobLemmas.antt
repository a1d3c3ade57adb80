-- What each move of the tasks keeps of the lists of waiting tasks by jobs.
use Rattle.task_board.proofs.Names.{nat_tests, ◌≡◌, ℕ, ◌<◌, ◌≤◌, true, List, [], ◌∷◌, ◌++◌, length, length-set, Option, Some, None, set, refl, sym, ◌∙◌, ap, arith, ◌==◌, ◌&&◌, ◌%◌, is_none, list_at, has_handle, without_handle, list_at-set_same, list_at-set_other, Seen, AreIn, AreByJob, waits_at, and_parts, none-some}
use Rattle.task_board.proofs.SeenLemmas.{some_same}
use Rattle.task_board.proofs.MarkLemmas.{same-number, number-same}
use Rattle.task_board.proofs.KeyedLemmas.{Put, lists-push, lists-leave, lists-aside}

remainder : (n job : ℕ) → 1 ≤ n → job % n < n
remainder n job some = omega (arith, some)

other-job : (n r : ℕ) (s : Seen) → (r ≡ s.job % n → ⊥) → waits_at n r s ≡ true → ⊥
other-job n r s d e = d (sym (same-number (s.job % n) r (and_parts (is_none s.on) (s.job % n == r) e).1))

waits-none : (n r : ℕ) (s : Seen) → waits_at n r s ≡ true → s.on ≡ None
waits-none n r s e1 = grind (arith, nat_tests)

-- a list with one list replaced
replaced : {n : ℕ} (at after : ℕ → Option Seen) (ls : List (List ℕ)) (job : ℕ) (hs : List ℕ) → AreByJob n at ls
    → AreIn (waits_at (length ls) (job % length ls)) after hs
    → ((r : ℕ) → r < length ls → (r ≡ job % length ls → ⊥) → AreIn (waits_at (length ls) r) at (list_at ls r)
    → AreIn (waits_at (length ls) r) after (list_at ls r)) → AreByJob n after (set ls (job % length ls) hs)
replaced at after ls job hs old mine others =
    let less = remainder (length ls) job old.some in
    grind (arith, nat_tests, length-set ls, list_at-set_same ls, list_at-set_other ls)

-- a new task waits
pub by-job-push : {n : ℕ} (at after : ℕ → Option Seen) (h : ℕ) (s : Seen) (ls : List (List ℕ)) → Put at h (Some s) after → at h ≡ None → s.on ≡ None
    → ((k : ℕ) (u : Seen) → at k ≡ Some u → u.start < s.start) → AreByJob n at ls
    → AreByJob n after (set ls (s.job % length ls) (list_at ls (s.job % length ls) ++ h ∷ []))
by-job-push at after h s ls move none waits less old =
    replaced at after ls s.job _ old (lists-push (λ s. s.start) _ at after h s _ move none (λ i. is_none (waits i)
    && number-same (s.job % length ls) _ refl i) less (old.each _ (remainder (length ls) s.job old.some)))
    (λ r below away. lists-aside (λ s. s.start) _ at after h (Some s) _ move (λ u e. absurd (none-some _ (sym none ∙ e)))
    (λ u e m. other-job (length ls) r u (λ z. away (z ∙ ap (λ (v : Seen). v.job % length ls) (sym (some_same e)))) m))

-- a waiting task leaves
pub by-job-leave : {n : ℕ} (at after : ℕ → Option Seen) (h : ℕ) (s : Seen) (x : Option Seen) (ls : List (List ℕ)) → Put at h x after → at h ≡ Some s
    → ((u : Seen) → x ≡ Some u → u.on ≡ None → ⊥) → AreByJob n at ls
    → AreByJob n after (set ls (s.job % length ls) (without_handle h (list_at ls (s.job % length ls))))
by-job-leave at after h s x ls move seen left old =
    replaced at after ls s.job _ old (lists-leave (λ s. s.start) _ at after h x _ move (λ u e m. left u e (waits-none _ _ u m))
    (old.each _ (remainder (length ls) s.job old.some)))
    (λ r below away. lists-aside (λ s. s.start) _ at after h x _ move
    (λ u e m. other-job (length ls) r u (λ z. away (z ∙ ap (λ (v : Seen). v.job % length ls) (some_same (sym e ∙ seen)))) m)
    (λ u e m. left u e (waits-none _ _ u m)))

-- a task moves that doesn't wait
pub by-job-same : {n : ℕ} (at after : ℕ → Option Seen) (h : ℕ) (x : Option Seen) (ls : List (List ℕ)) → Put at h x after
    → ((s : Seen) → at h ≡ Some s → s.on ≡ None → ⊥) → ((s : Seen) → x ≡ Some s → s.on ≡ None → ⊥) → AreByJob n at ls → AreByJob n after ls
by-job-same at after h x ls move was is old = record {
  some = old.some;
  count = old.count;
  each = λ r less. lists-aside (λ s. s.start) _ at after h x _ move (λ u e m. was u e (waits-none _ r u m)) (λ u e m. is u e (waits-none _ r u m))
      (old.each r less);
}

-- a waiting task is in the list of its job
pub by-job-has : {n : ℕ} (at : ℕ → Option Seen) (h job : ℕ) (s : Seen) (ls : List (List ℕ)) → AreByJob n at ls → at h ≡ Some s → s.on ≡ None → s.job ≡ job
    → has_handle h (list_at ls (job % length ls)) ≡ true
by-job-has at h job s ls k e waits is =
    (k.each (job % length ls) (remainder (length ls) job k.some)).listed h s e (λ i. is_none (waits i)
    && ((ap (λ (j : ℕ). j % length ls == job % length ls) is ∙ number-same (job % length ls) _ refl) i))
