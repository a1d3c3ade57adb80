-- The turns of a seat over one list of entries and then another.
use Rattle.workload_runs.proofs.Names.{◌≡◌, ℕ, Bool, true, false, cond, List, [], ◌∷◌, ◌++◌, refl, ap, ◌==◌, ◌&&◌, State, NodeEntry, next, is_work, Turn, turn_of}
use Rattle.mtapi_machine.specs.Legal.{after_from}
use Rattle.workload_runs.specs.Turns.{turns_of}
use Rattle.workload_runs.specs.Whole.{all_worked}

pub turns_append : (who : ℕ) (s : State) (L M : List NodeEntry) → turns_of who s (L ++ M) ≡ turns_of who s L ++ turns_of who (after_from s L) M
unfolding turns_of after_from
turns_append who s [] M = refl
turns_append who s (e ∷ L) M = both (e.who == who) _ _ _ (turns_append who (next s e) L M)
  where
    both : (b : Bool) (xs ys zs : List Turn) → xs ≡ ys ++ zs → cond b (turn_of s e ∷ xs) xs ≡ cond b (turn_of s e ∷ ys) ys ++ zs
    both true xs ys zs q = ap (λ (l : List Turn). turn_of s e ∷ l) q
    both false xs ys zs q = q

pub work_append : (xs ys : List Turn) → all_worked xs ≡ true → all_worked ys ≡ true → all_worked (xs ++ ys) ≡ true
unfolding all_worked
work_append [] ys a b = b
work_append (x ∷ xs) ys a b = both (cond x.stays (is_work x.op x.reply) true) a (λ q. work_append xs ys q b)
  where
    both : {y z : Bool} (x : Bool) → (x && y) ≡ true → (y ≡ true → z ≡ true) → (x && z) ≡ true
    both true e f = f e
    both false e f = e
