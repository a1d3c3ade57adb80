-- Changes of a list of issued objects that come to the same.
use Rattle.node_steps.proofs.Names.{arith, nat_tests, ◌≡◌, ℕ, Bool, true, false, not, cond, List, [], ◌∷◌, Some, refl, sym, ◌∙◌, ap, ◌==◌, ◌&&◌, TaskEnd, Slots, slot_value, with_value, without, Listed, live_of, lookup, live_object, change, with_fields, gone, update, retire, Task, Ended, with_state, ended, ended_in, Holds, same_Some}
use Rattle.node_steps.proofs.Moves.{found, holds_update, holds_change_and_remove}

module _ {T : Type 0} where
  -- two changes that agree on the object found
  pub change-as : (h : ℕ) (f g : Listed T → Listed T) (v : T) (l : List (Listed T)) → live_object l h ≡ Some v
      → ((r : Listed T) → r.live ≡ true → r.fields ≡ v → f r ≡ g r) → change h f l ≡ change h g l
  unfolding live_of change
  change-as h f g v [] a k = refl
  change-as h f g v (r ∷ rs) a k = grind (arith, nat_tests, change-as h f g v rs, change)

  -- fields that change, and then the end of the object's life
  pub retire-update : (h : ℕ) (f : T → T) (l : List (Listed T)) → retire h (update h f l) ≡ change h (λ r. gone (with_fields f r)) l
  unfolding change
  retire-update h f [] = refl
  retire-update h f (r ∷ rs) = grind (arith, nat_tests, retire-update h f rs, change, gone)

stays_live : (a d : Bool) → d ≡ false → (a && not d) ≡ a
stays_live a d e1 = grind (arith, nat_tests)

not_live : (a d : Bool) → d ≡ true → (a && not d) ≡ false
not_live a d e1 = grind (arith, nat_tests)

-- the end of a task that isn't detached, and of one that is
ended-kept : (h : ℕ) (e : TaskEnd) (n : ℕ) (t : Task) (l : List (Listed Task)) → live_object l h ≡ Some t → t.notes.detached ≡ false
    → change h (ended e n) l ≡ update h (with_state (Ended e n)) l
ended-kept h e n t l a d = grind (arith, nat_tests, change-as, ended, stays_live)

ended-gone : (h : ℕ) (e : TaskEnd) (n : ℕ) (t : Task) (l : List (Listed Task)) → live_object l h ≡ Some t → t.notes.detached ≡ true
    → change h (ended e n) l ≡ retire h (update h (with_state (Ended e n)) l)
ended-gone h e n t l e1 e2 = grind (arith, nat_tests, change-as, with_fields, with_state, not_live, retire-update)

-- a task that ends in the pool ends in the list
pub holds_ended : (size turns : ℕ) (p : Slots Task) (l : List (Listed Task)) (h : ℕ) (e : TaskEnd) (n : ℕ) (t : Task) → Holds size turns p l
    → slot_value p h ≡ Some t → Holds size turns (ended_in p h e n (Some t)) (change h (ended e n) l)
holds_ended size turns p l h e n t s g = by_detached t.notes.detached refl
  where
    by_detached : (b : Bool) → t.notes.detached ≡ b
        → Holds size turns (cond b (without p h) (with_value p h (with_state (Ended e n) t))) (change h (ended e n) l)
    by_detached true d = rw (ended-gone h e n t l (found size turns p l h (Some t) s g) d)
        (holds_change_and_remove size turns p l h (with_state (Ended e n)) t s g)
    by_detached false d = rw (ended-kept h e n t l (found size turns p l h (Some t) s g) d) (holds_update size turns p l h (with_state (Ended e n)) t s g)
