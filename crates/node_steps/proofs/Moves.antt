-- Each move of a pool is a move of the list that it stands for.
use Rattle.node_steps.proofs.Names.{◌≡◌, ℕ, List, Some, ◌∙◌, Slots, slot_value, with_value, without, Listed, update, retire, Holds}
use Rattle.handle_pool.proofs.StandsLemmas.{Stands-update, Stands-change_and_remove}
use Rattle.handle_pool.proofs.CountLemmas.{max_of-without, max_of-with_value}
pub use Rattle.node_resources.proofs.HoldsLemmas.{found, full_list, room_in, may_be, holds_new, holds_insert, holds_changed, holds_remove}

module _ {T : Type 0} where
  pub holds_update : (max generations : ℕ) (p : Slots T) (l : List (Listed T)) (h : ℕ) (f : T → T) (v : T) → Holds max generations p l → slot_value p h ≡ Some v
      → Holds max generations (with_value p h (f v)) (update h f l)
  holds_update max generations p l h f v s e = record {
    stands = Stands-update p l h f v s.stands e;
    max = max_of-with_value p h (f v) ∙ s.max;
    generations = s.generations;
  }

  pub holds_change_and_remove : (max generations : ℕ) (p : Slots T) (l : List (Listed T)) (h : ℕ) (f : T → T) (v : T) → Holds max generations p l
      → slot_value p h ≡ Some v → Holds max generations (without p h) (retire h (update h f l))
  holds_change_and_remove max generations p l h f v s e = record {
    stands = Stands-change_and_remove p l h f v s.stands e;
    max = max_of-without p h ∙ s.max;
    generations = s.generations;
  }
