-- What a list answers, and each move of it, by the pool that stands for it.
use Rattle.node_resources.proofs.Names.{◌≡◌, ℕ, ◌≤◌, true, false, List, [], Option, Some, None, replicate, refl, sym, ◌∙◌, ap, subst, ◌==◌, option_map, Slots, free_slot, slot_value, max_of, IsFull, Inserts, without, put, changed, SomeLive, NoneLive, HasLive, OneEach, Listed, live_of, live_object, any_listed, first_handle, is_full, may_issue, issue, update, retire, Holds}
use Rattle.handle_pool.proofs.StandsLemmas.{Stands-new, IsFull-limit, IsFull-room, may_issue-insert, Stands-insert, Stands-changed, Stands-remove}
use Rattle.handle_pool.proofs.CountLemmas.{max_of-new, max_of-insert, max_of-without, max_of-with_value}
use Rattle.handle_pool.proofs.KeyLemmas.{any-key, any-no_key, first_live-key, first_live-no_key}

module _ {T : Type 0} where
  max_of-put : (p : Slots T) (h : ℕ) (o : Option T) → max_of (put p h o) ≡ max_of p
  max_of-put p h None = refl
  max_of-put p h (Some v) = max_of-with_value p h v

  generations-put : (p : Slots T) (h : ℕ) (o : Option T) → (put p h o).generations ≡ p.generations
  generations-put p h None = refl
  generations-put p h (Some v) = refl

  -- a new pool stands for the empty list
  pub holds_new : (size turns : ℕ) (p : Slots T) → 1 ≤ turns → size ≤ 65536 → p.generations ≡ turns → p.slots ≡ replicate size (free_slot 1)
      → Holds size turns p []
  holds_new size turns p once few g s = record {
    stands = Stands-new p size (subst (λ (n : ℕ). 1 ≤ n) (sym g) once) few s;
    max = max_of-new p size s;
    generations = g;
  }

  module _ (size turns : ℕ) (p : Slots T) where
    -- what a handle finds in the pool is the live object of the list
    pub found : (l : List (Listed T)) (h : ℕ) (o : Option T) → Holds size turns p l → slot_value p h ≡ o → live_object l h ≡ o
    found l h o v e = sym (v.stands.found h) ∙ e

    -- the list is full exactly where its pool is
    pub full_list : (l : List (Listed T)) → Holds size turns p l → IsFull p → is_full turns size l ≡ true
    full_list l v full = (λ i. is_full (sym v.generations i) (sym v.max i) l) ∙ (IsFull-limit p l v.stands).0 full

    pub room_in : (l : List (Listed T)) → Holds size turns p l → (IsFull p → ⊥) → is_full turns size l ≡ false
    room_in l v room = (λ i. is_full (sym v.generations i) (sym v.max i) l) ∙ IsFull-room p l v.stands room

    -- a handle that the pool gives may be issued
    pub may_be : (q : Slots T) (l : List (Listed T)) (h : ℕ) (x : T) → Holds size turns p l → Inserts p q h x → may_issue turns h l ≡ true
    may_be q l h x v i = (λ j. may_issue (sym v.generations j) h l) ∙ may_issue-insert p q l h x v.stands i

    pub holds_insert : (q : Slots T) (l : List (Listed T)) (h : ℕ) (x : T) → Holds size turns p l → Inserts p q h x → Holds size turns q (issue h x l)
    holds_insert q l h x v i = record {
      stands = Stands-insert p q l h x v.stands i;
      max = max_of-insert p q h x i ∙ v.max;
      generations = ap (λ (s : Slots T). s.generations) i.now ∙ v.generations;
    }

    pub holds_changed : (l : List (Listed T)) (h : ℕ) (f : T → T) → Holds size turns p l → Holds size turns (changed p h f) (update h f l)
    holds_changed l h f v = record {
      stands = Stands-changed p l h f v.stands;
      max = max_of-put p h (option_map f (slot_value p h)) ∙ v.max;
      generations = generations-put p h (option_map f (slot_value p h)) ∙ v.generations;
    }

    pub holds_remove : (l : List (Listed T)) (h : ℕ) (x : T) → Holds size turns p l → slot_value p h ≡ Some x → Holds size turns (without p h) (retire h l)
    holds_remove l h x v e = record {
      stands = Stands-remove p l h x v.stands e;
      max = max_of-without p h ∙ v.max;
      generations = v.generations;
    }

    -- objects that have an id
    module _ (l : List (Listed T)) (id : T → ℕ) (n : ℕ) (v : Holds size turns p l) where
      pub has_id : SomeLive (slot_value p) (λ x. id x ≡ n) → any_listed (λ y. id y == n) l ≡ true
      has_id some = any-key id p l n v.stands some

      pub no_id : NoneLive (slot_value p) (λ x. id x ≡ n) → any_listed (λ y. id y == n) l ≡ false
      no_id none = any-no_key id p l n v.stands none

      pub id_absent : NoneLive (slot_value p) (λ x. id x ≡ n) → first_handle (λ y. id y == n) (live_of l) ≡ None
      id_absent none = first_live-no_key id p l n v.stands none

      pub id_found : (h : ℕ) → OneEach id p → HasLive p h (λ x. id x ≡ n) → first_handle (λ y. id y == n) (live_of l) ≡ Some h
      id_found h each has = first_live-key id p l n h v.stands each has
