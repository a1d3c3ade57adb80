-- How each change of the places keeps the counts and the list of free places.
use Rattle.handle_pool.proofs.Names.{◌≡◌, ◌≢◌, ℕ, zero, suc, ◌+◌, ◌-◌, ◌*◌, ◌<◌, ◌≤◌, ◌^◌, Bool, List, [], ◌∷◌, ◌++◌, map, length, get_or, set, Option, Some, None, count_by, cond, slice_get, IsSome, refl, sym, ap, subst, ◌∙◌, arith, length-set, map-set, map_push, length-map, length_push, get_or-map, sum_by-set, sum_by_push, slice_get_within, get_or_from_slice_get, Place, Free, Live, Retired, Slot, Slots, slot_value, is_live, is_retired, value_at, slot_of, generation_of, slot_after, used_slot, with_value, Inserts, slice_get-map, option_map, nat_tests, slot_in, fresh, IsFreeList, HasGeneration, HasValue, IsSound}
use Rattle.handle_pool.proofs.FreshLemmas.{fresh-length, fresh-push}
use Rattle.handle_pool.proofs.ListReads.{slice_get-set_same, slice_get-set_other, slice_get-push_old, slice_get-push_last, slice_get-push_cases, slice_get-set_cases, set-same}

module _ {T : Type 0} where
  IsFreeList-push : (es : List (Place T)) (generation count place : ℕ) → IsFreeList es count place
      → IsFreeList (es ++ Free generation (length es + 1) ∷ []) (suc count) place
  IsFreeList-push es generation zero place p =
      (generation, length es + 1, rw p (slice_get-push_last es _), sym (length_push es _))
  IsFreeList-push es generation (suc count) place p =
      (p.0, p.1, slice_get-push_old es _ _ place p.2, IsFreeList-push es generation count p.1 p.3)

  -- one free place more, at the end
  pub IsSound-push : (es : List (Place T)) (generations next : ℕ) → next ≡ length es + 1 → length es < 65536 → IsSound es generations 0 0 0
      → IsSound (es ++ Free 1 next ∷ []) generations 0 0 0
  IsSound-push es generations next at few sound =
      let d = slot_in generations (Free 1 (length es + 1)) in
      let pushed = map_push (slot_in generations) es (Free 1 (length es + 1)) in
      let es_in = map (slot_in generations) es in
      rw at record {
        live_counted = grind (arith, nat_tests, sound.live_counted, sum_by_push (λ (s : Slot T). cond (is_live s) 1 0) es_in d);
        retired_counted = grind (arith, nat_tests, sound.retired_counted, sum_by_push (λ (s : Slot T). cond (is_retired s) 1 0) es_in d);
        free = suc sound.free;
        total = omega (arith, length_push es (Free 1 (length es + 1)), sound.total);
        linked = IsFreeList-push es 1 sound.free 0 sound.linked;
        some = omega (arith, length_push es (Free 1 (length es + 1)));
        few = omega (arith, length_push es (Free 1 (length es + 1)));
        top = sound.top;
        generated = λ place e found. slice_get-push_cases es _ e place found (sound.generated place e)
            (λ same. subst (HasGeneration generations) same (omega arith, sound.top.0));
      }

  IsSound-one : (generations : ℕ) → (1 ≤ generations) × (generations < 2 ^ 32) → IsSound {T = T} (Free 1 1 ∷ []) generations 0 0 0
  IsSound-one generations top = record {
    live_counted = refl;
    retired_counted = refl;
    free = 1;
    total = refl;
    linked = (1, 1, refl, refl);
    some = omega arith;
    few = omega arith;
    top = top;
    generated = λ place e found. at place e found;
  }
    where
      at : (place : ℕ) (e : Place T) → slice_get (Free 1 1 ∷ []) place ≡ Some e → HasGeneration generations e
      at zero e found = let same : Free 1 1 ≡ e = cc in subst (HasGeneration generations) same (omega arith, top.0)
      at (suc place) e found = absurd (cc)

  -- the places of a new pool are sound
  pub IsSound-fresh : (n generations : ℕ) → 1 ≤ n → n ≤ 65536 → (1 ≤ generations) × (generations < 2 ^ 32) → IsSound (fresh {T = T} 0 n) generations 0 0 0
  unfolding fresh
  IsSound-fresh zero generations some few top = absurd (omega arith)
  IsSound-fresh (suc zero) generations some few top = IsSound-one generations top
  IsSound-fresh (suc (suc n)) generations some few top =
      rw (fresh-push 0 (suc (suc n)) (suc n) (omega arith))
      (IsSound-push (fresh 0 (suc n)) generations (0 + suc n
      + 1) (omega (arith, fresh-length T 0 (suc n))) (omega (arith, fresh-length T 0 (suc n)))
      (IsSound-fresh (suc n) generations (omega arith) (omega arith) top))

  -- a place starts one list of free places at most
  pub IsFreeList-count_unique : (es : List (Place T)) (m n place : ℕ) → IsFreeList es m place → IsFreeList es n place → m ≡ n
  IsFreeList-count_unique es zero zero place p q = refl
  IsFreeList-count_unique es zero (suc n) place p q = absurd (omega (arith, slice_get_within es place _ q.2))
  IsFreeList-count_unique es (suc m) zero place p q = absurd (omega (arith, slice_get_within es place _ p.2))
  IsFreeList-count_unique es (suc m) (suc n) place p q =
      grind (arith, nat_tests, p.2, q.2, IsFreeList-count_unique es m n p.1 p.3)

  -- a write at a place that is not on the list keeps the list
  pub IsFreeList-set : (es : List (Place T)) (place : ℕ) (e : Place T) (n from : ℕ) → ((m : ℕ) → m < n → IsFreeList es (suc m) place → ⊥) → IsFreeList es n from
      → IsFreeList (set es place e) n from
  IsFreeList-set es place e zero from off p = p ∙ sym (length-set es place e)
  IsFreeList-set es place e (suc n) from off p =
      let other : from ≢ place = λ same. off n (omega arith) (subst (IsFreeList es (suc n)) same p) in
      (p.0, p.1, slice_get-set_other es place from e other ∙ p.2, IsFreeList-set es place e n p.1 (λ m below. off m (omega arith)) p.3)

  -- a live place is on no list of free places
  live_is_off_list : (es : List (Place T)) (place generation : ℕ) (value : T) → slice_get es place ≡ Some (Live generation value) → (m : ℕ)
      → IsFreeList es (suc m) place → ⊥
  live_is_off_list es place generation value found m p = let listed = p.2 in cc

  -- a count of the slots after a write
  pub count-set : (p : Slot T → Bool) (generations : ℕ) (es : List (Place T)) (place : ℕ) (old new : Place T) → slice_get es place ≡ Some old
      → count_by p (map (slot_in generations) (set es place new)) + cond (p (slot_in generations old)) 1 0
      ≡ count_by p (map (slot_in generations) es) + cond (p (slot_in generations new)) 1 0
  count-set p generations es place old new found =
      let within = slice_get_within es place old found in
      let d = slot_in generations old in
      let read : get_or (map (slot_in generations) es) place d ≡ d =
      get_or-map (slot_in generations) es place old d within ∙ ap (slot_in generations) (get_or_from_slice_get es place old old found) in
      let counted = sum_by-set (λ s. cond (p s) 1 0) (map (slot_in generations) es) place (slot_in generations new) d
      (omega (arith, length-map es (slot_in generations))) in
      rw (map-set (slot_in generations) es place new) (rw read at counted)

  -- one value at least
  pub live-positive : (es : List (Place T)) (generations live retired next place generation : ℕ) (value : T) → IsSound es generations live retired next
      → slice_get es place ≡ Some (Live generation value) → 1 ≤ live
  live-positive es generations live retired next place generation value sound found =
      omega (arith, sound.live_counted, count-set is_live generations es place (Live generation value) Retired found)

  -- what a write has to keep
  IsSound-set : (es : List (Place T)) (generations live retired next place : ℕ) (old new : Place T) (live_now retired_now free next_now : ℕ)
      → IsSound es generations live retired next → slice_get es place ≡ Some old → HasGeneration generations new
      → live_now + cond (is_live (slot_in generations old)) 1 0 ≡ live + cond (is_live (slot_in generations new)) 1 0
      → retired_now + cond (is_retired (slot_in generations old)) 1 0 ≡ retired + cond (is_retired (slot_in generations new)) 1 0
      → live_now + retired_now + free ≡ length es → IsFreeList (set es place new) free next_now
      → IsSound (set es place new) generations live_now retired_now next_now
  IsSound-set es generations live retired next place old new live_now retired_now free next_now sound found is_generated lives retires total linked =
      let size = length-set es place new in
      record {
        live_counted = omega (arith, sound.live_counted, count-set is_live generations es place old new found);
        retired_counted = omega (arith, sound.retired_counted, count-set is_retired generations es place old new found);
        free = free;
        total = omega arith;
        linked = linked;
        some = omega (arith, sound.some);
        few = omega (arith, sound.few);
        top = sound.top;
        generated = λ at e read. slice_get-set_cases es place at _ e read (sound.generated at e) (λ same. subst (HasGeneration generations) same is_generated);
      }

  -- a value goes into the first free place: the rest of the list is shorter, so it doesn't come back to it
  pub IsSound-fill : (es : List (Place T)) (generations live retired next generation after : ℕ) (value : T) → IsSound es generations live retired next
      → slice_get es next ≡ Some (Free generation after) → IsSound (set es next (Live generation value)) generations (live + 1) retired after
  IsSound-fill es generations live retired next generation after value sound found = by_count sound.free sound.total sound.linked
    where
      by_count : (n : ℕ) → live + retired + n ≡ length es → IsFreeList es n next
          → IsSound (set es next (Live generation value)) generations (live + 1) retired after
      by_count zero total linked = absurd (omega (arith, slice_get_within es next _ found))
      by_count (suc n) total linked =
          let listed = linked.2 in
          let same : linked.1 ≡ after = cc in
          IsSound-set es generations live retired next next _ (Live generation value) (live + 1) retired n after sound found (sound.generated next _ found)
          (omega arith) (omega arith) (omega arith)
          (IsFreeList-set es next (Live generation value) n after
          (λ m below p. omega (arith, IsFreeList-count_unique es (suc m) (suc n) next p linked)) (subst (IsFreeList es n) same linked.3))

  -- a value is taken out before the last generation
  pub IsSound-vacate : (es : List (Place T)) (generations live retired next place generation : ℕ) (value : T) → IsSound es generations live retired next
      → slice_get es place ≡ Some (Live generation value) → generation < generations
      → IsSound (set es place (Free (generation + 1) next)) generations (live - 1) retired place
  IsSound-vacate es generations live retired next place generation value sound found below =
      let some = live-positive es generations live retired next place generation value sound found in
      IsSound-set es generations live retired next place _ _ (live - 1) retired (suc sound.free) place sound found (omega arith, omega arith)
      (omega arith) (omega arith) (omega (arith, sound.total)) (
        generation + 1,
        next,
        slice_get-set_same es place _ _ found,
        IsFreeList-set es place _ sound.free next (λ m _. live_is_off_list es place generation value found m) sound.linked,
      )

  -- a value is taken out at the last generation
  pub IsSound-retire : (es : List (Place T)) (generations live retired next place generation : ℕ) (value : T) → IsSound es generations live retired next
      → slice_get es place ≡ Some (Live generation value) → IsSound (set es place Retired) generations (live - 1) (retired + 1) next
  IsSound-retire es generations live retired next place generation value sound found =
      let some = live-positive es generations live retired next place generation value sound found in
      IsSound-set es generations live retired next place _ Retired (live - 1) (retired + 1) sound.free next sound found tt (omega arith) (omega arith)
      (omega (arith, sound.total)) (IsFreeList-set es place _ sound.free next (λ m _. live_is_off_list es place generation value found m) sound.linked)

  -- a value is written in place
  pub IsSound-rewrite : (es : List (Place T)) (generations live retired next place generation : ℕ) (old new : T) → IsSound es generations live retired next
      → slice_get es place ≡ Some (Live generation old) → IsSound (set es place (Live generation new)) generations live retired next
  IsSound-rewrite es generations live retired next place generation old new sound found =
      IsSound-set es generations live retired next place _ (Live generation new) live retired sound.free next sound found (sound.generated place _ found)
      refl refl sound.total (IsFreeList-set es place _ sound.free next (λ m _. live_is_off_list es place generation old found m) sound.linked)

  -- the value under a place and a generation
  pub live_at : (es : List (Place T)) (generations place generation : ℕ) → IsSome (value_at (slice_get (map (slot_in generations) es) place) generation)
      → (value : T) × (slice_get es place ≡ Some (Live generation value))
  live_at es generations place generation present = by_place (slice_get es place) refl (rw slice_get-map at present)
    where
      by_place : (o : Option (Place T)) → slice_get es place ≡ o → IsSome (value_at (option_map (slot_in generations) o) generation)
          → (value : T) × (slice_get es place ≡ Some (Live generation value))
      by_place None is some = absurd (cc)
      by_place (Some (Free g next)) is some = grind (arith, nat_tests)
      by_place (Some (Live g value)) is some = grind (arith, nat_tests)
      by_place (Some Retired) is some = grind (arith, nat_tests)

  -- the same, for the slots that a pool shows
  pub live_in : (es : List (Place T)) (generations handle : ℕ) (p : Slots T) → record { generations = generations; slots = map (slot_in generations) es } ≡ p
      → IsSome (slot_value p handle) → (value : T) × (slice_get es (slot_of handle) ≡ Some (Live (generation_of handle) value))
  live_in es generations handle p is present = live_at es generations (slot_of handle) (generation_of handle) (rw (← is) at present)

  -- one place has one value
  pub same_value : (es : List (Place T)) (place g k : ℕ) (v w : T) → slice_get es place ≡ Some (Live g v) → slice_get es place ≡ Some (Live k w)
      → Some v ≡ Some w
  same_value es place g k v w e1 e2 = grind (arith, nat_tests)

  -- what `get` reads of a live place
  pub get-live : (es : List (Place T)) (generations place generation : ℕ) (value : T) → slice_get es place ≡ Some (Live generation value)
      → value_at (slice_get (map (slot_in generations) es) place) generation ≡ Some value
  get-live es generations place generation value found = rw (slice_get-map, found) (grind (arith, nat_tests))

  -- the same value, whichever way it was read
  pub get-taken : (es : List (Place T)) (generations place generation other : ℕ) (value taken : T) → slice_get es place ≡ Some (Live generation value)
      → slice_get es place ≡ Some (Live other taken) → value_at (slice_get (map (slot_in generations) es) place) generation ≡ Some taken
  get-taken es generations place generation other value taken found was =
      grind (arith, nat_tests, get-live es generations place generation value found)

  pub HasValue-live : (es : List (Place T)) (place generation : ℕ) (value : T) → slice_get es place ≡ Some (Live generation value)
      → HasValue (slice_get es place)
  HasValue-live es place generation value found = rw found tt

  -- the slots after a value was put into a free place
  pub Inserts-fill : (es : List (Place T)) (generations live retired next generation after : ℕ) (value : T) → IsSound es generations live retired next
      → slice_get es next ≡ Some (Free generation after)
      → Inserts (record { generations = generations; slots = map (slot_in generations) es })
      (record { generations = generations; slots = map (slot_in generations) (set es next (Live generation value)) }) (generation * 4294967296 + next) value
  Inserts-fill es generations live retired next generation after value sound found =
      let within = slice_get_within es next _ found in
      let few = sound.few in
      let place : slot_of (generation * 4294967296 + next) ≡ next = omega arith in
      let turn : generation_of (generation * 4294967296 + next) ≡ generation = omega arith in
      record {
        was_free = rw (place, turn, slice_get-map, found) refl;
        now = rw (place, turn, map-set) refl;
      }

  -- the slots after a value was taken at the last generation
  pub without-retire : (es : List (Place T)) (generations place generation : ℕ) → generation ≡ generations
      → map (slot_in generations) (set es place Retired) ≡ set (map (slot_in generations) es) place (slot_after generations generation)
  without-retire es generations place generation same = rw map-set (grind (arith, nat_tests))

  -- the slots after a value was taken before it
  pub without-vacate : (es : List (Place T)) (generations place generation next : ℕ) → generation ≢ generations
      → map (slot_in generations) (set es place (Free (generation + 1) next)) ≡ set (map (slot_in generations) es) place (slot_after generations generation)
  without-vacate es generations place generation next other = rw map-set (grind (arith, nat_tests))

  -- what was there, written back, changes nothing
  pub with_value-same : (es : List (Place T)) (generations handle : ℕ) (value lent : T)
      → slice_get es (slot_of handle) ≡ Some (Live (generation_of handle) value) → Some value ≡ Some lent
      → with_value (record { generations = generations; slots = map (slot_in generations) es }) handle lent
      ≡ record { generations = generations; slots = map (slot_in generations) es }
  with_value-same es generations handle value lent found is =
      let read = slice_get-map (slot_in generations) es (slot_of handle) in
      grind (arith, nat_tests, set-same (map (slot_in generations) es) (slot_of handle) (used_slot (generation_of handle) lent))
