-- Any calls of a pool are moves of the list of issued objects.
use Rattle.handle_pool.proofs.Names.{nat_tests, ◌≡◌, ◌≢◌, ℕ, ◌+◌, ◌≤◌, true, cond, List, [], ◌∷◌, refl, sym, ap, ◌∙◌, arith, length-set, eq-eqb, length-replicate, Slots, slot_of, generation_of, used_slot, slot_after, free_slot, max_of, Listed, listed, with_fields, gone, issue, update, retire, may_issue, Stands}
use Rattle.handle_pool.specs.Calls.{PoolCall, SlotsStep, SlotsRun, MayAnswer, list_after, list_after_all, ListRun, NeverGives, NoneTwice, new_slots, PoolLaw}
use Rattle.handle_pool.specs.Calls.PoolCall.{Inserted, Refused, Removed, NotThere, Wrote}
use Rattle.handle_pool.proofs.ListedLemmas.{listed-issue, listed-change}
use Rattle.handle_pool.proofs.StandsLemmas.{Stands-new, may_issue-insert, Stands-insert, Stands-update, Stands-remove, IsFull-limit, IsFull-room}

module _ {T : Type 0} where
  -- one call: what it answers, and where it leads. The number of slots and the last generation stay
  record Steps (max generations : ℕ) (l : List (Listed T)) (call : PoolCall T) (new : Slots T) : Type 0 where
    may : MayAnswer max generations l call
    stands : Stands new (list_after l call)
    max_is : max_of new ≡ max
    generations_are : new.generations ≡ generations

  step : (old new : Slots T) (l : List (Listed T)) (call : PoolCall T) → Stands old l → SlotsStep old call new → Steps (max_of old) old.generations l call new
  step old new l (Inserted value handle) stands took =
      record {
        may = (IsFull-room old l stands took.0, may_issue-insert old new l handle value stands took.1);
        stands = Stands-insert old new l handle value stands took.1;
        max_is = rw took.1.now (length-set old.slots (slot_of handle) (used_slot (generation_of handle) value));
        generations_are = rw took.1.now refl;
      }
  step old new l (Refused value) stands took =
      record { may = (IsFull-limit old l stands).0 took.0; stands = rw took.1 stands; max_is = rw took.1 refl; generations_are = rw took.1 refl }
  step old new l (Removed handle value) stands took =
      record {
        may = sym (stands.found handle) ∙ took.0;
        stands = rw took.1 (Stands-remove old l handle value stands took.0);
        max_is = rw took.1 (length-set old.slots (slot_of handle) (slot_after old.generations (generation_of handle)));
        generations_are = rw took.1 refl;
      }
  step old new l (NotThere handle) stands took =
      record { may = sym (stands.found handle) ∙ took.0; stands = rw took.1 stands; max_is = rw took.1 refl; generations_are = rw took.1 refl }
  step old new l (Wrote handle was now) stands took =
      record {
        may = sym (stands.found handle) ∙ took.0;
        stands = rw took.1 (Stands-update old l handle (λ _. now) was stands took.0);
        max_is = rw took.1 (length-set old.slots (slot_of handle) (used_slot (generation_of handle) now));
        generations_are = rw took.1 refl;
      }

  run : (max generations : ℕ) (old new : Slots T) (l : List (Listed T)) (calls : List (PoolCall T)) → max_of old ≡ max → old.generations ≡ generations
      → Stands old l → SlotsRun old calls new → ListRun max generations l calls × Stands new (list_after_all l calls)
  run max generations old new l [] size last stands took = (tt, rw took stands)
  run max generations old new l (call ∷ calls) size last stands took =
      let first = step old took.0 l call stands took.1 in
      let rest = run max generations took.0 new (list_after l call) calls (first.max_is ∙ size) (first.generations_are ∙ last) first.stands took.2 in
      ((rw (← size, ← last) first.may, rest.0), rest.1)

  -- a handle that may be issued was never issued
  unlisted : (last h : ℕ) (l : List (Listed T)) → may_issue last h l ≡ true → listed h l ≡ 0
  unfolding may_issue
  unlisted last h l e1 = grind (arith, nat_tests)

  -- a listed handle is never given again
  never : (max generations : ℕ) (l : List (Listed T)) (h : ℕ) (calls : List (PoolCall T)) → 1 ≤ listed h l → ListRun max generations l calls
      → NeverGives h calls
  never max generations l h [] some took = tt
  never max generations l h (Inserted value other ∷ calls) some took =
      let none = unlisted generations other l took.0.1 in
      let differs : other ≢ h = λ same. let here = rw same at none in absurd (omega arith) in
      (differs, never max generations (issue other value l) h calls (omega (arith, listed-issue h other value l)) took.1)
  never max generations l h (Refused value ∷ calls) some took = never max generations l h calls some took.1
  never max generations l h (Removed other value ∷ calls) some took =
      never max generations (retire other l) h calls (omega (arith, listed-change h other gone (λ r. refl) l)) took.1
  never max generations l h (NotThere other ∷ calls) some took = never max generations l h calls some took.1
  never max generations l h (Wrote other was now ∷ calls) some took =
      never max generations (update other (λ _. now) l) h calls (omega (arith, listed-change h other (with_fields (λ _. now)) (λ r. refl) l)) took.1

  none_twice : (max generations : ℕ) (l : List (Listed T)) (calls : List (PoolCall T)) → ListRun max generations l calls → NoneTwice calls
  none_twice max generations l [] took = tt
  none_twice max generations l (Inserted value h ∷ calls) took =
      let new : listed h (issue h value l) ≡ listed h l + 1 = listed-issue h h value l ∙ ap (λ b. listed h l + cond b 1 0) (eq-eqb h h refl) in
      (never max generations (issue h value l) h calls (omega arith) took.1, none_twice max generations (issue h value l) calls took.1)
  none_twice max generations l (Refused value ∷ calls) took = none_twice max generations l calls took.1
  none_twice max generations l (Removed h value ∷ calls) took = none_twice max generations (retire h l) calls took.1
  none_twice max generations l (NotThere h ∷ calls) took = none_twice max generations l calls took.1
  none_twice max generations l (Wrote h was now ∷ calls) took = none_twice max generations (update h (λ _. now) l) calls took.1

pub pool_law : (T : Type 0) → PoolLaw T
pool_law T max generations calls last few once took =
    let stands = Stands-new (new_slots max generations) max once few refl in
    let ran = run max generations (new_slots max generations) last [] calls (length-replicate max (free_slot 1)) refl stands took in
    record { run = ran.0; found = ran.1.found; none_twice = none_twice max generations [] calls ran.0; stands = ran.1 }
