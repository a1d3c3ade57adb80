-- What each move keeps of the numbers of starts and of ends.
use Rattle.std.proofs.lemmas.Bool.Decides.{nat_tests}
use Rattle.std.proofs.Common.{◌≡◌, ℕ, ◌+◌, ◌^◌, ◌<◌, Bool, true, false, not, cond, List, Option, Some, None, count_by, slice_get, set, refl, arith}
use Rattle.std.specs.Prelude.{if◌then◌else◌}
use Rattle.std.proofs.lemmas.Bool.{false≢true}
use Rattle.std.proofs.lemmas.List.Sums.{sum_by-set}
use Rattle.std.proofs.lemmas.Option.{slice_get_within, get_or_from_slice_get}
use Rattle.mtapi_values.specs.declared.ends.TaskEnd.{TaskEnd}
use Rattle.handle_pool.specs.Slots.{Slot, Slots, changed, slot_of, generation_of, used_slot, free_slot, slot_after, slot_value, Inserts, with_value, without}
use Rattle.handle_pool.proofs.StandsLemmas.{used_at_live}
use Rattle.mtapi_objects.specs.Tasks.{Task, TaskState, Scheduled, Running, Ended, scheduled, is_unstarted, is_unended, with_state}
use Rattle.task_core.specs.Answers.{without_group, after_asked}
use Rattle.task_core.specs.Table.{IsLiveAnd, ended_in, detached_in, holds_unended, unended_count, AreCounted}

-- a count after a write
count_by-set : (slots : List (Slot Task)) (place : ℕ) (old new : Slot Task) → slice_get slots place ≡ Some old
    → count_by holds_unended (set slots place new) + cond (holds_unended old) 1 0 ≡ count_by holds_unended slots + cond (holds_unended new) 1 0
count_by-set slots place old new found =
    let within = slice_get_within slots place old found in
    let counted = sum_by-set (λ (s : Slot Task). cond (holds_unended s) 1 0) slots place new old within in
    rw (get_or_from_slice_get slots place old old found) at counted

holds_unended-used : (slot : Slot Task) (t : Task) → slot.value ≡ Some t → holds_unended slot ≡ is_unended t
holds_unended-used slot t used = rw used refl

-- a slot that was given up holds no task
holds_unended-after : (generations generation : ℕ) → holds_unended (slot_after generations generation) ≡ false
holds_unended-after generations generation = grind (arith, nat_tests)

-- the count once the slot of a live task has become another
count-slot : (p : Slots Task) (h : ℕ) (t : Task) (new : Slot Task) → slot_value p h ≡ Some t
    → count_by holds_unended (set p.slots (slot_of h) new) + cond (is_unended t) 1 0 ≡ unended_count p + cond (holds_unended new) 1 0
count-slot p h t new live =
    let at = used_at_live (slice_get p.slots (slot_of h)) (generation_of h) t live in
    let counted = count_by-set p.slots (slot_of h) at.0 new at.1 in
    rw (holds_unended-used at.0 t at.3) at counted

pub AreCounted-write : (p : Slots Task) (h : ℕ) (t new : Task) (starts ends : ℕ) → slot_value p h ≡ Some t → is_unended new ≡ is_unended t
    → AreCounted p starts ends → AreCounted (with_value p h new) starts ends
AreCounted-write p h t new starts ends live same counted = grind (arith, nat_tests, count-slot p h t (used_slot (generation_of h) new) live)

pub AreCounted-give_up : (p : Slots Task) (h : ℕ) (t : Task) (starts ends : ℕ) → slot_value p h ≡ Some t → is_unended t ≡ false → AreCounted p starts ends
    → AreCounted (without p h) starts ends
AreCounted-give_up p h t starts ends live ended counted =
    let moved = count-slot p h t (slot_after p.generations (generation_of h)) live in
    let less = rw (ended, holds_unended-after p.generations (generation_of h)) at moved in
    record { once = omega (arith, counted.once); few = counted.few }

pub AreCounted-end : (p : Slots Task) (h : ℕ) (t : Task) (end : TaskEnd) (number starts ends : ℕ) → slot_value p h ≡ Some t → is_unended t ≡ true
    → AreCounted p starts ends → AreCounted (ended_in p h end number (Some t)) starts (ends + 1)
AreCounted-end p h t end number starts ends live unended counted = by_detached t.notes.detached
  where
    ended : AreCounted (with_value p h (with_state (Ended end number) t)) starts (ends + 1)
    ended =
        let moved = count-slot p h t (used_slot (generation_of h) (with_state (Ended end number) t)) live in
        let less = rw unended at moved in
        record { once = omega (arith, counted.once); few = counted.few }

    given_up : AreCounted (without p h) starts (ends + 1)
    given_up =
        let moved = count-slot p h t (slot_after p.generations (generation_of h)) live in
        let less = rw (unended, holds_unended-after p.generations (generation_of h)) at moved in
        record { once = omega (arith, counted.once); few = counted.few }

    by_detached : (b : Bool) → AreCounted (if b then without p h else with_value p h (with_state (Ended end number) t)) starts (ends + 1)
    by_detached true = given_up
    by_detached false = ended

pub AreCounted-add : (p new : Slots Task) (h : ℕ) (t : Task) (starts ends : ℕ) → Inserts p new h t → is_unended t ≡ true → starts < 2 ^ 63
    → AreCounted p starts ends → AreCounted new (starts + 1) ends
AreCounted-add p new h t starts ends inserts unended room counted =
    let moved = count_by-set p.slots (slot_of h) (free_slot (generation_of h)) (used_slot (generation_of h) t) inserts.was_free in
    let more = rw unended at moved in
    rw inserts.now record { once = omega (arith, counted.once); few = omega (arith, counted.few) }

pub unended-unstarted : (t : Task) → is_unstarted t ≡ true → is_unended t ≡ true
unended-unstarted t h = by_state t.state h
  where
    by_state : (s : TaskState) → scheduled s ≡ true → is_unended (with_state s t) ≡ true
    by_state Scheduled h = refl
    by_state (Running worker kind) h = refl
    by_state (Ended end number) h = absurd (false≢true h)

pub AreCounted-changed : (p : Slots Task) (h : ℕ) (f : Task → Task) (starts ends : ℕ) → ((t : Task) → is_unended (f t) ≡ is_unended t)
    → AreCounted p starts ends → AreCounted (changed p h f) starts ends
AreCounted-changed p h f starts ends keeps counted = by_found (slot_value p h) refl
  where
    by_found : (o : Option Task) → slot_value p h ≡ o → AreCounted (changed p h f) starts ends
    by_found None absent = rw absent counted
    by_found (Some t) live = rw live (AreCounted-write p h t (f t) starts ends live (keeps t) counted)

pub AreCounted-detach : (p : Slots Task) (h : ℕ) (o : Option Task) (starts ends : ℕ) → slot_value p h ≡ o → AreCounted p starts ends
    → AreCounted (detached_in p h o) starts ends
AreCounted-detach p h None starts ends absent counted = counted
AreCounted-detach p h (Some t) starts ends live counted = by_end (is_unended t) refl
  where
    by_end : (b : Bool) → is_unended t ≡ b → AreCounted (if b then with_value p h (without_group t) else without p h) starts ends
    by_end true is = AreCounted-write p h t (without_group t) starts ends live refl counted
    by_end false is = AreCounted-give_up p h t starts ends live is counted

pub is_ended : (t : Task) → not (is_unended t) ≡ true → is_unended t ≡ false
is_ended t h = grind (arith, nat_tests)

pub is_unended-asked : (worker : ℕ) (t : Task) → is_unended (after_asked worker t) ≡ is_unended t
is_unended-asked worker t = grind (arith, nat_tests, t.notes.requested)

-- a live task that passes is there
pub live-passes : (p : Task → Bool) (o : Option Task) → IsLiveAnd p o → (t : Task) × (o ≡ Some t) × (p t ≡ true)
live-passes p None h = absurd h
live-passes p (Some t) h = (t, refl, h)
