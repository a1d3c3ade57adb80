-- How the sets of each worker follow the marks.
use Rattle.std.proofs.Common.{◌≡◌, ◌≢◌, ◌↔◌, ℕ, ◌+◌, ◌*◌, ◌<◌, ◌≤◌, Bool, true, false, ◌&&◌, nat_eq, List, length, get_or, set, Option, Some, None, IsNone, IfSome, IfNone, refl, sym, ap, subst, take, drop, ◌++◌, is_some, ◌∙◌, rules, arith, if◌then◌else◌}
use Rattle.std.proofs.lemmas.Bool.{eqb-true, eqb-false, and_parts}
use Rattle.std.proofs.lemmas.Bool.Decides.{nat_tests}
use Rattle.std.proofs.lemmas.List.{get_or_past}
use Rattle.std.proofs.lemmas.Grind.{common_steps}
use Rattle.mtapi_values.specs.Masks.{in_mask}
use Rattle.ready_index.specs.declared.marks.Mark.{Mark}
use Rattle.ready_index.specs.Bits.{has_slot, set_of}
use Rattle.ready_index.specs.Marks.{mark_at, is_for, is_for_at, HasNoneFor}
use Rattle.ready_index.specs.Index.{sets_of, AreMarks, PutsSlot, SameRoom}

-- the workers below this one are done, the others are as before, and all have the same room
pub record IsDone (mark : Mark) (slot : ℕ) (on : Bool) (old now : List (List (List ℕ))) (worker : ℕ) : Type 0 where
  pub done : (w : ℕ) → w < worker → PutsSlot mark w slot on (sets_of old w) (sets_of now w)
  pub left : (w : ℕ) → worker ≤ w → sets_of now w ≡ sets_of old w
  pub same : (w : ℕ) → SameRoom (sets_of old w) (sets_of now w)

sets_same : (now : List (List (List ℕ))) (i w : ℕ) (sets : List (List ℕ)) → i < length now → w ≡ i → sets_of (set now i sets) w ≡ sets
sets_same now i w sets lt e = grind (arith, common_steps)

sets_other : (now : List (List (List ℕ))) (i w : ℕ) (sets : List (List ℕ)) → w ≢ i → sets_of (set now i sets) w ≡ sets_of now w
sets_other now i w sets ne = grind (arith, common_steps)

done_here : (mark : Mark) (slot : ℕ) (on : Bool) (old now : List (List (List ℕ))) (k : ℕ) (sets : List (List ℕ)) → k < length now
    → IsDone mark slot on old now k
    → PutsSlot mark k slot on (sets_of now k) sets → (w : ℕ) → w ≡ k → PutsSlot mark w slot on (sets_of old w) (sets_of (set now k sets) w)
done_here mark slot on old now k sets lt h puts w e =
    rw (e, sets_same now k k sets lt refl, ← h.left k (omega arith)) puts

same_here : (mark : Mark) (slot : ℕ) (on : Bool) (old now : List (List (List ℕ))) (k : ℕ) (sets : List (List ℕ)) → k < length now
    → IsDone mark slot on old now k
    → SameRoom (sets_of now k) sets → (w : ℕ) → w ≡ k → SameRoom (sets_of old w) (sets_of (set now k sets) w)
same_here mark slot on old now k sets lt h room w e =
    rw (e, sets_same now k k sets lt refl, ← h.left k (omega arith)) room

-- one worker more is done
pub IsDone-next : (mark : Mark) (slot : ℕ) (on : Bool) (old now : List (List (List ℕ))) (k : ℕ) (sets : List (List ℕ)) → k < length now
    → IsDone mark slot on old now k
    → PutsSlot mark k slot on (sets_of now k) sets → SameRoom (sets_of now k) sets → IsDone mark slot on old (set now k sets) (k + 1)
IsDone-next mark slot on old now k sets lt h puts room = record {
  done = λ w below. elim (nat_eq w k) as (λ t. nat_eq w k ≡ t → PutsSlot mark w slot on (sets_of old w) (sets_of (set now k sets) w)) [
    | true ↦ λ e. done_here mark slot on old now k sets lt h puts w (eqb-true w k e)
    | false ↦ λ e. let apart : w ≢ k = eqb-false w k e in let less : w < k = omega arith in rw (sets_other now k w sets apart) (h.done w less)
  ] refl;
  left = λ w above. let apart : w ≢ k = omega arith in sets_other now k w sets apart ∙ h.left w (omega arith);
  same = λ w. elim (nat_eq w k) as (λ t. nat_eq w k ≡ t → SameRoom (sets_of old w) (sets_of (set now k sets) w)) [
    | true ↦ λ e. same_here mark slot on old now k sets lt h room w (eqb-true w k e)
    | false ↦ λ e. rw (sets_other now k w sets (eqb-false w k e)) (h.same w)
  ] refl;
}

default_same : (now : List (List (List ℕ))) (k : ℕ) (d : List (List ℕ)) → k < length now → get_or now k d ≡ sets_of now k
default_same now k d lt = grind (arith, common_steps)

-- the same, with the worker's sets as the code reads them
pub IsDone-step : (mark : Mark) (slot : ℕ) (on : Bool) (old now : List (List (List ℕ))) (k : ℕ) (d sets : List (List ℕ)) → k < length now
    → IsDone mark slot on old now k
    → PutsSlot mark k slot on (get_or now k d) sets → SameRoom (get_or now k d) sets → IsDone mark slot on old (set now k sets) (k + 1)
IsDone-step mark slot on old now k d sets lt h puts room =
    IsDone-next mark slot on old now k sets lt h (subst (λ l. PutsSlot mark k slot on l sets) (default_same now k d lt) puts)
    (subst (λ l. SameRoom l sets) (default_same now k d lt) room)

-- where a mark takes the place of another: what the sets have to say of its slot
pub record Replaces (mark : Mark) (on : Bool) (before after : Option Mark) : Type 0 where
  pub says : (w p : ℕ) → (if in_mask w mark.mask.0 && nat_eq p mark.priority then on else is_for_at w p before) ≡ is_for_at w p after

pub Replaces-some : (mark : Mark) → Replaces mark false (Some mark) None
Replaces-some mark = record { says = λ w p. grind (arith, nat_tests) }

mark_same : (marks : List (Option Mark)) (i s : ℕ) (m : Option Mark) → i < length marks → s ≡ i → mark_at (set marks i m) s ≡ m
mark_same marks i s m lt e = grind (arith, common_steps)

mark_other : (marks : List (Option Mark)) (i s : ℕ) (m : Option Mark) → s ≢ i → mark_at (set marks i m) s ≡ mark_at marks s
mark_other marks i s m ne = grind (arith, common_steps)

-- the sets follow the change of one mark
pub slots_after : (marks : List (Option Mark)) (old new : List (List ℕ)) (mark : Mark) (slot : ℕ) (on : Bool) (m : Option Mark) (w : ℕ) → slot < length marks
    → ((p s : ℕ) → has_slot old p s ≡ is_for_at w p (mark_at marks s)) → Replaces mark on (mark_at marks slot) m → PutsSlot mark w slot on old new
    → (p s : ℕ) → has_slot new p s ≡ is_for_at w p (mark_at (set marks slot m) s)
slots_after marks old new mark slot on m w lt h r puts p s =
    let same = mark_same marks slot s m lt in
    grind (arith, nat_tests, puts p s, h p s, r.says w p, mark_other marks slot s m)

length_set : (marks : List (Option Mark)) (i : ℕ) (m : Option Mark) → length (set marks i m) ≡ length marks
length_set marks i m = grind (arith, common_steps)

known_after : (marks : List (Option Mark)) (slot : ℕ) (m : Option Mark) (priorities : ℕ)
    → ((s : ℕ) (x : Mark) → mark_at marks s ≡ Some x → x.priority < priorities) → slot < length marks
    → ((x : Mark) → m ≡ Some x → x.priority < priorities) → (s : ℕ) (x : Mark) → mark_at (set marks slot m) s ≡ Some x → x.priority < priorities
known_after marks slot m priorities known lt fits s x e =
    grind (arith, nat_tests, fits x, known s x, mark_same marks slot s m lt, mark_other marks slot s m)

pub AreMarks-put : (marks : List (Option Mark)) (old new : List (List (List ℕ))) (priorities : ℕ) (mark : Mark) (slot : ℕ) (on : Bool) (m : Option Mark)
    → AreMarks marks old priorities → slot < length marks → Replaces mark on (mark_at marks slot) m → ((x : Mark) → m ≡ Some x → x.priority < priorities)
    → ((w : ℕ) → w < length old → PutsSlot mark w slot on (sets_of old w) (sets_of new w)) → ((w : ℕ) → SameRoom (sets_of old w) (sets_of new w))
    → length new ≡ length old
    → AreMarks (set marks slot m) new priorities
AreMarks-put marks old new priorities mark slot on m h lt r fits puts same len = record {
  few_workers = rw len h.few_workers;
  few_priorities = h.few_priorities;
  few_slots = rw (length_set marks slot m) h.few_slots;
  room = record {
    sets = λ w below. let within : w < length old = rw (← len) below in (same w).sets ∙ h.room.sets w within;
    room = λ w p below known. let within : w < length old = rw (← len) below in rw (length_set marks slot m, (same w).room p) (h.room.room w p within known);
  };
  known = λ s x e. known_after marks slot m priorities h.known lt fits s x e;
  slots = λ w p s below. let within : w < length old = rw (← len) below in
      slots_after marks (sets_of old w) (sets_of new w) mark slot on m w lt (λ q t. h.slots w q t within) r (puts w within) p s;
}

-- a mark for this worker is one with its own priority
own_priority : (w : ℕ) (o : Option Mark) → ((p : ℕ) → is_for_at w p o ≡ false) → is_for w o ≡ false
own_priority w None h = refl
own_priority w (Some m) h = grind (arith, nat_tests, h m.priority)

is_for-from_at : (w p : ℕ) (o : Option Mark) → is_for_at w p o ≡ true → is_for w o ≡ true
is_for-from_at w p None h = cc
is_for-from_at w p (Some m) h = (and_parts (in_mask w m.mask.0) (nat_eq p m.priority) h).0

both : (b : Bool) → b ≡ true → b ≡ false → ⊥
both b t f = cc

-- none is found exactly where no mark is for this worker
pub none_found : (marks : List (Option Mark)) (sets : List (List ℕ)) (w : ℕ) (r : Option (ℕ × ℕ))
    → ((p s : ℕ) → has_slot sets p s ≡ is_for_at w p (mark_at marks s))
    → IfSome r (λ x. has_slot sets x.0 x.1 ≡ true) → IfNone r ((p s : ℕ) → has_slot sets p s ≡ false) → IsNone r ↔ HasNoneFor w marks
none_found marks sets w None h found none = (λ n slot. own_priority w (mark_at marks slot) (λ p. sym (h p slot) ∙ none p slot), λ n. search rules)
none_found marks sets w (Some x) h found none =
    (λ n. absurd (search rules), λ n. absurd (both (is_for w (mark_at marks x.1)) (is_for-from_at w x.0 (mark_at marks x.1) (sym (h x.0 x.1) ∙ found)) (n x.1)))

sets_value : (workers : List (List (List ℕ))) (w : ℕ) (v : List (List ℕ)) → w < length workers → v ≡ get_or workers w v → sets_of workers w ≡ v
sets_value workers w v lt e = sym (default_same workers w v lt) ∙ sym e

pub none_found_in : (marks : List (Option Mark)) (workers : List (List (List ℕ))) (priorities w : ℕ) (sets : List (List ℕ)) (r : Option (ℕ × ℕ))
    → AreMarks marks workers priorities → w < length workers → sets ≡ get_or workers w sets
    → IfSome r (λ x. has_slot sets x.0 x.1 ≡ true) → IfNone r ((p s : ℕ) → has_slot sets p s ≡ false) → IsNone r ↔ HasNoneFor w marks
none_found_in marks workers priorities w sets r h lt e found none =
    none_found marks sets w r (λ p s. ap (λ l. has_slot l p s) (sym (sets_value workers w sets lt e)) ∙ h.slots w p s lt) found none

-- a slot with a mark is one of the slots
pub marked_below : (marks : List (Option Mark)) (slot : ℕ) → is_some (mark_at marks slot) ≡ true → slot < length marks
marked_below marks slot h = grind (arith, nat_tests, get_or_past marks slot None)

pub mark_value : (marks : List (Option Mark)) (slot : ℕ) (v : Option Mark) → slot < length marks → v ≡ get_or marks slot v → mark_at marks slot ≡ v
mark_value marks slot v lt e = let same : get_or marks slot v ≡ mark_at marks slot = grind (arith, common_steps) in sym (e ∙ same)

-- what is left of a list after the whole of it was lent
pub whole_again : (new old : List (List (List ℕ))) (n : ℕ) → n ≡ length new → take n (new ++ drop (length new) old) ≡ new
whole_again new old n e = rw e (grind (arith, common_steps))

-- what a mark that is taken away says, with the sets as they were lent
pub mark_of : (marks : List (Option Mark)) (slot : ℕ) (v : Option Mark) (mark : Mark) → is_some (mark_at marks slot) ≡ true → v ≡ get_or marks slot v
    → Some mark ≡ v → mark_at marks slot ≡ Some mark
mark_of marks slot v mark h e i = mark_value marks slot v (marked_below marks slot h) e ∙ sym i

pub known_in : (marks : List (Option Mark)) (workers lent : List (List (List ℕ))) (priorities slot : ℕ) (mark : Mark) → AreMarks marks workers priorities
    → lent ≡ workers → mark_at marks slot ≡ Some mark
    → (w : ℕ) → w < length lent → mark.priority < length (sets_of lent w)
known_in marks workers lent priorities slot mark h e i w lt =
    let same : AreMarks marks lent priorities = subst (λ l. AreMarks marks l priorities) (sym e) h in
    rw (same.room.sets w lt) (same.known slot mark i)

pub room_in : (marks : List (Option Mark)) (workers lent : List (List (List ℕ))) (priorities slot : ℕ) (mark : Mark) → AreMarks marks workers priorities
    → lent ≡ workers → mark_at marks slot ≡ Some mark → slot < length marks
    → (w : ℕ) → w < length lent → slot < 64 * length (set_of (sets_of lent w) mark.priority)
room_in marks workers lent priorities slot mark h e i below w lt =
    let same : AreMarks marks lent priorities = subst (λ l. AreMarks marks l priorities) (sym e) h in
    let room : length marks ≤ 64 * length (set_of (sets_of lent w) mark.priority) = same.room.room w mark.priority lt (same.known slot mark i) in
    omega arith

pub AreMarks-taken : (marks : List (Option Mark)) (workers lent new : List (List (List ℕ))) (n priorities slot : ℕ) (mark : Mark) (m : Option Mark)
    → AreMarks marks workers priorities → lent ≡ workers → mark_at marks slot ≡ Some mark → slot < length marks → m ≡ None → n ≡ length new
    → ((w : ℕ) → w < length lent → PutsSlot mark w slot false (sets_of lent w) (sets_of new w)) → ((w : ℕ) → SameRoom (sets_of lent w) (sets_of new w))
    → length new ≡ length lent
    → AreMarks (set marks slot m) (take n (new ++ drop (length new) workers)) priorities
AreMarks-taken marks workers lent new n priorities slot mark m h e i below gone whole puts room len =
    let same : AreMarks marks lent priorities = subst (λ l. AreMarks marks l priorities) (sym e) h in
    let says : Replaces mark false (mark_at marks slot) m = rw (i, gone) (Replaces-some mark) in
    rw (whole_again new workers n whole) (AreMarks-put marks lent new priorities mark slot false m same below says
    (λ x is. let none : ◌≡◌ {A = Option Mark} None (Some x) = sym gone ∙ is in cc) puts room len)
