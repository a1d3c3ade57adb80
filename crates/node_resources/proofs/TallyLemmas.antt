-- A tally's steps on mutexes and segments, by the pools that stand for the lists.
use Rattle.node_resources.proofs.Names.{◌≡◌, ℕ, zero, suc, ◌+◌, Bool, true, false, not, cond, List, [], ◌∷◌, Option, Some, None, refl, sym, ◌∙◌, ap, subst, ◌==◌, ◌&&◌, ◌||◌, is_some, is_none, nat_lt, length, ℤ, slice_set, option_map, MutexHandle, ShmemHandle, first, answer, is_got, Slots, slot_value, put, changed, NoneLive, HasLive, OneEach, live_of, live_object, first_handle, Mutex, locked_by, unlocked, Segment, with_attached, with_cell, after_look, after_unlock, after_attach, after_detach, State, Mutexes, Segments, alters, notes, after_moves, Row, gives, says, live, ResourceTable, ResourcesStand, Both, Owned, Absent, both_row, Locks}
use Rattle.std.proofs.lemmas.Bool.{eq-eqb}
use Rattle.mtapi_values.specs.declared.statuses.MtapiStatus.TheVariants as m
use Rattle.mtapi_values.specs.declared.statuses.MrapiStatus.TheVariants as c
use Rattle.mtapi_values.specs.Seats.{is_seat, is_other, marked}
use Rattle.mtapi_objects.specs.Tasks.{with_tally, tally_has}
use Rattle.mtapi_machine.specs.declared.replies.Reply.TheVariants.{Asked, Pending}
use Rattle.mtapi_machine.specs.TallyRows.{gives_up, takes_both}
use Rattle.node_resources.proofs.HoldsLemmas.{found, holds_changed, id_absent, id_found}

-- The changes that calls make, and those of the rows

pub changed_as : {T : Type 0} (p : Slots T) (h : ℕ) (f g : T → T) → ((x : T) → slot_value p h ≡ Some x → f x ≡ g x) → changed p h f ≡ changed p h g
changed_as {T} p h f g same = by_found (slot_value p h) refl
  where
    by_found : (o : Option T) → slot_value p h ≡ o → changed p h f ≡ changed p h g
    by_found None e = ap (λ (x : Option T). put p h (option_map f x)) e ∙ sym (ap (λ (x : Option T). put p h (option_map g x)) e)
    by_found (Some x) e = ap (λ (y : Option T). put p h (option_map f y)) e
        ∙ (ap (λ (y : T). put p h (Some y)) (same x e) ∙ sym (ap (λ (y : Option T). put p h (option_map g y)) e))

no_owner : (o : Option ℕ) → is_some o ≡ false → o ≡ None
no_owner None e = refl
no_owner (Some w) e = absurd (cc)

pub look_locks : (who : ℕ) (x : Mutex) → is_some x.owner ≡ false → after_look who x ≡ locked_by who x
look_locks who x e = ap (λ (o : Option ℕ). cond
    (is_got (answer (first ((is_seat who o && (not x.recursive || (x.depth == 64)), c.ErrMutexLocked) ∷ [])) (is_other who o) (x.depth + 1)))
    (locked_by who x) x) (no_owner x.owner e)

pub unlock_frees : (who : ℕ) (x : Mutex) → x.owner ≡ Some who → x.depth ≡ 1 → after_unlock who 1 x ≡ unlocked x
unlock_frees who x o d =
    (λ i. cond (is_none (first ((not (is_seat who (o i)), c.ErrMutexNotlocked) ∷ ((1 == 0) || nat_lt (d i) 1, c.ErrMutexKey)
    ∷ (nat_lt 1 (d i), c.ErrMutexLockorder) ∷ []))) (unlocked x) x)
    ∙ ap (λ (b : Bool). cond (is_none (first ((not b, c.ErrMutexNotlocked) ∷ []))) (unlocked x) x) (eq-eqb who who refl)

-- a mark that is as it is to be
same_mark : (b : Bool) (i : ℕ) (l : List Bool) → marked i l ≡ b → slice_set l i b ≡ l
same_mark b i [] e = refl
same_mark b zero (x ∷ xs) e = ap (λ (y : Bool). y ∷ xs) (sym e)
same_mark b (suc i) (x ∷ xs) e = ap (λ (ys : List Bool). x ∷ ys) (same_mark b i xs e)

pub attach_marks : (who : ℕ) (y : Segment) → after_attach who y ≡ with_attached who true y
attach_marks who y = by_mark (marked who y.attached) refl
  where
    by_mark : (b : Bool) → marked who y.attached ≡ b
        → cond (is_none (first ((b, c.ErrShmAttached) ∷ []))) (with_attached who true y) y ≡ with_attached who true y
    by_mark true e = ap (λ (l : List Bool). record y { attached = l }) (sym (same_mark true who y.attached e))
    by_mark false e = refl

pub detach_marks : (who : ℕ) (y : Segment) → after_detach who y ≡ with_attached who false y
detach_marks who y = by_mark (marked who y.attached) refl
  where
    by_mark : (b : Bool) → marked who y.attached ≡ b
        → cond (is_none (first ((not b, c.ErrShmNotattached) ∷ []))) (with_attached who false y) y ≡ with_attached who false y
    by_mark true e = refl
    by_mark false e = ap (λ (l : List Bool). record y { attached = l }) (sym (same_mark false who y.attached e))

-- The mutex and the segment of a tally

module _ (s : State) (old : ResourceTable) (v : ResourcesStand s old) (who mutex segment cell : ℕ) where
  pub no_mutex : NoneLive (slot_value old.mutexes) (λ x. x.id ≡ mutex) → Locks s who mutex segment cell Absent old
  no_mutex none = record {
    row = λ t. ap (λ (o : Option ℕ). takes_both s who t cell o (first_handle (λ y. y.id == segment) (live_of s.segments)))
        (id_absent _ _ old.mutexes s.mutexes (λ x. x.id) mutex v.mutexes none);
    stands = v;
  }

  module _ (a : MutexHandle) (each : OneEach (λ x. x.id) old.mutexes) (has : HasLive old.mutexes a.0 (λ x. x.id ≡ mutex)) where
    mutex_is : first_handle (λ y. y.id == mutex) (live_of s.mutexes) ≡ Some a.0
    mutex_is = id_found _ _ old.mutexes s.mutexes (λ x. x.id) mutex v.mutexes a.0 each has

    pub no_segment : NoneLive (slot_value old.segments) (λ x. x.id ≡ segment) → Locks s who mutex segment cell Absent old
    no_segment none = record {
      row = λ t. (λ i. takes_both s who t cell (mutex_is i) (id_absent _ _ old.segments s.segments (λ x. x.id) segment v.segments none i));
      stands = v;
    }

    module _ (b : ShmemHandle) (one : OneEach (λ x. x.id) old.segments) (lives : HasLive old.segments b.0 (λ x. x.id ≡ segment)) where
      -- what the row does with the two that it found
      abbrev body : ℕ → Mutex → Segment → Row
      body t x y =
          cond (not (nat_lt cell (length y.cells))) (gives_up t m.ErrActionFailed)
          (cond (is_some x.owner) (says Pending) (gives (Asked true) (alters Mutexes a.0 (locked_by who) ∷ alters Segments b.0 (with_attached who true)
          ∷ notes t (with_tally (tally_has a.0 b.0)) ∷ [])))

      row_is : (t : ℕ) → both_row s who t mutex segment cell ≡ body t has.0 lives.0
      row_is t =
          (λ i. takes_both s who t cell (mutex_is i) (id_found _ _ old.segments s.segments (λ x. x.id) segment v.segments b.0 one lives i))
          ∙ (λ i. live (found _ _ old.mutexes s.mutexes a.0 (Some has.0) v.mutexes has.1 i) (gives_up t m.ErrActionFailed)
          (λ x. live (found _ _ old.segments s.segments b.0 (Some lives.0) v.segments lives.1 i) (gives_up t m.ErrActionFailed) (λ y. body t x y)))

      pub no_cell : nat_lt cell (length lives.0.cells) ≡ false → Locks s who mutex segment cell Absent old
      no_cell e = record {
        row = λ t.
            row_is t
            ∙ ap (λ (z : Bool). cond (not z) (gives_up t m.ErrActionFailed)
            (cond (is_some has.0.owner) (says Pending)
            (gives (Asked true) (alters Mutexes a.0 (locked_by who) ∷ alters Segments b.0 (with_attached who true) ∷ notes t (with_tally (tally_has a.0 b.0))
            ∷ [])))) e;
        stands = v;
      }

      pub owned : nat_lt cell (length lives.0.cells) ≡ true → is_some has.0.owner ≡ true → Locks s who mutex segment cell Owned old
      owned e o = record {
        row = λ t.
            row_is t
            ∙ (λ i. cond (not (e i)) (gives_up t m.ErrActionFailed)
            (cond (o i) (says Pending) (gives (Asked true) (alters Mutexes a.0 (locked_by who) ∷ alters Segments b.0 (with_attached who true)
            ∷ notes t (with_tally (tally_has a.0 b.0)) ∷ []))));
        stands = v;
      }

      pub both : nat_lt cell (length lives.0.cells) ≡ true → is_some has.0.owner ≡ false
          → Locks s who mutex segment cell (Both a b)
          (record old { mutexes = changed old.mutexes a.0 (locked_by who); segments = changed old.segments b.0 (with_attached who true) })
      both e o = record {
        row = λ t.
            row_is t
            ∙ (λ i. cond (not (e i)) (gives_up t m.ErrActionFailed)
            (cond (o i) (says Pending) (gives (Asked true) (alters Mutexes a.0 (locked_by who) ∷ alters Segments b.0 (with_attached who true)
            ∷ notes t (with_tally (tally_has a.0 b.0)) ∷ []))));
        stands = record {
          mutexes = holds_changed _ _ old.mutexes s.mutexes a.0 (locked_by who) v.mutexes;
          sems = v.sems;
          rwls = v.rwls;
          segments = holds_changed _ _ old.segments s.segments b.0 (with_attached who true) v.segments;
        };
      }

-- a number is written, and both are given back
pub writes_stand : (s : State) (old : ResourceTable) (h cell : ℕ) (value : ℤ) → ResourcesStand s old
    → ResourcesStand (after_moves (alters Segments h (with_cell cell value) ∷ []) s) (record old { segments = changed old.segments h (with_cell cell value) })
writes_stand s old h cell value v = record {
  mutexes = v.mutexes;
  sems = v.sems;
  rwls = v.rwls;
  segments = holds_changed _ _ old.segments s.segments h (with_cell cell value) v.segments;
}

pub gives_stand : (s : State) (old : ResourceTable) (who a b : ℕ) (x : Mutex) → ResourcesStand s old → live_object s.mutexes a ≡ Some x → x.owner ≡ Some who
    → x.depth ≡ 1
    → ResourcesStand (after_moves (alters Segments b (with_attached who false) ∷ alters Mutexes a unlocked ∷ []) s)
    (record old { mutexes = changed old.mutexes a (after_unlock who 1); segments = changed old.segments b (after_detach who) })
gives_stand s old who a b x v f o d =
    subst (λ (q : ResourceTable). ResourcesStand (after_moves (alters Segments b (with_attached who false) ∷ alters Mutexes a unlocked ∷ []) s) q)
    (λ i. record old {
      mutexes = changed_as old.mutexes a unlocked (after_unlock who 1) unlocks i;
      segments = changed_as old.segments b (with_attached who false) (after_detach who) (λ y e. sym (detach_marks who y)) i;
    })
    (record {
      mutexes = holds_changed _ _ old.mutexes s.mutexes a unlocked v.mutexes;
      sems = v.sems;
      rwls = v.rwls;
      segments = holds_changed _ _ old.segments s.segments b (with_attached who false) v.segments;
    })
  where
    same : (y : Mutex) → slot_value old.mutexes a ≡ Some y → x ≡ y
    same y e = some_of (sym f ∙ found _ _ old.mutexes s.mutexes a (Some y) v.mutexes e)
      where
        some_of : {p q : Mutex} → Some p ≡ Some q → p ≡ q
        some_of e = cc

    unlocks : (y : Mutex) → slot_value old.mutexes a ≡ Some y → unlocked y ≡ after_unlock who 1 y
    unlocks y e = sym (subst (λ (z : Mutex). after_unlock who 1 z ≡ unlocked z) (same y e) (unlock_frees who x o d))
