-- What each move of the slots and the lists is for the groups that they are seen as.
use Rattle.std.proofs.Common.{arith}
use Rattle.group_core.proofs.Names.{◌≡◌, ◌↔◌, ℕ, zero, suc, ◌<◌, ◌≤◌, Bool, true, false, List, [], ◌∷◌, ◌++◌, length, replicate, Option, Some, None, set, slice_get, refl, sym, ap, subst, ◌∙◌, inl, inr, IsTrue, IsSome, false≢true, Slot, Slots, slot_of, generation_of, used_slot, free_slot, slot_value, live_count, IsFull, Inserts, with_value, without, changed, HandleLists, list_at, stands_at, has_handle, without_handle, NowhereAt, with_list, list_at-set_same, list_at-set_other, stands-either, alone, Members, GroupTable, no_members, with_ended, rest_of, NoMemberAt, IsUnendedMember, LiveAreUsed, of_unended, and_ended, members_in, group_table_of, AreGroups}
use Rattle.std.specs.Option.{option_map}
use Rattle.std.proofs.lemmas.Bool.Decides.{eqb_tells, nat_tests}
use Rattle.handle_pool.proofs.StandsLemmas.{used_at_live}
use Rattle.handle_pool.proofs.WalkLemmas.{slot_of-live}
use Rattle.linked_places.specs.Beside.{slot_beside, beside, pool_beside, AreBeside}
use Rattle.linked_places.proofs.BesideLemmas.{length-beside, slice_get-beside, get-beside, live_count-beside, IsFull-beside, Inserts-beside, with_value-beside, list-beside, without-beside, AreBeside-new, AreBeside-insert, AreBeside-value, AreBeside-list, AreBeside-remove, NowhereAt-beside, beside-fresh, list_at-none}

-- a live handle of groups, and one that is none
pub live_tells : (b : Bool) (o : Option (Unit {0})) → IsTrue b ↔ IsSome o → b ≡ true → o ≡ Some tt
live_tells b None tells is = absurd (false≢true (tells.0 is))
live_tells b (Some u) tells is = refl

pub dead_tells : (b : Bool) (o : Option (Unit {0})) → IsTrue b ↔ IsSome o → b ≡ false → o ≡ None
dead_tells b None tells is = refl
dead_tells b (Some u) tells is = absurd (false≢true (sym is ∙ tells.1 refl))

-- the members of the group of a slot
abbrev pub members_at : HandleLists → HandleLists → ℕ → Members
members_at unended ended g = record { unended = list_at unended.lists (slot_of g); ended = list_at ended.lists (slot_of g) }

module _ (pool : Slots (Unit {0})) (unended ended : HandleLists) (g : ℕ) where
  pub get-members : slot_value (members_in pool unended ended) g ≡ option_map (λ (u : Unit {0}). members_at unended ended g) (slot_value pool g)
  get-members =
      get-beside and_ended (pool_beside of_unended pool unended.lists) ended.lists g
      ∙ (rw (get-beside of_unended pool unended.lists g) (by_value (slot_value pool g)))
    where
      by_value : (o : Option (Unit {0})) → option_map (λ v. and_ended v (list_at ended.lists (slot_of g)))
          (option_map (λ v. of_unended v (list_at unended.lists (slot_of g))) o) ≡ option_map (λ (u : Unit {0}). members_at unended ended g) o
      by_value None = refl
      by_value (Some u) = refl

  pub get-live : (old : GroupTable) → group_table_of pool unended ended ≡ old → slot_value pool g ≡ Some tt
      → slot_value old.pool g ≡ Some (members_at unended ended g)
  get-live old is live = let P : GroupTable → Type 0 = λ o. slot_value o.pool g ≡ Some (members_at unended ended g) in subst P is (get-members ∙ rw live refl)

  pub get-dead : (old : GroupTable) → group_table_of pool unended ended ≡ old → slot_value pool g ≡ None → slot_value old.pool g ≡ None
  get-dead old is dead = let P : GroupTable → Type 0 = λ o. slot_value o.pool g ≡ None in subst P is (get-members ∙ rw dead refl)

  pub live_from : (old : GroupTable) → group_table_of pool unended ended ≡ old → IsSome (slot_value old.pool g) → slot_value pool g ≡ Some tt
  live_from old is some = by_value (slot_value pool g) refl
    where
      by_value : (o : Option (Unit {0})) → slot_value pool g ≡ o → o ≡ Some tt
      by_value (Some u) found = refl
      by_value None found = absurd (false≢true (rw (get-dead old is found) at some))

  -- a member that hasn't ended is in the group's list
  pub member_from : (old : GroupTable) (t : ℕ) → group_table_of pool unended ended ≡ old → IsUnendedMember t (slot_value old.pool g)
      → (slot_value pool g ≡ Some tt) × (has_handle t (list_at unended.lists (slot_of g)) ≡ true)
  member_from old t is member = by_value (slot_value pool g) refl
    where
      by_value : (o : Option (Unit {0})) → slot_value pool g ≡ o → (slot_value pool g ≡ Some tt) × (has_handle t (list_at unended.lists (slot_of g)) ≡ true)
      by_value (Some u) live = (live, rw (get-live old is live) at member)
      by_value None dead = absurd (rw (get-dead old is dead) at member)

  module _ (are : AreGroups pool unended ended) (live : slot_value pool g ≡ Some tt) where
    pub within_unended : slot_of g < length unended.lists
    within_unended = rw are.unended_beside.size (slot_of-live pool g tt live)

    pub within_ended : slot_of g < length ended.lists
    within_ended = rw (are.ended_beside.size, length-beside of_unended pool.slots unended.lists) (slot_of-live pool g tt live)

    first : Slots Members
    first = pool_beside of_unended pool unended.lists

    pub get-first : slot_value (pool_beside of_unended pool unended.lists) g ≡ Some (of_unended tt (list_at unended.lists (slot_of g)))
    get-first = get-beside of_unended pool unended.lists g ∙ rw live refl

    -- another list of members that haven't ended
    pub unended-changed : (list : List ℕ) → members_in pool (with_list unended (slot_of g) list) ended
        ≡ with_value (members_in pool unended ended) g (record { unended = list; ended = list_at ended.lists (slot_of g) })
    unended-changed list =
        ap (λ (q : Slots Members). pool_beside and_ended q ended.lists) (list-beside of_unended pool unended.lists g tt list are.unended_beside live)
        ∙ with_value-beside and_ended (pool_beside of_unended pool unended.lists) ended.lists g (of_unended tt list)

    -- another list of members that have
    pub ended-changed : (list : List ℕ) → members_in pool unended (with_list ended (slot_of g) list)
        ≡ with_value (members_in pool unended ended) g (record { unended = list_at unended.lists (slot_of g); ended = list })
    ended-changed list = list-beside and_ended (pool_beside of_unended pool unended.lists) ended.lists g
        (of_unended tt (list_at unended.lists (slot_of g))) list are.ended_beside get-first

    pub unended_beside-changed : (list : List ℕ) → AreBeside pool.slots (with_list unended (slot_of g) list).lists
    unended_beside-changed list = AreBeside-list pool unended.lists g tt list live are.unended_beside

    pub ended_beside-kept : (list : List ℕ) → AreBeside (beside of_unended pool.slots (with_list unended (slot_of g) list).lists) ended.lists
    ended_beside-kept list =
        let P : Slots Members → Type 0 = λ q. AreBeside q.slots ended.lists in
        subst P (sym (list-beside of_unended pool unended.lists g tt list are.unended_beside live))
        (AreBeside-value (pool_beside of_unended pool unended.lists) ended.lists g (of_unended tt list) are.ended_beside)

    pub ended_beside-changed : (list : List ℕ) → AreBeside (beside of_unended pool.slots unended.lists) (with_list ended (slot_of g) list).lists
    ended_beside-changed list = AreBeside-list (pool_beside of_unended pool unended.lists) ended.lists g
        (of_unended tt (list_at unended.lists (slot_of g))) list get-first are.ended_beside

    -- the groups once the members of this one have changed
    pub view_changed : (old : GroupTable) (after others : HandleLists) (f : Members → Members) → group_table_of pool unended ended ≡ old
        → members_in pool after others ≡ with_value (members_in pool unended ended) g (f (members_at unended ended g)) → after.places ≡ unended.places
        → group_table_of pool after others ≡ record old { pool = changed old.pool g f }
    view_changed old after others f is moved places =
        let found : slot_value (members_in pool unended ended) g ≡ Some (members_at unended ended g) = get-members ∙ rw live refl in
        let is_changed : changed (members_in pool unended ended) g f ≡ with_value (members_in pool unended ended) g (f (members_at unended ended g)) =
        rw found refl in
        let P : GroupTable → Type 0 = λ o. group_table_of pool after others ≡ record o { pool = changed o.pool g f } in
        subst P is (rw (moved, places, is_changed) refl)

    -- what a part of a list that has become the whole holds, stood there before
    stands-part : (lists : List (List ℕ)) (list : List ℕ) (i slot : ℕ) → slot_of g < length lists
        → ((q : ℕ) → stands_at q list ≡ true → stands_at q (list_at lists (slot_of g)) ≡ true) → stands_at slot (list_at (set lists (slot_of g) list) i) ≡ true
        → stands_at slot (list_at lists i) ≡ true
    stands-part lists list i slot within part stands =
        grind (arith, nat_tests, part slot, list_at-set_same lists (slot_of g) list within, list_at-set_other lists (slot_of g) i list)

    pub AreGroups-fewer : (list : List ℕ) → ((q : ℕ) → stands_at q list ≡ true → stands_at q (list_at unended.lists (slot_of g)) ≡ true)
        → AreGroups pool (with_list unended (slot_of g) list) ended
    AreGroups-fewer list part = record {
      unended_beside = unended_beside-changed list;
      ended_beside = ended_beside-kept list;
      apart = λ i j slot stands. are.apart i j slot (stands-part unended.lists list i slot within_unended part stands);
      places = are.places;
      few = are.few;
    }

    pub AreGroups-taken : (list : List ℕ) → ((q : ℕ) → stands_at q list ≡ true → stands_at q (list_at ended.lists (slot_of g)) ≡ true)
        → AreGroups pool unended (with_list ended (slot_of g) list)
    AreGroups-taken list part = record {
      unended_beside = are.unended_beside;
      ended_beside = ended_beside-changed list;
      apart = λ i j slot stands. absent j slot (are.apart i j slot stands);
      places = are.places;
      few = are.few;
    }
      where
        absent : (j slot : ℕ) → stands_at slot (list_at ended.lists j) ≡ false → stands_at slot (list_at (set ended.lists (slot_of g) list) j) ≡ false
        absent j slot before = grind (arith, nat_tests, stands-part ended.lists list j slot within_ended part)

    pub AreGroups-enter : (t : ℕ) → NowhereAt (slot_of t) ended.lists
        → AreGroups pool (with_list unended (slot_of g) (list_at unended.lists (slot_of g) ++ t ∷ [])) ended
    AreGroups-enter t nowhere = record {
      unended_beside = unended_beside-changed (list_at unended.lists (slot_of g) ++ t ∷ []);
      ended_beside = ended_beside-kept (list_at unended.lists (slot_of g) ++ t ∷ []);
      apart = apart;
      places = are.places;
      few = are.few;
    }
      where
        apart : (i j slot : ℕ) → stands_at slot (list_at (set unended.lists (slot_of g) (list_at unended.lists (slot_of g) ++ t ∷ [])) i) ≡ true
            → stands_at slot (list_at ended.lists j) ≡ false
        apart i j slot stands =
            let list = list_at unended.lists (slot_of g) in
            let same = list_at-set_same unended.lists (slot_of g) (list ++ t ∷ []) within_unended in
            let other = list_at-set_other unended.lists (slot_of g) i (list ++ t ∷ []) in
            let two = stands-either slot list (t ∷ []) in
            grind (arith, nat_tests, are.apart i j slot, are.apart (slot_of g) j slot, alone slot t, nowhere j)

    -- a task that stands in no list of members that haven't ended comes to those that have
    pub AreGroups-ended : (t : ℕ) → NowhereAt (slot_of t) unended.lists
        → AreGroups pool unended (with_list ended (slot_of g) (list_at ended.lists (slot_of g) ++ t ∷ []))
    AreGroups-ended t nowhere = record {
      unended_beside = are.unended_beside;
      ended_beside = ended_beside-changed (list_at ended.lists (slot_of g) ++ t ∷ []);
      apart = apart;
      places = are.places;
      few = are.few;
    }
      where
        apart : (i j slot : ℕ) → stands_at slot (list_at unended.lists i) ≡ true
            → stands_at slot (list_at (set ended.lists (slot_of g) (list_at ended.lists (slot_of g) ++ t ∷ [])) j) ≡ false
        apart i j slot stands =
            let list = list_at ended.lists (slot_of g) in
            let same = list_at-set_same ended.lists (slot_of g) (list ++ t ∷ []) within_ended in
            let other = list_at-set_other ended.lists (slot_of g) j (list ++ t ∷ []) in
            let two = stands-either slot list (t ∷ []) in
            grind (arith, nat_tests, are.apart i j slot, are.apart i (slot_of g) slot, alone slot t, nowhere i)

    -- the group is given up, with its lists
    pub AreGroups-delete : AreGroups (without pool g) (with_list unended (slot_of g) []) (with_list ended (slot_of g) [])
    AreGroups-delete = record {
      unended_beside = AreBeside-remove pool unended.lists g tt live are.unended_beside;
      ended_beside =
          let P : Slots Members → Type 0 = λ q. AreBeside q.slots (set ended.lists (slot_of g) []) in
          subst P (sym (without-beside of_unended pool unended.lists g tt are.unended_beside live))
          (AreBeside-remove (pool_beside of_unended pool unended.lists) ended.lists g
          (of_unended tt (list_at unended.lists (slot_of g))) get-first are.ended_beside);
      apart = λ i j slot stands. (AreGroups-taken [] (none_part (list_at ended.lists (slot_of g)))).apart i j slot
          (stands-part unended.lists [] i slot within_unended (none_part (list_at unended.lists (slot_of g))) stands);
      places = are.places;
      few = are.few;
    }
      where
        none_part : (list : List ℕ) (q : ℕ) → stands_at q [] ≡ true → stands_at q list ≡ true
        none_part list q stands = absurd (false≢true stands)

    pub members-delete : members_in (without pool g) (with_list unended (slot_of g) []) (with_list ended (slot_of g) [])
        ≡ without (members_in pool unended ended) g
    members-delete =
        ap (λ (q : Slots Members). pool_beside and_ended q (set ended.lists (slot_of g) []))
        (without-beside of_unended pool unended.lists g tt are.unended_beside live)
        ∙ without-beside and_ended (pool_beside of_unended pool unended.lists) ended.lists g
        (of_unended tt (list_at unended.lists (slot_of g))) are.ended_beside get-first

module _ (pool : Slots (Unit {0})) (unended ended : HandleLists) where
  pub live_count-members : live_count (members_in pool unended ended) ≡ live_count pool
  live_count-members = live_count-beside and_ended (pool_beside of_unended pool unended.lists).slots ended.lists
      ∙ live_count-beside of_unended pool.slots unended.lists

  pub IsFull-members : IsFull (members_in pool unended ended) ↔ IsFull pool
  IsFull-members =
      let outer = IsFull-beside and_ended (pool_beside of_unended pool unended.lists) ended.lists in
      let inner = IsFull-beside of_unended pool unended.lists in
      ((λ full. inner.0 (outer.0 full)), (λ full. outer.1 (inner.1 full)))

  pub AreGroups-create : (new : Slots (Unit {0})) (g : ℕ) → Inserts pool new g tt → AreGroups pool unended ended → AreGroups new unended ended
  AreGroups-create new g inserts are = record {
    unended_beside = AreBeside-insert pool new unended.lists g tt inserts are.unended_beside;
    ended_beside = AreBeside-insert (pool_beside of_unended pool unended.lists) (pool_beside of_unended new unended.lists) ended.lists g (of_unended tt [])
        (Inserts-beside of_unended pool new unended.lists g tt are.unended_beside inserts) are.ended_beside;
    apart = are.apart;
    places = are.places;
    few = are.few;
  }

  pub Inserts-members : (new : Slots (Unit {0})) (g : ℕ) → Inserts pool new g tt → AreGroups pool unended ended
      → Inserts (members_in pool unended ended) (members_in new unended ended) g no_members
  Inserts-members new g inserts are =
      Inserts-beside and_ended (pool_beside of_unended pool unended.lists) (pool_beside of_unended new unended.lists) ended.lists g
      (of_unended tt []) are.ended_beside (Inserts-beside of_unended pool new unended.lists g tt are.unended_beside inserts)

  -- a slot that no member has stands in no list
  pub nowhere_unended : (old : GroupTable) (q : ℕ) → group_table_of pool unended ended ≡ old → AreGroups pool unended ended → NoMemberAt q old.pool
      → NowhereAt q unended.lists
  nowhere_unended old q is are none =
      NowhereAt-beside pool unended.lists q are.unended_beside (λ h v live. (none h (members_at unended ended h) (get-live pool unended ended h old is live)).0)

  pub nowhere_ended : (old : GroupTable) (q : ℕ) → group_table_of pool unended ended ≡ old → AreGroups pool unended ended → NoMemberAt q old.pool
      → NowhereAt q ended.lists
  nowhere_ended old q is are none =
      NowhereAt-beside (pool_beside of_unended pool unended.lists) ended.lists q are.ended_beside
      (λ h v found. by_live h v (slot_value pool h) refl (sym (get-beside of_unended pool unended.lists h) ∙ found))
    where
      by_live : (h : ℕ) (v : Members) (o : Option (Unit {0})) → slot_value pool h ≡ o
          → option_map (λ u. of_unended u (list_at unended.lists (slot_of h))) (slot_value pool h) ≡ Some v
          → stands_at q (list_at ended.lists (slot_of h)) ≡ false
      by_live h v None dead found = let none : option_map (λ u. of_unended u (list_at unended.lists (slot_of h))) (slot_value pool h) ≡ None = rw dead refl in
          absurd (cc (none, found))
      by_live h v (Some u) live found = (none h (members_at unended ended h) (get-live pool unended ended h old is live)).1

-- what was written twice is as it was written last
pub with_value-twice : (p : Slots Members) (g : ℕ) (a b : Members) → with_value (with_value p g a) g b ≡ with_value p g b
with_value-twice p g a b = ap (λ (slots : List (Slot Members)). record { generations = p.generations; slots = slots }) (twice p.slots (slot_of g))
  where
    twice : (xs : List (Slot Members)) (i : ℕ)
        → set (set xs i (used_slot (generation_of g) a)) i (used_slot (generation_of g) b) ≡ set xs i (used_slot (generation_of g) b)
    twice [] i = refl
    twice (x ∷ xs) zero = refl
    twice (x ∷ xs) (suc i) = ap (λ (ys : List (Slot Members)). x ∷ ys) (twice xs i)

-- the first of a list leaves the rest
pub without-first : (h : ℕ) (hs : List ℕ) → slice_get hs 0 ≡ Some h → without_handle h hs ≡ rest_of hs
without-first h [] first = refl
without-first h (x ∷ hs) first =
    let is : x ≡ h = cc in
    elim (eqb_tells x h) [ inl same ↦ rw same.0 refl | inr apart ↦ absurd (apart.1 is) ]

-- a member comes from the one list to the other
pub moved : (pool : Slots (Unit {0})) (unended ended : HandleLists) (g t : ℕ) → AreGroups pool unended ended → slot_value pool g ≡ Some tt
    → AreGroups pool (with_list unended (slot_of g) (without_handle t (list_at unended.lists (slot_of g)))) ended
    → members_in pool (with_list unended (slot_of g) (without_handle t (list_at unended.lists (slot_of g))))
    (with_list ended (slot_of g) (list_at ended.lists (slot_of g) ++ t ∷ []))
    ≡ with_value (members_in pool unended ended) g (with_ended t (members_at unended ended g))
moved pool unended ended g t are live fewer =
    let list = without_handle t (list_at unended.lists (slot_of g)) in
    let list_is : list_at (with_list unended (slot_of g) list).lists (slot_of g) ≡ list =
    list_at-set_same unended.lists (slot_of g) list (within_unended pool unended ended g are live) in
    let one = unended-changed pool unended ended g are live list in
    let two = ended-changed pool (with_list unended (slot_of g) list) ended g fewer live (list_at ended.lists (slot_of g) ++ t ∷ []) in
    let before : Members = record { unended = list; ended = list_at ended.lists (slot_of g) } in
    let P : List ℕ → Type 0 = λ l. members_in pool (with_list unended (slot_of g) list)
    (with_list ended (slot_of g) (list_at ended.lists (slot_of g) ++ t ∷ []))
    ≡ with_value (members_in pool (with_list unended (slot_of g) list) ended) g
    (record { unended = l; ended = list_at ended.lists (slot_of g) ++ t ∷ [] }) in
    subst P list_is two
    ∙ (ap (λ (p : Slots Members). with_value p g (with_ended t (members_at unended ended g))) one
    ∙ with_value-twice (members_in pool unended ended) g before (with_ended t (members_at unended ended g)))

pub AreGroups-new : (pool : Slots (Unit {0})) (unended ended : HandleLists) (count tasks : ℕ) → count ≤ 65536 → tasks ≤ 65536
    → pool.slots ≡ replicate count (free_slot 1) → unended.lists ≡ replicate count [] → ended.lists ≡ replicate count [] → unended.places ≡ tasks
    → ended.places ≡ tasks → AreGroups pool unended ended
AreGroups-new pool unended ended count tasks few few_tasks slots unendeds endeds places others = record {
  unended_beside = AreBeside-new pool.slots unended.lists count few slots unendeds;
  ended_beside = AreBeside-new (beside of_unended pool.slots unended.lists) ended.lists count few (rw (slots, unendeds) (beside-fresh of_unended count)) endeds;
  apart = λ i j slot stands. absurd (false≢true (rw (unendeds, list_at-none count i) at stands));
  places = others ∙ sym places;
  few = rw places few_tasks;
}

pub members-new : (pool : Slots (Unit {0})) (unended ended : HandleLists) (count : ℕ) → pool.slots ≡ replicate count (free_slot 1)
    → unended.lists ≡ replicate count [] → ended.lists ≡ replicate count [] → (members_in pool unended ended).slots ≡ replicate count (free_slot 1)
members-new pool unended ended count slots unendeds endeds = rw (slots, unendeds, endeds, beside-fresh of_unended count) (beside-fresh and_ended count)

-- the slot of a live value beside a list is in use
used-beside : {A C : Type 0} (f : A → List ℕ → C) (p : Slots A) (lists : List (List ℕ)) (h : ℕ) (c : C) → AreBeside p.slots lists
    → slot_value (pool_beside f p lists) h ≡ Some c → slice_get (beside f p.slots lists) (slot_of h) ≡ Some (used_slot (generation_of h) c)
used-beside {A} {C} f p lists h c are live =
    let x = used_at_live (slice_get (beside f p.slots lists) (slot_of h)) (generation_of h) c live in
    let kept : x.0.retired ≡ false = by_slot x.0 x.3 (slice_get p.slots (slot_of h)) refl (sym (slice_get-beside f p.slots lists (slot_of h)) ∙ x.1) in
    x.1 ∙ (λ i. Some (record { generation = x.2 i; value = x.3 i; retired = kept i }))
  where
    by_retired : (t : Slot C) (s : Slot A) (b : Bool) → t.value ≡ Some c → (s.retired ≡ true → s.value ≡ None) → slot_beside f s (list_at lists (slot_of h)) ≡ t
        → s.retired ≡ b → t.retired ≡ false
    by_retired t s false v empty is e = ap (λ (u : Slot C). u.retired) (sym is) ∙ e
    by_retired t s true v empty is e =
        let none : t.value ≡ None = ap (λ (u : Slot C). u.value) (sym is) ∙ ap (option_map (λ a. f a (list_at lists (slot_of h)))) (empty e) in
        absurd (cc (none, v))

    by_slot : (t : Slot C) → t.value ≡ Some c → (o : Option (Slot A)) → slice_get p.slots (slot_of h) ≡ o
        → option_map (λ s. slot_beside f s (list_at lists (slot_of h))) o ≡ Some t → t.retired ≡ false
    by_slot t v None g e = absurd (cc)
    by_slot t v (Some s) g e = by_retired t s s.retired v (are.retired (slot_of h) s g) (some_is e) refl
      where
        some_is : {X : Type 0} {a b : X} → Some a ≡ Some b → a ≡ b
        some_is d = cc

pub live-used : (pool : Slots (Unit {0})) (unended ended : HandleLists) → AreGroups pool unended ended → LiveAreUsed (members_in pool unended ended)
live-used pool unended ended are g m live = used-beside and_ended (pool_beside of_unended pool unended.lists) ended.lists g m are.ended_beside live
