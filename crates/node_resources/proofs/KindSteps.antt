-- A step of one kind is a step of all four.
use Rattle.node_resources.proofs.Names.{◌≡◌, ℕ, List, None, refl, sym, subst, ◌∙◌, first, MrapiStatus, Listed, Slots, slot_value, NoneLive, HasLive, OneEach, Op, Reply, Keyed, mrapi, gets, State, is_up, Sort, Groups, Queues, Mutexes, Sems, Rwls, Segments, Fields, all_of, Gate, ResourceTable, HoldsList, ResourcesStand, Does, IsAt, gate_refusals, with_lists_of}
use Rattle.mtapi_machine.specs.declared.replies.Reply.TheVariants as reply
use Rattle.mtapi_machine.specs.Rows.{row}
use Rattle.node_resources.proofs.RowLemmas.{Leads, past_up, gets_does, gets_none}

abbrev IsResource : Sort → Type 0
IsResource Groups = ⊥
IsResource Queues = ⊥
IsResource _ = Unit {0}

-- the slots of a kind, and the four pools with other slots for it
abbrev slots_of : (k : Sort) → IsResource k → ResourceTable → Slots (Fields k)
slots_of Groups is t = absurd is
slots_of Queues is t = absurd is
slots_of Mutexes is t = t.mutexes
slots_of Sems is t = t.sems
slots_of Rwls is t = t.rwls
slots_of Segments is t = t.segments

abbrev with_slots : (k : Sort) → Slots (Fields k) → ResourceTable → ResourceTable
with_slots Groups q t = t
with_slots Queues q t = t
with_slots Mutexes q t = record t { mutexes = q }
with_slots Sems q t = record t { sems = q }
with_slots Rwls q t = record t { rwls = q }
with_slots Segments q t = record t { segments = q }

-- what stands for the list of the kind, and for all four once the kind has another
record Parts (k : Sort) (is : IsResource k) (s : State) (old : ResourceTable) : Type 0 where
  holds : HoldsList (all_of k) s.terms.settings (slots_of k is old) ((all_of k).list s)
  same : with_slots k (slots_of k is old) old ≡ old
  others : (l : List (Listed (Fields k))) → (all_of k).with_list l s ≡ with_lists_of ((all_of k).with_list l s) s
  stands : (q : Slots (Fields k)) (l : List (Listed (Fields k))) → HoldsList (all_of k) s.terms.settings q l
      → ResourcesStand ((all_of k).with_list l s) (with_slots k q old)

parts : (k : Sort) (is : IsResource k) (s : State) (old : ResourceTable) → ResourcesStand s old → Parts k is s old
parts Groups is s old v = absurd is
parts Queues is s old v = absurd is
parts Mutexes is s old v = record {
  holds = v.mutexes;
  same = refl;
  others = λ l. refl;
  stands = λ q l h. record { mutexes = h; sems = v.sems; rwls = v.rwls; segments = v.segments };
}
parts Sems is s old v = record {
  holds = v.sems;
  same = refl;
  others = λ l. refl;
  stands = λ q l h. record { mutexes = v.mutexes; sems = h; rwls = v.rwls; segments = v.segments };
}
parts Rwls is s old v = record {
  holds = v.rwls;
  same = refl;
  others = λ l. refl;
  stands = λ q l h. record { mutexes = v.mutexes; sems = v.sems; rwls = h; segments = v.segments };
}
parts Segments is s old v = record {
  holds = v.segments;
  same = refl;
  others = λ l. refl;
  stands = λ q l h. record { mutexes = v.mutexes; sems = v.sems; rwls = v.rwls; segments = h };
}

module _ (k : Sort) (is : IsResource k) (s : State) (who : ℕ) (op : Op) where
  -- the same reply, told of a call
  pub kind_does : (r : Reply) (old : ResourceTable) → ResourcesStand s old → (said : Reply) (q : Slots (Fields k)) → said ≡ r → Leads k s (row s who op r) r q
      → Does s who op said (with_slots k q old)
  kind_does r old v said q e g =
      let p = parts k is s old v in
      subst (λ (x : Reply). Does s who op x (with_slots k q old)) (sym e) (record {
        allowed = g.allowed;
        others = subst (λ (t : State). t ≡ with_lists_of t s) (sym g.leads) (p.others g.list);
        stands = subst (λ (t : State). ResourcesStand t (with_slots k q old)) (sym g.leads) (p.stands q g.list g.holds);
      })

  -- a get, where the pools are seen as the table now
  module _ (o : Keyed k) (g : Gate) (a : IsAt s g) (old now : ResourceTable) (view : old ≡ now) (v : ResourcesStand s now) (n : ℕ) (in_row : (r : Reply)
      → row s who op r ≡ mrapi s who (gets o s n)) (passes : None ≡ first (gate_refusals (is_up g.phase) who g.workers)) where
    answers : (r : Reply) → Leads k s (gets o s n) r (slots_of k is old) → Does s who op r now
    answers r leads =
        let was = rw (← view) at v in
        let told = past_up k s g who a (gets o s n) r (slots_of k is old) passes leads in
        rw (← (parts k is s old was).same ∙ view) (kind_does r old was r (slots_of k is old) refl (rw (← in_row r) at told))

    held : HoldsList (all_of k) s.terms.settings (slots_of k is old) ((all_of k).list s)
    held = (parts k is s old (subst (λ (t : ResourceTable). ResourcesStand s t) (sym view) v)).holds

    pub got : (h : ℕ) → OneEach o.id (slots_of k is old) → HasLive (slots_of k is old) h (λ y. o.id y ≡ n) → Does s who op (reply.Handle h) now
    got h each has = answers (reply.Handle h) (gets_does k s o (slots_of k is old) held n h each has)

    pub got_none : (absent : MrapiStatus) → o.absent ≡ reply.Mrapi absent → (c : MrapiStatus)
        → (c ≡ absent) × NoneLive (slot_value (slots_of k is old)) (λ y. o.id y ≡ n) → Does s who op (reply.Mrapi c) now
    got_none absent is_absent c told = answers (reply.Mrapi c) (gets_none k s o (slots_of k is old) held absent is_absent n c told.0 told.1)
