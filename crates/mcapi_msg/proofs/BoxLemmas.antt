-- What is kept of the live endpoints and the rings in reserve, after each change.
use Rattle.mcapi_msg.proofs.Names.{nat_tests, Bool, cond, ◌≡◌, ℕ, ◌<◌, ◌≤◌, List, [], ◌∷◌, ◌++◌, length, Some, None, replicate, sym, ap, subst, ◌∙◌, inl, inr, arith, length-append, cases_eq, Slots, slot_of, generation_of, free_slot, slot_value, Inserts, with_value, without, IsFull, NoneLive, get-fresh, live_count-new, max_of-new, live_count-insert, max_of-insert, live_count-with_value, max_of-with_value, live_count-without, max_of-without, Mailbox, Waiting, RingTable, empty_rings, with_last_message, without_front, AreEmpty, HasFree, IsRingKept, same_Some}
use Rattle.handle_pool.proofs.GetLemmas.{get-insert_same, get-insert_other, get-with_value_same, get-with_value_other, get-without_same, get-without_other}
use Rattle.handle_pool.proofs.OneEachLemmas.{OneEach-new, OneEach-insert, OneEach-with_value, OneEach-without}

pub empty_split : (limit : ℕ) (xs ys : List RingTable) → AreEmpty limit (xs ++ ys) → AreEmpty limit xs × AreEmpty limit ys
empty_split limit [] ys e = (tt, e)
empty_split limit (x ∷ xs) ys e = let more = empty_split limit xs ys e.1 in ((e.0, more.0), more.1)

pub empty_joined : (limit : ℕ) (xs ys : List RingTable) → AreEmpty limit xs → AreEmpty limit ys → AreEmpty limit (xs ++ ys)
empty_joined limit [] ys e f = f
empty_joined limit (x ∷ xs) ys e f = (e.0, empty_joined limit xs ys e.1 f)

pub kept-new : (limit max capacity : ℕ) (p : Slots Mailbox) (spare : List RingTable) → limit ≤ 256 → p.slots ≡ replicate max (free_slot 1) → length spare ≡ max
    → AreEmpty limit spare → max ≤ capacity → IsRingKept limit p spare capacity
kept-new limit max capacity p spare few fresh count empty room = record {
  few = few;
  ports = OneEach-new (λ m. m.port) p max fresh;
  limits = λ h m found. let none : slot_value p h ≡ None = rw fresh (get-fresh max (slot_of h) (generation_of h)) in absurd (cc);
  empty = empty;
  count = omega (arith, live_count-new p max fresh, max_of-new p max fresh);
  room = omega (arith, max_of-new p max fresh);
}

pub kept-insert : (limit capacity h : ℕ) (p q : Slots Mailbox) (m : Mailbox) (r : RingTable) (spare rest : List RingTable) → IsRingKept limit p spare capacity
    → spare ≡ rest ++ r ∷ [] → m.rings ≡ r → NoneLive (slot_value p) (λ v. v.port ≡ m.port) → Inserts p q h m → IsRingKept limit q rest capacity
kept-insert limit capacity h p q m r spare rest kept was own new inserts =
    let empty : AreEmpty limit (rest ++ r ∷ []) = subst (AreEmpty limit) was kept.empty in
    let parts = empty_split limit rest (r ∷ []) empty in
    record {
      few = kept.few;
      ports = OneEach-insert (λ m. m.port) p q h m kept.ports new inserts;
      limits = λ k n found. elim (cases_eq k h) [
        | inl here ↦
            let is : m ≡ n = same_Some m n (sym (get-insert_same p q h m inserts) ∙ ap (slot_value q) (sym here) ∙ found) in
            ap (λ (x : Mailbox). x.rings.limit) (sym is) ∙ (ap (λ (x : RingTable). x.limit) own ∙ ap (λ (x : RingTable). x.limit) parts.1.0)
        | inr away ↦ kept.limits k n (sym (get-insert_other p q h k m inserts away) ∙ found)
      ];
      empty = parts.0;
      count = omega (
        arith,
        kept.count,
        live_count-insert p q h m inserts,
        max_of-insert p q h m inserts,
        ap
            (λ (l : List RingTable). length l) was,
        length-append rest (r ∷ []),
      );
      room = omega (arith, kept.room, max_of-insert p q h m inserts);
    }

pub kept-with_value : (limit capacity h : ℕ) (p : Slots Mailbox) (old new : Mailbox) (spare : List RingTable) → IsRingKept limit p spare capacity
    → slot_value p h ≡ Some old → new.port ≡ old.port → new.rings.limit ≡ old.rings.limit → IsRingKept limit (with_value p h new) spare capacity
kept-with_value limit capacity h p old new spare kept found port same = record {
  few = kept.few;
  ports = OneEach-with_value (λ m. m.port) p h old new kept.ports found port;
  limits = λ k n at. elim (cases_eq k h) [
    | inl here ↦
        let is : new ≡ n = same_Some new n (sym (get-with_value_same p h old new found) ∙ ap (slot_value (with_value p h new)) (sym here) ∙ at) in
        ap (λ (x : Mailbox). x.rings.limit) (sym is) ∙ (same ∙ kept.limits h old found)
    | inr away ↦ kept.limits k n (sym (get-with_value_other p h k old new found away) ∙ at)
  ];
  empty = kept.empty;
  count = omega (arith, kept.count, live_count-with_value p h old new found, max_of-with_value p h new);
  room = omega (arith, kept.room, max_of-with_value p h new);
}

pub kept-without : (limit capacity h : ℕ) (p : Slots Mailbox) (old : Mailbox) (spare after : List RingTable) (r : RingTable) → IsRingKept limit p spare capacity
    → slot_value p h ≡ Some old → r ≡ empty_rings old.rings.limit → after ≡ spare ++ r ∷ [] → IsRingKept limit (without p h) after capacity
kept-without limit capacity h p old spare after r kept found cleared is = record {
  few = kept.few;
  ports = OneEach-without (λ m. m.port) p h old kept.ports found;
  limits = λ k n at. elim (cases_eq k h) [
    | inl here ↦ let none = sym (get-without_same p h old found) ∙ ap (slot_value (without p h)) (sym here) ∙ at in absurd (cc)
    | inr away ↦ kept.limits k n (sym (get-without_other p h k old found away) ∙ at)
  ];
  empty = subst (AreEmpty limit) (sym is) (empty_joined limit spare (r ∷ []) kept.empty (cleared ∙ ap empty_rings (kept.limits h old found), tt));
  count = omega (
    arith,
    kept.count,
    live_count-without p h old found,
    max_of-without p h,
    ap (λ (l : List RingTable). length l) is,
    length-append spare (r
        ∷ []),
  );
  room = omega (arith, kept.room, max_of-without p h);
}

-- while a slot is in use, the reserve has room for its rings
pub reserve_fits : (limit capacity h : ℕ) (p : Slots Mailbox) (old : Mailbox) (spare : List RingTable) → IsRingKept limit p spare capacity
    → slot_value p h ≡ Some old → length spare < capacity
reserve_fits limit capacity h p old spare kept found = omega (arith, kept.count, kept.room, live_count-without p h old found)

-- where a slot is free, there are rings for it
pub reserve_has : (limit capacity : ℕ) (p : Slots Mailbox) (spare : List RingTable) → IsRingKept limit p spare capacity → HasFree p → 0 < length spare
reserve_has limit capacity p spare kept room = omega (arith, kept.count)

-- the limit stays
either : (b : Bool) (x y : RingTable) (n : ℕ) → x.limit ≡ n → y.limit ≡ n → (cond b x y).limit ≡ n
either b x y n e1 e2 = grind (arith, nat_tests)

pub with_last-limit : (w : Waiting) (r : RingTable) → (with_last_message w r).limit ≡ r.limit
with_last-limit w r = grind (arith, nat_tests)

pub without_front-limit : (r : RingTable) → (without_front r).limit ≡ r.limit
without_front-limit r = grind (arith, nat_tests)

-- rings from the reserve are empty
pub popped_empty : (limit capacity : ℕ) (p : Slots Mailbox) (r : RingTable) (spare rest : List RingTable) → IsRingKept limit p spare capacity
    → spare ≡ rest ++ r ∷ [] → r ≡ empty_rings limit
popped_empty limit capacity p r spare rest kept was =
    let empty : AreEmpty limit (rest ++ r ∷ []) = subst (AreEmpty limit) was kept.empty in
    (empty_split limit rest (r ∷ []) empty).1.0
