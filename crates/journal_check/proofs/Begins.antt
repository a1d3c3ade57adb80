-- A follower before the first entry; and what an entry needs beside that its row allows its reply.
use Rattle.journal_check.proofs.Names.{◌≡◌, ℕ, ◌+◌, ◌≤◌, ◌<◌, Bool, false, List, [], refl, sym, ◌∙◌, ap, subst, arith, ObjectKind, slot_of, issued_at, Terms, opening, seats, NodeEntry, IsHonest, after_from, after, PoolNode, PoolNodeStands, seat_count, OtherHandles, Renaming, renames_nothing, terms_in, renamed, Follows, made_in, made_at, lasts_in, lasts_of, taken_in, renaming_of, Following, Made, made_in_slot, last_handles, made_count, gone_count, freed_count, of_kind, Laws, room_of, HasFollowed, JudgesEntry, JudgesNext, nat_tests, eqb-true, eq-eqb}
use Rattle.mtapi_machine.proofs.EachKind.{at_opening}
use Rattle.mtapi_values.specs.declared.handles.ObjectKind.TheVariants as kind
use Rattle.node_steps.specs.Stands.{terms_of}

none_made : (k : ObjectKind) (terms : Terms) (h : ℕ) → made_at k (opening terms) h ≡ 0
unfolding issued_at
none_made k terms h = at_opening (λ T l. issued_at h l ≡ 0) (λ T. refl) terms k

none_last : (k : ObjectKind) (terms : Terms) → lasts_of k (opening terms) ≡ []
unfolding lasts_in
none_last k terms = at_opening (λ T l. lasts_in terms.settings.generations l ≡ []) (λ T. refl) terms k

none_in : (k : ObjectKind) (terms : Terms) → made_in k (opening terms) ≡ 0
none_in kind.Action terms = refl
none_in kind.Task terms = refl
none_in kind.Group terms = refl
none_in kind.Queue terms = refl
none_in kind.Mutex terms = refl
none_in kind.Sem terms = refl
none_in kind.Rwl terms = refl
none_in kind.Shmem terms = refl

none_yet : (k : ObjectKind) (terms : Terms) → made_in k (opening terms) ≤ 0
none_yet k terms = grind (arith, nat_tests, none_in k terms)

pub begun : (w : Laws) (terms : Terms) (n : PoolNode) (names : OtherHandles) (made : Made) → PoolNodeStands n [] → terms_of n ≡ terms_in (room_of terms) terms
    → renaming_of names ≡ renames_nothing →
    ((k : ObjectKind) (slot : ℕ) → made_in_slot (of_kind made k) slot ≡ 0) → ((k : ObjectKind) → last_handles (of_kind made k) ≡ [])
    → ((k : ObjectKind) → made_count (of_kind made k) ≡ 0) →
    ((k : ObjectKind) → gone_count (of_kind made k) ≡ 0) → ((k : ObjectKind) → freed_count (of_kind made k) ≡ 0)
    → HasFollowed (record { terms = terms; node = n; names = names; made = made }) []
unfolding after_from
begun w terms n names made stands own none counts lasts none_counted none_gone none_freed = record {
  node = record {
    own = [];
    stands = stands;
    renames = ap opening own ∙ sym (w.opening (room_of terms) terms).renamed ∙ ap (λ (g : Renaming). renamed g (room_of terms) (opening terms)) (sym none);
    few = omega arith;
  };
  terms = own;
  follows = subst (λ (g : Renaming). Follows g (opening terms)) (sym none) (w.opening (room_of terms) terms).follows;
  made = record {
    counts = λ k h. counts k (slot_of h) ∙ sym (none_made k terms h);
    lasts = λ k. lasts k ∙ sym (none_last k terms);
    made = λ k. none_counted k ∙ sym (none_in k terms);
    gone = λ k. let e : gone_count (of_kind made k) ≡ 0 = none_gone k in omega (arith, e);
    freed = λ k. let e : freed_count (of_kind made k) ≡ 0 = none_freed k in let t : taken_in k (opening terms) ≤ made_in k (opening terms) =
        (w.gone terms [] k).made in omega (arith, e, t);
  };
  few = λ k. none_yet k terms;
}

module _ (w : Laws) (f : Following) (e : NodeEntry) where
  -- the node has as many seats
  same_seats : (L : List NodeEntry) → HasFollowed f L → seats (after f.terms L) ≡ seat_count (terms_of f.node)
  same_seats L h = ap (λ (t : Terms). t.settings.workers + t.callers) (w.terms f.terms L) ∙ sym (ap seat_count h.terms)

  pub judged_next : (b : Bool) (g : Following) → e.who < seat_count (terms_of f.node) → IsHonest e.op → JudgesEntry f e b g → JudgesNext f e b g
  judged_next b g seat honest j = record {
    terms = j.terms;
    exact = λ L h short. (
      λ p. record { seat = subst (λ (m : ℕ). e.who < m) (sym (same_seats L h)) seat; honest = honest; allowed = (j.exact L h short).0 p },
      λ i. (j.exact L h short).1 i.allowed,
    );
    goes_on = j.goes_on;
  }
