-- What each move of the tasks and of the groups keeps of the members.
use Rattle.task_board.proofs.Names.{◌≡◌, ◌≢◌, ℕ, ◌+◌, ◌<◌, ◌≤◌, false, cond, List, ◌∷◌, Option, Some, None, refl, sym, ◌∙◌, ap, subst, arith, false≢true, nat_tests, Members, no_members, with_member, with_ended, AreKeyed, Membership, unless_ended, start_in, end_number_in, AreMembers, none-some}
use Rattle.task_board.proofs.MarkLemmas.{number-same}
use Rattle.task_board.proofs.SeenLemmas.{some_same}
use Rattle.task_board.proofs.KeyedLemmas.{Put, put-by, put-same, has-self, keyed-same, keyed-push, keyed-leave, keyed-first}

-- The numbers of one member

pub start-here : (g : ℕ) (e : Membership) → e.group ≡ g → e.end ≡ None → start_in g (Some e) ≡ Some e.start
start-here g e is un = (λ i. cond (number-same e.group g is i) (unless_ended (un i) e.start) None)

pub end-here : (g n : ℕ) (e : Membership) → e.group ≡ g → e.end ≡ Some n → end_number_in g (Some e) ≡ Some n
end-here g n e is over = (λ i. cond (number-same e.group g is i) (over i) None)

start-over : (g n : ℕ) (e : Membership) → e.end ≡ Some n → start_in g (Some e) ≡ None
start-over g n e e1 = grind (arith, nat_tests)

end-not : (g : ℕ) (e : Membership) → e.end ≡ None → end_number_in g (Some e) ≡ None
end-not g e e1 = grind (arith, nat_tests)

-- what is of another group
start-other : (g k : ℕ) (o : Option Membership) → ((e : Membership) → o ≡ Some e → e.group ≡ g) → k ≢ g → start_in k o ≡ None
start-other g k o e1 e2 = grind (arith, nat_tests)

end-other : (g k : ℕ) (o : Option Membership) → ((e : Membership) → o ≡ Some e → e.group ≡ g) → k ≢ g → end_number_in k o ≡ None
end-other g k o e1 e2 = grind (arith, nat_tests)

-- what a number tells of the member
pub record Starts (g a : ℕ) (o : Option Membership) : Type 0 where
  pub e : Membership
  pub is : o ≡ Some e
  pub group : e.group ≡ g
  pub end : e.end ≡ None
  pub start : e.start ≡ a

pub start-tells : (g a : ℕ) (o : Option Membership) → start_in g o ≡ Some a → Starts g a o
start-tells g a o e1 = grind (arith, nat_tests)

pub record Ends (g a : ℕ) (o : Option Membership) : Type 0 where
  pub e : Membership
  pub is : o ≡ Some e
  pub group : e.group ≡ g
  pub end : e.end ≡ Some a

pub end-tells : (g a : ℕ) (o : Option Membership) → end_number_in g o ≡ Some a → Ends g a o
end-tells g a o e1 = grind (arith, nat_tests)

-- A move of one member, or of a task that was none

-- a member of this group, as the next numbers allow it
pub record Fits (g starts ends : ℕ) (e : Membership) : Type 0 where
  pub group : e.group ≡ g
  pub attached : e.detached ≡ false
  pub started : e.start < starts
  pub numbered : (n : ℕ) → e.end ≡ Some n → n < ends

pub members-put : (at after : ℕ → Option Membership) (groups others : ℕ
    → Option Members) (h g : ℕ) (x : Option Membership) (n : Members) (starts ends more later : ℕ) → AreMembers at groups starts ends → Put at h x after
    → Put groups g (Some n) others → ((e : Membership) → at h ≡ Some e → e.group ≡ g) → ((e : Membership) → x ≡ Some e → Fits g more later e)
    → AreKeyed (λ k. start_in g (after k)) n.unended → AreKeyed (λ k. end_number_in g (after k)) n.ended → starts ≤ more → ends ≤ later
    → AreMembers after others more later
members-put at after groups others h g x n starts ends more later old move put was fits unended ended grows ages = record {
  named = λ k e f. grind (arith, nat_tests, fits e, old.named k e, move.others k, put.others e.group);
  attached = λ k e f. grind (arith, nat_tests, fits e, old.attached k e, move.others k);
  started = λ k e f. grind (arith, nat_tests, old.started k e, move.others k);
  numbered = λ k a e f d. grind (arith, nat_tests, old.numbered k a e, move.others k);
  unended = λ k m f.
      let other = put.others k in
      grind (arith, nat_tests, keyed-same, put-same, put-by (start_in k), start-other g k x, start-other g k (at h) was, old.unended k m);
  ended = λ k m f. grind (
    arith,
    nat_tests,
    keyed-same,
    put-same,
    put-by (end_number_in k),
    end-other g k x,
    end-other g k
        (at h) was,
    old.ended k m,
    put.others k,
  );
}

-- nothing is seen of the move
pub members-same : (at after : ℕ → Option Membership) (groups : ℕ → Option Members) (starts ends more later : ℕ) → ((k : ℕ) → after k ≡ at k) → starts ≤ more
    → ends ≤ later → AreMembers at groups starts ends → AreMembers after groups more later
members-same at after groups starts ends more later e1 e2 e3 e4 = grind (arith, nat_tests)

module _ (at after : ℕ → Option Membership) (groups others : ℕ
    → Option Members) (h g starts ends : ℕ) (m : Members) (old : AreMembers at groups starts ends) (live : groups g ≡ Some m) where
  -- a task enters a group
  pub members-enter : (e : Membership) → at h ≡ None → Put at h (Some e) after → Put groups g (Some (with_member h m)) others → e.group ≡ g → e.detached ≡ false
      → e.start ≡ starts → e.end ≡ None → AreMembers after others (starts + 1) ends
  members-enter e new move put group attached start un =
      members-put at after groups others h g (Some e) (with_member h m) starts ends (starts + 1) ends old move put (λ z f. absurd (none-some _ (sym new ∙ f)))
      (λ z f. subst (λ (y : Membership). Fits g (starts + 1) ends y) (some_same f)
      (record { group = group; attached = attached; started = omega (arith, start); numbered = λ n d. absurd (none-some _ (sym un ∙ d)) }))
      (keyed-push (λ k. start_in g (at k)) (λ k. start_in g (after k)) h starts m.unended
      (record { here = ap (start_in g) move.here ∙ start-here g e group un ∙ ap Some start; others = λ k d. ap (start_in g) (move.others k d) })
      (ap (start_in g) new)
      (λ k b f. let t = start-tells g b (at k) f in let less = old.started k t.e t.is in omega (arith, less, t.start)) (old.unended g m live))
      (keyed-same (λ k. end_number_in g (at k)) (λ k. end_number_in g (after k)) m.ended
      (put-same _ _ h _ (put-by (end_number_in g) at after h (Some e) move) (end-not g e un ∙ sym (ap (end_number_in g) new))) (old.ended g m live))
      (omega arith) (omega arith)

  -- a member ends
  pub members-end : (e : Membership) → at h ≡ Some e → e.group ≡ g → e.end ≡ None → Put at h (Some (record e { end = Some ends })) after
      → Put groups g (Some (with_ended h m)) others → AreMembers after others starts (ends + 1)
  members-end e is group un move put =
      members-put at after groups others h g (Some (record e { end = Some ends })) (with_ended h m) starts ends starts (ends
      + 1) old move put (λ z f. ap (λ (y : Membership). y.group) (some_same (sym f ∙ is)) ∙ group)
      (λ z f. subst (λ (y : Membership). Fits g starts (ends + 1) y) (some_same f)
      (record {
        group = group;
        attached = old.attached h e is;
        started = old.started h e is;
        numbered = λ n d. grind (arith, nat_tests);
      }))
      (keyed-leave (λ k. start_in g (at k)) (λ k. start_in g (after k)) h m.unended
      (record { here = ap (start_in g) move.here ∙ start-over g ends (record e { end = Some ends }) refl; others = λ k d. ap (start_in g) (move.others k d) })
      (old.unended g m live))
      (keyed-push (λ k. end_number_in g (at k)) (λ k. end_number_in g (after k)) h ends m.ended
      (record {
        here = ap (end_number_in g) move.here ∙ end-here g ends (record e { end = Some ends }) group refl;
        others =
            λ k d. ap (end_number_in g) (move.others k d);
      })
      (ap (end_number_in g) is ∙ end-not g e un)
      (λ k b f. let t = end-tells g b (at k) f in old.numbered k b t.e t.is t.end) (old.ended g m live))
      (omega arith) (omega arith)

  -- the member that ended first leaves
  pub members-take : (rest : List ℕ) → m.ended ≡ h ∷ rest → Put at h None after → Put groups g (Some (record m { ended = rest })) others
      → AreMembers after others starts ends
  members-take rest list move put =
      let keyed = subst (λ (l : List ℕ). AreKeyed (λ k. end_number_in g (at k)) l) list (old.ended g m live) in
      let a = keyed.has_key h (has-self h rest) in
      let t = end-tells g a.0 (at h) a.1 in
      members-put at after groups others h g None (record m { ended = rest }) starts ends starts ends old move put
      (λ z f. ap (λ (y : Membership). y.group) (some_same (sym f ∙ t.is)) ∙ t.group) (λ z f. absurd (none-some _ f))
      (keyed-same (λ k. start_in g (at k)) (λ k. start_in g (after k)) m.unended
      (put-same _ _ h _ (put-by (start_in g) at after h None move) (sym (ap (start_in g) t.is ∙ start-over g a.0 t.e t.end))) (old.unended g m live))
      (keyed-first (λ k. end_number_in g (at k)) (λ k. end_number_in g (after k)) h rest (put-by (end_number_in g) at after h None move) keyed)
      (omega arith) (omega arith)

  -- the member that entered first leaves
  pub members-leave : (rest : List ℕ) → m.unended ≡ h ∷ rest → Put at h None after → Put groups g (Some (record m { unended = rest })) others
      → AreMembers after others starts ends
  members-leave rest list move put =
      let keyed = subst (λ (l : List ℕ). AreKeyed (λ k. start_in g (at k)) l) list (old.unended g m live) in
      let a = keyed.has_key h (has-self h rest) in
      let t = start-tells g a.0 (at h) a.1 in
      members-put at after groups others h g None (record m { unended = rest }) starts ends starts ends old move put
      (λ z f. ap (λ (y : Membership). y.group) (some_same (sym f ∙ t.is)) ∙ t.group) (λ z f. absurd (none-some _ f))
      (keyed-first (λ k. start_in g (at k)) (λ k. start_in g (after k)) h rest (put-by (start_in g) at after h None move) keyed)
      (keyed-same (λ k. end_number_in g (at k)) (λ k. end_number_in g (after k)) m.ended
      (put-same _ _ h _ (put-by (end_number_in g) at after h None move) (sym (ap (end_number_in g) t.is ∙ end-not g t.e t.end))) (old.ended g m live))
      (omega arith) (omega arith)

-- a new group has no members
pub members-create : (at : ℕ → Option Membership) (groups others : ℕ → Option Members) (g starts ends : ℕ) → AreMembers at groups starts ends → groups g ≡ None
    → Put groups g (Some no_members) others → AreMembers at others starts ends
members-create at groups others g starts ends e1 e2 e3 = grind (arith, nat_tests)

-- nothing names a group with no members
pub unnamed : (at : ℕ → Option Membership) (groups : ℕ → Option Members) (h g starts ends : ℕ) (e : Membership) → AreMembers at groups starts ends
    → groups g ≡ Some no_members → at h ≡ Some e → e.group ≡ g → ⊥
unnamed at groups h g starts ends e old live f is = by_end e.end refl
  where
    by_end : (o : Option ℕ) → e.end ≡ o → ⊥
    by_end None d = false≢true ((old.unended g no_members live).listed h e.start (ap (start_in g) f ∙ start-here g e is d))
    by_end (Some n) d = false≢true ((old.ended g no_members live).listed h n (ap (end_number_in g) f ∙ end-here g n e is d))

-- a group with no members is given up
pub members-delete : (at : ℕ → Option Membership) (groups others : ℕ → Option Members) (g starts ends : ℕ) → AreMembers at groups starts ends
    → groups g ≡ Some no_members → Put groups g None others → AreMembers at others starts ends
members-delete at groups others g starts ends old live put = record {
  named = λ k e f. let m = old.named k e f in (m.0, put.others e.group (λ is. unnamed at groups k g starts ends e old live f is) ∙ m.1);
  attached = old.attached;
  started = old.started;
  numbered = old.numbered;
  unended = λ k m f. old.unended k m (sym (put.others k (λ here. absurd (none-some _ (sym put.here ∙ ap others (sym here) ∙ f)))) ∙ f);
  ended = λ k m f. old.ended k m (sym (put.others k (λ here. absurd (none-some _ (sym put.here ∙ ap others (sym here) ∙ f)))) ∙ f);
}
