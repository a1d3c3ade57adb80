-- The members of a group in the machine's words, and moves of all of them.
use Rattle.node_steps.proofs.Names.{◌≡◌, ◌≢◌, ℕ, ◌<◌, Bool, true, false, cond, List, [], ◌∷◌, Option, Some, None, refl, sym, ◌∙◌, ap, subst, inl, inr, arith, ◌==◌, ◌&&◌, ◌||◌, nat_lt, eqb_tells, nat_tests, TaskEnd, Slots, slot_value, with_value, without, NoneLive, Listed, live_of, lookup, live_object, any_live, any_listed, change, change_all, with_fields, gone, Distinct, any-none, any-live, has_handle, without_handle, Task, end_of, is_unended, with_notes, Ending, is_member, is_unended_member, insert, insert_ended, endings, freed, let_go, in_no_group, without_group, Members, no_members, RisesBy, AreKeyed, membership, members_seen, end_number_in, SchedulerTable, IsScheduler, is_ended_member, ends_numbered, ending_of, endings_of, Each, frees, lets_go, has-self, or-right, unended-so, unended-member, ended-member, Holds, and_right, lt-ltb, none-some, same_Some, change_all-none}
use Rattle.std.proofs.lemmas.Bool.{false≢true}
use Rattle.handle_pool.specs.Stands.{Stands as SlotsStand}
use Rattle.task_board.proofs.KeyedLemmas.{keyed-same, keyed-leave}
use Rattle.task_board.proofs.EachLemmas.{none-unended-left, none-left-in}
use Rattle.node_steps.proofs.Moves.{found, holds_update, holds_change_and_remove}
use Rattle.node_steps.proofs.Changes.{change-as, retire-update}

-- Moves of all that pass

module _ {T : Type 0} where
  -- a change of one that passes, after which it doesn't, is part of the change of all
  pub change_all-absorbs : (p : T → Bool) (f : Listed T → Listed T) (h : ℕ) (v : T) (l : List (Listed T)) → live_object l h ≡ Some v → p v ≡ true
      → ((r : Listed T) → r.live ≡ true → r.fields ≡ v → ((f r).live && p (f r).fields) ≡ false) → change_all p f (change h f l) ≡ change_all p f l
  unfolding live_of change change_all
  change_all-absorbs p f h v [] a passes off = refl
  change_all-absorbs p f h v (r ∷ rs) a passes off = grind (arith, nat_tests, change_all-absorbs p f h v rs, change)

-- what is moved one after the other in the pool is moved at once in the list
each-holds : (p : Task → Bool) (move : Slots Task → ℕ → Task → Slots Task) (f : Listed Task → Listed Task) (size turns : ℕ)
    → ((q : Slots Task) (l : List (Listed Task)) (h : ℕ) (t : Task) → Holds size turns q l → slot_value q h ≡ Some t → p t ≡ true
    → Holds size turns (move q h t) (change h f l)) → ((r : Listed Task) → ((f r).live && p (f r).fields) ≡ false)
    → (hs : List ℕ) (old new : Slots Task) (l : List (Listed Task)) → Holds size turns old l → Each p move hs old new
    → NoneLive (slot_value new) (λ t. p t ≡ true) → Holds size turns new (change_all p f l)
each-holds p move f size turns moves off [] old new l s e none = rw e (rw (← change_all-none p f l (any-none old l p s.stands (rw e at none))) at s)
each-holds p move f size turns moves off (h ∷ hs) old new l s e none =
    rw (← change_all-absorbs p f h e.0 l (found size turns old l h (Some e.0) s e.1) e.2 (λ r live is. off r))
    (each-holds p move f size turns moves off hs (move old h e.0) new (change h f l) (moves old l h e.0 s e.1 e.2) e.3 none)

-- a freed task
pub holds_freed : (size turns : ℕ) (q : Slots Task) (l : List (Listed Task)) (h : ℕ) (t : Task) → Holds size turns q l → slot_value q h ≡ Some t
    → Holds size turns (without q h) (change h freed l)
holds_freed size turns q l h t s g = subst (λ (k : List (Listed Task)). Holds size turns (without q h) k) (retire-update h (with_notes in_no_group) l)
    (holds_change_and_remove size turns q l h (with_notes in_no_group) t s g)

-- one that is let go
live-kept : (a b : Bool) → b ≡ true → (a && b) ≡ a
live-kept a b e1 = grind (arith, nat_tests)

pub holds_let_go : (size turns : ℕ) (q : Slots Task) (l : List (Listed Task)) (h : ℕ) (t : Task) → Holds size turns q l → slot_value q h ≡ Some t
    → Holds size turns (lets_go q h t) (change h let_go l)
holds_let_go size turns q l h t s g = by_end (is_unended t) refl
  where
    at : live_object l h ≡ Some t
    at = found size turns q l h (Some t) s g

    by_end : (b : Bool) → is_unended t ≡ b → Holds size turns (cond b (with_value q h (without_group t)) (without q h)) (change h let_go l)
    by_end true e =
        subst (λ (k : List (Listed Task)). Holds size turns (with_value q h (without_group t)) k)
        (sym (change-as h let_go (with_fields without_group) t l at (λ r live is i. record {
          handle = r.handle;
          live = live-kept r.live (is_unended r.fields) (ap is_unended is ∙ e) i;
          fields = without_group r.fields;
        })))
        (holds_update size turns q l h without_group t s g)
    by_end false e =
        subst (λ (k : List (Listed Task)). Holds size turns (without q h) k)
        (retire-update h without_group l ∙ sym (change-as h let_go
        (λ r. gone (with_fields without_group r)) t l at (λ r live is i. record {
          handle = r.handle;
          live = and_right r.live (is_unended r.fields) (ap is_unended is ∙ e) i;
          fields = without_group r.fields;
        })))
        (holds_change_and_remove size turns q l h without_group t s g)

-- all members that have ended are freed
pub holds_all_freed : (size turns g : ℕ) (hs : List ℕ) (old new : Slots Task) (l : List (Listed Task)) → Holds size turns old l
    → Each (is_ended_member g) frees hs old new → NoneLive (slot_value new) (λ t. is_ended_member g t ≡ true)
    → Holds size turns new (change_all (is_ended_member g) freed l)
holds_all_freed size turns g = each-holds (is_ended_member g) frees freed size turns (λ q l h t s e passes. holds_freed size turns q l h t s e) (λ r. refl)

-- all members are let go
pub holds_all_let_go : (size turns g : ℕ) (hs : List ℕ) (old new : Slots Task) (l : List (Listed Task)) → Holds size turns old l
    → Each (is_member g) lets_go hs old new → NoneLive (slot_value new) (λ t. is_member g t ≡ true) → Holds size turns new (change_all (is_member g) let_go l)
holds_all_let_go size turns g = each-holds (is_member g) lets_go let_go size turns (λ q l h t s e passes. holds_let_go size turns q l h t s e)
    (λ r. and_right (r.live && is_unended r.fields) false refl)

-- The order of ends

without-absent : (h : ℕ) (hs : List ℕ) → has_handle h hs ≡ false → without_handle h hs ≡ hs
without-absent h [] off = refl
without-absent h (x ∷ xs) off = grind (arith, nat_tests, without-absent h xs, false≢true)

more-test : (a b : ℕ) → b < a → nat_lt a b ≡ false
more-test a b e = grind (arith, nat_tests)

-- each handle has ended, and its number is that of its end
abbrev HaveEnded : (ℕ → Option Task) → (ℕ → Option ℕ) → List ℕ → Type 0
HaveEnded at key hs = (k : ℕ) → has_handle k hs ≡ true → (y : TaskEnd) × (m : ℕ) × (ends_numbered (at k) ≡ Some (y, m)) × (key k ≡ Some m)

insert-back : (at : ℕ → Option Task) (key : ℕ → Option ℕ) (h n : ℕ) (x : TaskEnd) (hs : List ℕ) → RisesBy key hs → HaveEnded at key hs → key h ≡ Some n
    → ends_numbered (at h) ≡ Some (x, n) → has_handle h hs ≡ true
    → insert (record { task = h; end = x; number = n }) (endings_of at (without_handle h hs)) ≡ endings_of at hs
insert-back at key h n x [] o ended k e has = absurd (false≢true has)
insert-back at key h n x (j ∷ js) o ended k e has = by_test (j == h) refl has (insert-back at key h n x js o.1 (λ i f. ended i (or-right (j == i) _ f)) k e)
  where
    in_front : (ks : List ℕ) → ((i b : ℕ) → has_handle i ks ≡ true → key i ≡ Some b → n < b) → HaveEnded at key ks
        → insert (record { task = h; end = x; number = n }) (endings_of at ks) ≡ (record { task = h; end = x; number = n }) ∷ endings_of at ks
    in_front [] less old = refl
    in_front (i ∷ is) less old =
        let y = old i (has-self i is) in
        let t = lt-ltb n y.1 (less i y.1 (has-self i is) y.3) in
        (λ z. insert (record { task = h; end = x; number = n }) (ending_of i (y.2 z) (endings_of at is)))
        ∙ ((λ z. cond (t z) ((record { task = h; end = x; number = n }) ∷ record { task = i; end = y.0; number = y.1 }
        ∷ endings_of at is) (record { task = i; end = y.0; number = y.1 } ∷ insert (record { task = h; end = x; number = n }) (endings_of at is)))
        ∙ (λ z. (record { task = h; end = x; number = n }) ∷ ending_of i (sym y.2 z) (endings_of at is)))

    behind : (y : TaskEnd) (m : ℕ) → ends_numbered (at j) ≡ Some (y, m) → m < n
        → insert (record { task = h; end = x; number = n }) (endings_of at (without_handle h js)) ≡ endings_of at js
        → insert (record { task = h; end = x; number = n }) (endings_of at (j ∷ without_handle h js)) ≡ endings_of at (j ∷ js)
    behind y m d less rest =
        let t = more-test n m less in
        (λ z. insert (record { task = h; end = x; number = n }) (ending_of j (d z) (endings_of at (without_handle h js))))
        ∙ ((λ z. cond (t z) ((record { task = h; end = x; number = n }) ∷ record { task = j; end = y; number = m }
        ∷ endings_of at (without_handle h js)) (record { task = j; end = y; number = m }
        ∷ insert (record { task = h; end = x; number = n }) (endings_of at (without_handle h js))))
        ∙ (ap (λ (l : List Ending). record { task = j; end = y; number = m } ∷ l) rest
        ∙ (λ z. ending_of j (sym d z) (endings_of at js))))

    by_test : (b : Bool) → (j == h) ≡ b → (b || has_handle h js) ≡ true
        → (has_handle h js ≡ true → insert (record { task = h; end = x; number = n }) (endings_of at (without_handle h js)) ≡ endings_of at js)
        → insert (record { task = h; end = x; number = n }) (endings_of at (cond b js (j ∷ without_handle h js))) ≡ endings_of at (j ∷ js)
    by_test true d f rest =
        let same : j ≡ h = grind (arith, nat_tests) in
        in_front js (λ i b f g. o.0 i n b f (ap key same ∙ k) g) (λ i f. ended i (or-right (j == i) _ f))
        ∙ ((λ z. ending_of h (sym e z) (endings_of at js)) ∙ ap (λ (i : ℕ). ending_of i (ends_numbered (at i)) (endings_of at js)) (sym same))
    by_test false d f rest =
        let y = ended j (has-self j js) in
        behind y.0 y.1 y.2 (o.0 h y.1 n f y.3 k) (rest f)

lookup-here : (e : ℕ × Task) (es : List (ℕ × Task)) → lookup (e ∷ es) e.0 ≡ Some e.1
lookup-here e es = elim (eqb_tells e.0 e.0) [ inl same ↦ (λ i. cond (same.0 i) (Some e.1) (lookup es e.0)) | inr apart ↦ absurd (apart.1 refl) ]

lookup-away : (e : ℕ × Task) (es : List (ℕ × Task)) (k : ℕ) → k ≢ e.0 → lookup (e ∷ es) k ≡ lookup es k
lookup-away e es k d = elim (eqb_tells e.0 k) [ inl same ↦ absurd (d (sym same.1)) | inr apart ↦ (λ i. cond (apart.0 i) (Some e.1) (lookup es k)) ]

-- what the key of the task at the front says
record Front (g : ℕ) (t : Task) (n : ℕ) : Type 0 where
  member : is_member g t ≡ true
  e : TaskEnd
  end : end_of t.state ≡ Some (e, n)

front : (g n : ℕ) (t : Task) → end_number_in g (membership (Some t)) ≡ Some n → Front g t n
front g n t e1 = grind (arith, nat_tests)

-- a task that isn't a member that has ended adds nothing
not-added : (g h : ℕ) (t : Task) (es : List Ending) → end_number_in g (membership (Some t)) ≡ None
    → cond (is_member g t) (insert_ended h (end_of t.state) es) es ≡ es
not-added g h t es e1 = grind (arith, nat_tests)

endings-keyed : (at : ℕ → Option Task) (g : ℕ) (es : List (ℕ × Task)) (hs : List ℕ) → Distinct es → ((h : ℕ) (t : Task) → lookup es h ≡ Some t → at h ≡ Some t)
    → AreKeyed (λ h. end_number_in g (membership (lookup es h))) hs → endings g es ≡ endings_of at hs
unfolding endings
endings-keyed at g [] [] d is keyed = refl
endings-keyed at g [] (h ∷ hs) d is keyed = let a = keyed.has_key h (has-self h hs) in absurd (none-some _ a.1)
endings-keyed at g (e ∷ es) hs d is keyed =
    by_key (end_number_in g (membership (Some e.1))) refl (endings-keyed at g es (without_handle e.0 hs) d.1 later fewer)
  where
    later : (h : ℕ) (t : Task) → lookup es h ≡ Some t → at h ≡ Some t
    later h t f = is h t (lookup-away e es h (λ same. absurd (none-some _ (sym d.0 ∙ ap (lookup es) (sym same) ∙ f))) ∙ f)

    fewer : AreKeyed (λ h. end_number_in g (membership (lookup es h))) (without_handle e.0 hs)
    fewer = keyed-leave (λ h. end_number_in g (membership (lookup (e ∷ es) h))) (λ h. end_number_in g (membership (lookup es h))) e.0 hs
        (record {
          here = ap (λ (o : Option Task). end_number_in g (membership o)) d.0;
          others = λ k away. ap (λ (o : Option Task). end_number_in g (membership o)) (sym (lookup-away e es k away));
        }) keyed

    have : HaveEnded at (λ h. end_number_in g (membership (lookup (e ∷ es) h))) hs
    have k f =
        let a = keyed.has_key k f in
        by_found (lookup (e ∷ es) k) refl a.0 a.1
      where
        by_found : (o : Option Task) → lookup (e ∷ es) k ≡ o → (m : ℕ) → end_number_in g (membership o) ≡ Some m
            → (y : TaskEnd) × (n : ℕ) × (ends_numbered (at k) ≡ Some (y, n)) × (end_number_in g (membership (lookup (e ∷ es) k)) ≡ Some n)
        by_found None l m b = absurd (none-some _ b)
        by_found (Some t) l m b = let x = front g m t b in
            (x.e, m, ap ends_numbered (is k t l) ∙ x.end, ap (λ (o : Option Task). end_number_in g (membership o)) l ∙ b)

    by_key : (o : Option ℕ) → end_number_in g (membership (Some e.1)) ≡ o → endings g es ≡ endings_of at (without_handle e.0 hs)
        → cond (is_member g e.1) (insert_ended e.0 (end_of e.1.state) (endings g es)) (endings g es) ≡ endings_of at hs
    by_key None f rest =
        not-added g e.0 e.1 (endings g es) f ∙ rest
        ∙ ap (endings_of at) (without-absent e.0 hs (absent (has_handle e.0 hs) refl))
      where
        absent : (b : Bool) → has_handle e.0 hs ≡ b → has_handle e.0 hs ≡ false
        absent true h = let a = keyed.has_key e.0 h in
            absurd (none-some _ (sym f ∙ ap (λ (o : Option Task). end_number_in g (membership o)) (sym (lookup-here e es)) ∙ a.1))
        absent false h = h
    by_key (Some n) f rest =
        let x = front g n e.1 f in
        let here : end_number_in g (membership (lookup (e ∷ es) e.0)) ≡ Some n =
        ap (λ (o : Option Task). end_number_in g (membership o)) (lookup-here e es) ∙ f in
        (λ i. cond (x.member i) (insert_ended e.0 (x.end i) (endings g es)) (endings g es))
        ∙ (ap (insert (record { task = e.0; end = x.e; number = n })) rest
        ∙ insert-back at (λ h. end_number_in g (membership (lookup (e ∷ es) h))) e.0 n x.e hs keyed.rises have here
        (ap ends_numbered (is e.0 e.1 (lookup-here e es))
        ∙ x.end) (keyed.listed e.0 n here))

-- the ends of a group's members, in the order of their numbers, are those of its list
pub endings-are : (b : SchedulerTable) (l : List (Listed Task)) (g : ℕ) (m : Members) → IsScheduler b → SlotsStand b.tasks.pool l
    → slot_value b.groups.pool g ≡ Some m → endings g (live_of l) ≡ endings_of (slot_value b.tasks.pool) m.ended
endings-are b l g m e1 e2 e3 = grind (arith, nat_tests, endings-keyed, slot_value, live_of, keyed-same, end_number_in, members_seen)

-- whether members are left that haven't ended, and whether any are
pub none-unended : (b : SchedulerTable) (l : List (Listed Task)) (g : ℕ) (m : Members) → IsScheduler b → SlotsStand b.tasks.pool l
    → slot_value b.groups.pool g ≡ Some m → m.unended ≡ [] → any_listed (is_unended_member g) l ≡ false
none-unended b l g m k s live none = any-none b.tasks.pool l (is_unended_member g) s (none-unended-left b g m k live none)

pub some-unended : (b : SchedulerTable) (l : List (Listed Task)) (g h : ℕ) (m : Members) (rest : List ℕ) → IsScheduler b → SlotsStand b.tasks.pool l
    → slot_value b.groups.pool g ≡ Some m → m.unended ≡ h ∷ rest → any_listed (is_unended_member g) l ≡ true
some-unended b l g h m rest k s live is =
    let x = unended-member b g h m rest k live is in
    any-live b.tasks.pool l (is_unended_member g) h x.t s x.live ((λ i. x.member i && is_unended x.t) ∙ unended-so x.t.state x.end)

pub none-listed : (b : SchedulerTable) (l : List (Listed Task)) (g : ℕ) → IsScheduler b → SlotsStand b.tasks.pool l
    → slot_value b.groups.pool g ≡ Some no_members → any_listed (is_member g) l ≡ false
none-listed b l g k s live = any-none b.tasks.pool l (is_member g) s (none-left-in b g k live)

pub some-listed : (b : SchedulerTable) (l : List (Listed Task)) (g : ℕ) (m : Members) → IsScheduler b → SlotsStand b.tasks.pool l
    → slot_value b.groups.pool g ≡ Some m → ((m ≡ no_members) → ⊥) → any_listed (is_member g) l ≡ true
some-listed b l g m k s live some = by_lists m.unended refl m.ended refl
  where
    by_lists : (us : List ℕ) → m.unended ≡ us → (es : List ℕ) → m.ended ≡ es → any_listed (is_member g) l ≡ true
    by_lists (h ∷ hs) u es e = let x = unended-member b g h m hs k live u in any-live b.tasks.pool l (is_member g) h x.t s x.live x.member
    by_lists [] u (h ∷ hs) e = let x = ended-member b g h m hs k live e in any-live b.tasks.pool l (is_member g) h x.1.t s x.1.live x.1.member
    by_lists [] u [] e = absurd (some (λ i. record { unended = u i; ended = e i }))
