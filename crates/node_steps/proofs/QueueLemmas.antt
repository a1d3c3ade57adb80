-- The queues of a scheduler as the machine's list says them.
use Rattle.node_steps.proofs.Names.{◌≡◌, ℕ, ◌+◌, ◌<◌, Bool, true, false, not, cond, List, [], ◌∷◌, length, Option, Some, None, refl, sym, ◌∙◌, ap, subst, arith, ◌&&◌, ◌||◌, ◌==◌, nat_lt, is_none, option_map, nat_tests, holds, Slots, slot_value, Listed, live_of, lookup, live_object, count_listed, how_many, any_live, Distinct, any-none, any-live, same_tests, pairs_without, lookup-without, Distinct-without, how_many-without, passing, has_handle, Task, TaskState, Scheduled, Running, Ended, end_of, is_unended, Queue, is_in, is_unended_in, is_head, lets, HeldQueue, Seen, seen_as, seen, seen_in, ListInOrder, begins_in, IsScheduler, records_of, some_same, seen-as, value-mapped, PoolNode, Lists, Live, and_from, and_parts, eq-eqb, eqb-true, none-some, or_right}
use Rattle.queue_ready.specs.Ready.{is_first, may_begin}
use Rattle.node_steps.proofs.StartSteps.{false≢true}

or_only : (a b : Bool) → a ≡ false → (a || b) ≡ true → b ≡ true
or_only a b e1 e2 = grind (arith, nat_tests)

-- Records

-- a live queue, and its record
pub record-value : (p : Slots HeldQueue) (q : ℕ) (x : HeldQueue) → slot_value p q ≡ Some x → slot_value (records_of p) q ≡ Some x.queue
record-value p q x e = value-mapped (λ (y : HeldQueue). y.queue) p q ∙ ap (option_map (λ (y : HeldQueue). y.queue)) e

pub record-none : (p : Slots HeldQueue) (q : ℕ) → slot_value p q ≡ None → slot_value (records_of p) q ≡ None
record-none p q e = value-mapped (λ (y : HeldQueue). y.queue) p q ∙ ap (option_map (λ (y : HeldQueue). y.queue)) e

pub record-found : (p : Slots HeldQueue) (q : ℕ) (v : Queue) → slot_value (records_of p) q ≡ Some v
    → (x : HeldQueue) × (slot_value p q ≡ Some x) × (x.queue ≡ v)
record-found p q v e1 = grind (arith, nat_tests, slot_value, value-mapped, option_map, none-some, some_same)

-- What is seen of an unended task

record SeenUnended (t : Task) : Type 0 where
  s : Seen
  is : seen (Some t) ≡ Some s
  queue : s.queue ≡ t.queue
  start : s.start ≡ t.start

unended-seen : (t : Task) (x : TaskState) → t.state ≡ x → is_unended t ≡ true → SeenUnended t
unended-seen t Scheduled e u = record { s = _; is = ap (seen_as t) e; queue = refl; start = refl }
unended-seen t (Running w k) e u = record { s = _; is = ap (seen_as t) e; queue = refl; start = refl }
unended-seen t (Ended y n) e u = false≢true (sym (ap (λ (z : TaskState). is_none (end_of z)) e) ∙ u)

pub is_in-named : (q : ℕ) (o : Option ℕ) → holds (λ h. h == q) o ≡ true → o ≡ Some q
is_in-named q o e1 = grind (arith, nat_tests)

named-is_in : (q : ℕ) (o : Option ℕ) → o ≡ Some q → holds (λ h. h == q) o ≡ true
named-is_in q o e = ap (λ (z : Option ℕ). holds (λ h. h == q) z) e ∙ eq-eqb q q refl

module _ (n : PoolNode) (l : Lists) (v : Live n l) (k : IsScheduler n.scheduler) (q : ℕ) (x : HeldQueue) (live : slot_value n.scheduler.queues.pool q
    ≡ Some x) where
  -- an unended task of the queue stands in its list, and what stands there is one
  pub in-list : (h : ℕ) (t : Task) → slot_value n.scheduler.tasks.pool h ≡ Some t → is_unended_in q t ≡ true → has_handle h x.tasks ≡ true
  in-list h t g e =
      let s = unended-seen t t.state refl (and_parts (is_in q t) _ e).1 in
      k.queued.listed h q s.s x (ap seen g ∙ s.is) (s.queue ∙ is_in-named q t.queue (and_parts (is_in q t) _ e).0) live

  pub of-list : (h : ℕ) → has_handle h x.tasks ≡ true → (t : Task) × (slot_value n.scheduler.tasks.pool h ≡ Some t) × (is_unended_in q t ≡ true)
  of-list h e1 = grind (arith, nat_tests)

  start-of : (h : ℕ) (t : Task) (s : Seen) → slot_value n.scheduler.tasks.pool h ≡ Some t → seen_in n.scheduler.tasks.pool h ≡ Some s → s.start ≡ t.start
  start-of h t s g e = (seen-as t t.state s (sym (ap seen g) ∙ e)).start

  abbrev earlier : ℕ → Task → Bool
  earlier start u = is_unended_in q u && nat_lt u.start start

  less-so : (a b : ℕ) → nat_lt a b ≡ true → a < b
  less-so a b e = grind (arith, nat_tests)

  so-less : (a b : ℕ) → a < b → nat_lt a b ≡ true
  so-less a b e = grind (arith, nat_tests)

  -- the first of the list has none before it
  first-head : (h : ℕ) (t : Task) → slot_value n.scheduler.tasks.pool h ≡ Some t → (hs : List ℕ) → x.tasks ≡ hs
      → ListInOrder (seen_in n.scheduler.tasks.pool) hs
      → is_first h hs ≡ true → is_head q t (live_of l.tasks) ≡ true
  first-head h t g [] is o e = false≢true e
  first-head h t g (a ∷ hs) is o e = ap not (any-none n.scheduler.tasks.pool l.tasks (earlier t.start) v.tasks.stands none)
    where
      same : a ≡ h
      same = eqb-true a h e

      none : (j : ℕ) (u : Task) → slot_value n.scheduler.tasks.pool j ≡ Some u → earlier t.start u ≡ true → ⊥
      none j u f p = by_handle (a == j) refl
        where
          s : (s : Seen) × (seen_in n.scheduler.tasks.pool j ≡ Some s)
          s = let z = unended-seen u u.state refl (and_parts (is_in q u) _ (and_parts (is_unended_in q u) _ p).0).1 in (z.s, ap seen f ∙ z.is)

          z : (s : Seen) × (seen_in n.scheduler.tasks.pool a ≡ Some s)
          z = let w = k.queued.names a q x live (ap (has_handle a) is ∙ ap (λ (b : Bool). b || has_handle a hs) (eq-eqb a a refl)) in (w.0, w.1)

          less : u.start < t.start
          less = less-so u.start t.start (and_parts (is_unended_in q u) _ p).1

          by_handle : (b : Bool) → (a == j) ≡ b → ⊥
          by_handle true here =
              let one : u ≡ t = some_same (sym f ∙ ap (slot_value n.scheduler.tasks.pool) (sym (eqb-true a j here) ∙ same) ∙ g) in
              let no : u.start < u.start = subst (λ (y : Task). u.start < y.start) (sym one) less in
              omega (arith, no)
          by_handle false off =
              let has = or_only (a == j) _ off (sym (ap (has_handle j) is) ∙ in-list j u f (and_parts (is_unended_in q u) _ p).0) in
              let after = o.0 j z.0 s.0 has z.1 s.1 in
              let zt = start-of h t z.0 g (ap (seen_in n.scheduler.tasks.pool) (sym same) ∙ z.1) in
              let su = start-of j u s.0 f s.1 in
              omega (arith, after, zt, su, less)

  -- what has none before it is the first
  head-first : (h : ℕ) (t : Task) → slot_value n.scheduler.tasks.pool h ≡ Some t → is_unended_in q t ≡ true → (hs : List ℕ) → x.tasks ≡ hs
      → ListInOrder (seen_in n.scheduler.tasks.pool) hs → is_head q t (live_of l.tasks) ≡ true → is_first h hs ≡ true
  head-first h t g p [] is o e = false≢true (sym (ap (has_handle h) is) ∙ in-list h t g p)
  head-first h t g p (a ∷ hs) is o e = by_handle (a == h) refl
    where
      by_handle : (b : Bool) → (a == h) ≡ b → b ≡ true
      by_handle true here = refl
      by_handle false off =
          let has = or_only (a == h) _ off (sym (ap (has_handle h) is) ∙ in-list h t g p) in
          let own = ap (has_handle a) is ∙ ap (λ (b : Bool). b || has_handle a hs) (eq-eqb a a refl) in
          let u = of-list a own in
          let sa = k.queued.names a q x live own in
          let sh = k.queued.names h q x live (in-list h t g p) in
          let after = o.0 h sa.0 sh.0 has sa.1 sh.1 in
          let ea = start-of a u.0 sa.0 u.1 sa.1 in
          let eh = start-of h t sh.0 g sh.1 in
          let less : u.0.start < t.start = omega (arith, after, ea, eh) in
          let any = any-live n.scheduler.tasks.pool l.tasks (earlier t.start) a u.0 v.tasks.stands u.1 (and_from _ _ u.2 (so-less u.0.start t.start less)) in
          absurd (false≢true (sym (ap not any) ∙ e))

  pub head-is-first : (h : ℕ) (t : Task) → slot_value n.scheduler.tasks.pool h ≡ Some t → is_unended_in q t ≡ true
      → is_head q t (live_of l.tasks) ≡ is_first h x.tasks
  head-is-first h t g p = grind (arith, nat_tests, same_tests, head-first, first-head)

-- A queue lets the same tasks begin

pub lets-begin : (n : PoolNode) (l : Lists) → Live n l → IsScheduler n.scheduler → (h : ℕ) (t : Task) → slot_value n.scheduler.tasks.pool h ≡ Some t
    → is_unended t ≡ true → (is_none t.queue || holds (λ q. holds (lets q t (live_of l.tasks)) (live_object l.queues q)) t.queue)
    ≡ begins_in n.scheduler.queues.pool h t.queue
lets-begin n l v k h t g u = by_queue t.queue refl
  where
    by_live : (q : ℕ) → t.queue ≡ Some q → (o : Option HeldQueue) → slot_value n.scheduler.queues.pool q ≡ o
        → holds (lets q t (live_of l.tasks)) (live_object l.queues q) ≡ holds (λ y. may_begin h y.queue y.tasks) o
    by_live q names None dead = ap (holds (lets q t (live_of l.tasks))) (sym (v.queues.stands.found q) ∙ record-none n.scheduler.queues.pool q dead)
    by_live q names (Some x) live =
        ap (holds (lets q t (live_of l.tasks))) (sym (v.queues.stands.found q) ∙ record-value n.scheduler.queues.pool q x live)
        ∙ ap (λ (b : Bool). x.queue.enabled && (not x.queue.ordered || b)) (head-is-first n l v k q x live h t g (and_from _ _ (named-is_in q t.queue names) u))

    by_queue : (o : Option ℕ) → t.queue ≡ o
        → (is_none o || holds (λ q. holds (lets q t (live_of l.tasks)) (live_object l.queues q)) o) ≡ begins_in n.scheduler.queues.pool h o
    by_queue None names = refl
    by_queue (Some q) names = by_live q names (slot_value n.scheduler.queues.pool q) refl

-- How many unended tasks a queue has

Once : List ℕ → Type 0
Once [] = Unit {0}
Once (h ∷ hs) = (has_handle h hs ≡ false) × Once hs

order-once : (at : ℕ → Option Seen) (hs : List ℕ) → ((h : ℕ) → has_handle h hs ≡ true → (s : Seen) × (at h ≡ Some s)) → ListInOrder at hs → Once hs
unfolding Once
order-once at [] live o = tt
order-once at (h ∷ hs) live o = (by_test (has_handle h hs) refl, order-once at hs (λ j e. live j (or_right (h == j) _ e)) o.1)
  where
    by_test : (b : Bool) → has_handle h hs ≡ b → b ≡ false
    by_test false e = refl
    by_test true e =
        let s = live h (ap (λ (b : Bool). b || has_handle h hs) (eq-eqb h h refl)) in
        let less = o.0 h s.0 s.0 e s.1 s.1 in
        absurd (omega (arith, less))

none-pass : (q : Task → Bool) (es : List (ℕ × Task)) → any_live q es ≡ false → how_many (λ e. q e.1) es ≡ 0
none-pass q [] e = refl
none-pass q (x ∷ es) e = grind (arith, nat_tests, none-pass q es)

count-list : (q : Task → Bool) (hs : List ℕ) (es : List (ℕ × Task)) → Distinct es → Once hs
    → ((h : ℕ) → has_handle h hs ≡ true → (t : Task) × (lookup es h ≡ Some t) × (q t ≡ true))
    → ((h : ℕ) (t : Task) → lookup es h ≡ Some t → q t ≡ true → has_handle h hs ≡ true) → how_many (λ e. q e.1) es ≡ length hs
unfolding Once
count-list q [] es d o there back = none-pass q es (by_any (any_live q es) refl)
  where
    by_any : (b : Bool) → any_live q es ≡ b → b ≡ false
    by_any false e = refl
    by_any true e = let p = passing q es d e in absurd (false≢true (back p.handle p.value p.stands p.passes))
count-list q (h ∷ hs) es d o there back =
    let t = there h (ap (λ (b : Bool). b || has_handle h hs) (eq-eqb h h refl)) in
    let more = count-list q hs (pairs_without h es) (Distinct-without h es d) o.1 there_on back_on in
    let here : how_many (λ e. q e.1) es ≡ cond (q t.0) 1 0 + how_many (λ e. q e.1) (pairs_without h es) = how_many-without (λ e. q e.1) h t.0 es t.1 in
    let one : ◌≡◌ {A = ℕ} (cond (q t.0) 1 0) 1 = ap (λ (b : Bool). cond b 1 0) t.2 in
    omega (arith, here, one, more)
  where
    other : (j : ℕ) → has_handle j hs ≡ true → (b : Bool) → (h == j) ≡ b → b ≡ false
    other j e false is = refl
    other j e true is = absurd (false≢true (sym o.0 ∙ ap (λ (i : ℕ). has_handle i hs) (eqb-true h j is) ∙ e))

    there_on : (j : ℕ) → has_handle j hs ≡ true → (t : Task) × (lookup (pairs_without h es) j ≡ Some t) × (q t ≡ true)
    there_on j e =
        let t = there j (or_right (h == j) _ e) in
        (t.0, lookup-without h j es d ∙ ap (λ (b : Bool). cond b None (lookup es j)) (other j e (h == j) refl) ∙ t.1, t.2)

    back_on : (j : ℕ) (t : Task) → lookup (pairs_without h es) j ≡ Some t → q t ≡ true → has_handle j hs ≡ true
    back_on j t e p = by_handle (h == j) refl (sym (lookup-without h j es d) ∙ e)
      where
        by_handle : (b : Bool) → (h == j) ≡ b → cond b None (lookup es j) ≡ Some t → has_handle j hs ≡ true
        by_handle true is f = absurd (none-some _ f)
        by_handle false is f = or_only (h == j) _ is (back j t f p)

how_many-live : (q : Task → Bool) (l : List (Listed Task)) → count_listed q l ≡ how_many (λ e. q e.1) (live_of l)
unfolding live_of
how_many-live q [] = refl
how_many-live q (r ∷ rs) = grind (arith, nat_tests, how_many-live q rs)

pub count-queued : (n : PoolNode) (l : Lists) → Live n l → IsScheduler n.scheduler → (q : ℕ) (x : HeldQueue) → slot_value n.scheduler.queues.pool q ≡ Some x
    → count_listed (is_unended_in q) l.tasks ≡ length x.tasks
count-queued n l v k q x live = grind (arith, nat_tests, how_many-live, count-list, order-once, of-list, in-list)
