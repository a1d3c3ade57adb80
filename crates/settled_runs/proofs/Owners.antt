-- No seat of a run uses a handle that another seat was given: so what became of a group is told by the lines of its own seat.
use Rattle.settled_runs.proofs.Names.{Each, ◌≡◌, ℕ, Bool, true, false, List, refl, ◌∙◌, arith, ◌==◌, map, ◌||◌, eq-eqb, Layout, ObjectKind, Sort, Statement, Part, Workload, IsBoundAt, IsStatement, Op, Reply, handle_of, NodeEntry, handle_at, call_of, Line, true_false, is_look_at, waits_for, SettledRun, looks_at_all, starts_member, deed_spelled, lines_of, append_assoc, sym, ap, [], ◌∷◌, ◌++◌, length, entry, members_behind, members_of, word_row as row, nat_tests}
use Rattle.settled_runs.proofs.{SeatsGranted.seats, Walk.Seat, Walk.seat_granted, Along.step_bound, Along.step_statement}
use Rattle.settled_runs.proofs.Each.{CallEach, OnlyBy, is_outside, only_by, work_outside, map_run, ran, seat_within, step_each}
use Rattle.settled_runs.proofs.Places.{Gave, gave_in, one_seat, bound_gave, Handed, groups_handed, tasks_handed}

-- where a statement asks for an op of the class only with a handle that its own part bound, only the seat that was given the handle does
module _ {layout : Layout} {load : Workload} {es : List NodeEntry} {ns : List ℕ} (u : SettledRun layout load es ns) {k : ObjectKind} {t : Sort} (y : Handed k t)
    (who : ℕ) {h : ℕ} (mine : Gave k h (lines_of who es ns)) (p : Op → Bool) (outside : (o : Op) → is_outside o ≡ true → p o ≡ false)
    (calls : (before : List Statement) (s : Statement) (bound : List ℕ) → IsStatement before s
    → ((place : ℕ) → IsBoundAt t before place → handle_at bound place ≡ h → ⊥) → CallEach (λ o. p o ≡ false) (call_of bound s.deed)) where
  others : (w : ℕ) (q : Part) (rs : List Reply) → Seat layout load es ns w q rs → (w == who) ≡ false → Each (λ l. p l.op ≡ false) (lines_of w es ns)
  others w q rs x d =
      seat_within x.at (λ o. p o ≡ false) outside (λ s z. step_each (λ o. p o ≡ false) z (calls z.before s (map handle_of z.replies) (step_statement z x.are)
      (λ place o e. let v = step_bound z t place o in
      twice (bound_gave y q.statements x.at.body rs x.at.carried (seat_granted u x) place v.0 h (v.1 ∙ e)))))
    where
      twice : Gave k h x.at.body → ⊥
      twice g = true_false (eq-eqb w who (one_seat y (ran u) w who
          (gave_in (lines_of w es ns) x.at.start x.at.finish (x.at.is ∙ sym (append_assoc x.at.start x.at.body x.at.finish)) g) mine)) d

  one_user : OnlyBy who p es
  one_user =
      only_by (ran u) who p (λ o i. outside o (work_outside o i))
      (map_run (ran u) (Seat layout load es ns) (λ w q rs. (w == who) ≡ false
      → Each (λ l. p l.op ≡ false) (lines_of w es ns)) (λ w q rs l x d. others w q rs x d)
      (seats u))

-- The looks at a task

pub looks_outside : (h : ℕ) (o : Op) → is_outside o ≡ true → is_look_at h o ≡ false
looks_outside h o e1 = grind (arith, nat_tests)

pub looks_call : (h : ℕ) (before : List Statement) (s : Statement) (bound : List ℕ) → IsStatement before s
    → ((place : ℕ) → waits_for place s.deed ≡ true → IsBoundAt Sort.Task before place → handle_at bound place ≡ h → ⊥)
    → CallEach (λ o. is_look_at h o ≡ false) (call_of bound s.deed)
unfolding row deed_spelled
looks_call h before s bound e1 e2 = grind (arith, nat_tests)

-- only its own seat looks at a task
pub one_looks : {layout : Layout} {load : Workload} {es : List NodeEntry} {ns : List ℕ} (u : SettledRun layout load es ns) (who h : ℕ)
    → Gave ObjectKind.Task h (lines_of who es ns) → OnlyBy who (is_look_at h) es
one_looks u who h mine = one_user u tasks_handed who mine (is_look_at h) (looks_outside h)
    (λ b s bound st a. looks_call h b s bound st (λ place w o e. a place o e))

-- the op puts a task into the group, or looks at the whole of it
abbrev pub uses : ℕ → Op → Bool
uses g o = starts_member g o || looks_at_all g o

pub uses_call : (h : ℕ) (before : List Statement) (s : Statement) (bound : List ℕ) → IsStatement before s
    → ((place : ℕ) → IsBoundAt Sort.Group before place → handle_at bound place ≡ h → ⊥) → CallEach (λ o. uses h o ≡ false) (call_of bound s.deed)
unfolding row deed_spelled
uses_call h before s bound e1 e2 = grind (arith, nat_tests)

-- only its own seat uses a group
pub one_uses : {layout : Layout} {load : Workload} {es : List NodeEntry} {ns : List ℕ} (u : SettledRun layout load es ns) (who h : ℕ)
    → Gave ObjectKind.Group h (lines_of who es ns) → OnlyBy who (uses h) es
one_uses u who h mine = one_user u groups_handed who mine (uses h) (λ o i. grind (arith, nat_tests, i)) (uses_call h)

-- Which tasks were put into a group is told by the lines of its own seat

-- the tasks that lines of the seat put into the group
abbrev pub members_in : ℕ → List ℕ → List Line → List ℕ
members_in g hs [] = hs
members_in g hs (l ∷ ls) = members_in g (members_behind g hs (entry 0 l.op l.reply)) ls

pub members_append : (g : ℕ) (hs : List ℕ) (ls ks : List Line) → members_in g hs (ls ++ ks) ≡ members_in g (members_in g hs ls) ks
members_append g hs [] ks = refl
members_append g hs (l ∷ ls) ks = members_append g (members_behind g hs (entry 0 l.op l.reply)) ls ks

unused : (g : ℕ) (hs : List ℕ) (e : NodeEntry) → uses g e.op ≡ false → members_behind g hs e ≡ hs
unused g hs e e1 = grind (arith, nat_tests)

-- lines that don't use it put none in
pub unused_lines : (g : ℕ) (hs : List ℕ) (ls : List Line) → Each (λ l. uses g l.op ≡ false) ls → members_in g hs ls ≡ hs
unused_lines g hs [] a = refl
unused_lines g hs (l ∷ ls) a = ap (λ (x : List ℕ). members_in g x ls) (unused g hs (entry 0 l.op l.reply) a.0) ∙ unused_lines g hs ls a.1

-- where no other seat uses the group
pub members_lines : (who g : ℕ) (hs : List ℕ) (L : List NodeEntry) (ks : List ℕ) → length L ≡ length ks → OnlyBy who (uses g) L
    → members_of g hs L ≡ members_in g hs (lines_of who L ks)
unfolding lines_of members_of
members_lines who g hs [] ks l o = refl
members_lines who g hs (e ∷ es) [] l o = absurd (omega arith)
members_lines who g hs (e ∷ es) (k ∷ ks) l o =
    grind (
      arith,
      nat_tests,
      o.0,
      unused g hs e,
      members_lines who g hs es ks (omega arith) o.1,
      members_lines who g (members_behind g hs e) es ks
          (omega arith) o.1,
    )
