-- The lines of the statements of a part, found by the places of the statements: no two statements of a run are given one handle of one kind of object.
use Rattle.settled_runs.proofs.Names.{nat_tests, ◌≡◌, ℕ, Bool, true, false, List, [], ◌∷◌, ◌++◌, Some, refl, sym, ◌∙◌, ap, subst, append_assoc, inl, inr, ◌⊎◌, map, slice_get, list_any, append-nil, list_any-append, Kind, Mask, Action, new_action, Queue, Deed, Statement, Op, Reply, handle_of, new_queue, some_same, handle_at, call_of, Line, line_with, MadeLines, true_false, GrantedTo, AllGranted, action_in, actions_in, queue_in, binds, Carried, or_cases, none_some, ◌≤◌, arith, length, ◌<◌, is_some, eq-eqb, Sort, ObjectKind, entry, State, opening, NodeEntry, IsNext, next, both_true, issues, times, live_listed, started_as, issues_fresh, fresh_unlisted, LegalFrom, lines_of, cases_order, false_from_ne_true, Each, cut_from, after_from, makes_object as makes, listed_next, Layout, Workload, run_terms}
use Rattle.settled_runs.proofs.{Stays.made_there, Waits.legal_behind, Each.actions_append, Each.each_behind, Each.RanSettled}
use Rattle.settled_runs.proofs.Along.{placed, Cut, cut, BoundBy, Found, along, found_bound, found_granted, step_granted, found, Step, step_handle, step_shorter}

-- one of these lines asked for this and was given this handle
pub record Has (ls : List Line) (o : Op) (h : ℕ) : Type 0 where
  pub before : List Line
  pub beside : ℕ
  pub behind : List Line
  pub is : ls ≡ before ++ line_with o (Reply.Handle h) beside ∷ behind

pub has_more : (ks ls ms : List Line) (o : Op) (h : ℕ) → Has ls o h → Has (ks ++ (ls ++ ms)) o h
has_more ks ls ms o h x = record {
  before = ks ++ x.before;
  beside = x.beside;
  behind = x.behind ++ ms;
  is = ap (λ (z : List Line). ks ++ (z ++ ms)) x.is
      ∙ ap (λ (z : List Line). ks ++ z) (append_assoc x.before (line_with o (Reply.Handle h) x.beside ∷ x.behind) ms)
      ∙ sym (append_assoc ks x.before (line_with o (Reply.Handle h) x.beside ∷ (x.behind ++ ms)));
}

pub step_has : {ss : List Statement} {ls : List Line} {rs : List Reply} {s : Statement} (x : Step ss ls rs s) (o : Op) (h : ℕ)
    → x.front ≡ line_with o (Reply.Handle h) 0 ∷ [] → Has ls o h
step_has x o h e = record { before = x.first; beside = 0; behind = x.more; is = x.is ∙ ap (λ (z : List Line). x.first ++ (z ++ x.more)) e }

-- the line of a statement that makes a group
group_line : (bound : List ℕ) (d : Deed) (front : List Line) (r : Reply) → binds Sort.Group d ≡ true → MadeLines (call_of bound d) front r → GrantedTo d r
    → front ≡ line_with Op.GroupCreate (Reply.Handle (handle_of r)) 0 ∷ []
unfolding binds
group_line bound d front r e1 e2 e3 = grind (arith, nat_tests)

-- the queue of a place
pub record HasQueue (ls : List Line) (h : ℕ) (x : Queue) : Type 0 where
  pub id : ℕ
  pub job : ℕ
  pub priority : ℕ
  pub limit : ℕ
  pub ordered : Bool
  pub retain : Bool
  pub same : new_queue id job priority limit ordered retain ≡ x
  pub made : Has ls (Op.QueueCreate id job priority limit ordered retain) h

module _ (ss : List Statement) (ls : List Line) (rs : List Reply) (c : Carried MadeLines [] ss ls rs) (a : AllGranted ss rs) where
  -- the group of a place
  module _ (place : ℕ) (b : BoundBy Sort.Group ss place) where
    abbrev pub at_group : Found ss ls rs place b.statement
    at_group = found ss ls rs c place b.statement b.found

    pub group_front : at_group.step.front ≡ line_with Op.GroupCreate (Reply.Handle (handle_at (map handle_of rs) place)) 0 ∷ []
    group_front =
        group_line (map handle_of at_group.step.replies) b.statement.deed at_group.step.front at_group.step.reply b.binding at_group.step.made
        (found_granted at_group a)
        ∙ ap (λ (n : ℕ). line_with Op.GroupCreate (Reply.Handle n) 0 ∷ []) (sym (found_bound at_group))

  pub queue_has : (place : ℕ) (s : Statement) (x : Queue) → slice_get ss place ≡ Some s → queue_in s.deed ≡ Some x
      → HasQueue ls (handle_at (map handle_of rs) place) x
  queue_has place s x e q = by s.deed f.step.made q (found_granted f a)
    where
      f : Found ss ls rs place s
      f = found ss ls rs c place s e

      by : (d : Deed) → MadeLines (call_of (map handle_of f.step.replies) d) f.step.front f.step.reply → queue_in d ≡ Some x → GrantedTo d f.step.reply
          → HasQueue ls (handle_at (map handle_of rs) place) x
      by (Deed.Queue id job priority limit ordered retain) m i g =
          let o : Op = Op.QueueCreate id job priority limit ordered retain in
          record {
            id = id;
            job = job;
            priority = priority;
            limit = limit;
            ordered = ordered;
            retain = retain;
            same = some_same i;
            made = subst (Has ls o) (sym (found_bound f ∙ ap handle_of g.1)) (step_has f.step o g.0 (m.0 ∙ ap (λ (r : Reply). line_with o r 0 ∷ []) g.1));
          }
      by _ m i g = none_some i

-- an action that passes and was made so
pub record ActionOf (M : Op → ℕ → Type 0) (p : Action → Bool) : Type 0 where
  pub job : ℕ
  pub kind : Kind
  pub mask : Mask
  pub handle : ℕ
  pub made : M (Op.ActionCreate job kind mask) handle
  pub passes : p (new_action job kind mask.0) ≡ true

pub action_map : (M N : Op → ℕ → Type 0) (p : Action → Bool) → ((o : Op) (h : ℕ) → M o h → N o h) → ActionOf M p → ActionOf N p
action_map M N p f x = record {
  job = x.job;
  kind = x.kind;
  mask = x.mask;
  handle = x.handle;
  made = f (Op.ActionCreate x.job x.kind x.mask) x.handle x.made;
  passes = x.passes;
}

-- an action of these statements
abbrev pub HasAction : List Line → (Action → Bool) → Type 0
HasAction ls p = ActionOf (Has ls) p

pub either : {X : Type 0} (p : X → Bool) (xs ys : List X) → list_any p (xs ++ ys) ≡ true → (list_any p xs ≡ true) ⊎ (list_any p ys ≡ true)
either p xs ys e = or_cases _ _ (sym (list_any-append p xs ys) ∙ e)

pub action_has : (ss : List Statement) (ls : List Line) (rs : List Reply) (p : Action → Bool) → Carried MadeLines [] ss ls rs → AllGranted ss rs
    → list_any p (actions_in ss) ≡ true → HasAction ls p
action_has ss ls rs p c a =
    along ss ls rs (λ b l r. list_any p (actions_in b) ≡ true → HasAction l p)
    (λ s x i e. by_part x.first x.front i (here (map handle_of x.replies) x.first x.front x.reply s.deed x.made (step_granted x a).1)
    (either p (actions_in x.before) (actions_in (s ∷ [])) (sym (ap (list_any p) (actions_append x.before (s ∷ []))) ∙ e))) c (λ e. true_false e refl)
  where
    by_part : {A B : Type 0} (l1 front : List Line) → (A → HasAction l1 p) → (B → HasAction (l1 ++ front) p) → A ⊎ B → HasAction (l1 ++ front) p
    by_part l1 front i k (inl e) = action_map (Has l1) (Has (l1 ++ front)) p (has_more [] l1 front) (i e)
    by_part l1 front i k (inr e) = k e

    here : (bound : List ℕ) (l1 front : List Line) (r : Reply) (d : Deed) → MadeLines (call_of bound d) front r → GrantedTo d r
        → list_any p (action_in d ++ []) ≡ true → HasAction (l1 ++ front) p
    here bound l1 front r (Deed.Action job kind mask) m g e = record {
      job = job;
      kind = kind;
      mask = mask;
      handle = g.0;
      made = record {
        before = l1;
        beside = 0;
        behind = [];
        is = ap (λ (z : List Line). l1 ++ z) (m.0 ∙ ap (λ (x : Reply). line_with (Op.ActionCreate job kind mask) x 0 ∷ []) g.1);
      };
      passes = grind (arith, nat_tests, e);
    }
    here bound l1 front r _ m g e = true_false e refl

-- No handle is given twice

-- what is issued is new, and stays listed
none_later : (k : ObjectKind) (h : ℕ) (s : State) (L : List NodeEntry) → LegalFrom s L → 1 ≤ times k h s → Each (λ e. issues k h e ≡ false) L
unfolding LegalFrom
none_later k h s [] l t = tt
none_later k h s (e ∷ es) l t = (
  false_from_ne_true (issues k h e) (λ i. let z : times k h s ≡ 0 = fresh_unlisted k s h (issues_fresh k s e h l.0 i) in
      absurd (omega arith)),
  none_later k h (next s e) es l.1 (listed_next k s e h t),
)

-- a kind whose objects are listed once they are issued
abbrev pub IsListedKind : ObjectKind → Type 0
IsListedKind k = (s : State) (who : ℕ) (o : Op) (h : ℕ) → makes k o ≡ true → IsNext s (entry who o (Reply.Handle h))
    → 1 ≤ times k h (next s (entry who o (Reply.Handle h)))

queues_list : IsListedKind ObjectKind.Queue
queues_list s who (Op.QueueCreate id job priority limit ordered retain) h m n =
    live_listed h (next s (entry who (Op.QueueCreate id job priority limit ordered retain) (Reply.Handle h))).queues
    (ap is_some (made_there s (Op.QueueCreate id job priority limit ordered retain) who h n))
queues_list s who _ h m n = true_false m refl

groups_list : IsListedKind ObjectKind.Group
groups_list s who Op.GroupCreate h m n =
    live_listed h (next s (entry who Op.GroupCreate (Reply.Handle h))).groups (ap is_some (made_there s Op.GroupCreate who h n))
groups_list s who _ h m n = true_false m refl

tasks_list : IsListedKind ObjectKind.Task
tasks_list s who o h m n = (started_as s (entry who o (Reply.Handle h)) h n (both_true _ _ m (eq-eqb h h refl))).2.some

no_more : (k : ObjectKind) (h : ℕ) (A B : List NodeEntry) (who : ℕ) (o : Op) → Each (λ e. issues k h e ≡ false) (A ++ entry who o (Reply.Handle h) ∷ B)
    → makes k o ≡ true → ⊥
no_more k h A B who o a m = true_false (both_true _ _ m (eq-eqb h h refl)) (each_behind (λ e. issues k h e ≡ false) A (entry who o (Reply.Handle h) ∷ B) a).0

-- lines of which one was given the handle for an object of the kind
pub record Gave (k : ObjectKind) (h : ℕ) (ls : List Line) : Type 0 where
  pub op : Op
  pub makes_it : makes k op ≡ true
  pub has : Has ls op h

pub gave_in : {k : ObjectKind} {h : ℕ} {ls : List Line} (L start X : List Line) → L ≡ (start ++ ls) ++ X → Gave k h ls → Gave k h L
gave_in {h} {ls} L start X e g = record {
  op = g.op;
  makes_it = g.makes_it;
  has = subst (λ (q : List Line). Has q g.op h) (sym (e ∙ append_assoc start ls X)) (has_more start ls X g.op h g.has);
}

-- the one line of a statement that made an object of the kind
pub record MadeOne (k : ObjectKind) (front : List Line) (r : Reply) : Type 0 where
  pub op : Op
  pub handle : ℕ
  pub makes_it : makes k op ≡ true
  pub told : r ≡ Reply.Handle handle
  pub is : front ≡ line_with op (Reply.Handle handle) 0 ∷ []

-- each statement that binds the sort makes an object of the kind, which is listed once it is issued
pub record Handed (k : ObjectKind) (t : Sort) : Type 0 where
  pub one : (d : Deed) (bound : List ℕ) (front : List Line) (r : Reply) → binds t d ≡ true → GrantedTo d r → MadeLines (call_of bound d) front r
      → MadeOne k front r
  pub listed : IsListedKind k

pub queues_handed : Handed ObjectKind.Queue Sort.Queue
unfolding binds
queues_handed = record { one = grind (arith, nat_tests); listed = queues_list }

pub tasks_handed : Handed ObjectKind.Task Sort.Task
unfolding binds
tasks_handed = record { one = grind (arith, nat_tests); listed = tasks_list }

pub groups_handed : Handed ObjectKind.Group Sort.Group
unfolding binds
groups_handed = record { one = grind (arith, nat_tests); listed = groups_list }

module _ {k : ObjectKind} {t : Sort} (y : Handed k t) where
  pub made_there_one : {ss : List Statement} {ls : List Line} {rs : List Reply} {place : ℕ} → AllGranted ss rs → (b : BoundBy t ss place)
      → (f : Found ss ls rs place b.statement) → MadeOne k f.step.front f.step.reply
  made_there_one g b f = y.one b.statement.deed (map handle_of f.step.replies) f.step.front f.step.reply b.binding (found_granted f g) f.step.made

  -- the handle of a place was given
  pub bound_gave : (ss : List Statement) (ls : List Line) (rs : List Reply) → Carried MadeLines [] ss ls rs → AllGranted ss rs → (place : ℕ)
      → BoundBy t ss place
      → (h : ℕ) → handle_at (map handle_of rs) place ≡ h → Gave k h ls
  bound_gave ss ls rs c g place b h e =
      let f : Found ss ls rs place b.statement = found ss ls rs c place b.statement b.found in
      let x : MadeOne k f.step.front f.step.reply = made_there_one g b f in
      let same : x.handle ≡ h = sym (found_bound f ∙ ap handle_of x.told) ∙ e in
      record { op = x.op; makes_it = x.makes_it; has = step_has f.step x.op h (x.is ∙ ap (λ (j : ℕ). line_with x.op (Reply.Handle j) 0 ∷ []) same) }

  module _ {layout : Layout} {load : Workload} {es : List NodeEntry} {ns : List ℕ} (u : RanSettled layout load es ns) where
    -- behind an entry that issues the handle none does
    none_behind : (h : ℕ) (A B : List NodeEntry) (who : ℕ) (o : Op) → es ≡ A ++ entry who o (Reply.Handle h) ∷ B → makes k o ≡ true
        → Each (λ e. issues k h e ≡ false) B
    none_behind h A B who o is m =
        let s : State = opening (run_terms layout load) in
        let l : LegalFrom s (A ++ entry who o (Reply.Handle h) ∷ B) = subst (LegalFrom s) is u.legal.from in
        none_later k h (next (after_from s A) (entry who o (Reply.Handle h))) B (legal_behind s A (entry who o (Reply.Handle h)) B l)
        (y.listed (after_from s A) who o h m (cut_from s A B (entry who o (Reply.Handle h)) l))

    -- no two seats were given one handle
    pub one_seat : {h : ℕ} (a b : ℕ) → Gave k h (lines_of a es ns) → Gave k h (lines_of b es ns) → a ≡ b
    one_seat {h} a b x z =
        let c = cut a es ns x.has.before (line_with x.op (Reply.Handle h) x.has.beside) x.has.behind x.has.is in
        let d = cut b es ns z.has.before (line_with z.op (Reply.Handle h) z.has.beside) z.has.behind z.has.is in
        elim (placed c.before (entry a x.op (Reply.Handle h)) c.behind d.before (entry b z.op (Reply.Handle h)) d.behind (sym c.is ∙ d.is)) as (λ q. a ≡ b) [
          | inl p ↦ absurd (no_more k h p.between d.behind b z.op
              (subst (Each (λ e. issues k h e ≡ false)) p.back (none_behind h c.before c.behind a x.op c.is x.makes_it)) z.makes_it)
          | inr (inl p) ↦ ap (λ (e : NodeEntry). e.who) p.here
          | inr (inr p) ↦ absurd (no_more k h p.between c.behind a x.op
              (subst (Each (λ e. issues k h e ≡ false)) p.back (none_behind h d.before d.behind b z.op d.is z.makes_it)) x.makes_it)
        ]

    -- and no line of a seat behind another
    given_once : (who : ℕ) (A : List Line) (o : Op) (h n : ℕ) (B : List Line) → lines_of who es ns ≡ A ++ line_with o (Reply.Handle h) n ∷ B → makes k o ≡ true
        → Gave k h A → ⊥
    given_once who A o h n B at m x =
        let c : Cut who es ns A (line_with o (Reply.Handle h) n) B = cut who es ns A (line_with o (Reply.Handle h) n) B at in
        let d : Cut who c.before c.first x.has.before (line_with x.op (Reply.Handle h) x.has.beside) x.has.behind =
        cut who c.before c.first x.has.before (line_with x.op (Reply.Handle h) x.has.beside) x.has.behind (c.done ∙ x.has.is) in
        no_more k h d.behind c.behind who o
        (none_behind h d.before (d.behind ++ entry who o (Reply.Handle h) ∷ c.behind) who x.op (c.is
        ∙ ap (λ (z : List NodeEntry). z ++ entry who o (Reply.Handle h) ∷ c.behind) d.is
        ∙ append_assoc d.before (entry who x.op (Reply.Handle h) ∷ d.behind) (entry who o (Reply.Handle h) ∷ c.behind)) x.makes_it) m

    -- the handle of a place is that of no other place
    pub one_bound : (who : ℕ) (start : List Line) (ss : List Statement) (ls : List Line) (rs : List Reply) (X : List Line)
        → lines_of who es ns ≡ (start ++ ls) ++ X → Carried MadeLines [] ss ls rs → AllGranted ss rs
        → (a b : ℕ) → BoundBy t ss a → BoundBy t ss b → handle_at (map handle_of rs) a ≡ handle_at (map handle_of rs) b → a ≡ b
    one_bound who start ss ls rs X at c g a b x z e = by (cases_order a b)
      where
        clash : (a b : ℕ) → a < b → BoundBy t ss a → BoundBy t ss b → handle_at (map handle_of rs) a ≡ handle_at (map handle_of rs) b → ⊥
        clash a b l x z e =
            let f : Found ss ls rs b z.statement = found ss ls rs c b z.statement z.found in
            let v : length f.step.before ≡ b = f.early in
            let w : MadeOne k f.step.front f.step.reply = made_there_one g z f in
            let same : handle_at (map handle_of f.step.replies) a ≡ w.handle =
            sym (step_handle f.step a (omega arith)) ∙ e ∙ found_bound f ∙ ap handle_of w.told in
            let i : Gave k w.handle f.step.first =
            bound_gave f.step.before f.step.first f.step.replies f.step.carried (step_granted f.step g).0 a
            (step_shorter f.step t a (omega arith) x) w.handle same in
            given_once who (start ++ f.step.first) w.op w.handle 0 (f.step.more ++ X)
            (at ∙ ap (λ (q : List Line). (start ++ q) ++ X) (f.step.is ∙ ap (λ (q : List Line). f.step.first ++ (q ++ f.step.more)) w.is)
            ∙ ap (λ (q : List Line). q ++ X) (sym (append_assoc start f.step.first (line_with w.op (Reply.Handle w.handle) 0 ∷ f.step.more)))
            ∙ append_assoc (start ++ f.step.first) (line_with w.op (Reply.Handle w.handle) 0 ∷ f.step.more) X)
            w.makes_it (gave_in (start ++ f.step.first) start [] (sym (append-nil (start ++ f.step.first))) i)

        by : (a ≡ b) ⊎ ((a < b) ⊎ (b < a)) → a ≡ b
        by (inl i) = i
        by (inr (inl i)) = absurd (clash a b i x z e)
        by (inr (inr i)) = absurd (clash b a i z x (sym e))
