-- In a run of a settled workload the node is open before each statement's entry, there is room for what it asks for, and the ids of queues are new.
use Rattle.settled_runs.proofs.Names.{nat_tests, Each, ◌≡◌, inl, inr, ℕ, suc, ◌+◌, ◌≤◌, ◌<◌, Bool, true, false, List, [], ◌∷◌, ◌++◌, refl, sym, ◌∙◌, ap, subst, arith, append_assoc, ◌==◌, map, eq-eqb, Layout, entry, entries_of, how_many, Deed, Statement, Part, Workload, begins, IsFurther, MainFirst, Op, Reply, NodeEntry, Legal, Legal-prefix, call_of, Line, line_with, head_lines, tail_of_main, in_lines, MainRan, closes, NoClose, is_release_op, true_false, run_terms, AreQuiet, handle_of, IsOpened, all_statements, actions_in, SettledRun, is_begin, lines_of, CallersRan, has_begin, is_some, list_any, NodeSettings, holds, ObjectKind, fst_true, some_entry, entries_that, makes_one, HasObjectRoom, makes_queue, queue_in, makes_group, makes_task, has_different_ids, objects_of, makes_object as makes, makes_one_action as makes_action, is_settled}
use Rattle.settled_runs.proofs.{Granted.bit, Stays.quiet_front, RunEnds.all_quiet, RunEnds.planned}
use Rattle.settled_runs.proofs.Along.{Placed, placed, Cut, cut, no_end, Step}
use Rattle.settled_runs.proofs.Each.{AllSeats, OnlyBy, PartAt, each_behind, each_front, each_of, is_at_work, map_seats, only_by, settled_whole, run_parts, seat_each, with_each, each_op, step_each, ran}
use Rattle.settled_runs.proofs.Counted.{asks, asked, many_append, many_none, only_asks, seat_asks, CallAsks, calls_none, no_bit, statements_ask, IsClass, run_asks, entries_asks, cut_asks}

-- Which ops close, and which release

-- what a call may ask for: no op that closes, and one that makes an action, a group, a queue or a task only where its statement makes one
calls_ask : (bound : List ℕ) (d : Deed)
    → CallAsks closes (bit false) (call_of bound d) × CallAsks (makes ObjectKind.Action) (bit (makes_action d)) (call_of bound d)
    × CallAsks (makes ObjectKind.Group) (bit (makes_group d)) (call_of bound d)
    × CallAsks (makes ObjectKind.Queue) (bit (is_some (queue_in d))) (call_of bound d) × CallAsks (makes ObjectKind.Task) (bit (makes_task d)) (call_of bound d)
calls_ask bound d = grind (arith, nat_tests)

pub release_calls : (bound : List ℕ) (d : Deed) → CallAsks is_release_op (bit (is_begin d)) (call_of bound d)
unfolding is_begin
release_calls bound d = grind (arith, nat_tests)

pub no_close : (L : List NodeEntry) → asks closes L ≡ 0 → NoClose L
no_close [] k = tt
no_close (e ∷ es) k = (no_bit (closes e.op) (omega arith), no_close es (omega arith))

-- an entry of the seat stands in no list without any
none_of_seat : (who : ℕ) (X Y : List NodeEntry) (e : NodeEntry) → e.who ≡ who → entries_of who (X ++ e ∷ Y) ≡ [] → ⊥
none_of_seat who [] Y e w i = grind (arith, nat_tests)
none_of_seat who (x ∷ X) Y e w i = grind (arith, nat_tests, none_of_seat who X Y e w)

-- Main's part, and the others

pub record MainOf (f : ℕ → List Line) (main : ℕ) (ps : List Part) (rss : List (List Reply)) : Type 0 where
  pub part : Part
  pub others : List Part
  pub replies : List Reply
  pub further : List (List Reply)
  pub are : ps ≡ part ∷ others
  pub told : rss ≡ replies ∷ further
  pub ran : MainRan in_lines part.statements (f main) replies
  pub callers : CallersRan in_lines f (suc main) others further

pub begin_none : (before : List Statement) (s : Statement) (rest : List Statement) → begins (before ++ s ∷ rest) ≡ 0 → is_begin s.deed ≡ false
begin_none [] s rest e = no_bit (is_begin s.deed) (omega arith)
begin_none (t ∷ before) s rest e = begin_none before s rest (omega arith)

pub first_head : (b : Bool) (X : List Line) → (R : List Line) × (head_lines b ++ X ≡ line_with Op.Initialize Reply.Ok 0 ∷ R)
first_head true X = (X, refl)
first_head false X = (line_with Op.Release Reply.Ok 0 ∷ X, refl)

module _ {layout : Layout} {load : Workload} {es : List NodeEntry} {ns : List ℕ} (u : SettledRun layout load es ns) where
  pub quiet : AreQuiet es
  quiet = all_quiet (actions_in (all_statements load)) es (planned (ran u))

  abbrev pub main : ℕ
  main = load.settings.workers

  pub first_of : MainOf (λ who. lines_of who es ns) main load.parts u.run.replies
  first_of = grind (arith, nat_tests, u.run.parts)

  pub all_at : AllSeats (PartAt load es ns) main (first_of.part ∷ first_of.others) (first_of.replies ∷ first_of.further)
  all_at =
      subst (AllSeats (PartAt load es ns) main (first_of.part ∷ first_of.others)) first_of.told
      (subst (λ (ps : List Part). AllSeats (PartAt load es ns) main ps u.run.replies) first_of.are (run_parts (ran u)))

  further_are : Each IsFurther first_of.others
  further_are = (subst MainFirst first_of.are u.formed.main).1

  -- what no statement of a further caller asks for, main alone asks for
  pub only_main : (p : Op → Bool) (q : Deed → Bool) → ((bound : List ℕ) (d : Deed) → CallAsks p (bit (q d)) (call_of bound d))
      → ((o : Op) → is_at_work o ≡ true → p o ≡ false) → p Op.Enter ≡ false
      → ((w : ℕ) (x : Part) (rs : List Reply) → main < w → (y : PartAt load es ns w x rs) → IsFurther x → (s : Statement) → Step x.statements y.body rs s
      → q s.deed ≡ false) → OnlyBy main p es
  only_main p q calls work enter further =
      only_by (ran u) main p work
      (subst (λ (ps : List Part). AllSeats Others main ps u.run.replies) (sym first_of.are)
      (subst (AllSeats Others main (first_of.part ∷ first_of.others)) (sym first_of.told) (
        (λ i. true_false (eq-eqb main main refl) i),
        map_seats (λ w x rs. PartAt load es ns w x rs
            × IsFurther x) Others (suc main) (λ w x rs l y i. each w x rs l y.0 y.1) (suc main) first_of.others first_of.further (omega arith)
            (with_each (PartAt load es ns) IsFurther (suc main) first_of.others first_of.further all_at.1 further_are),
      )))
    where
      Others : ℕ → Part → List Reply → Type 0
      Others w x rs = (w == main) ≡ false → Each (λ l. p l.op ≡ false) (lines_of w es ns)

      each : (w : ℕ) (x : Part) (rs : List Reply) → main < w → PartAt load es ns w x rs → IsFurther x → Each (λ l. p l.op ≡ false) (lines_of w es ns)
      each w x rs l y i =
          let ends : Each (λ k. p k.op ≡ false) (y.start ++ y.finish) =
          each_op (λ o. o ≡ Op.Enter) (λ o. p o ≡ false) (λ o e. ap p e ∙ enter) (y.start ++ y.finish) (y.enters l) in
          seat_each y (λ o. p o ≡ false) (each_front (λ (k : Line). p k.op ≡ false) y.start y.finish ends)
          (each_behind (λ (k : Line). p k.op ≡ false) y.start y.finish ends)
          (λ s z. step_each (λ o. p o ≡ false) z
          (calls_none p (call_of (map handle_of z.replies) s.deed) (q s.deed) (calls (map handle_of z.replies) s.deed) (further w x rs l y i s z)))

  pub releases_main : OnlyBy main is_release_op es
  releases_main = only_main is_release_op is_begin release_calls (λ o i. grind (arith, nat_tests, i)) refl
      (λ w x rs l y i s z. begin_none z.before s z.rest (ap begins (sym z.parted) ∙ i.begin))

  -- no statement closes, and main closes twice
  closed_twice : asks closes es ≤ 2
  closed_twice =
      let a : asks closes es ≤ asked closes (lines_of main es ns) =
      only_asks main closes es ns u.same (only_main closes (λ d. false) (λ bound d. (calls_ask bound d).0) (λ o i. grind (arith, nat_tests, i)) refl
      (λ w x rs l y i s z. refl)) in
      let b : asked closes (lines_of main es ns)
      ≡ asked closes (head_lines (has_begin first_of.part.statements)) + asked closes (first_of.ran.body ++ tail_of_main) =
      ap (asked closes) first_of.ran.is ∙ many_append (λ l. closes l.op) (head_lines (has_begin first_of.part.statements)) (first_of.ran.body
      ++ tail_of_main) in
      let c : asked closes (first_of.ran.body ++ tail_of_main) ≡ asked closes first_of.ran.body + 2 =
      many_append (λ l. closes l.op) first_of.ran.body tail_of_main in
      let d : asked closes first_of.ran.body ≤ how_many (λ s. false) first_of.part.statements =
      statements_ask closes (λ d. false) first_of.part.statements first_of.ran.body first_of.replies first_of.ran.carried
      (λ s z. (calls_ask (map handle_of z.replies) s.deed).0) in
      let e : how_many (λ s. false) first_of.part.statements ≡ 0 =
      many_none (λ s. false) first_of.part.statements (each_of (λ s. false ≡ false) (λ s. refl) first_of.part.statements) in
      let f : asked closes (head_lines (has_begin first_of.part.statements)) ≡ 0 = none (has_begin first_of.part.statements) in
      omega arith
    where
      none : (b : Bool) → asked closes (head_lines b) ≡ 0
      none true = refl
      none false = refl

  module _ {who : ℕ} {A : List Line} {l : Line} {B : List Line} (c : Cut who es ns A l B) where
    abbrev this : NodeEntry
    this = entry who l.op l.reply

    pub legal_here : Legal (run_terms layout load) (c.before ++ this ∷ [])
    legal_here = Legal-prefix (run_terms layout load) (c.before ++ this
        ∷ []) c.behind (subst (Legal (run_terms layout load)) (c.is ∙ sym (append_assoc c.before (this ∷ []) c.behind)) u.legal)

    pub legal_before : Legal (run_terms layout load) c.before
    legal_before = Legal-prefix (run_terms layout load) c.before (this ∷ []) legal_here

    pub quiet_before : AreQuiet c.before
    quiet_before = quiet_front c.before (this ∷ c.behind) (subst AreQuiet c.is quiet)

    -- where two entries behind it close, none before it does
    unclosed : 2 ≤ asks closes c.behind → asks closes c.before ≡ 0
    unclosed k = let a = cut_asks c closes in let b : asks closes es ≤ 2 = closed_twice in omega (arith, a)

    -- main's close stands behind each entry of its statements
    pub main_unclosed : (C : List Line) → B ≡ C ++ tail_of_main → asks closes c.before ≡ 0
    main_unclosed C i =
        let a : asked closes (lines_of who c.behind c.rest) ≤ asks closes c.behind = seat_asks closes who c.behind c.rest (c.alike u.same) in
        let b : asked closes (lines_of who c.behind c.rest) ≡ asked closes C + 2 =
        ap (asked closes) (c.left ∙ i) ∙ many_append (λ k. closes k.op) C tail_of_main in
        unclosed (omega arith)

    -- and each of a further caller's
    pub further_unclosed : main < who → asks closes c.before ≡ 0
    further_unclosed k = by (placed c.before this c.behind u.run.ends.before close last (sym c.is ∙ u.run.ends.closes))
      where
        close : NodeEntry
        close = entry main Op.Close Reply.Ok

        last : List NodeEntry
        last = u.run.ends.behind ++ entry main Op.Final Reply.Ok ∷ []

        other : who ≡ main → ⊥
        other i = omega arith

        late : (Q : List NodeEntry) → last ≡ Q ++ this ∷ c.behind → ⊥
        late Q i = by_last (placed u.run.ends.behind (entry main Op.Final Reply.Ok) [] Q this c.behind i)
          where
            by_last : Placed u.run.ends.behind (entry main Op.Final Reply.Ok) [] Q this c.behind → ⊥
            by_last (inl p) = no_end p.between this c.behind p.back
            by_last (inr (inl p)) = other (sym (ap (λ (e : NodeEntry). e.who) p.here))
            by_last (inr (inr p)) = none_of_seat who Q p.between this refl (sym (ap (entries_of who) p.front) ∙ u.run.ends.callers_ended who k)

        by : Placed c.before this c.behind u.run.ends.before close last → asks closes c.before ≡ 0
        by (inl p) =
            let a : asks closes c.behind ≡ asks closes p.between + (1 + asks closes last) =
            ap (asks closes) p.back ∙ many_append (λ e. closes e.op) p.between (close ∷ last) in
            let b : asks closes last ≡ asks closes u.run.ends.behind + (1 + 0) =
            many_append (λ e. closes e.op) u.run.ends.behind (entry main Op.Final Reply.Ok ∷ []) in
            unclosed (omega arith)
        by (inr (inl p)) = absurd (other (ap (λ (e : NodeEntry). e.who) p.here))
        by (inr (inr p)) = absurd (late p.between p.back)

-- An opened node

pub is_opened : (who : ℕ) (L : List NodeEntry) (ks : List ℕ) (R : List Line) → lines_of who L ks ≡ line_with Op.Initialize Reply.Ok 0 ∷ R → asks closes L ≡ 0
    → IsOpened L
is_opened who L ks R i k =
    let d : Cut who L ks [] (line_with Op.Initialize Reply.Ok 0) R = cut who L ks [] (line_with Op.Initialize Reply.Ok 0) R i in
    let a : asks closes L ≡ asks closes d.before + (0 + asks closes d.behind) = cut_asks d closes in
    record { before = d.before; who = who; behind = d.behind; is = d.is; unclosed = no_close d.behind (let z : asks closes L ≡ 0 = k in omega arith) }

-- The ops that make objects, and the statements that do

abbrev has_id : ℕ → Deed → Bool
has_id id d = holds (λ y. y.id == id) (queue_in d)

-- What a settled workload has room for

-- the statements of a class, by which alone objects of the kind are made, and there is room for those
pub record Room (settings : NodeSettings) (ss : List Statement) (k : ObjectKind) : Type 0 where
  q : Deed → Bool
  calls : (bound : List ℕ) (d : Deed) → CallAsks (makes k) (bit (q d)) (call_of bound d)
  few : how_many (λ s. q s.deed) ss ≤ (objects_of k).max settings

pub rooms : (load : Workload) → is_settled load ≡ true
    → Room load.settings (all_statements load) ObjectKind.Action × Room load.settings (all_statements load) ObjectKind.Group
    × Room load.settings (all_statements load) ObjectKind.Queue × Room load.settings (all_statements load) ObjectKind.Task
rooms load settled =
    let r = (settled_whole load settled).room in (
      record { q = makes_action; calls = λ bound d. (calls_ask bound d).1; few = grind (arith, nat_tests, r) },
      record { q = makes_group; calls = λ bound d. (calls_ask bound d).2; few = grind (arith, nat_tests, r) },
      record { q = λ d. is_some (queue_in d); calls = λ bound d. (calls_ask bound d).3; few = grind (arith, nat_tests, r) },
      record { q = makes_task; calls = λ bound d. (calls_ask bound d).4; few = grind (arith, nat_tests, r) },
    )

none_id : (id : ℕ) (ss : List Statement) → list_any (λ s. has_id id s.deed) ss ≡ false → how_many (λ s. has_id id s.deed) ss ≡ 0
none_id id [] e = refl
none_id id (s ∷ ss) e = grind (arith, nat_tests, none_id id ss)

-- no two statements make queues of one id
one_id : (id : ℕ) (ss : List Statement) → has_different_ids ss ≡ true → how_many (λ s. has_id id s.deed) ss ≤ 1
unfolding has_different_ids
one_id id [] e = omega arith
one_id id (s ∷ ss) e = grind (arith, nat_tests, one_id id ss, none_id id ss)

no_entry : (p : Op → Bool) (L : List NodeEntry) → asks p L ≡ 0 → some_entry (λ e. p e.op) L ≡ false
no_entry p [] i = refl
no_entry p (e ∷ es) i = grind (arith, no_entry p es)

module _ {layout : Layout} {load : Workload} {es : List NodeEntry} {ns : List ℕ} (u : SettledRun layout load es ns) {who : ℕ} {A : List Line} {l : Line}
    {B : List Line} (c : Cut who es ns A l B) where
  -- fewer stand before it
  fewer_before : (p : Op → Bool) (q : Deed → Bool) (n : ℕ) → IsClass p q → how_many (λ s. q s.deed) (all_statements load) ≤ n → p l.op ≡ true
      → asks p c.before < n
  fewer_before p q n k h m =
      let a : asks p es ≤ how_many (λ s. q s.deed) (all_statements load) = run_asks k (ran u) in
      let b : asks p es ≡ asks p c.before + (bit (p l.op) + asks p c.behind) = cut_asks c p in
      let f : bit (p l.op) ≡ 1 = ap bit m in
      omega arith

  pub room : (k : ObjectKind) → Room load.settings (all_statements load) k → makes k l.op ≡ true → HasObjectRoom (run_terms layout load) k c.before
  room k x m =
      let a : asks (makes k) c.before < (objects_of k).max load.settings =
      fewer_before (makes k) x.q ((objects_of k).max load.settings) (record { calls = x.calls; outside = λ o i. grind (arith, nat_tests, i) }) x.few m in
      let b : entries_that (makes_one k) c.before ≤ asks (makes k) c.before =
      entries_asks (makes k) (makes_one k) (λ e i. fst_true (makes k e.op) _ i) c.before in
      omega arith

  pub new_id : (id : ℕ) → makes_queue id l.op ≡ true → some_entry (λ e. makes_queue id e.op) c.before ≡ false
  new_id id m = no_entry (makes_queue id) c.before (let a : asks (makes_queue id) c.before < 1 =
      fewer_before (makes_queue id) (has_id id) 1 (grind (arith, nat_tests)) (one_id id (all_statements load) (settled_whole load u.settled).ids) m in
      omega arith)
