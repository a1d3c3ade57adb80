-- The rows of the ops that make objects, in the renamed state.
use Rattle.mtapi_renaming.proofs.Names.{nat_tests, ◌≡◌, ◌↔◌, ℕ, Bool, true, false, List, [], ◌∷◌, Option, Some, None, refl, sym, ◌∙◌, ap, subst, ◌==◌, not, is_none, option_map, IfSome, MatchBool, ObjectKind, MrapiStatus, holds, live_object, Action, has_job, has_enabled_job, NewTask, Queue, Reply, Handle, State, Objects, actions, tasks, queues, Move, Sort, Groups, Queues, Fields, all_of, makes_action, starts_task, makes, is_fresh, apply, after_moves, of_sort, Row, unless, gives, Allows, after_row, says, only, mtapi_unless, handle_of, live, on, creates, Keyed, mrapi_unless, creates_keyed, start_refusals, Renaming, HasOtherName, with_pair, Room, renamed_task, renamed, HasTaskNames, NoHandle, FitsState, Follows, is_kind_full, is_full_of, is_fresh_of, limit_of, CanBe, is_handle, makes_or_not, refusal_in, Ok, arith, cond}
use Rattle.mtapi_values.specs.declared.handles.ObjectKind.TheVariants as kind
use Rattle.mtapi_renaming.proofs.Rows.{is_plain}
use Rattle.mtapi_renaming.proofs.Lists.{found-has}
use Rattle.mtapi_renaming.proofs.Moves.{sort-list, sort-has, renamed_new}
use Rattle.mtapi_renaming.proofs.Fits.{sort-only}
use Rattle.mtapi_renaming.proofs.Rows.{sort-found, sort-any}
use Rattle.mtapi_renaming.proofs.TaskRows.{action-any, served, group_missing}
use Rattle.mtapi_renaming.proofs.Pairs.{MakesPair, is_new, makes_action-pair, starts_task-pair, makes-pair}

-- two rows that refuse alike before their last conditions
pub record SameRefusal (own other : Row) : Type 0 where
  pub ends : makes_or_not other ≡ makes_or_not own
  pub same : refusal_in other ≡ refusal_in own

unless_same : {a b : Bool} {y : Reply} {own other : Row} → b ≡ a → SameRefusal own other → SameRefusal (unless a y own) (unless b y other)
unfolding refusal_in
unless_same {y = y} e v = record { ends = refl; same = λ i. cond (v.ends i) None (cond (e i) (Some y) (v.same i)) }

refused_same : {y : Reply} {own other : Row} → makes_or_not other ≡ makes_or_not own → SameRefusal (unless true y own) (unless true y other)
unfolding refusal_in
refused_same {y = y} e = record { ends = refl; same = ap (λ (b : Bool). cond b None (Some y)) e }

-- no refusal is read at the limit
pub creates_none : {T : Type 0} (o : Objects T) (s : State) (make : ℕ → Move) → refusal_in (creates o s Ok make) ≡ None
unfolding refusal_in
creates_none o s make = elim (is_fresh o s (handle_of Ok)) as (λ b. refusal_in
    (unless (is_kind_full o s) o.limit (only b (gives (Handle (handle_of Ok)) (make (handle_of Ok) ∷ [])))) ≡ None) [ true ↦ refl | false ↦ refl ]

-- the rows of an op that makes an object, for each reply: in the state, and in the renamed one
pub record CreateAlike (g : Renaming) (x : Room) (s : State) (k : ObjectKind) (h other : ℕ) (own others : Reply → Row) : Type 0 where
  pub refused : (r : Reply) → is_handle r ≡ false → (r ≡ limit_of k → ⊥) → Allows (own r) r ↔ Allows (others r) r
  pub refuses : (given r : Reply) → is_handle given ≡ false → (given ≡ limit_of k → ⊥) → Allows (others given) given → Allows (own r) r ↔ (r ≡ given)
  pub answers : Allows (others (Handle other)) (Handle other) → (r : Reply) → Allows (own r) r ↔ CanBe k s r
  pub made : is_full_of k s ≡ false → is_full_of k (renamed g x s) ≡ false → is_fresh_of k s h ≡ true → is_fresh_of k (renamed g x s) other ≡ true
      → Allows (own (Handle h)) (Handle h) ↔ Allows (others (Handle other)) (Handle other)
  pub makes : Allows (own (Handle h)) (Handle h) → Allows (others (Handle other)) (Handle other)
      → MakesPair g x s k h other (after_row s (own (Handle h))) (after_row (renamed g x s) (others (Handle other)))
  pub same : SameRefusal (own Ok) (others Ok)

pub no_handle : (h : ℕ) (y : Reply) → is_plain y ≡ true → Handle h ≡ y → ⊥
no_handle h y p e = grind arith

-- what is refused for a reason that doesn't depend on the handle
pub says_creates : {g : Renaming} {x : Room} {s : State} {k : ObjectKind} {h other : ℕ} {y : Reply} → is_plain y ≡ true
    → CreateAlike g x s k h other (λ r. says y) (λ r. says y)
says_creates i = grind (arith, nat_tests)

module _ {g : Renaming} {x : Room} {s : State} {k : ObjectKind} {h other : ℕ} where
  -- behind a refusal for the same cause
  unless_then : {a b : Bool} {y : Reply} {own others : Reply → Row} → b ≡ a → is_plain y ≡ true → makes_or_not (others Ok) ≡ makes_or_not (own Ok)
      → (a ≡ false → CreateAlike g x s k h other own others) →
      CreateAlike g x s k h other (λ r. unless a y (own r)) (λ r. unless b y (others r))
  unless_then {a = true} {b = true} {y} e p ends w = let v : CreateAlike g x s k h other (λ r. says y) (λ r. says y) = says_creates p in
      record { refused = v.refused; refuses = v.refuses; answers = v.answers; made = v.made; makes = v.makes; same = refused_same ends }
  unless_then {a = false} {b = false} e p ends w = let v = w refl in
      record { refused = v.refused; refuses = v.refuses; answers = v.answers; made = v.made; makes = v.makes; same = unless_same refl v.same }
  unless_then e p ends w = absurd (cc)

  pub unless_creates : {a b : Bool} {y : Reply} {own others : Reply → Row} → b ≡ a → is_plain y ≡ true → CreateAlike g x s k h other own others
      → CreateAlike g x s k h other (λ r. unless a y (own r)) (λ r. unless b y (others r))
  unless_creates e p v = unless_then e p v.same.ends (λ d. v)

  pub mrapi_creates : (cs : List (Bool × MrapiStatus)) {own others : Reply → Row} → CreateAlike g x s k h other own others
      → CreateAlike g x s k h other (λ r. mrapi_unless cs (own r)) (λ r. mrapi_unless cs (others r))
  mrapi_creates [] w = w
  mrapi_creates (c ∷ cs) {own} {others} w =
      unless_creates {own = λ r. mrapi_unless cs (own r)} {others =
      λ r. mrapi_unless cs (others r)} refl refl (mrapi_creates cs {own = own} {others = others} w)

  pub live_creates : {T : Type 0} (f : T → T) {o p : Option T} (y : Reply) (v w : T → Reply → Row) → p ≡ option_map f o → is_plain y ≡ true
      → ((z : T) → o ≡ Some z → CreateAlike g x s k h other (v z) (w (f z))) →
      CreateAlike g x s k h other (λ r. live o (says y) (λ z. v z r)) (λ r. live p (says y) (λ z. w z r))
  live_creates {T} f {o} {p} y v w e plain j =
      subst (λ (q : Option T). CreateAlike g x s k h other (λ r. live o (says y) (λ z. v z r)) (λ r. live q (says y) (λ z. w z r))) (sym e) (by_object o refl)
    where
      by_object : (q : Option T) → o ≡ q → CreateAlike g x s k h other (λ r. live q (says y) (λ z. v z r)) (λ r. live (option_map f q) (says y) (λ z. w z r))
      by_object None d = says_creates plain
      by_object (Some z) d = j z d

-- the end of such a row: the limit, or a handle that may be issued
abbrev ends_in : Bool → Reply → Bool → Reply → List Move → Row
ends_in f limit b r ms = unless f limit (only b (gives (Handle (handle_of r)) ms))

none_other : (f b : Bool) (limit r : Reply) (ms : List Move) → is_handle r ≡ false → (r ≡ limit → ⊥) → Allows (ends_in f limit b r ms) r → ⊥
none_other f b limit r ms i j l = grind (arith, nat_tests)

pub reached : (f b : Bool) (limit : Reply) (h : ℕ) (ms : List Move) → is_plain limit ≡ true → Allows (ends_in f limit b (Handle h) ms) (Handle h)
    → (f ≡ false) × (b ≡ true)
reached f b limit h ms i j = grind (arith, nat_tests)

given : (f b : Bool) (limit : Reply) (h : ℕ) (ms : List Move) → f ≡ false → b ≡ true → Allows (ends_in f limit b (Handle h) ms) (Handle h)
given f b limit h ms i j = grind (arith, nat_tests)

pub after_given : (s : State) (f b : Bool) (limit : Reply) (h : ℕ) (ms : List Move) → f ≡ false → b ≡ true
    → after_row s (ends_in f limit b (Handle h) ms) ≡ after_moves ms s
after_given s f b limit h ms i j = grind (arith, nat_tests)

pub can_be : (f b : Bool) (limit r : Reply) (ms : List Move)
    → Allows (ends_in f limit b r ms) r ↔ MatchBool f (r ≡ limit) ((b ≡ true) × (r ≡ Handle (handle_of r)))
can_be f b limit r ms = grind (arith, nat_tests)

pub stays_in : (s : State) (f b : Bool) (limit r : Reply) (ms : List Move) → Allows (ends_in f limit b r ms) r → is_handle r ≡ false
    → after_row s (ends_in f limit b r ms) ≡ s
stays_in s f b limit r ms i j = grind (arith, nat_tests)

-- the six kinds that no rule of tasks speaks of
pub full_same : (t : Sort) (u : State) → is_full_of (all_of t).kind u ≡ is_kind_full (all_of t) u
full_same t u = of_sort (λ T o. is_kind_full o u ≡ is_kind_full (all_of t) u) t refl

pub fresh_same : (t : Sort) (u : State) (a : ℕ) → is_fresh_of (all_of t).kind u a ≡ is_fresh (all_of t) u a
fresh_same t u a = of_sort (λ T o. is_fresh o u a ≡ is_fresh (all_of t) u a) t refl

pub limit_same : (t : Sort) → limit_of (all_of t).kind ≡ (all_of t).limit
limit_same Groups = refl
limit_same t = refl

pub limit_plain : (t : Sort) → is_plain (all_of t).limit ≡ true
limit_plain Groups = refl
limit_plain t = refl

-- the group of a new task that is not refused
pub group_has : {g : Renaming} {s : State} → FitsState g s → (c : Option ℕ) → holds (λ a. is_none (live_object s.groups a)) c ≡ false
    → IfSome c (HasOtherName g kind.Group)
group_has i c j = grind (arith, nat_tests, found-has)

module _ {g : Renaming} {x : Room} {s : State} (n : Follows g s) {h other : ℕ} where
  creates_alike : {T : Type 0} (o : Objects T) (make make_other : ℕ → Move) → ((t : State) → is_full_of o.kind t ≡ is_kind_full o t)
      → ((t : State) (a : ℕ) → is_fresh_of o.kind t a ≡ is_fresh o t a) → limit_of o.kind ≡ o.limit → is_plain o.limit ≡ true →
      (is_fresh o s h ≡ true → is_fresh o (renamed g x s) other ≡ true
      → MakesPair g x s o.kind h other (apply (make h) s) (apply (make_other other) (renamed g x s))) →
      CreateAlike g x s o.kind h other (λ r. creates o s r make) (λ r. creates o (renamed g x s) r make_other)
  creates_alike o make make_other ef er el plain pair = record {
    refused = λ r no_r less. let far : r ≡ o.limit → ⊥ = λ i. less (i ∙ sym el) in (
      λ i. absurd (none_other (is_kind_full o s) (is_fresh o s (handle_of r)) o.limit r (make (handle_of r) ∷ []) no_r far i),
      λ i. absurd
          (none_other (is_kind_full o (renamed g x s)) (is_fresh o (renamed g x s) (handle_of r)) o.limit r (make_other (handle_of r) ∷ []) no_r far i),
    );
    refuses = λ given r no_r less i. absurd
        (none_other (is_kind_full o (renamed g x s)) (is_fresh o (renamed g x s) (handle_of given)) o.limit given (make_other (handle_of given)
        ∷ []) no_r (λ j. less (j ∙ sym el)) i);
    same = record { ends = refl; same = creates_none o (renamed g x s) make_other ∙ sym (creates_none o s make) };
    answers = λ i r. subst (λ (b : Bool). Allows (creates o s r make) r
        ↔ MatchBool b (r ≡ limit_of o.kind) ((is_fresh_of o.kind s (handle_of r) ≡ true) × (r ≡ Handle (handle_of r)))) (sym (ef s))
        (subst (λ (b : Bool). Allows (creates o s r make) r
        ↔ MatchBool (is_kind_full o s) (r ≡ limit_of o.kind) ((b ≡ true) × (r ≡ Handle (handle_of r)))) (sym (er s (handle_of r)))
        (subst (λ (y : Reply). Allows (creates o s r make) r
        ↔ MatchBool (is_kind_full o s) (r ≡ y) ((is_fresh o s (handle_of r) ≡ true) × (r ≡ Handle (handle_of r)))) (sym el)
        (can_be (is_kind_full o s) (is_fresh o s (handle_of r)) o.limit r (make (handle_of r) ∷ []))));
    made = λ a b c d. (
      λ i. given (is_kind_full o (renamed g x s)) (is_fresh o (renamed g x s) other) o.limit other (make_other other ∷ []) (sym (ef (renamed g x s))
          ∙ b) (sym (er (renamed g x s) other) ∙ d),
      λ i. given (is_kind_full o s) (is_fresh o s h) o.limit h (make h ∷ []) (sym (ef s) ∙ a) (sym (er s h) ∙ c),
    );
    makes = λ i j.
        let own : (is_kind_full o s ≡ false) × (is_fresh o s h ≡ true) = reached (is_kind_full o s) (is_fresh o s h) o.limit h (make h ∷ []) plain i in
        let others : (is_kind_full o (renamed g x s) ≡ false) × (is_fresh o (renamed g x s) other ≡ true) =
        reached (is_kind_full o (renamed g x s)) (is_fresh o (renamed g x s) other) o.limit other (make_other other ∷ []) plain j in
        let p : MakesPair g x s o.kind h other (apply (make h) s) (apply (make_other other) (renamed g x s)) = pair own.1 others.1 in
        let e = after_given s (is_kind_full o s) (is_fresh o s h) o.limit h (make h ∷ []) own.0 own.1 in
        let d = after_given (renamed g x s) (is_kind_full o (renamed g x s)) (is_fresh o (renamed g x s) other) o.limit other (make_other other
        ∷ []) others.0 others.1 in
        record {
          same = ap (renamed (with_pair o.kind h other g) x) e ∙ p.same ∙ sym d;
          follows = subst (λ (t : State). Follows (with_pair o.kind h other g) t) (sym e) p.follows;
        };
  }

  pub creates_action : (a : Action) → CreateAlike g x s kind.Action h other (λ r. creates actions s r (λ b. makes_action b a))
      (λ r. creates actions (renamed g x s) r (λ b. makes_action b a))
  creates_action a =
      creates_alike actions (λ b. makes_action b a) (λ b. makes_action b a) (λ t. refl) (λ t b. refl) refl refl
      (λ i j. makes_action-pair g x s n h other a (is_new g x s n.fits.one actions (λ y. y) NoHandle refl n.fits.actions (n.only kind.Action) h other i j))

  pub creates_task : (t : NewTask) → IfSome t.group (HasOtherName g kind.Group) → IfSome t.queue (HasOtherName g kind.Queue) →
      CreateAlike g x s kind.Task h other (λ r. creates tasks s r (λ b. starts_task b t))
      (λ r. creates tasks (renamed g x s) r (λ b. starts_task b (renamed_new g t)))
  creates_task t a b =
      creates_alike tasks (λ c. starts_task c t) (λ c. starts_task c (renamed_new g t)) (λ u. refl) (λ u c. refl) refl refl
      (λ i j. starts_task-pair g x s n h other t a b
      (is_new g x s n.fits.one tasks (renamed_task g) (HasTaskNames g) refl n.fits.tasks (n.only kind.Task) h other i j))

  pub creates_sort : (t : Sort) (w : Fields t)
      → CreateAlike g x s (all_of t).kind h other (λ r. creates (all_of t) s r (λ b. makes t b w))
      (λ r. creates (all_of t) (renamed g x s) r (λ b. makes t b w))
  creates_sort t w =
      creates_alike (all_of t) (λ b. makes t b w) (λ b. makes t b w) (full_same t) (fresh_same t) (limit_same t) (limit_plain t)
      (λ i j. makes-pair g x s n h other t w (is_new g x s n.fits.one (all_of t) (λ y. y) NoHandle (sort-list g x t s) (sort-has g t s n.fits)
      (sort-only g t s n.only) h other i j))

  -- a new object, where no live one has its id
  pub keyed_creates : {t : Sort} (o : Keyed t) (w : Fields t) → is_plain o.exists ≡ true
      → CreateAlike g x s (all_of t).kind h other (λ r. creates_keyed o s r w) (λ r. creates_keyed o (renamed g x s) r w)
  keyed_creates {t} o w p = unless_creates (sort-any n.fits x t (λ y. o.id y == o.id w)) p (creates_sort t w)

  -- Starting

  pub starts_creates : (t : NewTask) {own others : Reply → Row} → (IfSome t.group (HasOtherName g kind.Group) → CreateAlike g x s kind.Task h other own others)
      →
      CreateAlike g x s kind.Task h other (λ r. mtapi_unless (start_refusals s t) (own r))
      (λ r. mtapi_unless (start_refusals (renamed g x s) (renamed_new g t)) (others r))
  starts_creates t {own} {others} w =
      unless_creates (ap not (action-any n.fits x (has_job t.job))) refl
      (unless_then (group_missing n.fits x t.group) refl refl (λ b. unless_creates (ap not (action-any n.fits x (has_enabled_job t.job))) refl
      (unless_creates {own = own} {others = others} (ap not (served n.fits x t.job t.cores)) refl (w (group_has n.fits t.group b)))))

  -- an enqueue on the live queue of a handle
  pub on_queue : (q : ℕ) (v w : Queue → Reply → Row) → ((y : Queue) → HasOtherName g kind.Queue q → CreateAlike g x s kind.Task h other (v y) (w y)) →
      CreateAlike g x s kind.Task h other (λ r. on queues s q (λ y. v y r)) (λ r. on queues (renamed g x s) (g kind.Queue q) (λ y. w y r))
  on_queue q v w e = live_creates (λ y. y) _ v w (sort-found n.fits x Queues q) refl
      (λ y d. e y (found-has g kind.Queue NoHandle q y s.queues n.fits.queues d).0)
