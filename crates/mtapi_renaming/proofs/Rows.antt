-- The ways in which a row is made up: where its parts are alike in the renamed state, so is the whole.
use Rattle.mtapi_renaming.proofs.Names.{arith, nat_tests, ◌≡◌, ◌↔◌, ℕ, Bool, true, false, List, [], ◌∷◌, Option, Some, None, refl, sym, ◌∙◌, ap, subst, ◌==◌, option_map, ObjectKind, MrapiStatus, Listed, live_of, live_object, any_listed, first_handle, Action, Task, Reply, Handle, Given, Picked, State, actions, tasks, Move, Sort, Groups, Fields, all_of, Row, unless, gives, never, Allows, after_row, says, not_yet, only, live, on, chosen, Keyed, mrapi_unless, found, gets, alters_one, looks_one, deletes, Renaming, HasOtherName, Room, renamed_task, renamed, HasTaskNames, NoHandle, FitsState, renamed_answer}
use Rattle.std.specs.Prelude.{cond}
use Rattle.mtapi_values.specs.declared.handles.ObjectKind.TheVariants as kind
use Rattle.mtapi_renaming.proofs.Lists.{found-renamed, found-has, first-has, same_any, same_first}
use Rattle.mtapi_renaming.proofs.Moves.{MovesRename, no_move, one_move, sort-list, sort-has, alters-renames, removes-renames}

-- a reply without a handle
abbrev pub is_plain : Reply → Bool
is_plain (Handle h) = false
is_plain (Given t e) = false
is_plain (Picked t a x args) = false
is_plain r = true

-- each handle in the reply has another one, where an object that it answers is of this kind
abbrev pub HasOf : Renaming → Option ObjectKind → ℕ → Type 0
HasOf g None h = ⊥
HasOf g (Some k) h = HasOtherName g k h

abbrev pub HasAnswer : Renaming → Option ObjectKind → Reply → Type 0
HasAnswer g k (Handle h) = HasOf g k h
HasAnswer g k (Given t e) = HasOtherName g kind.Task t.0
HasAnswer g k (Picked t a x args) = HasOtherName g kind.Task t.0 × HasOtherName g kind.Action a.0
HasAnswer g k r = Unit {0}

plain-same : (g : Renaming) (k : Option ObjectKind) (y : Reply) → is_plain y ≡ true → renamed_answer g k y ≡ y
plain-same g k y i = grind (arith, nat_tests)

plain-has : (g : Renaming) (k : Option ObjectKind) (y : Reply) → is_plain y ≡ true → HasAnswer g k y
plain-has g k y i = grind (arith, nat_tests)

pub sort-invalid : (t : Sort) → is_plain (all_of t).invalid ≡ true
sort-invalid Groups = refl
sort-invalid t = refl

-- the reply is another one's, with other handles
pub record IsRenamed (g : Renaming) (k : Option ObjectKind) (q : Reply) : Type 0 where
  pub own : Reply
  pub has : HasAnswer g k own
  pub is : q ≡ renamed_answer g k own

-- the first row allows the reply exactly where the other one, in the renamed state, allows the renamed one, and that allows no others;
-- both lead to one state, and each handle in it has another one
pub record Alike (g : Renaming) (x : Room) (s : State) (k : Option ObjectKind) (r : Reply) (own other : Row) : Type 0 where
  pub allowed : Allows own r ↔ Allows other (renamed_answer g k r)
  pub comes : (q : Reply) → Allows other q → IsRenamed g k q
  pub leads : renamed g x (after_row s own) ≡ after_row (renamed g x s) other
  pub fits : FitsState g (after_row s own)

module _ {g : Renaming} {x : Room} {s : State} (n : FitsState g s) {k : Option ObjectKind} {r : Reply} where
  pub gives_renamed : {y : Reply} {ms ws : List Move} → HasAnswer g k y → MovesRename g x s ms ws
      → Alike g x s k r (gives y ws) (gives (renamed_answer g k y) ms)
  gives_renamed i j = grind (arith, nat_tests)

  pub gives_alike : {y : Reply} {ms ws : List Move} → is_plain y ≡ true → MovesRename g x s ms ws → Alike g x s k r (gives y ws) (gives y ms)
  gives_alike {y} {ms} {ws} p e = subst (λ (z : Reply). Alike g x s k r (gives y ws) (gives z ms)) (plain-same g k y p) (gives_renamed (plain-has g k y p) e)

  pub says_alike : {y : Reply} → is_plain y ≡ true → Alike g x s k r (says y) (says y)
  says_alike p = gives_alike p (no_move n)

  pub never_alike : Alike g x s k r never never
  never_alike = record { allowed = (λ i. i, λ i. i); comes = λ q i. absurd i; leads = refl; fits = n }

  -- what follows a refusal, where its cause doesn't hold
  pub unless_then : {a b : Bool} {y : Reply} {own other : Row} → b ≡ a → is_plain y ≡ true → (a ≡ false → Alike g x s k r own other)
      → Alike g x s k r (unless a y own) (unless b y other)
  unless_then i j l = grind (arith, nat_tests, says_alike)

  pub unless_alike : {a b : Bool} {y : Reply} {own other : Row} → b ≡ a → is_plain y ≡ true → Alike g x s k r own other
      → Alike g x s k r (unless a y own) (unless b y other)
  unless_alike e p w = unless_then e p (λ d. w)

  pub not_yet_alike : (last : Bool) (late : Reply) → is_plain late ≡ true → Alike g x s k r (not_yet last late) (not_yet last late)
  not_yet_alike true late p = says_alike p
  not_yet_alike false late p = says_alike refl

  pub cond_alike : (a b : Bool) {v w y z : Row} → b ≡ a → Alike g x s k r v y → Alike g x s k r w z → Alike g x s k r (cond a v w) (cond b y z)
  cond_alike a b i j l = grind (arith, nat_tests)

  pub only_alike : {a b : Bool} {own other : Row} → b ≡ a → (a ≡ true → Alike g x s k r own other) → Alike g x s k r (only a own) (only b other)
  only_alike i j = grind (arith, nat_tests)

  pub live_alike : {T : Type 0} (f : T → T) {o p : Option T} {own other : Row} (v w : T → Row) → p ≡ option_map f o → Alike g x s k r own other
      → ((y : T) → o ≡ Some y → Alike g x s k r (v y) (w (f y))) → Alike g x s k r (live o own v) (live p other w)
  live_alike f v w i j l = grind (arith, nat_tests)

  pub mrapi_alike : (cs : List (Bool × MrapiStatus)) {own other : Row} → Alike g x s k r own other
      → Alike g x s k r (mrapi_unless cs own) (mrapi_unless cs other)
  mrapi_alike [] w = w
  mrapi_alike (c ∷ cs) w = unless_alike refl refl (mrapi_alike cs w)

-- the objects of a kind that no rule of tasks speaks of, in the renamed state
module _ {g : Renaming} {s : State} (n : FitsState g s) (x : Room) where
  pub sort-found : (t : Sort) (h : ℕ) → live_object ((all_of t).list (renamed g x s)) (g (all_of t).kind h)
      ≡ option_map (λ y. y) (live_object ((all_of t).list s) h)
  sort-found t h = ap (λ (l : List (Listed (Fields t))). live_object l (g (all_of t).kind h)) (sort-list g x t s)
      ∙ found-renamed g n.one (all_of t).kind (λ y. y) NoHandle h ((all_of t).list s) (sort-has g t s n)

  pub sort-any : (t : Sort) (p : Fields t → Bool) → any_listed p ((all_of t).list (renamed g x s)) ≡ any_listed p ((all_of t).list s)
  sort-any t p = ap (any_listed p) (sort-list g x t s)
      ∙ same_any g n.one (all_of t).kind (λ y. y) NoHandle p p (λ y v. refl) ((all_of t).list s) (sort-has g t s n)

  pub sort-first : (t : Sort) (p : Fields t → Bool)
      → first_handle p (live_of ((all_of t).list (renamed g x s))) ≡ option_map (g (all_of t).kind) (first_handle p (live_of ((all_of t).list s)))
  sort-first t p = ap (λ (l : List (Listed (Fields t))). first_handle p (live_of l)) (sort-list g x t s)
      ∙ same_first g n.one (all_of t).kind (λ y. y) NoHandle p p (λ y v. refl) ((all_of t).list s) (sort-has g t s n)

-- an op on an object
module _ {g : Renaming} {x : Room} {s : State} (n : FitsState g s) {k : Option ObjectKind} {r : Reply} where
  pub on_action : (h : ℕ) (v w : Action → Row) → ((y : Action) → Alike g x s k r (v y) (w y))
      → Alike g x s k r (on actions s h v) (on actions (renamed g x s) (g kind.Action h) w)
  on_action h v w e = live_alike n (λ y. y) _ _ (found-renamed g n.one kind.Action (λ y. y) NoHandle h s.actions n.actions) (says_alike n refl) (λ y d. e y)

  pub on_task : (h : ℕ) (v w : Task → Row) → ((y : Task) → HasTaskNames g y → Alike g x s k r (v y) (w (renamed_task g y)))
      → Alike g x s k r (on tasks s h v) (on tasks (renamed g x s) (g kind.Task h) w)
  on_task h v w e = live_alike n (renamed_task g) _ _ (found-renamed g n.one kind.Task (renamed_task g) (HasTaskNames g) h s.tasks n.tasks) (says_alike n refl)
      (λ y d. e y (found-has g kind.Task (HasTaskNames g) h y s.tasks n.tasks d).1)

  pub on_sort : (t : Sort) (h : ℕ) (v w : Fields t → Row) → ((y : Fields t) → Alike g x s k r (v y) (w y))
      → Alike g x s k r (on (all_of t) s h v) (on (all_of t) (renamed g x s) (g (all_of t).kind h) w)
  on_sort t h v w e = live_alike n (λ y. y) _ _ (sort-found n x t h) (says_alike n (sort-invalid t)) (λ y d. e y)

  pub chosen_sort : (t : Sort) (h : ℕ) (v w : Fields t → Row) → ((y : Fields t) → Alike g x s k r (v y) (w y))
      → Alike g x s k r (chosen (all_of t) s h v) (chosen (all_of t) (renamed g x s) (g (all_of t).kind h) w)
  chosen_sort t h v w e = live_alike n (λ y. y) _ _ (sort-found n x t h) (never_alike n) (λ y d. e y)

  -- ops on one object of a kind whose objects have ids
  pub alters_alike : (t : Sort) (h : ℕ) (causes : Fields t → List (Bool × MrapiStatus)) (reply : Fields t → Reply) (f : Fields t → Fields t)
      → ((y : Fields t) → is_plain (reply y) ≡ true) →
      Alike g x s k r (alters_one t s h causes reply f) (alters_one t (renamed g x s) (g (all_of t).kind h) causes reply f)
  alters_alike t h causes reply f o = on_sort t h _ _ (λ y. mrapi_alike n (causes y) (gives_alike n (o y) (one_move (alters-renames g x s n t h f))))

  pub looks_alike : (t : Sort) (h : ℕ) (last : Bool) (causes : Fields t → List (Bool × MrapiStatus)) (busy : Fields t → Bool) (reply : Fields t
      → Reply) (f : Fields t → Fields t) → ((y : Fields t) → is_plain (reply y) ≡ true) →
      Alike g x s k r (looks_one t s h last causes busy reply f) (looks_one t (renamed g x s) (g (all_of t).kind h) last causes busy reply f)
  looks_alike t h last causes busy reply f o =
      on_sort t h _ _ (λ y. mrapi_alike n (causes y)
      (cond_alike n (busy y) (busy y) refl (not_yet_alike n last _ refl) (gives_alike n (o y) (one_move (alters-renames g x s n t h f)))))

  pub deletes_alike : (t : Sort) (h : ℕ) (causes : Fields t → List (Bool × MrapiStatus))
      → Alike g x s k r (deletes t s h causes) (deletes t (renamed g x s) (g (all_of t).kind h) causes)
  deletes_alike t h causes = on_sort t h _ _ (λ y. mrapi_alike n (causes y) (gives_alike n refl (one_move (removes-renames g x s n t h))))

-- the object of an id
pub gets_alike : {g : Renaming} {x : Room} {s : State} (n : FitsState g s) {t : Sort} (o : Keyed t) (id : ℕ) (r : Reply) → is_plain o.absent ≡ true
    → Alike g x s (Some (all_of t).kind) r (gets o s id) (gets o (renamed g x s) id)
gets_alike {g} {x} {s} n {t} o id r e =
    subst (λ (f : Option ℕ). Alike g x s (Some (all_of t).kind) r (gets o s id) (found f o.absent)) (sym (sort-first n x t (λ y. o.id y == id)))
    (by_first (first_handle (λ y. o.id y == id) (live_of ((all_of t).list s))) refl)
  where
    by_first : (f : Option ℕ) → first_handle (λ y. o.id y == id) (live_of ((all_of t).list s)) ≡ f
        → Alike g x s (Some (all_of t).kind) r (found f o.absent) (found (option_map (g (all_of t).kind) f) o.absent)
    by_first None d = says_alike n e
    by_first (Some h) d = gives_renamed n (first-has g (all_of t).kind NoHandle (λ y. o.id y == id) ((all_of t).list s) h (sort-has g t s n) d) (no_move n)
