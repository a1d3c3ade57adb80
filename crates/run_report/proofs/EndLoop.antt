-- Every task that hasn't begun and passes ends, one handle after another.
use Rattle.run_report.proofs.Names.{◌≡◌, ℕ, ◌+◌, ◌<◌, ◌≤◌, length, get_or, take, Bool, true, false, ◌&&◌, cond, List, [], ◌∷◌, ◌++◌, Option, Some, None, refl, sym, ◌∙◌, ap, arith, ◌==◌, ◌||◌, is_some, nat_eq, list_any, take_at_read, take_all, nat_tests, TaskEnd, holds, Unstarted, SeenRun, ends_where, with_end, SameAs, passes_unstarted}
use Rattle.std.specs.Map.{lookup, keys_of}
use Rattle.run_report.specs.declared.standings.Passing.{Passing}
use Rattle.run_report.proofs.History.{same_path, path_same}

-- the handle is among these
abbrev pub among : ℕ → List ℕ → Bool
among h ks = list_any (λ k. k == h) ks

-- of the tasks with these handles those that haven't begun and pass have ended
abbrev pub ends_among : List ℕ → (Unstarted → Bool) → TaskEnd → SeenRun → SeenRun
ends_among ks p e v = record v {
  ends = λ h. cond (among h ks && holds p (v.unstarted h)) (Some e) (v.ends h);
  unstarted = λ h. cond (among h ks && holds p (v.unstarted h)) None (v.unstarted h);
}

among_more : (h k : ℕ) (ks : List ℕ) → among h (ks ++ k ∷ []) ≡ (among h ks || (k == h))
among_more h k [] = grind (arith, nat_tests)
among_more h k (x ∷ ks) = grind (arith, nat_tests, among_more h k ks)

-- none of them yet
pub ends_none : (p : Unstarted → Bool) (e : TaskEnd) (v : SeenRun) → SameAs v (ends_among [] p e v)
ends_none p e v = record { ends = λ h. refl; unstarted = λ h. refl; actions = refl; queues = λ h. refl }

at_key : (h k : ℕ) → nat_eq h k ≡ true → (k == h) ≡ true
at_key h k e = grind (arith, nat_tests)

same_handle : (a b : ℕ) → (a == b) ≡ true → a ≡ b
same_handle a b e = grind (arith, nat_tests)

-- what is read at a handle after one more step, by whether the handle was among them, whether its task passes, whether the step ends
-- a task, and whether it is at this handle
step_value : {X : Type 0} (a q b c : Bool) (out r : Option X) → (c ≡ true → b ≡ cond a false q)
    → cond (b && c) out (cond (a && q) out r) ≡ cond ((a || c) && q) out r
step_value a q b c out r e1 = grind (arith, nat_tests)

-- a task that has ended passes no more
passes_once : (p : Unstarted → Bool) (a : Bool) (o : Option Unstarted) → holds p (cond (a && holds p o) None o) ≡ cond a false (holds p o)
passes_once p a o = grind (arith, nat_tests)

-- one more of them
module _ (p : Unstarted → Bool) (e : TaskEnd) (v : SeenRun) (ks : List ℕ) (k : ℕ) where
  abbrev so_far : SeenRun
  so_far = ends_among ks p e v

  is_ended : (h : ℕ) → (k == h) ≡ true → holds p (so_far.unstarted k) ≡ cond (among h ks) false (holds p (v.unstarted h))
  is_ended h is = ap (λ j. holds p (so_far.unstarted j)) (same_handle k h is) ∙ passes_once p (among h ks) (v.unstarted h)

  ends_one : (b : Bool) (h : ℕ) → (cond b (with_end k e so_far) so_far).ends h ≡ cond (b && (k == h)) (Some e) (so_far.ends h)
  ends_one b h = grind (arith, nat_tests)

  unstarted_one : (b : Bool) (h : ℕ) → (cond b (with_end k e so_far) so_far).unstarted h ≡ cond (b && (k == h)) None (so_far.unstarted h)
  unstarted_one b h = grind (arith, nat_tests)

  actions_one : (b : Bool) → (cond b (with_end k e so_far) so_far).actions ≡ v.actions
  actions_one b = grind (arith, nat_tests)

  pub ends_more : SameAs (cond (holds p (so_far.unstarted k)) (with_end k e so_far) so_far) (ends_among (ks ++ k ∷ []) p e v)
  ends_more = grind (arith, nat_tests, ends_one, step_value, is_ended, among_more, unstarted_one, actions_one)

-- which tasks pass stays the same
passes_same : (n : ℕ) (which : Passing) (ks : List ℕ) (p : Unstarted → Bool) (e : TaskEnd) (v : SeenRun)
    → passes_unstarted n which (ends_among ks p e v) ≡ passes_unstarted n which v
passes_same n which ks p e v = grind (arith, nat_tests)

pub ends_next : (n : ℕ) (which : Passing) (e : TaskEnd) (v : SeenRun) (all : List ℕ) (i : ℕ) (old new : SeenRun) → i < length all
    → SameAs old (ends_among (take i all) (passes_unstarted n which v) e v)
    → SameAs new (cond (holds (passes_unstarted n which old) (old.unstarted (get_or all i 0))) (with_end (get_or all i 0) e old) old)
    → SameAs new (ends_among (take (i + 1) all) (passes_unstarted n which v) e v)
ends_next n which e v all i old new l before after =
    let k : ℕ = get_or all i 0 in
    let p : Unstarted → Bool = passes_unstarted n which v in
    let ks : List ℕ = take i all in
    let list : take (i + 1) all ≡ ks ++ k ∷ [] = (take_at_read all i 0 l).1 in
    path_same new _
    (same_path new _ after
    ∙ ap (λ (w : SeenRun). cond (holds (passes_unstarted n which w) (w.unstarted k)) (with_end k e w) w) (same_path old _ before)
    ∙ ap (λ (q : Unstarted → Bool). cond (holds q ((ends_among ks p e v).unstarted k)) (with_end k e (ends_among ks p e v)) (ends_among ks p e v))
    (passes_same n which ks p e v)
    ∙ same_path _ _ (ends_more p e v ks k)
    ∙ ap (λ (js : List ℕ). ends_among js p e v) (sym list))

-- all of them
pub ends_all : (p : Unstarted → Bool) (e : TaskEnd) (v : SeenRun) (ks : List ℕ) → ((h : ℕ) → is_some (v.unstarted h) ≡ true → among h ks ≡ true)
    → SameAs (ends_among ks p e v) (ends_where p e v)
ends_all p e v ks e1 = grind (arith, nat_tests)

-- the handles are the keys of what hasn't begun
keys_cover : {X : Type 0} (es : List (ℕ × X)) (h : ℕ) → is_some (lookup (nat_eq h) es) ≡ true → among h (keys_of es) ≡ true
keys_cover [] h e = absurd (cc)
keys_cover (x ∷ es) h e = grind (arith, nat_tests, at_key h x.0, keys_cover es h)

pub ends_keys : (p : Unstarted → Bool) (e : TaskEnd) (v : SeenRun) (es : List (ℕ × Unstarted)) (all : List ℕ) (i : ℕ) (new : SeenRun) → length all ≤ i
    → all ≡ keys_of es → ((h : ℕ) → v.unstarted h ≡ lookup (nat_eq h) es)
    → SameAs new (ends_among (take i all) p e v) → SameAs new (ends_where p e v)
ends_keys p e v es all i new e1 e2 e3 e4 = grind (arith, nat_tests, path_same, same_path, take_all, ends_all, keys_of, keys_cover)
