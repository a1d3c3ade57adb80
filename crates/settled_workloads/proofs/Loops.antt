-- What is left of a test as its loop goes on.
use Rattle.std.proofs.Common.{◌≡◌, ℕ, zero, suc, ◌+◌, ◌-◌, ◌<◌, ◌≤◌, Bool, true, false, cond, List, [], ◌∷◌, ◌++◌, length, get_or, take, drop, length-drop, Option, Some, None, refl, sym, ◌∙◌, ap, arith, append_assoc}
use Rattle.std.specs.Prelude.{◌&&◌, ◌||◌, not, ◌==◌, nat_lt, map, count_by, if◌then◌else◌}
use Rattle.std.specs.Option.{option_map}
use Rattle.std.specs.List.{list_any, list_all, flat_map, find}
use Rattle.std.proofs.lemmas.List.{drop_more, take_more, append-nil}
use Rattle.std.proofs.lemmas.List.Concat.{flat_map-append}
use Rattle.std.proofs.lemmas.List.Recursion.{is_count_by}
use Rattle.std.proofs.lemmas.List.Folds.{list_all-map}
use Rattle.mtapi_values.specs.Conditions.{holds}
use Rattle.mtapi_values.specs.Attributes.{NodeSettings}
use Rattle.mtapi_values.specs.declared.statuses.MtapiStatus.{MtapiStatus}
use Rattle.handle_pool.specs.Issued.{how_many}
use Rattle.mtapi_objects.specs.Actions.{Action, has_job}
use Rattle.mtapi_objects.specs.Queues.{Queue}
use Rattle.workload_file.specs.declared.workload.Statement.{Statement}
use Rattle.workload_file.specs.declared.workload.Part.{Part}
use Rattle.workload_file.specs.Deeds.{is_begin}
use Rattle.settled_runs.specs.Plain.{actions_in, queue_in}
use Rattle.settled_runs.specs.Settled.{is_settled_deed, are_settled, set_up, sets_up_first, are_alike, has_one_kind_a_job, has_new_id, has_different_ids, keep_limits, deed_puts_into, have_one_fault_a_group}
use Rattle.settled_workloads.specs.declared.rows.ActionRow.{ActionRow}
use Rattle.settled_workloads.specs.Rows.{row_action, kind_found, first_is_alike, id_in, ids_of, first_differs, differ, first_agrees}

nil_from_length : {X : Type 0} (xs : List X) → length xs ≤ 0 → xs ≡ []
nil_from_length [] l = refl
nil_from_length (x ∷ xs) l = absurd (omega arith)

none_left : {X : Type 0} (xs : List X) (i : ℕ) → length xs ≤ i → drop i xs ≡ []
none_left xs i l = nil_from_length (drop i xs) (omega (arith, length-drop i xs))

pub whole : {X : Type 0} (xs : List X) (i : ℕ) → length xs ≤ i → take i xs ≡ xs
whole [] zero l = refl
whole [] (suc i) l = refl
whole (x ∷ xs) zero l = absurd (omega arith)
whole (x ∷ xs) (suc i) l = ap (λ u. x ∷ u) (whole xs i (omega arith))

pub tail_is : {X : Type 0} (xs : List X) (n : ℕ) → take (length xs - n) (drop n xs) ≡ drop n xs
tail_is xs n = whole (drop n xs) (length xs - n) (omega (arith, length-drop n xs))

-- a test of a list by its first element and the others
module _ {X : Type 0} (F : List X → Bool) (g : X → List X → Bool) (step : (x : X) (xs : List X) → F (x ∷ xs) ≡ (g x xs && F xs)) where
  test_of : (xs : List X) (i : ℕ) (x : X) (b : Bool) → i < length xs → x ≡ get_or xs i x → b ≡ g x (drop (i + 1) xs)
      → F (drop i xs) ≡ (b && F (drop (i + 1) xs))
  test_of xs i x b l is e = ap F (drop_more xs i x l) ∙ (step (get_or xs i x) (drop (i + 1) xs)
      ∙ ap (λ u. u && F (drop (i + 1) xs)) (ap (λ u. g u (drop (i + 1) xs)) (sym is) ∙ sym e))

  test_none : F [] ≡ true → (xs : List X) (i : ℕ) → length xs ≤ i → F (drop i xs) ≡ true
  test_none none xs i l = ap F (none_left xs i l) ∙ none

-- the same where the test is one of the list
module _ {X : Type 0} (F g : List X → Bool) (step : (x : X) (xs : List X) → F (x ∷ xs) ≡ (g (x ∷ xs) && F xs)) where
  test_from : (xs : List X) (i : ℕ) (b : Bool) → i < length xs → b ≡ g (take (length xs - i) (drop i xs)) → F (drop i xs) ≡ (b && F (drop (i + 1) xs))
  test_from [] i b l e = absurd (omega arith)
  test_from (x ∷ xs) i b l e = ap F more ∙ (step (get_or (x ∷ xs) i x) (drop (i + 1) (x ∷ xs))
      ∙ ap (λ u. u && F (drop (i + 1) (x ∷ xs))) (ap g (sym more) ∙ (ap g (sym (tail_is (x ∷ xs) i)) ∙ sym e)))
    where
      more : drop i (x ∷ xs) ≡ get_or (x ∷ xs) i x ∷ drop (i + 1) (x ∷ xs)
      more = drop_more (x ∷ xs) i x l

  test_past : F [] ≡ true → (xs : List X) (i : ℕ) → length xs ≤ i → F (drop i xs) ≡ true
  test_past none xs i l = ap F (none_left xs i l) ∙ none

-- The statements of a part

module _ (s : NodeSettings) (actions : List Action) (all : List Statement) where
  pub settled_more : (i : ℕ) (x : Statement) (b : Bool) → i < length all → x ≡ get_or all i x
      → b ≡ is_settled_deed s (actions ++ actions_in (take i all)) (take i all) all x.deed
      → are_settled s actions all (take i all) (drop i all) ≡ (b && are_settled s actions all (take (i + 1) all) (drop (i + 1) all))
  unfolding are_settled
  settled_more i x b l is e = ap (are_settled s actions all (take i all)) (drop_more all i x l)
      ∙ (ap (λ (u : Statement). is_settled_deed s (actions ++ actions_in (take i all)) (take i all) all u.deed
      && are_settled s actions all (take i all ++ u ∷ []) (drop (i + 1) all)) (sym is)
      ∙ (λ k. sym e k && are_settled s actions all (before k) (drop (i + 1) all)))
    where
      before : take i all ++ x ∷ [] ≡ take (i + 1) all
      before = ap (λ (u : Statement). take i all ++ u ∷ []) is ∙ sym (take_more all i x l)

  pub settled_end : (i : ℕ) → length all ≤ i → are_settled s actions all (take i all) (drop i all) ≡ true
  unfolding are_settled
  settled_end i l = ap (are_settled s actions all (take i all)) (none_left all i l)

pub begin_more : (ss : List Statement) (i : ℕ) (x : Statement) (b : Bool) → i < length ss → x ≡ get_or ss i x → b ≡ is_begin x.deed
    → sets_up_first (drop i ss) ≡ (if b then not (set_up (drop (i + 1) ss)) else sets_up_first (drop (i + 1) ss))
unfolding sets_up_first
begin_more ss i x b l is e = ap sets_up_first (drop_more ss i x l ∙ ap (λ (u : Statement). u ∷ drop (i + 1) ss) (sym is))
    ∙ ap (λ u. if u then not (set_up (drop (i + 1) ss)) else sets_up_first (drop (i + 1) ss)) (sym e)

pub begin_end : (ss : List Statement) (i : ℕ) → length ss ≤ i → sets_up_first (drop i ss) ≡ false
unfolding sets_up_first
begin_end ss i l = ap sets_up_first (none_left ss i l)

-- Lists that grow

more : {X Y : Type 0} (f : X → List Y) (xs : List X) (i : ℕ) (x : X) → i < length xs → x ≡ get_or xs i x
    → flat_map f (take (i + 1) xs) ≡ flat_map f (take i xs) ++ f x
more f xs i x l is =
    ap (flat_map f) (take_more xs i x l)
    ∙ (flat_map-append f (take i xs) (get_or xs i x ∷ [])
    ∙ (ap (λ u. flat_map f (take i xs) ++ u) (append-nil (f (get_or xs i x))) ∙ ap (λ u. flat_map f (take i xs) ++ f u) (sym is)))

-- what one more element adds to a list
pub adds_more : {X Y : Type 0} (f : X → List Y) (xs : List X) (i : ℕ) (x : X) (old before after : List Y) → i < length xs → x ≡ get_or xs i x
    → after ≡ before ++ f x → before ≡ old ++ flat_map f (take i xs) → after ≡ old ++ flat_map f (take (i + 1) xs)
adds_more f xs i x old before after l is e q =
    e
    ∙ (ap (λ u. u ++ f x) q
    ∙ (append_assoc old (flat_map f (take i xs)) (f x)
    ∙ ap (λ u. old ++ u) (sym (more f xs i x l is))))

-- and one more part
pub adds_part : {Y : Type 0} (f : Statement → List Y) (ps : List Part) (i : ℕ) (x : Part) (before after : List Y) → i < length ps → x ≡ get_or ps i x
    → after ≡ before ++ flat_map f x.statements → before ≡ flat_map f (flat_map (λ p. p.statements) (take i ps))
    → after ≡ flat_map f (flat_map (λ p. p.statements) (take (i + 1) ps))
adds_part f ps i x before after l is e q =
    e
    ∙ (ap (λ u. u ++ flat_map f x.statements) q
    ∙ (sym (flat_map-append f (flat_map (λ p. p.statements) (take i ps)) x.statements)
    ∙ ap (flat_map f) (sym (more (λ p. p.statements) ps i x l is))))

kinds_step : (x : ActionRow) (xs : List ActionRow)
    → has_one_kind_a_job (map row_action (x ∷ xs)) ≡ (first_is_alike (x ∷ xs) && has_one_kind_a_job (map row_action xs))
unfolding has_one_kind_a_job
kinds_step x xs = ap (λ b. b && has_one_kind_a_job (map row_action xs)) (list_all-map (are_alike (row_action x)) row_action xs)

kinds_none : has_one_kind_a_job (map row_action []) ≡ true
unfolding has_one_kind_a_job
kinds_none = refl

pub kinds_more : (rows : List ActionRow) (i : ℕ) (b : Bool) → i < length rows → b ≡ first_is_alike (take (length rows - i) (drop i rows))
    → has_one_kind_a_job (map row_action (drop i rows)) ≡ (b && has_one_kind_a_job (map row_action (drop (i + 1) rows)))
kinds_more rows i b l e = test_from (λ u. has_one_kind_a_job (map row_action u)) first_is_alike kinds_step rows i b l e

pub kinds_end : (rows : List ActionRow) (i : ℕ) → length rows ≤ i → has_one_kind_a_job (map row_action (drop i rows)) ≡ true
kinds_end rows i l = test_past (λ u. has_one_kind_a_job (map row_action u)) first_is_alike kinds_step kinds_none rows i l

-- Ids

pub differ_more : (xs : List ℕ) (i : ℕ) (b : Bool) → i < length xs → b ≡ first_differs (take (length xs - i) (drop i xs))
    → differ (drop i xs) ≡ (b && differ (drop (i + 1) xs))
differ_more xs i b l e = test_from differ first_differs (λ x ys. refl) xs i b l e

pub differ_end : (xs : List ℕ) (i : ℕ) → length xs ≤ i → differ (drop i xs) ≡ true
differ_end xs i l = test_past differ first_differs (λ x ys. refl) refl xs i l

-- some queue of these statements has the id exactly where it is among their ids
id_found : (id : ℕ) (ss : List Statement) → list_any (λ s. holds (λ y. y.id == id) (queue_in s.deed)) ss ≡ list_any (λ y. y == id) (ids_of ss)
id_found id [] = refl
id_found id (s ∷ ss) = by (queue_in s.deed) (id_found id ss)
  where
    by : (q : Option Queue) → list_any (λ s. holds (λ y. y.id == id) (queue_in s.deed)) ss ≡ list_any (λ y. y == id) (ids_of ss)
        → (holds (λ y. y.id == id) q || list_any (λ s. holds (λ y. y.id == id) (queue_in s.deed)) ss) ≡ list_any (λ y. y == id) (id_in q ++ ids_of ss)
    by None e = e
    by (Some q) e = ap (λ b. (q.id == id) || b) e

pub ids_differ : (ss : List Statement) → has_different_ids ss ≡ differ (ids_of ss)
unfolding has_different_ids
ids_differ [] = refl
ids_differ (s ∷ ss) = by (queue_in s.deed) (ids_differ ss)
  where
    by : (q : Option Queue) → has_different_ids ss ≡ differ (ids_of ss) → (has_new_id q ss && has_different_ids ss) ≡ differ (id_in q ++ ids_of ss)
    by None e = e
    by (Some q) e = (λ i. not (id_found q.id ss i) && e i)

-- Counts

pub how_many_is : {X : Type 0} (p : X → Bool) (xs : List X) → how_many p xs ≡ count_by p xs
how_many_is p xs = is_count_by (how_many p) p refl (λ x ys. either (p x) (how_many p ys)) xs
  where
    either : (b : Bool) (n : ℕ) → (if b then 1 else 0) + n ≡ cond b (1 + n) n
    either true n = refl
    either false n = omega arith

many_both : {X : Type 0} (p : X → Bool) (xs ys : List X) → how_many p (xs ++ ys) ≡ how_many p xs + how_many p ys
many_both p [] ys = omega arith
many_both p (x ∷ xs) ys = omega (arith, many_both p xs ys)

pub many_more : (p : Statement → Bool) (ps : List Part) (i : ℕ) (x : Part) → i < length ps → x ≡ get_or ps i x
    → how_many p (flat_map (λ q. q.statements) (take (i + 1) ps))
    ≡ how_many p (flat_map (λ q. q.statements) (take i ps)) + how_many p x.statements
many_more p ps i x l is = ap (how_many p) (more (λ q. q.statements) ps i x l is) ∙ many_both p (flat_map (λ q. q.statements) (take i ps)) x.statements

many_front : (p : Statement → Bool) (xs ys : List Statement) → how_many p xs ≤ how_many p (xs ++ ys)
many_front p xs ys = omega (arith, many_both p xs ys)

pub many_in_front : (p : Statement → Bool) (ps : List Part) (i : ℕ)
    → how_many p (flat_map (λ q. q.statements) (take i ps)) ≤ how_many p (flat_map (λ q. q.statements) ps)
many_in_front p ps zero = omega arith
many_in_front p [] (suc i) = omega arith
many_in_front p (x ∷ ps) (suc i) = omega (
  arith,
  many_both p x.statements (flat_map (λ q. q.statements) (take i ps)),
  many_both p x.statements
      (flat_map (λ q. q.statements) ps),
  many_in_front p ps i,
)

-- Limits

module _ (all : List Statement) where
  pub limits_more : (i : ℕ) (x : Statement) (b : Bool) → i < length all → x ≡ get_or all i x
      → b ≡ holds (λ q. nat_lt q.limit (how_many (λ e. deed_puts_into i e.deed) all)) (queue_in x.deed)
      → keep_limits all i (drop i all) ≡ (not b && keep_limits all (i + 1) (drop (i + 1) all))
  unfolding keep_limits
  limits_more i x b l is e = ap (keep_limits all i) (drop_more all i x l ∙ ap (λ (u : Statement). u ∷ drop (i + 1) all) (sym is))
      ∙ ap (λ u. not u && keep_limits all (i + 1) (drop (i + 1) all)) (sym e)

  pub limits_end : (i : ℕ) → length all ≤ i → keep_limits all i (drop i all) ≡ true
  unfolding keep_limits
  limits_end i l = ap (keep_limits all i) (none_left all i l)

-- Faults

pub kind_is_found : (job : ℕ) (rows : List ActionRow) → kind_found job rows ≡ option_map (λ a. a.kind) (find (has_job job) (map row_action rows))
kind_is_found job [] = refl
kind_is_found job (r ∷ rows) = by (r.job == job) (kind_is_found job rows)
  where
    by : (b : Bool) → kind_found job rows ≡ option_map (λ a. a.kind) (find (has_job job) (map row_action rows))
        → (if b then Some r.kind else kind_found job rows) ≡ option_map (λ a. a.kind) (cond b (Some (row_action r)) (find (has_job job) (map row_action rows)))
    by true e = refl
    by false e = e

agree_step : (x : ℕ × MtapiStatus) (xs : List (ℕ × MtapiStatus)) → have_one_fault_a_group (x ∷ xs) ≡ (first_agrees (x ∷ xs) && have_one_fault_a_group xs)
unfolding have_one_fault_a_group
agree_step x xs = refl

agree_none : have_one_fault_a_group [] ≡ true
unfolding have_one_fault_a_group
agree_none = refl

pub agree_more : (xs : List (ℕ × MtapiStatus)) (i : ℕ) (b : Bool) → i < length xs → b ≡ first_agrees (take (length xs - i) (drop i xs))
    → have_one_fault_a_group (drop i xs) ≡ (b && have_one_fault_a_group (drop (i + 1) xs))
agree_more xs i b l e = test_from have_one_fault_a_group first_agrees agree_step xs i b l e

pub agree_end : (xs : List (ℕ × MtapiStatus)) (i : ℕ) → length xs ≤ i → have_one_fault_a_group (drop i xs) ≡ true
agree_end xs i l = test_past have_one_fault_a_group first_agrees agree_step agree_none xs i l

-- Parts

pub parts_more : (p : Part → Bool) (ps : List Part) (i : ℕ) (x : Part) (b : Bool) → i < length ps → x ≡ get_or ps i x → b ≡ p x
    → list_all p (drop i ps) ≡ (b && list_all p (drop (i + 1) ps))
parts_more p ps i x b l is e = test_of (list_all p) (λ y ys. p y) (λ y ys. refl) ps i x b l is e

pub parts_end : (p : Part → Bool) (ps : List Part) (i : ℕ) → length ps ≤ i → list_all p (drop i ps) ≡ true
parts_end p ps i l = test_none (list_all p) (λ y ys. p y) (λ y ys. refl) refl ps i l
