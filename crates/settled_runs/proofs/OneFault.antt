-- Where the faults of each group of a part have one status, the one that is told as its members are put into it is the one of a verdict.
use Rattle.settled_runs.proofs.Names.{◌≡◌, ℕ, Bool, true, List, [], ◌∷◌, ◌++◌, Option, Some, refl, sym, ◌∙◌, subst, ◌==◌, ◌&&◌, ◌||◌, not, list_any, list_all, flat_map, list_any-append, MtapiStatus, mtapi_number, Action, NewTask, Statement, true_false, both, fault_in, task_in, plain_fault, have_one_fault_a_group, ap, or_left, or_right, None, option_or, verdict, State, Reply, fault_at, IsGroupVerdict, none_some, find, mtapi_all, some_same, arith, nat_tests}
use Rattle.settled_runs.proofs.Verdicts.{has}

-- Statuses that are compared by number

-- a status is the first one of its number
by_number : (c : MtapiStatus) → find (λ x. mtapi_number x == mtapi_number c) mtapi_all ≡ Some c
by_number MtapiStatus.Success = refl
by_number _ = refl

-- statuses of one number are one status
pub same_status : (c d : MtapiStatus) → mtapi_number c ≡ mtapi_number d → c ≡ d
same_status c d e = some_same (sym (by_number c) ∙ ap (λ (n : ℕ). find (λ x. mtapi_number x == n) mtapi_all) e ∙ by_number d)

-- Numbers of one key

module _ {X : Type 0} (key number : X → ℕ) where
  -- one of these has the key and the number
  abbrev pub has_number : ℕ → ℕ → List X → Bool
  has_number g n xs = list_any (λ x. (key x == g) && (number x == n)) xs

  -- all of these with the key have the number
  abbrev pub agree : ℕ → ℕ → List X → Bool
  agree g n xs = list_all (λ y. not (g == key y) || (n == number y)) xs

  alike : (g n m : ℕ) (xs : List X) → agree g n xs ≡ true → has_number g m xs ≡ true → n ≡ m
  alike g n m [] a f = true_false f refl
  alike g n m (y ∷ ys) a f = grind (arith, nat_tests, alike g n m ys)

  -- where any two agree
  pub one_number : (F : List X → Bool) → ((x : X) (xs : List X) → F (x ∷ xs) ≡ (agree (key x) (number x) xs && F xs)) → (g c d : ℕ) (xs : List X) → F xs ≡ true
      → has_number g c xs ≡ true → has_number g d xs ≡ true → c ≡ d
  one_number F step g c d [] e a b = true_false a refl
  one_number F step g c d (x ∷ xs) e a b =
      grind (arith, nat_tests, step x xs, one_number F step g c d xs, alike g (number x) c xs, alike g (number x) d xs)

-- the group has a fault of this status
abbrev pub has_fault : List (ℕ × MtapiStatus) → ℕ → MtapiStatus → Bool
has_fault xs g c = has_number (λ x. x.0) (λ x. mtapi_number x.1) g (mtapi_number c) xs

-- where the faults of each group have one status, two have one
pub one_status : (g : ℕ) (c d : MtapiStatus) (xs : List (ℕ × MtapiStatus)) → have_one_fault_a_group xs ≡ true → has_fault xs g c ≡ true
    → has_fault xs g d ≡ true → c ≡ d
unfolding have_one_fault_a_group
one_status g c d xs e a b = same_status c d
    (one_number (λ x. x.0) (λ x. mtapi_number x.1) have_one_fault_a_group (λ y ys. refl) g (mtapi_number c) (mtapi_number d) xs e a b)

-- The fault of a statement's task

in_all : {X Y : Type 0} (p : Y → Bool) (f : X → List Y) (before : List X) (x : X) (behind : List X) → list_any p (f x) ≡ true
    → list_any p (flat_map f (before ++ x ∷ behind)) ≡ true
in_all p f [] x behind e = list_any-append p (f x) (flat_map f behind) ∙ or_left _ _ e
in_all p f (y ∷ before) x behind e = list_any-append p (f y) (flat_map f (before ++ x ∷ behind)) ∙ or_right _ _ (in_all p f before x behind e)

both_there : (group : Option ℕ) (fault : Option MtapiStatus) (g : ℕ) (c : MtapiStatus) → group ≡ Some g → fault ≡ Some c
    → has_fault (both group fault) g c ≡ true
both_there group fault g c e1 e2 = grind (arith, nat_tests)

-- where it is in a group, the group has it
pub fault_there : (actions : List Action) (all before : List Statement) (s : Statement) (behind : List Statement) (t : NewTask) (g : ℕ) (c : MtapiStatus)
    → task_in all s.deed ≡ Some t → t.group ≡ Some g → plain_fault actions t ≡ Some c
    → has_fault (flat_map (λ z. fault_in actions (task_in all z.deed)) (before ++ s ∷ behind)) g c ≡ true
fault_there actions all before s behind t g c e i j =
    in_all (λ x. (x.0 == g) && (mtapi_number x.1 == mtapi_number c)) (λ z. fault_in actions (task_in all z.deed)) before s behind
    (subst (λ (o : Option NewTask). has_fault (fault_in actions o) g c ≡ true) (sym e) (both_there t.group (plain_fault actions t) g c i j))

-- The fault that is told

-- none of these tasks has a fault where there is none, and else one of them has this one
pub record Matches (fault_of_task : ℕ → Option MtapiStatus) (hs : List ℕ) (fault : Option MtapiStatus) : Type 0 where
  pub none : fault ≡ None → (h : ℕ) → has hs h ≡ true → fault_of_task h ≡ None
  pub some : (c : MtapiStatus) → fault ≡ Some c → (h : ℕ) × (has hs h ≡ true) × (fault_of_task h ≡ Some c)

module _ (F : ℕ → Option MtapiStatus) where
  pub no_member : Matches F [] None
  no_member = record { none = λ e h b. true_false b refl; some = λ c e. none_some e }

  pub more_member : (h : ℕ) (x : Option MtapiStatus) (hs : List ℕ) (fault : Option MtapiStatus) → F h ≡ x → Matches F hs fault
      → Matches F (h ∷ hs) (option_or fault x)
  more_member h x hs fault e1 e2 = grind (arith, nat_tests)

  -- where the faults of the tasks are one, so are the two
  pub one_verdict : (s : State) (hs : List ℕ) (r : Reply) (fault : Option MtapiStatus) → IsGroupVerdict s hs r
      → ((h : ℕ) → has hs h ≡ true → fault_at s h ≡ F h)
      → Matches F hs fault
      → ((h j : ℕ) (c d : MtapiStatus) → has hs h ≡ true → has hs j ≡ true → F h ≡ Some c → F j ≡ Some d → c ≡ d) → r ≡ verdict fault
  one_verdict s hs r fault v same m one = v.is ∙ ap verdict (by v.fault refl fault refl)
    where
      by : (a : Option MtapiStatus) → v.fault ≡ a → (b : Option MtapiStatus) → fault ≡ b → a ≡ b
      by None i None j = refl
      by None i (Some c) j = let y = m.some c j in none_some (sym (sym (same y.0 y.1) ∙ v.none i y.0 y.1) ∙ y.2)
      by (Some c) i None j = let y = v.some c i in none_some (sym (m.none j y.0 y.1) ∙ (sym (same y.0 y.1) ∙ y.2))
      by (Some c) i (Some d) j =
          let y = v.some c i in
          let z = m.some d j in
          ap Some (one y.0 z.0 c d y.1 z.1 (sym (same y.0 y.1) ∙ y.2) z.2)
