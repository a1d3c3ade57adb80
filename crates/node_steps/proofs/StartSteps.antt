-- Why a new task is refused, from what the actions of its job cover.
use Rattle.node_steps.proofs.Names.{◌≡◌, ℕ, zero, suc, ◌<◌, Bool, true, false, not, cond, List, [], ◌∷◌, Option, Some, None, refl, sym, ◌∙◌, arith, ◌&&◌, nat_lt, is_none, ℤ, ◌||◌, option_map, nat_tests, Mask, GroupHandle, MtapiStatus, first, holds, in_mask, Slots, slot_value, Listed, live_of, live_object, any_listed, any_live, any-none, any-live, Action, has_enabled_job, is_eligible, some_below, has_worker, Covers, IsUnion, runs_job_on, Cover, NoAction, AllDisabled, Cores, new_group, names_dead, MayJoin, value-mapped, asked_for, start_refusals, number_of, is_detached_member, PoolNode, Lists, Holds, Live, state_of, and_parts}
use Rattle.mtapi_values.specs.declared.statuses.MtapiStatus.TheVariants as m
use Rattle.node_steps.proofs.ActionSteps.{covers_none, covers_some, enabled_none, enabled_some}

pub false≢true : {P : Type 0} → false ≡ true → P
false≢true h = absurd (cc)

pub below_same : (n : ℕ) (p q : ℕ → Bool) → ((w : ℕ) → w < n → p w ≡ q w) → some_below n p ≡ some_below n q
below_same zero p q k = refl
below_same (suc n) p q k = λ i. cond (k n (omega arith) i) true (below_same n p q (λ w l. k w (omega arith)) i)

-- a worker has an eligible action for a task exactly where the core is covered and in the task's mask

pub eligible_in : (workers w job cores : ℕ) (a : Action) → w < workers → in_mask w cores ≡ true → runs_job_on job w a ≡ true
    → is_eligible workers w job cores a ≡ true
eligible_in workers w job cores a e1 e2 e3 = grind (arith, nat_tests)

pub runs_in : (workers w job cores : ℕ) (a : Action) → is_eligible workers w job cores a ≡ true → runs_job_on job w a ≡ true
runs_in workers w job cores a e1 = grind (arith, nat_tests)

same_tests : (a b : Bool) → (a ≡ true → b ≡ true) → (b ≡ true → a ≡ true) → a ≡ b
same_tests a b e1 e2 = grind (arith, nat_tests)

module _ (size turns : ℕ) (p : Slots Action) (l : List (Listed Action)) (job : ℕ) (mask : Mask) (s : Holds size turns p l) (u : IsUnion p job mask.0) where
  has_in : (workers w cores : ℕ) → w < workers → any_live (is_eligible workers w job cores) (live_of l) ≡ (in_mask w mask.0 && in_mask w cores)
  has_in workers w cores less = same_tests (any_listed (is_eligible workers w job cores) l) (in_mask w mask.0 && in_mask w cores) there back
    where
      there : any_listed (is_eligible workers w job cores) l ≡ true → (in_mask w mask.0 && in_mask w cores) ≡ true
      there e = by_core (in_mask w mask.0) refl (in_mask w cores) refl
        where
          none_runs : in_mask w mask.0 ≡ false → any_listed (is_eligible workers w job cores) l ≡ false
          none_runs off = any-none p l (is_eligible workers w job cores) s.stands (λ h a g q. u.uncovered w off h a g (runs_in workers w job cores a q))

          none_masked : in_mask w cores ≡ false → any_listed (is_eligible workers w job cores) l ≡ false
          none_masked off = any-none p l (is_eligible workers w job cores) s.stands
              (λ h a g q. false≢true (sym off ∙ (and_parts (has_enabled_job job a && nat_lt w workers && in_mask w a.cores) (in_mask w cores) q).1))

          by_core : (a : Bool) → in_mask w mask.0 ≡ a → (b : Bool) → in_mask w cores ≡ b → (a && b) ≡ true
          by_core true x true y = refl
          by_core true x false y = false≢true (sym (none_masked y) ∙ e)
          by_core false x b y = false≢true (sym (none_runs x) ∙ e)

      back : (in_mask w mask.0 && in_mask w cores) ≡ true → any_listed (is_eligible workers w job cores) l ≡ true
      back e =
          let a = u.covered w (and_parts _ _ e).0 in
          any-live p l (is_eligible workers w job cores) a.0 a.1 s.stands a.2
          (eligible_in workers w job cores a.1 less (and_parts (in_mask w mask.0) _ e).1 a.3)

  pub covered_worker : (workers cores : ℕ) → has_worker workers job cores (live_of l) ≡ some_below workers (λ w. in_mask w mask.0 && in_mask w cores)
  unfolding has_worker
  covered_worker workers cores = below_same workers _ _ (λ w less. has_in workers w cores less)

-- whether a new task names a group that isn't live
group_live : (n : PoolNode) (l : Lists) (h : ℕ) → Live n l → is_none (live_object l.groups h) ≡ is_none (slot_value n.scheduler.groups.pool h)
group_live n l h e1 = grind (arith, nat_tests, value-mapped, new_group, slot_value, option_map)

group_is : (n : PoolNode) (l : Lists) (g : Option GroupHandle) → Live n l
    → holds (λ h. is_none (live_object l.groups h)) (number_of g) ≡ names_dead n.scheduler.groups.pool (number_of g)
group_is n l g e1 = grind (arith, nat_tests, group_live)

-- the first of the four conditions that is met
no_job : (a b c d : Bool) → a ≡ false → first ((not a, m.ErrJobInvalid) ∷ (b, m.ErrGroupInvalid) ∷ (not c, m.ErrActionDisabled) ∷ (not d, m.ErrNoCore) ∷ [])
    ≡ Some m.ErrJobInvalid
no_job a b c d e1 = grind (arith, nat_tests)

no_group : (a b c d : Bool) → a ≡ true → b ≡ true
    → first ((not a, m.ErrJobInvalid) ∷ (b, m.ErrGroupInvalid) ∷ (not c, m.ErrActionDisabled) ∷ (not d, m.ErrNoCore) ∷ []) ≡ Some m.ErrGroupInvalid
no_group a b c d e1 e2 = grind (arith, nat_tests)

none_enabled : (a b c d : Bool) → a ≡ true → b ≡ false → c ≡ false
    → first ((not a, m.ErrJobInvalid) ∷ (b, m.ErrGroupInvalid) ∷ (not c, m.ErrActionDisabled) ∷ (not d, m.ErrNoCore) ∷ []) ≡ Some m.ErrActionDisabled
none_enabled a b c d e1 e2 e3 = grind (arith, nat_tests)

no_core : (a b c d : Bool) → a ≡ true → b ≡ false → c ≡ true → d ≡ false
    → first ((not a, m.ErrJobInvalid) ∷ (b, m.ErrGroupInvalid) ∷ (not c, m.ErrActionDisabled) ∷ (not d, m.ErrNoCore) ∷ []) ≡ Some m.ErrNoCore
no_core a b c d e1 e2 e3 e4 = grind (arith, nat_tests)

not_refused : (a b c d : Bool) → a ≡ true → b ≡ false → c ≡ true → d ≡ true
    → first ((not a, m.ErrJobInvalid) ∷ (b, m.ErrGroupInvalid) ∷ (not c, m.ErrActionDisabled) ∷ (not d, m.ErrNoCore) ∷ []) ≡ None
not_refused a b c d e1 e2 e3 e4 = grind (arith, nat_tests)

module _ (n : PoolNode) (l : Lists) (job : ℕ) (args : List ℤ) (priority : ℕ) (cores : Mask) (detached : Bool) (group : Option GroupHandle) (v : Live n l) where
  abbrev refusals : Option MtapiStatus
  refusals = first (start_refusals (state_of n l) (asked_for job args priority cores detached group))

  abbrev workers : ℕ
  workers = n.scheduler.settings.workers

  pub refused_job : Covers n.scheduler.actions job NoAction → refusals ≡ Some m.ErrJobInvalid
  refused_job c = no_job _ _ _ _ (covers_none _ _ n.scheduler.actions l.actions job v.actions c)

  pub refused_group : (c : Cover) → Covers n.scheduler.actions job c → (c ≡ NoAction → ⊥) → names_dead n.scheduler.groups.pool (number_of group) ≡ true
      → refusals ≡ Some m.ErrGroupInvalid
  refused_group c h k g = no_group _ _ _ _ (covers_some _ _ n.scheduler.actions l.actions job c v.actions h k) (group_is n l group v ∙ g)

  pub refused_disabled : Covers n.scheduler.actions job AllDisabled → names_dead n.scheduler.groups.pool (number_of group) ≡ false
      → refusals ≡ Some m.ErrActionDisabled
  refused_disabled h g = none_enabled _ _ _ _ (covers_some _ _ n.scheduler.actions l.actions job AllDisabled v.actions h apart) (group_is n l group v
      ∙ g) (enabled_none _ _ n.scheduler.actions l.actions job v.actions h)
    where
      apart : AllDisabled ≡ NoAction → ⊥
      apart d = cc

  covered : (mask : Mask) → Cores mask ≡ NoAction → ⊥
  covered mask d = cc

  pub refused_core : (mask : Mask) → Covers n.scheduler.actions job (Cores mask) → names_dead n.scheduler.groups.pool (number_of group) ≡ false
      → some_below workers (λ w. in_mask w mask.0 && in_mask w cores.0) ≡ false → refusals ≡ Some m.ErrNoCore
  refused_core mask h g w =
      no_core _ _ _ _ (covers_some _ _ n.scheduler.actions l.actions job (Cores mask) v.actions h (covered mask)) (group_is n l group v
      ∙ g) (enabled_some _ _ n.scheduler.actions l.actions job mask v.actions h)
      (covered_worker _ _ n.scheduler.actions l.actions job mask v.actions h.1 workers cores.0 ∙ w)

  pub refused_none : (mask : Mask) → Covers n.scheduler.actions job (Cores mask) → names_dead n.scheduler.groups.pool (number_of group) ≡ false
      → some_below workers (λ w. in_mask w mask.0 && in_mask w cores.0) ≡ true → refusals ≡ None
  refused_none mask h g w =
      not_refused _ _ _ _ (covers_some _ _ n.scheduler.actions l.actions job (Cores mask) v.actions h (covered mask)) (group_is n l group v
      ∙ g) (enabled_some _ _ n.scheduler.actions l.actions job mask v.actions h)
      (covered_worker _ _ n.scheduler.actions l.actions job mask v.actions h.1 workers cores.0 ∙ w)

pub disabled_not_none : AllDisabled ≡ NoAction → ⊥
disabled_not_none d = cc

pub cores_not_none : (mask : Mask) → Cores mask ≡ NoAction → ⊥
cores_not_none mask d = cc

-- a task that isn't refused may name its group
pub may_join : (n : PoolNode) (priority : Bool) (detached : Bool) (group : Option GroupHandle) → (priority || is_detached_member detached group) ≡ false
    → names_dead n.scheduler.groups.pool (number_of group) ≡ false → MayJoin n.scheduler.groups.pool detached (number_of group)
may_join n priority detached group e1 e2 = grind (arith, nat_tests)
