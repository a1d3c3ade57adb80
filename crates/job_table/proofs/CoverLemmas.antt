-- How a cover grows with each place of the walk.
use Rattle.job_table.proofs.Names.{◌≡◌, ℕ, ◌+◌, Bool, true, false, bit_or, List, length, Some, slice_get, refl, sym, ap, ◌∙◌, arith, nat_tests, false≢true, ◌==◌, Slots, slot_value, max_of, SomeLive, NoneLive, HandleLists, list_at, has_handle, has-index, Action, has_job, has_enabled_job, Passes, runs_job_on, Covers, mask_of, cover_with, NoneBefore, IsUnionBefore, CoversBefore, list_of_job, AreListed, and_from, and_parts, eqb-true}
use Rattle.std.proofs.lemmas.Option.{slice_get_within}
use Rattle.std.proofs.lemmas.Nat.Bits.{bit_at_or, bit_at-lt, bit_at-zero}
use Rattle.mtapi_values.specs.Masks.{in_mask}
use Rattle.job_table.specs.declared.cover.Cover.{Cover}
use Rattle.job_table.specs.declared.cover.Cover.TheVariants.{NoAction, AllDisabled, Cores}

in_mask-or : (core a b : ℕ) → in_mask core (bit_or a b) ≡ true → in_mask core b ≡ false → in_mask core a ≡ true
in_mask-or core a b h g = grind (arith, nat_tests, bit_at_or a b core, bit_at-lt a core, bit_at-lt b core)

in_mask-or_left : (core a b : ℕ) → in_mask core (bit_or a b) ≡ false → in_mask core a ≡ false
in_mask-or_left core a b h = grind (arith, nat_tests, bit_at_or a b core, bit_at-lt a core, bit_at-lt b core)

in_mask-or_right : (core a b : ℕ) → in_mask core (bit_or a b) ≡ false → in_mask core b ≡ false
in_mask-or_right core a b h = grind (arith, nat_tests, bit_at_or a b core, bit_at-lt a core, bit_at-lt b core)

in_mask-zero : (core : ℕ) → in_mask core 0 ≡ false
in_mask-zero core = grind (arith, nat_tests, bit_at-zero core)

not_both : {P : Type 0} (b : Bool) → b ≡ false → b ≡ true → P
not_both b x y = absurd (false≢true (sym x ∙ y))

pub NoneBefore-zero : (p : Slots Action) (hs : List ℕ) (P : Action → Type 0) → NoneBefore p hs 0 P
NoneBefore-zero p hs P i h a less at live holds = omega arith

-- an action more that does not pass
pub NoneBefore-one : (p : Slots Action) (hs : List ℕ) (index handle : ℕ) (a : Action) (P : Action → Type 0) → slice_get hs index ≡ Some handle
    → slot_value p handle ≡ Some a → (P a → ⊥) → NoneBefore p hs index P → NoneBefore p hs (index + 1) P
NoneBefore-one p hs index handle a P at live fails before i h b less is found holds = grind (arith, nat_tests)

-- what no action of the job's list passes, no live action passes that has the job
pub none-of : (p : Slots Action) (jobs : HandleLists) (job : ℕ) → AreListed p jobs → (q : Action → Bool) → ((a : Action) → q a ≡ true → has_job job a ≡ true)
    → NoneBefore p (list_at jobs.lists (list_of_job (max_of p) job)) (length (list_at jobs.lists (list_of_job (max_of p) job))) (Passes q)
    → NoneLive (slot_value p) (Passes q)
none-of p jobs job l q has none h a found passes =
    let same : a.job ≡ job = eqb-true a.job job (has a passes) in
    let hs = list_at jobs.lists (list_of_job (max_of p) job) in
    let there = ap (λ (k : ℕ). has_handle h (list_at jobs.lists (list_of_job (max_of p) k))) (sym same) ∙ l.listed h a found in
    let i = has-index h hs there in
    none i.0 h a (slice_get_within hs i.0 h i.1) i.1 found passes

-- what holds of no more actions holds of none of those
weaker : (p : Slots Action) (hs : List ℕ) (index : ℕ) (P Q : Action → Type 0) → ((a : Action) → Q a → P a) → NoneBefore p hs index P → NoneBefore p hs index Q
weaker p hs index P Q weakens none i h a less at found holds = none i h a less at found (weakens a holds)

enabled_has_job : (job : ℕ) (a : Action) → Passes (has_enabled_job job) a → Passes (has_job job) a
enabled_has_job job a h = (and_parts a.enabled (a.job == job) h).1

runs_has_job : (job core : ℕ) (a : Action) → Passes (runs_job_on job core) a → Passes (has_enabled_job job) a
runs_has_job job core a h = (and_parts (has_enabled_job job a) (in_mask core a.cores) h).0

-- each cover has the union of the masks so far
union_so_far : (p : Slots Action) (hs : List ℕ) (index job : ℕ) (cover : Cover) → CoversBefore p hs index job cover
    → IsUnionBefore p hs index job (mask_of cover)
union_so_far p hs index job NoAction h = record {
  covered = λ core is. not_both (in_mask core 0) (in_mask-zero core) is;
  uncovered = λ core is. weaker p hs index (Passes (has_job job)) (Passes (runs_job_on job core)) (λ a r. enabled_has_job job a (runs_has_job job core a r)) h;
}
union_so_far p hs index job AllDisabled h = record {
  covered = λ core is. not_both (in_mask core 0) (in_mask-zero core) is;
  uncovered = λ core is. weaker p hs index (Passes (has_enabled_job job)) (Passes (runs_job_on job core)) (runs_has_job job core) h.1;
}
union_so_far p hs index job (Cores mask) h = h.1

pub CoversBefore-zero : (p : Slots Action) (hs : List ℕ) (job : ℕ) → CoversBefore p hs 0 job NoAction
CoversBefore-zero p hs job = NoneBefore-zero p hs (Passes (has_job job))

module _ (p : Slots Action) (hs : List ℕ) (index job handle : ℕ) (a : Action) (at : slice_get hs index ≡ Some handle) (live : slot_value p handle
    ≡ Some a) (has : has_job job a ≡ true) where
  enabled_covers : (cover : Cover) → a.enabled ≡ true → CoversBefore p hs index job cover
      → CoversBefore p hs (index + 1) job (Cores (record { 0 = bit_or (mask_of cover) a.cores }))
  enabled_covers cover on h =
      let before = union_so_far p hs index job cover h in
      let runs : has_enabled_job job a ≡ true = and_from a.enabled (a.job == job) on has in (
        (handle, a, live, runs),
        record {
          covered = λ core is. by_own core is (in_mask core a.cores) refl;
          uncovered = λ core is. NoneBefore-one p hs index handle a (Passes (runs_job_on job core)) at live
              (λ passes. not_both (in_mask core a.cores) (in_mask-or_right core (mask_of cover) a.cores is)
              (and_parts (has_enabled_job job a) (in_mask core a.cores) passes).1)
              (before.uncovered core (in_mask-or_left core (mask_of cover) a.cores is));
        },
      )
    where
      by_own : (core : ℕ) → in_mask core (bit_or (mask_of cover) a.cores) ≡ true → (own : Bool) → in_mask core a.cores ≡ own
          → SomeLive (slot_value p) (Passes (runs_job_on job core))
      by_own core is true own = (handle, a, live, and_from (has_enabled_job job a) (in_mask core a.cores) (and_from a.enabled (a.job == job) on has) own)
      by_own core is false own = (union_so_far p hs index job cover h).covered core (in_mask-or core (mask_of cover) a.cores is own)

  -- a test that only enabled actions pass
  past_disabled : a.enabled ≡ false → (q : Action → Bool) → (q a ≡ true → has_enabled_job job a ≡ true) → NoneBefore p hs index (Passes q)
      → NoneBefore p hs (index + 1) (Passes q)
  past_disabled off q needs = NoneBefore-one p hs index handle a (Passes q) at live
      (λ passes. not_both a.enabled off (and_parts a.enabled (a.job == job) (needs passes)).0)

  disabled_covers : (cover : Cover) → a.enabled ≡ false → CoversBefore p hs index job cover → CoversBefore p hs (index + 1) job (cover_with cover a)
  disabled_covers NoAction off h = rw off (
    (handle, a, live, has),
    past_disabled off (has_enabled_job job) (λ r. r)
        (weaker p hs index (Passes (has_job job)) (Passes (has_enabled_job job)) (enabled_has_job job) h),
  )
  disabled_covers AllDisabled off h = rw off (h.0, past_disabled off (has_enabled_job job) (λ r. r) h.1)
  disabled_covers (Cores mask) off h = grind (arith, nat_tests, h.1.covered, past_disabled off, runs_has_job job, h.1.uncovered)

  pub CoversBefore-with : (cover : Cover) → CoversBefore p hs index job cover → CoversBefore p hs (index + 1) job (cover_with cover a)
  CoversBefore-with cover h = by_enabled a.enabled refl
    where
      by_enabled : (b : Bool) → a.enabled ≡ b → CoversBefore p hs (index + 1) job (cover_with cover a)
      by_enabled true on = rw on (enabled_covers cover on h)
      by_enabled false off = disabled_covers cover off h

pub Covers-all : (p : Slots Action) (jobs : HandleLists) (job : ℕ) (cover : Cover) → AreListed p jobs
    → CoversBefore p (list_at jobs.lists (list_of_job (max_of p) job)) (length (list_at jobs.lists (list_of_job (max_of p) job))) job cover → Covers p job cover
Covers-all p jobs job NoAction l h = none-of p jobs job l (has_job job) (λ a r. r) h
Covers-all p jobs job AllDisabled l h = (h.0, none-of p jobs job l (has_enabled_job job) (enabled_has_job job) h.1)
Covers-all p jobs job (Cores mask) l h = (
  h.0,
  record {
    covered = h.1.covered;
    uncovered = λ core is. none-of p jobs job l (runs_job_on job core) (λ a r. enabled_has_job job a (runs_has_job job core a r)) (h.1.uncovered core is);
  },
)

-- an action that runs the job has it
pub runs-job : (job core : ℕ) (a : Action) → runs_job_on job core a ≡ true → has_job job a ≡ true
runs-job job core a r = enabled_has_job job a (runs_has_job job core a r)
