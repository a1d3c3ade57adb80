-- What holds after every legal list of the tasks, the phase and the marks of stopped workers, and the changes that keep it.
use Rattle.history_law.proofs.Names.{nat_tests, ◌≡◌, ℕ, Bool, true, false, List, [], ◌∷◌, refl, arith, slice_set, TaskEnd, Phase, Listed, live_of, any_listed, with_fields, gone, Task, is_unended, ended, is_open, is_past_open}
use Rattle.history_law.proofs.lists.Every.{Each, Every}
use Rattle.history_law.proofs.Answered.{true_false}

-- the task has ended
abbrev pub HasEnded : Task → Type 0
HasEnded t = is_unended t ≡ false

-- each task that isn't live has ended, and each task has
abbrev pub DeadEnded : List (Listed Task) → Type 0
DeadEnded l = Each (λ r. r.live ≡ false → HasEnded r.fields) l

abbrev pub AllEnded : List (Listed Task) → Type 0
AllEnded l = Every HasEnded l

-- the first worker has stopped
abbrev pub first_mark : List Bool → Bool
first_mark [] = false
first_mark (b ∷ bs) = b

-- once the first worker has stopped the phase is late and every task has ended
pub record Held (p : Phase) (m : List Bool) (l : List (Listed Task)) : Type 0 where
  pub dead : DeadEnded l
  pub stopped : first_mark m ≡ true → (is_past_open p ≡ true) × AllEnded l

-- what a change keeps of a listed task: that it has ended, and that it has ended where it isn't live
pub record Keeps (r q : Listed Task) : Type 0 where
  pub over : HasEnded r.fields → HasEnded q.fields
  pub dead : (r.live ≡ false → HasEnded r.fields) → q.live ≡ false → HasEnded q.fields

-- Changes of one task

pub same : (r : Listed Task) → Keeps r r
same r = record { over = λ e. e; dead = λ d. d }

pub ends : (e : TaskEnd) (n : ℕ) (r : Listed Task) → Keeps r (ended e n r)
ends e n r = record { over = λ h. refl; dead = λ d h. refl }

pub alters : (f : Task → Task) (r : Listed Task) → (f r.fields).state ≡ r.fields.state → Keeps r (with_fields f r)
alters f r e1 = grind (arith, nat_tests)

pub goes : (r : Listed Task) → HasEnded r.fields → Keeps r (gone r)
goes r e = record { over = λ h. h; dead = λ d h. e }

pub begins : (f : Task → Task) (r : Listed Task) → is_unended r.fields ≡ true → Keeps r (with_fields f r)
begins f r e = record { over = λ h. absurd (true_false e h); dead = λ d h. absurd (true_false e (d h)) }

pub open_late : (p : Phase) → is_open p ≡ true → is_past_open p ≡ true → ⊥
open_late p e1 e2 = grind (arith, nat_tests)

-- a worker stops

all_ended : (l : List (Listed Task)) → any_listed is_unended l ≡ false → DeadEnded l → AllEnded l
unfolding live_of
all_ended [] e d = tt
all_ended (r ∷ rs) e d = grind (arith, nat_tests, all_ended rs, d.0, d.1)

pub held_stop : (p : Phase) (m : List Bool) (w : ℕ) (l : List (Listed Task)) → is_past_open p ≡ true → any_listed is_unended l ≡ false → Held p m l
    → Held p (slice_set m w true) l
held_stop p m w l t n v = record { dead = v.dead; stopped = λ f. (t, all_ended l n v.dead) }
