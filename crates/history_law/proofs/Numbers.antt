-- No two ends have one number, and every number is below the next one.
use Rattle.history_law.proofs.Names.{◌≡◌, ℕ, ◌+◌, ◌≤◌, ◌<◌, Bool, false, cond, List, [], ◌∷◌, refl, ap, arith, ◌==◌, nat_lt, cond_both, nat_tests, TaskEnd, Failed, Listed, how_many, change, change_all, issue, count_listed, with_fields, gone, Task, TaskState, Scheduled, Running, Ended, with_state, with_notes, ended, end_each, new_task, is_member, freed, let_go, Terms, State, opening, Move, starts_task, runs_task, ends_task, ends_waiting, withdraws, notes, leaves, frees_members, lets_members_go, apply, NodeEntry, after_from, along, rest_keeps}

abbrev pub is_number : ℕ → TaskState → Bool
is_number n Scheduled = false
is_number n (Running w k) = false
is_number n (Ended e m) = m == n

abbrev pub bit : Bool → ℕ
bit b = cond b 1 0

-- how many of these tasks have an end of this number
abbrev pub has_number : ℕ → List (Listed Task) → ℕ
has_number n l = how_many (λ r. is_number n r.fields.state) l

change_number : (n d h : ℕ) (f : Listed Task → Listed Task) (l : List (Listed Task))
    → ((r : Listed Task) → bit (is_number n (f r).fields.state) ≤ bit (is_number n r.fields.state) + d) → has_number n (change h f l) ≤ has_number n l + d
unfolding change
change_number n d h f [] k = omega arith
change_number n d h f (r ∷ rs) k = grind (arith, nat_tests, change_number n d h f rs k)

all_number : (n : ℕ) (p : Task → Bool) (f : Listed Task → Listed Task) (l : List (Listed Task))
    → ((r : Listed Task) → bit (is_number n (f r).fields.state) ≡ bit (is_number n r.fields.state)) → has_number n (change_all p f l) ≤ has_number n l
unfolding change_all
all_number n p f [] k = omega arith
all_number n p f (r ∷ rs) k = grind (arith, nat_tests, all_number n p f rs k)

issue_number : (n h : ℕ) (x : Task) (l : List (Listed Task)) → is_number n x.state ≡ false → has_number n (issue h x l) ≡ has_number n l
unfolding issue
issue_number n h x [] e = ap (λ (b : Bool). bit b + 0) e
issue_number n h x (r ∷ rs) e = ap (λ (k : ℕ). bit (is_number n r.fields.state) + k) (issue_number n h x rs e)

other_number : (k n : ℕ) → k < n → (k == n) ≡ false
other_number k n l = grind (arith, nat_tests)

at_most_one : (b : Bool) → bit b ≤ 1
at_most_one b = grind (arith, nat_tests)

-- numbers below the first one that is given are given to no further task
ends_low : (n : ℕ) (p : Task → Bool) (e : TaskEnd) (k : ℕ) (l : List (Listed Task)) → n < k → has_number n (end_each p e k l) ≤ has_number n l
unfolding end_each
ends_low n p e k [] i = omega arith
ends_low n p e k (r ∷ rs) i = grind (arith, nat_tests, ends_low n p e k rs i, ends_low n p e (k + 1) rs (omega arith))

-- a number that none had is given at most once
ends_high : (n : ℕ) (p : Task → Bool) (e : TaskEnd) (k : ℕ) (l : List (Listed Task)) → has_number n l ≡ 0 → has_number n (end_each p e k l) ≤ 1
unfolding end_each
ends_high n p e k [] z = omega arith
ends_high n p e k (r ∷ rs) z = grind (arith, nat_tests, ends_high n p e k rs, ends_high n p e (k + 1) rs, ends_low n p e (k + 1) rs)

-- and none from the last one on
ends_above : (n : ℕ) (p : Task → Bool) (e : TaskEnd) (k : ℕ) (l : List (Listed Task)) → k + count_listed p l ≤ n → has_number n l ≡ 0
    → has_number n (end_each p e k l) ≡ 0
unfolding end_each
ends_above n p e k [] i z = refl
ends_above n p e k (r ∷ rs) i z = grind (arith, nat_tests, ends_above n p e (k + 1) rs, ends_above n p e k rs, cond_both, end_each, other_number)

-- no two ends have one number, and each number is below the next one
pub record Numbered (s : State) : Type 0 where
  pub once : (n : ℕ) → has_number n s.tasks ≤ 1
  pub above : (n : ℕ) → s.ends ≤ n → has_number n s.tasks ≡ 0

-- where the next number stays
kept_numbers : (s t : State) → Numbered s → t.ends ≡ s.ends → ((n : ℕ) → has_number n t.tasks ≤ has_number n s.tasks) → Numbered t
kept_numbers s t v e f = grind (arith, nat_tests)

many_numbers : (s : State) (l : List (Listed Task)) (p : Task → Bool) (e : TaskEnd) → Numbered s
    → Numbered (record s { tasks = end_each p e s.ends s.tasks; ends = s.ends + count_listed p s.tasks })
many_numbers s l p e e1 = grind (arith, nat_tests, nat_lt, ends_above, end_each, ends_low, ends_high)

one_number : (s : State) (h : ℕ) (e : TaskEnd) → Numbered s → Numbered (record s { tasks = change h (ended e s.ends) s.tasks; ends = s.ends + 1 })
one_number s h e v =
    let changed : (n : ℕ) → has_number n (change h (ended e s.ends) s.tasks) ≤ has_number n s.tasks + bit (s.ends == n) =
    λ n. change_number n (bit (s.ends == n)) h (ended e s.ends) s.tasks (λ r. omega arith) in record {
      once = λ n. grind (arith, nat_tests, changed n, v.once n, v.above n);
      above = λ n i. grind (arith, nat_tests, changed n, v.above n);
    }

none_more : (a b : ℕ) → a ≤ b + 0 → a ≤ b
none_more a b e = omega arith

numbered_move : (s : State) (m : Move) → Numbered s → Numbered (apply m s)
numbered_move s (starts_task h t) v = grind (arith, nat_tests, kept_numbers s, new_task, issue_number)
numbered_move s (runs_task h w k) v = kept_numbers s _ v refl
    (λ n. none_more _ _ (change_number n 0 h (with_fields (with_state (Running w k))) s.tasks (λ r. omega arith)))
numbered_move s (ends_task h e) v = one_number s h e v
numbered_move s (ends_waiting p e) v = many_numbers s s.tasks _ e v
numbered_move s (withdraws h f c) v = let u = many_numbers s s.tasks _ (Failed c) v in record { once = u.once; above = u.above }
numbered_move s (notes h f) v = kept_numbers s _ v refl (λ n. none_more _ _ (change_number n 0 h (with_fields (with_notes f)) s.tasks (λ r. omega arith)))
numbered_move s (leaves h) v = kept_numbers s _ v refl (λ n. none_more _ _ (change_number n 0 h gone s.tasks (λ r. omega arith)))
numbered_move s (frees_members g) v = kept_numbers s _ v refl (λ n. all_number n _ freed s.tasks (λ r. refl))
numbered_move s (lets_members_go g) v = kept_numbers s _ v refl (λ n. all_number n (is_member g) let_go s.tasks (λ r. refl))
numbered_move s x v = rest_keeps Numbered (λ t g q m c r y p. record { once = p.once; above = p.above }) x s (record { once = v.once; above = v.above })

pub numbered_after : (terms : Terms) (L : List NodeEntry) → Numbered (after_from (opening terms) L)
numbered_after terms L = along Numbered (λ o t m e v. numbered_move t m v) (opening terms) L (record { once = λ n. omega arith; above = λ n i. refl })
