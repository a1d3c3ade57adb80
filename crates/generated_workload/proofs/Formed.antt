-- The generated workload is well formed.
use Rattle.std.proofs.lemmas.Bool.Decides.{nat_tests}
use Rattle.generated_workload.proofs.Names.{AllFit, fields, generated_settings, ◌≡◌, ℕ, ℤ, zero, suc, pos, ◌+◌, ◌%◌, ◌^◌, ◌≤◌, ◌<◌, Bool, true, false, cond, eqb, List, [], ◌∷◌, ◌++◌, length, map, append_assoc, Result, Ok, Err, refl, sym, ap, subst, ◌∙◌, arith, rules, inl, inr, IfOk, FitsSigned, AllByRecursion, list_all, list_any, is_ascii_digit, decimal, le-leb, and_parts, and_from, cases_Bool, decimal_injective, length-decimal-le, digits_decimal, append-nil, map-append, length-map, length-append, own, Statement, is_called, IsBoundAt, IsNew, IsStatement, AreStatements, begins, statement_lines, Rise, WellFormed, push_statement, begins_push, any_push, Below, below_push, rise_push, binding_at, first_statements, task_deed, generated_task_name, task_statement, last_statement}
use Rattle.std.specs.declared.alloc.AllocError.{AllocError}
use Rattle.std.specs.Int.{w64}
use Rattle.std.specs.Str.{bytes_eq}
use Rattle.std.proofs.lemmas.Slice.Eq.{bytes_eq-Decides}
use Rattle.workload_file.specs.declared.table.Sort.TheVariants as sort
use Rattle.workload_file.specs.declared.workload.Workload.{Workload}
use Rattle.workload_file.specs.declared.table.Word.TheVariants as word
use Rattle.workload_file.specs.Deeds.{is_begin, deed_spelled, binds, setting_values}
use Rattle.workload_file.specs.Table.{statement_row}
use Rattle.workload_file.specs.Values.{is_name, is_name_byte}
use Rattle.generated_workload.specs.Generated.{start_deed, generated_tasks, generated}

-- ---- names

digit_name : (b : ℕ) → is_ascii_digit b ≡ true → is_name_byte b ≡ true
digit_name b h = grind (arith, nat_tests)

digits_name : (ds : List ℕ) → list_all is_ascii_digit ds ≡ true → list_all is_name_byte ds ≡ true
digits_name [] h = refl
digits_name (d ∷ ds) h = let both = and_parts (is_ascii_digit d) (list_all is_ascii_digit ds) h in and_from _ _ (digit_name d both.0) (digits_name ds both.1)

-- t and a number are a name
pub is_task_name : (i : ℕ) → i < 19000 → is_name (generated_task_name i) ≡ true
unfolding is_name
is_task_name i lt =
    let short = length-decimal-le 5 i (omega arith) (omega arith) (omega arith) in
    let fits = le-leb (suc (length (decimal i))) 16 (omega (arith, short)) in
    let bytes = digits_name (decimal i) (digits_decimal own i (omega arith)) in
    and_from _ _ fits bytes

-- two numbers have two names
other_name : (i j : ℕ) → i < j → j < 19000 → bytes_eq (generated_task_name i) (generated_task_name j) ≡ false
other_name i j lt few =
    elim (cases_Bool (bytes_eq (generated_task_name i) (generated_task_name j))) [
      | inl t ↦ absurd (
          let same = (bytes_eq-Decides (generated_task_name i) (generated_task_name j)).0 t in
          let e = decimal_injective i j (omega arith) (omega arith) (tail_is _ _ same) in
          omega (arith, e)
          )
      | inr f ↦ f
    ]
  where
    tail_is : (xs ys : List ℕ) → 116 ∷ xs ≡ 116 ∷ ys → xs ≡ ys
    tail_is xs ys e = cc

-- no task before bound the name of a later one
unbound : (i j : ℕ) → i ≤ j → j < 19000 → list_any (λ s. is_called (generated_task_name j) s.name) (generated_tasks i) ≡ false
unfolding generated_tasks
unbound zero j le few = refl
unbound (suc i) j le few = any_push (λ s. is_called (generated_task_name j) s.name) (generated_tasks i) (task_statement i) (unbound i j (omega arith) few)
    (other_name i j (omega arith) few)

-- neither an action nor the group has it
pub is_new : (i : ℕ) → i < 19000 → IsNew (first_statements ++ generated_tasks i) (generated_task_name i)
is_new i lt = (is_task_name i lt, unbound i i (omega arith) lt)

-- ---- the settings

pub settings_fit : (n w : ℕ) → 1 ≤ n → n ≤ 19000 → 1 ≤ w → w ≤ 16 → AllFit [] (fields word.Node) (setting_values (generated_settings n w))
unfolding statement_row
settings_fit n w a b c d = (
  (c, d),
  (
    (a, omega arith),
    (
      (omega arith, omega arith),
      (
        (omega arith, omega arith),
        ((omega arith, omega arith), ((omega arith, omega arith), ((omega arith, omega arith), ((omega arith, omega arith), tt)))),
      ),
    ),
  ),
)

-- ---- statements

-- statements in order, all of them before this line, and how many there are
record Good (xs : List Statement) (line : ℕ) : Type 0 where
  are : AreStatements [] xs
  begins : begins xs ≡ 0
  rise : Rise 0 (1 ∷ map (λ s. s.line) xs)
  below : Below line (1 ∷ map (λ s. s.line) xs)
  count : length xs + 2 ≡ line

pushed : (xs : List Statement) (s : Statement) (line : ℕ) → Good xs line → IsStatement xs s → s.line ≡ line → is_begin s.deed ≡ false
    → Good (xs ++ s ∷ []) (line + 1)
pushed xs s line g is at other = record {
  are = push_statement [] xs s g.are is;
  begins = begins_push xs s ∙ (rw (g.begins, other) refl);
  rise = rw (map-append (λ s. s.line) xs (s ∷ []), at) (rise_push 0 line (1 ∷ map (λ s. s.line) xs) (omega (arith, g.count)) g.rise g.below);
  below = rw (map-append (λ s. s.line) xs (s ∷ []), at) (below_push line (1 ∷ map (λ s. s.line) xs) g.below);
  count = rw (length-append xs (s ∷ [])) (omega (arith, g.count));
}

-- the group is bound by the third statement
group_bound : (xs : List Statement) → IsBoundAt sort.Group (first_statements ++ xs) 2
unfolding binds
group_bound xs = (omega arith, refl)

pub fits : (n : ℕ) → n < 2 ^ 63 → FitsSigned w64 (pos n)
fits n lt = search rules

start_is : (before : List Statement) (line : ℕ) (name : List ℕ) (job : ℕ) (args : List ℤ) → 1 ≤ job → job ≤ 65535 → length args ≤ 16
    → AllByRecursion (FitsSigned w64) args → IsNew before name → IsBoundAt sort.Group before 2 → IsStatement before (binding_at line name (start_deed job args))
unfolding statement_row deed_spelled
start_is before line name job args low high few fit new group = record {
  named = refl;
  name = new;
  uses = tt;
  options = ((low, high), ((few, fit), ((omega arith, omega arith), ((omega arith, omega arith), (tt, (group, tt))))));
}

task_is : (i : ℕ) → i < 19000 → IsStatement (first_statements ++ generated_tasks i) (task_statement i)
task_is i lt = by (eqb (i % 2) 0)
  where
    by : (b : Bool) → IsStatement (first_statements
        ++ generated_tasks i) (binding_at (i + 5) (generated_task_name i) (cond b (start_deed 1 (pos i ∷ pos 7 ∷ [])) (start_deed 2 (pos (i % 64) ∷ []))))
    by true = start_is _ (i + 5) (generated_task_name i) 1 (pos i ∷ pos 7
        ∷ []) (omega arith) (omega arith) (omega arith) (fits i (omega arith), (fits 7 (omega arith), tt)) (is_new i lt) (group_bound (generated_tasks i))
    by false = start_is _ (i + 5) (generated_task_name i) 2 (pos (i % 64)
        ∷ []) (omega arith) (omega arith) (omega arith) (fits (i % 64) (omega arith), tt) (is_new i lt) (group_bound (generated_tasks i))

task_no_begin : (i : ℕ) → is_begin (task_deed i) ≡ false
unfolding is_begin
task_no_begin i = by (eqb (i % 2) 0)
  where
    by : (b : Bool) → is_begin (cond b (start_deed 1 (pos i ∷ pos 7 ∷ [])) (start_deed 2 (pos (i % 64) ∷ []))) ≡ false
    by true = refl
    by false = refl

last_is : (n : ℕ) → IsStatement (first_statements ++ generated_tasks n) (last_statement n)
unfolding statement_row deed_spelled
last_is n = record {
  named = refl;
  name = tt;
  uses = group_bound (generated_tasks n);
  options = (tt, tt);
}

first_good : Good first_statements 5
unfolding statement_row deed_spelled is_begin is_name
first_good = record {
  are = (
    record { named = refl; name = (refl, refl); uses = tt; options = ((omega arith, omega arith), (tt, ((omega arith, omega arith), tt))) },
    (
      record { named = refl; name = (refl, refl); uses = tt; options = ((omega arith, omega arith), (tt, ((omega arith, omega arith), tt))) },
      (record { named = refl; name = (refl, refl); uses = tt; options = tt }, tt),
    ),
  );
  begins = refl;
  rise = (omega arith, (omega arith, (omega arith, (omega arith, tt))));
  below = (omega arith, (omega arith, (omega arith, (omega arith, tt))));
  count = refl;
}

tasks_good : (n : ℕ) → n ≤ 19000 → Good (first_statements ++ generated_tasks n) (n + 5)
unfolding generated_tasks
tasks_good zero le = first_good
tasks_good (suc n) le =
    subst (λ (l : ℕ). Good (first_statements ++ (generated_tasks n ++ task_statement n ∷ [])) l) (omega arith)
    (pushed (first_statements ++ generated_tasks n) (task_statement n) (n + 5) (tasks_good n (omega arith)) (task_is n (omega arith)) refl (task_no_begin n))

all_good : (n : ℕ) → n ≤ 19000 → Good (first_statements ++ (generated_tasks n ++ last_statement n ∷ [])) (n + 6)
unfolding is_begin
all_good n le =
    subst (λ (l : ℕ). Good (first_statements ++ (generated_tasks n ++ last_statement n ∷ [])) l) (omega arith)
    (pushed (first_statements ++ generated_tasks n) (last_statement n) (n + 5) (tasks_good n le) (last_is n) refl refl)

lines_are : (n w : ℕ) → statement_lines (generated n w) ≡ 1 ∷ map (λ s. s.line) (first_statements ++ (generated_tasks n ++ last_statement n ∷ []))
unfolding generated
lines_are n w = ap (λ l. 1 ∷ l) (append-nil _)

few_lines : (xs : List Statement) → length xs ≤ 19999 → length (1 ∷ map (λ s. s.line) xs) ≤ 20000
few_lines xs few = let same = length-map xs (λ (s : Statement). s.line) in omega (arith, same)

pub is_formed : (n w : ℕ) → 1 ≤ n → n ≤ 19000 → 1 ≤ w → w ≤ 16 → WellFormed (generated n w)
unfolding generated statement_row is_name
is_formed n w some few workers most =
    let g = all_good n few in record {
      count = omega arith;
      main = (record { line = refl; name = refl; begin = omega (arith, g.begins) }, tt);
      names = (refl, tt);
      parts = (record { name = refl; statements = g.are }, tt);
      statements = subst (λ (lines : List ℕ). length lines
          ≤ 20000) (sym (lines_are n w)) (few_lines (first_statements ++ (generated_tasks n ++ last_statement n ∷ [])) (omega (arith, g.count)));
      lines = subst (λ (lines : List ℕ). Rise 0 lines) (sym (lines_are n w)) g.rise;
      usual = λ e. absurd (omega (arith, e));
      settings = settings_fit n w some few workers most;
    }

-- a list with one more task
pub one_more : (before list : List Statement) (i : ℕ) (next : List Statement) → list ≡ before ++ generated_tasks i → next ≡ list ++ task_statement i ∷ []
    → next ≡ before ++ generated_tasks (i + 1)
unfolding generated_tasks
one_more before list i next e f = f ∙ ap (λ (xs : List Statement). xs ++ task_statement i ∷ []) e
    ∙ append_assoc before (generated_tasks i) (task_statement i ∷ [])
    ∙ ap (λ (k : ℕ). before ++ generated_tasks k) (let k : suc i ≡ i + 1 = omega arith in k)

-- what was made is well formed
pub formed_of : (n w : ℕ) (r : Result Workload AllocError) → 1 ≤ n → n ≤ 19000 → 1 ≤ w → w ≤ 16 → IfOk r (λ load. load ≡ generated n w)
    → IfOk r (λ load. WellFormed load)
formed_of n w (Ok load) some few workers most e = subst (λ (l : Workload). WellFormed l) (sym e) (is_formed n w some few workers most)
formed_of n w (Err a) some few workers most e = tt
