-- Statements with their replies, one after another.
use Rattle.run_report.proofs.Names.{subst, entry_of, ShortEntry, nat_tests, zero, suc, Some, None, Result, ◌≡◌, ℕ, ◌+◌, ◌<◌, ◌≤◌, Bool, false, cond, List, [], ◌∷◌, ◌++◌, Option, refl, sym, ◌∙◌, ap, arith, length, get_or, take, drop, append_assoc, length-drop, nows, map-append, length-map, get_or-map, drop-map, drop_more, append-nil, nil_from_length, drop-drop, slice_get, OnOk, TaskEnd, Statement, Reply, list_any, take-map, or_parts, first_or_second, place_if, is_found, place_from, name_bound_at, names_by, is_shown_given, shows_given, ShowsNames, shown_of, is_task, task_line, task_lines_of, task_name, call_line, call_lines_of}
use denote.Ref.{Bor}
use Rattle.run_report.specs.declared.sorts.Shown.{Shown}
use Rattle.run_report.specs.Calls.{made_task}

-- the replies behind references, one by one
abbrev said : Bor ShortEntry → Reply
said s = (entry_of s.now).reply

pub nows_push : (shorts : List (Bor ShortEntry)) (s : Bor ShortEntry) → nows (shorts ++ s ∷ []) ≡ nows shorts ++ (entry_of s.now).reply ∷ []
nows_push shorts s = map-append said shorts (s ∷ [])

pub nows_past : (shorts : List (Bor ShortEntry)) (i : ℕ) → length shorts ≤ i → length (nows shorts) ≤ i
nows_past shorts i past = omega (arith, length-map shorts said)

pub nows_room : (shorts : List (Bor ShortEntry)) (i : ℕ) → i < length shorts → i < length (nows shorts)
nows_room shorts i room = omega (arith, length-map shorts said)

pub nows_at : (shorts : List (Bor ShortEntry)) (i : ℕ) (s : Bor ShortEntry) → i < length shorts → s ≡ get_or shorts i s
    → (entry_of s.now).reply ≡ get_or (nows shorts) i (entry_of s.now).reply
nows_at shorts i s room at = ap said at ∙ sym (get_or-map said shorts i s (said s) room)

pub nows_at_by : (shorts : List (Bor ShortEntry)) (i : ℕ) (s : Bor ShortEntry) (r : Reply) → i < length shorts → s ≡ get_or shorts i s
    → r ≡ (entry_of s.now).reply → r ≡ get_or (nows shorts) i r
nows_at_by shorts i s r room at is = subst (λ (x : Reply). x ≡ get_or (nows shorts) i x) (sym is) (nows_at shorts i s room at)

-- the replies to the statements of a part, behind their references
pub nows_part : (shorts : List (Bor ShortEntry)) (before count : ℕ) → nows (take count (drop before shorts)) ≡ take count (drop before (nows shorts))
nows_part shorts before count = sym (take-map said count (drop before shorts)) ∙ ap (take count) (sym (drop-map said before shorts))

nothing_left : {A : Type 0} (l : List A) (i : ℕ) → length l ≤ i → drop i l ≡ []
nothing_left l i past = nil_from_length (drop i l) (omega (arith, length-drop i l))

module _ {A B C : Type 0} where
  -- a value of what is left of two lists, at its first elements
  both_more : (F : List A → List B → C) (ss : List A) (rs : List B) (i : ℕ) (s : A) (r : B) → i < length ss → s ≡ get_or ss i s → i < length rs
      → r ≡ get_or rs i r
      → F (drop i ss) (drop i rs) ≡ F (s ∷ drop (i + 1) ss) (r ∷ drop (i + 1) rs)
  both_more F ss rs i s r e1 e2 e3 e4 = grind (arith, nat_tests, drop_more)

-- a text that grows by the piece with which what is left begins
grows : (out new piece rest whole left : List ℕ) → out ++ left ≡ whole → left ≡ piece ++ rest → new ≡ out ++ piece → new ++ rest ≡ whole
grows out new piece rest whole left so is made = ap (λ x. x ++ rest) made ∙ append_assoc out piece rest ∙ ap (λ x. out ++ x) (sym is) ∙ so

ends : (out whole left : List ℕ) → out ++ left ≡ whole → left ≡ [] → out ≡ whole
ends out whole left so none = sym (append-nil out) ∙ ap (λ x. out ++ x) (sym none) ∙ so

-- Lines of tasks

no_task_lines : (part : List ℕ) (by : ℕ → Option TaskEnd) (ss : List Statement) → task_lines_of part by ss [] ≡ []
unfolding task_lines_of
no_task_lines part by [] = refl
no_task_lines part by (s ∷ ss) = refl

pub task_lines_next : (part : List ℕ) (by : ℕ
    → Option TaskEnd) (ss : List Statement) (rs : List Reply) (i : ℕ) (s : Statement) (r : Reply) (out new whole : List ℕ)
    → i < length ss → s ≡ get_or ss i s → i < length rs → r ≡ get_or rs i r
    → out ++ task_lines_of part by (drop i ss) (drop i rs) ≡ whole → new ≡ out ++ cond (is_task (shown_of s.deed)) (task_line part by s r) []
    → new ++ task_lines_of part by (drop (i + 1) ss) (drop (i + 1) rs) ≡ whole
unfolding task_lines_of
task_lines_next part by ss rs i s r out new whole l at m got so made =
    grows out new (cond (is_task (shown_of s.deed)) (task_line part by s r) []) (task_lines_of part by (drop (i + 1) ss) (drop (i + 1) rs)) whole
    (task_lines_of part by (drop i ss) (drop i rs))
    so (both_more (task_lines_of part by) ss rs i s r l at m got) made

pub task_lines_past_replies : (part : List ℕ) (by : ℕ → Option TaskEnd) (ss : List Statement) (rs : List Reply) (i : ℕ) (out whole : List ℕ)
    → length rs ≤ i → out ++ task_lines_of part by (drop i ss) (drop i rs) ≡ whole → out ≡ whole
task_lines_past_replies part by ss rs i out whole past so =
    ends out whole _ so (ap (λ l. task_lines_of part by (drop i ss) l) (nothing_left rs i past) ∙ no_task_lines part by (drop i ss))

pub task_lines_past : (part : List ℕ) (by : ℕ → Option TaskEnd) (ss : List Statement) (rs : List Reply) (i : ℕ) (out whole : List ℕ)
    → length ss ≤ i → out ++ task_lines_of part by (drop i ss) (drop i rs) ≡ whole → out ≡ whole
unfolding task_lines_of
task_lines_past part by ss rs i out whole past so = ends out whole _ so (ap (λ l. task_lines_of part by l (drop i rs)) (nothing_left ss i past))

-- Lines of calls

no_call_lines : (part : List ℕ) (name : ℕ → List ℕ) (ss : List Statement) → call_lines_of part name ss [] ≡ []
unfolding call_lines_of
no_call_lines part name [] = refl
no_call_lines part name (s ∷ ss) = refl

pub call_lines_next : (part : List ℕ) (name : ℕ → List ℕ) (ss : List Statement) (rs : List Reply) (i : ℕ) (s : Statement) (r : Reply) (out new whole : List ℕ)
    → i < length ss → s ≡ get_or ss i s → i < length rs → r ≡ get_or rs i r
    → out ++ call_lines_of part name (drop i ss) (drop i rs) ≡ whole → new ≡ out ++ call_line part name s.line (shown_of s.deed) r
    → new ++ call_lines_of part name (drop (i + 1) ss) (drop (i + 1) rs) ≡ whole
unfolding call_lines_of
call_lines_next part name ss rs i s r out new whole l at m got so made =
    grows out new (call_line part name s.line (shown_of s.deed) r) (call_lines_of part name (drop (i + 1) ss) (drop (i + 1) rs)) whole
    (call_lines_of part name (drop i ss) (drop i rs))
    so (both_more (call_lines_of part name) ss rs i s r l at m got) made

pub call_lines_past_replies : (part : List ℕ) (name : ℕ → List ℕ) (ss : List Statement) (rs : List Reply) (i : ℕ) (out whole : List ℕ)
    → length rs ≤ i → out ++ call_lines_of part name (drop i ss) (drop i rs) ≡ whole → out ≡ whole
call_lines_past_replies part name ss rs i out whole past so =
    ends out whole _ so (ap (λ l. call_lines_of part name (drop i ss) l) (nothing_left rs i past) ∙ no_call_lines part name (drop i ss))

pub call_lines_past : (part : List ℕ) (name : ℕ → List ℕ) (ss : List Statement) (rs : List Reply) (i : ℕ) (out whole : List ℕ)
    → length ss ≤ i → out ++ call_lines_of part name (drop i ss) (drop i rs) ≡ whole → out ≡ whole
unfolding call_lines_of
call_lines_past part name ss rs i out whole past so = ends out whole _ so (ap (λ l. call_lines_of part name l (drop i rs)) (nothing_left ss i past))

-- The places of tasks

first_none : (x : Option ℕ) → first_or_second x None ≡ x
first_none x = grind (arith, nat_tests)

no_place : (n : ℕ) (ss : List Statement) (h : ℕ) → place_from n ss [] h ≡ None
unfolding place_from
no_place n [] h = refl
no_place n (s ∷ ss) h = refl

-- where a handle was found, it has its first place
place_step : (n h : ℕ) (found : Option ℕ) (b : Bool) (old rest : Option ℕ) → b ≡ is_found h found
    → first_or_second (first_or_second old (place_if n h found)) rest ≡ first_or_second old (cond b (Some n) rest)
place_step n h found b old rest e1 = grind (arith, nat_tests)

pub place_next : (ss : List Statement) (rs : List Reply) (h i : ℕ) (s : Statement) (r : Reply) (old new whole found : Option ℕ)
    → i < length ss → s ≡ get_or ss i s → i < length rs → r ≡ get_or rs i r
    → first_or_second old (place_from i (drop i ss) (drop i rs) h) ≡ whole → new ≡ first_or_second old (place_if i h found) → made_task h s r ≡ is_found h found
    → first_or_second new (place_from (i + 1) (drop (i + 1) ss) (drop (i + 1) rs) h) ≡ whole
unfolding place_from
place_next ss rs h i s r old new whole found l at m got so made is =
    let rest : Option ℕ = place_from (i + 1) (drop (i + 1) ss) (drop (i + 1) rs) h in
    ap (λ x. first_or_second x rest) made
    ∙ place_step i h found (made_task h s r) old rest is
    ∙ ap (first_or_second old) (sym (both_more (λ a b. place_from i a b h) ss rs i s r l at m got))
    ∙ so

pub place_past_replies : (ss : List Statement) (rs : List Reply) (h i : ℕ) (old whole : Option ℕ) → length rs ≤ i
    → first_or_second old (place_from i (drop i ss) (drop i rs) h) ≡ whole → old ≡ whole
place_past_replies ss rs h i old whole e1 e2 = grind (arith, nat_tests, first_none, first_or_second, place_from, nothing_left, no_place)

pub place_past : (ss : List Statement) (rs : List Reply) (h i : ℕ) (old whole : Option ℕ) → length ss ≤ i
    → first_or_second old (place_from i (drop i ss) (drop i rs) h) ≡ whole → old ≡ whole
unfolding place_from
place_past ss rs h i old whole e1 e2 = grind (arith, nat_tests, first_none, first_or_second, place_from, nothing_left)

-- The names of tasks

get_dropped : (all : List Statement) (n : ℕ) (s : Statement) (ss : List Statement) → drop n all ≡ s ∷ ss → slice_get all n ≡ Some s
get_dropped [] zero s ss e = absurd (cc)
get_dropped [] (suc n) s ss e = absurd (cc)
get_dropped (x ∷ xs) zero s ss e = cc
get_dropped (x ∷ xs) (suc n) s ss e = get_dropped xs n s ss e

drop_next : (all : List Statement) (n : ℕ) (s : Statement) (ss : List Statement) → drop n all ≡ s ∷ ss → drop (n + 1) all ≡ ss
drop_next all n s ss e = sym (drop-drop 1 n all) ∙ ap (drop 1) e

-- the name at the place of a task is the task's
named : (all : List Statement) (h n : ℕ) (ss : List Statement) (rs : List Reply) → drop n all ≡ ss
    → name_bound_at all (place_from n ss rs h) ≡ task_name ss rs h
unfolding place_from task_name
named all h n [] rs left = refl
named all h n (s ∷ ss) [] left = refl
named all h n (s ∷ ss) (r ∷ rs) left = grind (arith, nat_tests, named all h (n + 1) ss rs (drop_next all n s ss left), get_dropped all n s ss left)

pub on_ok : {T E : Type 0} (r : Result T E) (P Q : Type 0) → (P → Q) → OnOk r P → OnOk r Q
on_ok r P Q e1 e2 = grind (arith, nat_tests)

-- the lines of calls, where the names are found by places
pub named_lines : (ss : List Statement) (rs : List Reply) (places : ℕ → Option ℕ) → ((h : ℕ) → places h ≡ place_from 0 ss rs h) → ShowsNames ss rs places
named_lines ss rs places is part = ap (λ (f : ℕ → List ℕ). call_lines_of part f ss rs) (λ j h. (ap (name_bound_at ss) (is h) ∙ named ss h 0 ss rs refl) j)

-- a line that shows no given task is the same whatever the names are
unnamed_line : (part : List ℕ) (f g : ℕ → List ℕ) (line : ℕ) (shown : Shown) (r : Reply) → is_shown_given shown ≡ false
    → call_line part f line shown r ≡ call_line part g line shown r
unnamed_line part f g line shown r e1 = grind (arith, nat_tests)

unnamed : (part : List ℕ) (f g : ℕ → List ℕ) (ss : List Statement) (rs : List Reply) → list_any shows_given ss ≡ false
    → call_lines_of part f ss rs ≡ call_lines_of part g ss rs
unfolding call_lines_of
unnamed part f g [] rs plain = refl
unnamed part f g (s ∷ ss) [] plain = refl
unnamed part f g (s ∷ ss) (r ∷ rs) plain = grind (arith, nat_tests, unnamed part f g ss rs, or_parts, shows_given, unnamed_line, shown_of)

pub unnamed_lines : (ss : List Statement) (rs : List Reply) (places : ℕ → Option ℕ) → list_any shows_given ss ≡ false → ShowsNames ss rs places
unnamed_lines ss rs places plain part = unnamed part (names_by ss places) (task_name ss rs) ss rs plain
