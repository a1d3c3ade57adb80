-- What the worked rows of work that splits say, by computing.
use Rattle.typed_pieces.proofs.Names.{◌≡◌, ◌+◌, ◌*◌, ℕ, List, [], ◌∷◌, ◌++◌, length, map, sum_by, take, drop, refl, sym, ap, subst, ◌∙◌, arith, drop-append_seam, take-append_seam, length-append, All-cons, All-nil, sum_by-append, NodeSettings, Journal, HasRunAll, AllKept, JoinsTo, AreLevelsCounted, Pending, LevelRun, get_or}
use Rattle.typed_pieces.specs.Worked.{AddsUp, AreThree, IsTriple, Open, Wait, Waiting, WorkedGives, WorkedLevels, WorkedResults, WorkedRuns, WorkedWaits, came, run, total_of}
use Rattle.typed_pieces.specs.declared.level.Pending.TheVariants.{Done, Joins}
use Rattle.typed_pieces.proofs.Levels.{waits_many}

-- Results

-- the results are three times their pieces
tripled_is : (ps ds : List ℕ) → AllKept IsTriple ps ds → ds ≡ map (λ p. 3 * p) ps
tripled_is [] ds all = all
tripled_is (p ∷ ps) ds all = all.2 ∙ (λ i. all.3 i ∷ tripled_is ps all.1 all.4 i)

pub results : WorkedResults
results = record {
  kept = (12, 33 ∷ 21 ∷ [], refl, refl, (33, 21 ∷ [], refl, refl, (21, [], refl, refl, refl)));
  first = λ all. let is : 13 ≡ 12 = ap (λ (l : List ℕ). get_or l 0 0) (tripled_is (4 ∷ 11 ∷ 7 ∷ []) (13 ∷ 33 ∷ 21 ∷ []) all) in omega (arith, is);
  last = λ all. let is : 22 ≡ 21 = ap (λ (l : List ℕ). get_or l 2 0) (tripled_is (4 ∷ 11 ∷ 7 ∷ []) (12 ∷ 33 ∷ 22 ∷ []) all) in omega (arith, is);
  moved = λ all. let is : 33 ≡ 12 = ap (λ (l : List ℕ). get_or l 0 0) (tripled_is (4 ∷ 11 ∷ 7 ∷ []) (33 ∷ 12 ∷ 21 ∷ []) all) in omega (arith, is);
  fewer = λ all. let is : 2 ≡ 3 = ap length (tripled_is (4 ∷ 11 ∷ 7 ∷ []) (12 ∷ 33 ∷ []) all) in omega (arith, is);
  more = λ all. let is : 4 ≡ 3 = ap length (tripled_is (4 ∷ 11 ∷ 7 ∷ []) (12 ∷ 33 ∷ 21 ∷ 5 ∷ []) all) in omega (arith, is);
}

-- Joins

total_tripled : (ps : List ℕ) → total_of (map (λ p. 3 * p) ps) ≡ 3 * total_of ps
total_tripled [] = refl
total_tripled (p ∷ ps) = let rest = total_tripled ps in omega arith

tripled : (ps : List ℕ) → AllKept IsTriple ps (map (λ p. 3 * p) ps)
tripled [] = refl
tripled (p ∷ ps) = (3 * p, map (λ q. 3 * q) ps, refl, refl, tripled ps)

joins : (p join : ℕ) (own : List ℕ) → join + 3 * total_of own ≡ 3 * p → JoinsTo IsTriple AddsUp p own join
joins p join own is ds d all added = added ∙ (ap (λ n. join + n) (ap total_of (tripled_is own ds all) ∙ total_tripled own) ∙ is)

joined : (p join : ℕ) (own : List ℕ) → JoinsTo IsTriple AddsUp p own join → 3 * p ≡ join + 3 * total_of own
joined p join own to = sym (to (map (λ q. 3 * q) own) (join + total_of (map (λ q. 3 * q) own)) (tripled own) refl) ∙ ap (λ n. join + n) (total_tripled own)

-- Levels

-- three times the pieces of a level, by what came of them and their parts
abbrev values : List (Pending ℕ ℕ) → List ℕ → List ℕ
values [] parts = []
values (Done d ∷ level) parts = d ∷ values level parts
values (Joins count join ∷ level) parts = (join + 3 * total_of (take count parts)) ∷ values level (drop count parts)

needs : (pieces : List ℕ) (level : List (Pending ℕ ℕ)) (parts : List ℕ) → Wait pieces level parts → map (λ p. 3 * p) pieces ≡ values level parts
needs pieces [] parts w = ap (map (λ p. 3 * p)) w.0
needs pieces (Done d ∷ level) parts w = ap (map (λ p. 3 * p)) w.2 ∙ (λ i. sym w.3 i ∷ needs w.1 level parts w.4 i)
needs pieces (Joins count join ∷ level) parts w =
    let own : take count parts ≡ w.2 = ap (take count) w.5 ∙ (ap (λ n. take n (w.2 ++ w.3)) (sym w.6) ∙ take-append_seam w.2 w.3) in
    let others : drop count parts ≡ w.3 = ap (drop count) w.5 ∙ (ap (λ n. drop n (w.2 ++ w.3)) (sym w.6) ∙ drop-append_seam w.2 w.3) in
    let here : 3 * w.0 ≡ join + 3 * total_of (take count parts) = joined w.0 join w.2 w.7 ∙ ap (λ l. join + 3 * total_of l) (sym own) in
    let rest : map (λ p. 3 * p) w.1 ≡ values level (drop count parts) = needs w.1 level w.3 w.8 ∙ ap (values level) (sym others) in
    ap (map (λ p. 3 * p)) w.4 ∙ (λ i. here i ∷ rest i)

-- the same of the piece of one place
at_place : (pieces : List ℕ) (level : List (Pending ℕ ℕ)) (parts : List ℕ) (k : ℕ) → Wait pieces level parts
    → get_or (map (λ p. 3 * p) pieces) k 0 ≡ get_or (values level parts) k 0
at_place pieces level parts k w = ap (λ (l : List ℕ). get_or l k 0) (needs pieces level parts w)

-- how many parts a level waits for
abbrev asked : List (Pending ℕ ℕ) → ℕ
asked [] = 0
asked (Done d ∷ level) = asked level
asked (Joins count join ∷ level) = count + asked level

parts_asked : (pieces : List ℕ) (level : List (Pending ℕ ℕ)) (parts : List ℕ) → Wait pieces level parts → length parts ≡ asked level
parts_asked pieces [] parts w = ap length w.1
parts_asked pieces (Done d ∷ level) parts w = parts_asked w.1 level parts w.4
parts_asked pieces (Joins count join ∷ level) parts w =
    let rest = parts_asked w.1 level w.3 w.8 in ap length w.5 ∙ (length-append w.2 w.3 ∙ (λ i. w.6 i + rest i))

came_so : Wait (4 ∷ 11 ∷ 13 ∷ 9 ∷ []) came (2 ∷ 5 ∷ 7 ∷ [])
came_so = (
  4,
  11 ∷ 13 ∷ 9 ∷ [],
  refl,
  refl,
  (
    11,
    13 ∷ 9 ∷ [],
    2 ∷ 5 ∷ [],
    7 ∷ [],
    refl,
    refl,
    refl,
    joins 11 12 (2 ∷ 5 ∷ []) refl,
    (13, 9 ∷ [], 7 ∷ [], [], refl, refl, refl, joins 13 18 (7 ∷ []) refl, (9, [], refl, refl, (refl, refl))),
  ),
)

pub waits : WorkedWaits
waits = record {
  wait = came_so;
  another_result = λ w. let is : 12 ≡ 10 = at_place (4 ∷ 11 ∷ 13 ∷ 9 ∷ []) (Done 10 ∷ Joins 2 12 ∷ Joins 1 18 ∷ Done 27 ∷ []) (2 ∷ 5 ∷ 7 ∷ []) 0 w in
      omega (arith, is);
  another_join = λ w. let is : 33 ≡ 31 = at_place (4 ∷ 11 ∷ 13 ∷ 9 ∷ []) (Done 12 ∷ Joins 2 10 ∷ Joins 1 18 ∷ Done 27 ∷ []) (2 ∷ 5 ∷ 7 ∷ []) 1 w in
      omega (arith, is);
  counts_moved = λ w. let is : 33 ≡ 18 = at_place (4 ∷ 11 ∷ 13 ∷ 9 ∷ []) (Done 12 ∷ Joins 1 12 ∷ Joins 2 18 ∷ Done 27 ∷ []) (2 ∷ 5 ∷ 7 ∷ []) 1 w in
      omega (arith, is);
  fewer_came = λ w. let is : 27 ≡ 0 = at_place (4 ∷ 11 ∷ 13 ∷ 9 ∷ []) (Done 12 ∷ Joins 2 12 ∷ Joins 1 18 ∷ []) (2 ∷ 5 ∷ 7 ∷ []) 3 w in omega (arith, is);
  pieces_moved = λ w. let is : 33 ≡ 12 = at_place (11 ∷ 4 ∷ 13 ∷ 9 ∷ []) came (2 ∷ 5 ∷ 7 ∷ []) 0 w in omega (arith, is);
  fewer_pieces = λ w. let is : 0 ≡ 27 = at_place (4 ∷ 11 ∷ 13 ∷ []) came (2 ∷ 5 ∷ 7 ∷ []) 3 w in omega (arith, is);
  parts_moved = λ w. let is : 33 ≡ 48 = at_place (4 ∷ 11 ∷ 13 ∷ 9 ∷ []) came (5 ∷ 7 ∷ 2 ∷ []) 1 w in omega (arith, is);
  fewer_parts = λ w. let is : 39 ≡ 18 = at_place (4 ∷ 11 ∷ 13 ∷ 9 ∷ []) came (2 ∷ 5 ∷ []) 2 w in omega (arith, is);
  more_parts = λ w. let is : 4 ≡ 3 = parts_asked (4 ∷ 11 ∷ 13 ∷ 9 ∷ []) came (2 ∷ 5 ∷ 7 ∷ 3 ∷ []) w in omega (arith, is);
}

pub gives : WorkedGives
gives = record {
  done = (refl, refl);
  joins = (refl, refl);
  another_result = λ g. let is : 13 ≡ 12 = g.0 in omega (arith, is);
  takes_one = λ g. let many : 2 ≡ 3 = ap length g.1 in omega (arith, many);
  takes_more = λ g. let is : 54 ≡ 33 = g.0 in omega (arith, is);
  takes_last = λ g. let is : 48 ≡ 33 = g.0 in omega (arith, is);
  drops_part = λ g. let is : 27 ≡ 33 = g.0 in omega (arith, is);
  leaves_all = λ g. let many : 3 ≡ 1 = ap length g.1 in omega (arith, many);
  leaves_none = λ g. let many : 0 ≡ 1 = ap length g.1 in omega (arith, many);
}

first_so : (a b c : Waiting) → AreThree a b c → Wait (40 ∷ []) a.items (4 ∷ 11 ∷ 13 ∷ 9 ∷ [])
first_so a b c s =
    subst (λ l. Wait (40 ∷ []) l (4 ∷ 11 ∷ 13 ∷ 9 ∷ [])) (sym s.first)
    (40, [], 4 ∷ 11 ∷ 13 ∷ 9 ∷ [], [], refl, refl, refl, joins 40 9 (4 ∷ 11 ∷ 13 ∷ 9 ∷ []) refl, (refl, refl))

second_so : (a b c : Waiting) → AreThree a b c → Wait (4 ∷ 11 ∷ 13 ∷ 9 ∷ []) b.items (2 ∷ 5 ∷ 7 ∷ [])
second_so a b c s = subst (λ l. Wait (4 ∷ 11 ∷ 13 ∷ 9 ∷ []) l (2 ∷ 5 ∷ 7 ∷ [])) (sym s.second) came_so

third_so : (a b c : Waiting) → AreThree a b c → Wait (2 ∷ 5 ∷ 7 ∷ []) c.items []
third_so a b c s =
    subst (λ l. Wait (2 ∷ 5 ∷ 7 ∷ []) l []) (sym s.third)
    (2, 5 ∷ 7 ∷ [], refl, refl, (5, 7 ∷ [], refl, refl, (7, [], refl, refl, (refl, refl))))

all_open : (a b c : Waiting) → AreThree a b c → Open 40 (a ∷ b ∷ c ∷ []) []
all_open a b c s = (4 ∷ 11 ∷ 13 ∷ 9 ∷ [], first_so a b c s, (2 ∷ 5 ∷ 7 ∷ [], second_so a b c s, ([], third_so a b c s, refl)))

two_open : (a b c : Waiting) → AreThree a b c → Open 40 (a ∷ b ∷ []) (2 ∷ 5 ∷ 7 ∷ [])
two_open a b c s = (4 ∷ 11 ∷ 13 ∷ 9 ∷ [], first_so a b c s, (2 ∷ 5 ∷ 7 ∷ [], second_so a b c s, refl))

-- the third level can't be the second
not_third : (a b c : Waiting) → AreThree a b c → (own next : List ℕ) → Wait (40 ∷ []) a.items own → Wait own c.items next → ⊥
not_third a b c s own next w v =
    let parts = parts_asked (40 ∷ []) a.items own w ∙ ap asked s.first in
    let pieces = waits_many IsTriple AddsUp own c.items next v ∙ ap length s.third in
    omega (arith, parts, pieces)

pub levels : (a b c : Waiting) → AreThree a b c → WorkedLevels a b c
levels a b c s = record {
  none = refl;
  two = two_open a b c s;
  all = all_open a b c s;
  another_root = λ o.
      let w = subst (λ l. Wait (41 ∷ []) l o.0) s.first o.1 in
      let is : 123 ≡ 120 = at_place (41 ∷ []) (Joins 4 9 ∷ []) (4 ∷ 11 ∷ 13 ∷ 9 ∷ []) 0 (subst (λ l. Wait (41 ∷ []) (Joins 4 9 ∷ []) l) o.2 w) in
      omega (arith, is);
  none_open = λ o. let none : 1 ≡ 0 = ap length o in omega (arith, none);
  without_first = λ o. let one = waits_many IsTriple AddsUp (40 ∷ []) b.items o.0 o.1 ∙ ap length s.second in omega (arith, one);
  without_second = λ o. not_third a b c s o.0 o.2.0 o.1 o.2.1;
  without_third = λ o.
      let parts = parts_asked o.0 b.items o.2.0 o.2.1 ∙ ap asked s.second in
      let none : length o.2.0 ≡ 0 = ap length o.2.2 in
      omega (arith, parts, none);
  moved = λ o. not_third a b c s o.0 o.2.0 o.1 o.2.1;
}

-- Runs

three_counts : (a b c : Waiting) → AreThree a b c → map (λ (w : Waiting). length w.items) (a ∷ b ∷ c ∷ []) ≡ 1 ∷ 4 ∷ 3 ∷ []
three_counts a b c s = λ i. ap length s.first i ∷ ap length s.second i ∷ ap length s.third i ∷ []

no_levels : (waiting : List Waiting) → Open 40 waiting [] → AreLevelsCounted [] waiting → ⊥
no_levels [] o counts = let none : 1 ≡ 0 = ap length o in omega (arith, none)
no_levels (w ∷ ws) o counts = absurd cc

two_roots : (waiting : List Waiting) (m n : ℕ) (i j k : Journal) → Open 40 waiting [] → AreLevelsCounted (run 2 i ∷ run m j ∷ run n k ∷ []) waiting → ⊥
two_roots [] m n i j k o counts = absurd cc
two_roots (w ∷ ws) m n i j k o counts =
    let one : 1 ≡ length w.items = waits_many IsTriple AddsUp (40 ∷ []) w.items o.0 o.1 in
    let two : 2 ≡ length w.items = cc in
    omega (arith, one, two)

none_ran : (levels : List LevelRun) (waiting : List Waiting) (next : List ℕ) → Open 40 waiting next → AreLevelsCounted levels waiting
    → sum_by (λ (l : LevelRun). l.pieces) levels ≡ 0 → length next ≡ 2 → ⊥
none_ran levels [] next o counts none two = let one : 1 ≡ length next = ap length o in omega (arith, one, two)
none_ran [] (w ∷ ws) next o counts none two = absurd cc
none_ran (l ∷ levels) (w ∷ ws) next o counts none two =
    let one : 1 ≡ length w.items = waits_many IsTriple AddsUp (40 ∷ []) w.items o.0 o.1 in
    let same : l.pieces ≡ length w.items = cc in
    let all = sum_by-append (λ (x : LevelRun). x.pieces) (l ∷ []) levels in
    let first : sum_by (λ (x : LevelRun). x.pieces) (l ∷ []) ≡ l.pieces = omega arith in
    omega (arith, one, same, all, first, none)

pub runs : (settings : NodeSettings) (i j k : Journal) (a b c : Waiting) → HasRunAll settings 1 i → HasRunAll settings 4 j → AreThree a b c
    → WorkedRuns settings i j k a b c
runs settings i j k a b c one four s =
    let counts = three_counts a b c s in
    let two : AreLevelsCounted (run 1 i ∷ run 4 j ∷ []) (a ∷ b ∷ []) = cc in
    let Ran : LevelRun → Type 0 = λ l. HasRunAll settings l.pieces l.journal in
    record {
      counted = sym counts;
      one_more = λ is. let both = is ∙ counts in absurd cc;
      one_less = λ is. let both = is ∙ counts in absurd cc;
      counts_moved = λ is. let both = is ∙ counts in absurd cc;
      level_left_out = λ is. let both = is ∙ counts in absurd cc;
      levels = record { waiting = a ∷ b ∷ c ∷ []; waits = all_open a b c s; counts = sym counts };
      no_levels = λ l. no_levels l.waiting l.waits l.counts;
      two_roots = λ l. two_roots l.waiting 4 3 i j k l.waits l.counts;
      over = record {
        levels = run 1 i ∷ run 4 j ∷ [];
        waiting = a ∷ b ∷ [];
        next = 2 ∷ 5 ∷ 7 ∷ [];
        ran = All-cons Ran (run 1 i) (run 4 j ∷ []) one (All-cons Ran (run 4 j) [] four (All-nil Ran));
        waits = two_open a b c s;
        counts = two;
        had_run = refl;
        many = refl;
        over = omega arith;
      };
      over_at_once = record {
        levels = [];
        waiting = [];
        next = 40 ∷ [];
        ran = All-nil Ran;
        waits = refl;
        counts = refl;
        had_run = refl;
        many = refl;
        over = omega arith;
      };
      as_many = λ o. let over = o.over in omega (arith, over);
      none_ran = λ o. none_ran o.levels o.waiting o.next o.waits o.counts o.had_run o.many;
    }
