-- Of the levels of work that splits.
use Rattle.typed_pieces.proofs.Names.{◌≡◌, ◌≤◌, ◌<◌, ℕ, ◌+◌, ◌∙◌, List, [], ◌∷◌, ◌++◌, ap, subst, sym, arith, length, map, Vec, map-append, Global, All-nil, All-push, sum_by-append, NodeSettings, HasRunAll, AreOpen, AreLevelsCounted, HaveRun, IsOver, SplitFails, pieces_of_levels, Pending, LevelRun}
use Rattle.typed_pieces.specs.declared.split_failure.SplitFailure.{SplitFailure}
use Rattle.typed_pieces.specs.declared.split_failure.SplitFailure.TheVariants as failure
use Rattle.typed_pieces.specs.declared.unfinished.Unfinished.{Unfinished}

-- these levels have run, with so many pieces in all, which is at most so many
pub record Ran (settings : NodeSettings) (most before : ℕ) (levels : List LevelRun) : Type 0 where
  pub ran : HaveRun settings levels
  pub many : pieces_of_levels levels ≡ before
  pub few : before ≤ most

-- no level has run
pub ran_none : (settings : NodeSettings) (most : ℕ) (levels : List LevelRun) → levels ≡ [] → Ran settings most 0 levels
ran_none settings most levels none =
    record {
      ran = subst (λ l. HaveRun settings l) (sym none) (All-nil (λ (l : LevelRun). HasRunAll settings l.pieces l.journal));
      many = ap pieces_of_levels none;
      few = omega arith;
    }

-- one more level has run
pub ran_more : (settings : NodeSettings) (most before after : ℕ) (levels more : List LevelRun) (level : LevelRun)
    → more ≡ levels ++ level ∷ [] → HasRunAll settings level.pieces level.journal → after ≡ before + level.pieces → after ≤ most
    → Ran settings most before levels → Ran settings most after more
ran_more settings most before after levels more level is here next within r =
    let many : pieces_of_levels levels ≡ before = r.many in
    let one = sum_by-append (λ (l : LevelRun). l.pieces) levels (level ∷ []) in
    let all : pieces_of_levels (levels ++ level ∷ []) ≡ after = omega (arith, one, many, next) in
    record {
      ran = subst (λ l. HaveRun settings l) (sym is) (All-push (λ (l : LevelRun). HasRunAll settings l.pieces l.journal) levels level r.ran here);
      many = subst (λ l. pieces_of_levels l ≡ after) (sym is) all;
      few = within;
    }

-- where no level has run, none is counted
pub counted_none : {D J : Type 0} (levels : List LevelRun) (waiting : List (Vec (Pending D J) Global)) → levels ≡ [] → waiting ≡ []
    → AreLevelsCounted levels waiting
counted_none {D} {J} levels waiting none empty =
    ap (λ (l : List LevelRun). map (λ x. x.pieces) l) none ∙ sym (ap (λ (l : List (Vec (Pending D J) Global)). map (λ x. length x.items) l) empty)

-- one more level is
pub counted_more : {D J : Type 0} (levels more : List LevelRun) (waiting further : List (Vec (Pending D J) Global)) (level : LevelRun)
    (pending : Vec (Pending D J) Global)
    → more ≡ levels ++ level ∷ [] → further ≡ waiting ++ pending ∷ [] → level.pieces ≡ length pending.items → AreLevelsCounted levels waiting
    → AreLevelsCounted more further
counted_more {D} {J} levels more waiting further level pending is also here counted =
    let count = λ (l : List LevelRun). map (λ x. x.pieces) l in
    let wait = λ (l : List (Vec (Pending D J) Global)). map (λ x. length x.items) l in
    let all : count (levels ++ level ∷ []) ≡ wait (waiting ++ pending ∷ []) =
    map-append (λ (x : LevelRun). x.pieces) levels (level ∷ [])
    ∙ (ap (λ l. l ++ level.pieces ∷ []) counted
    ∙ (ap (λ n. wait waiting ++ n ∷ []) here ∙ sym (map-append (λ (x : Vec (Pending D J) Global). length x.items) waiting (pending ∷ [])))) in
    ap count is ∙ (all ∙ sym (ap wait also))

-- with the parts of the last level there would be too many
pub is_over : {P D J : Type 0} (promise : P → D → Type 0) (joined : J → List D → D → Type 0) (settings : NodeSettings) (root : P) (most before parts : ℕ)
    (levels : List LevelRun) (waiting : List (Vec (Pending D J) Global)) (next : List P)
    → Ran settings most before levels → AreOpen promise joined (root ∷ []) waiting next → AreLevelsCounted levels waiting → length next ≡ parts
    → (e : SplitFailure) (Why : Unfinished → Type 0) → SplitFails e (λ _. ⊥) (λ ran over. (ran ≡ before) × (over ≡ parts) × (most < before + parts))
    → SplitFails e Why (IsOver promise joined settings root most)
is_over promise joined settings root most before parts levels waiting next r waits counted many (failure.Run u) Why limit = absurd limit
is_over promise joined settings root most before parts levels waiting next r waits counted many (failure.Limit ran more) Why limit =
    record {
      levels = levels;
      waiting = waiting;
      next = next;
      ran = r.ran;
      waits = waits;
      counts = counted;
      had_run = r.many ∙ sym limit.0;
      many = many ∙ sym limit.1;
      over = subst (λ n. most < n + more) (sym limit.0) (subst (λ n. most < before + n) (sym limit.1) limit.2);
    }
