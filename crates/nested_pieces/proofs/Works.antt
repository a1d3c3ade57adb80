-- Work that has run is joined to more, and its result keeps what its piece promises.
use Rattle.typed_pieces.proofs.Names.{◌≡◌, ◌∙◌, ◌+◌, ℕ, suc, List, [], ◌∷◌, ◌++◌, Option, Some, IfOk, Result, ap, length, map, refl, subst, sum_by, sym, slice_get, same_Some, AreKept, AllKept, JoinsTo, arith}
use Rattle.std.proofs.lemmas.List.Sums.{sum_by-cons}
use Rattle.std.proofs.lemmas.Result.{IfOk-weaker}
use Rattle.std.proofs.Math.Logic.{∥∥₁_map₂}
use Rattle.typed_pieces.specs.Places.{IsKeptAt}
use Rattle.typed_pieces.proofs.Levels.{kept_at}
use Rattle.nested_pieces.proofs.Kept.{all_alike}
use Rattle.nested_pieces.specs.Joins.{JoinsAt}
use Rattle.nested_pieces.specs.Works.{Works, Came, HasWorked, IsWorkOf, how_many_pieces, pieces_in, results_in}
use Rattle.nested_pieces.specs.Works.Works.{NoneRan, Gave, Joined}
use Rattle.nested_pieces.specs.declared.parts.Counted.{Counted}

same_head : {D : Type 0} (x y : D) (xs ys : List D) → x ∷ xs ≡ y ∷ ys → x ≡ y
same_head x y xs ys e = cc

module _ {P D J : Type 0} where
  -- two works, one behind the other
  abbrev beside : Works P D J → Works P D J → Works P D J
  beside NoneRan ws = ws
  beside (Gave p d others) ws = Gave p d (beside others ws)
  beside (Joined p join d parts others) ws = Joined p join d parts (beside others ws)

  beside_pieces : (vs ws : Works P D J) → pieces_in (beside vs ws) ≡ pieces_in vs ++ pieces_in ws
  beside_pieces NoneRan ws = refl
  beside_pieces (Gave p d others) ws = ap (λ l. p ∷ l) (beside_pieces others ws)
  beside_pieces (Joined p join d parts others) ws = ap (λ l. p ∷ l) (beside_pieces others ws)

  beside_results : (vs ws : Works P D J) → results_in (beside vs ws) ≡ results_in vs ++ results_in ws
  beside_results NoneRan ws = refl
  beside_results (Gave p d others) ws = ap (λ l. d ∷ l) (beside_results others ws)
  beside_results (Joined p join d parts others) ws = ap (λ l. d ∷ l) (beside_results others ws)

  beside_count : (vs ws : Works P D J) → how_many_pieces (beside vs ws) ≡ how_many_pieces vs + how_many_pieces ws
  beside_count NoneRan ws = omega arith
  beside_count (Gave p d others) ws = let e = beside_count others ws in omega (arith, e)
  beside_count (Joined p join d parts others) ws = let e = beside_count others ws in omega (arith, e)

module _ {P D J : Type 0} (promise : P → D → Type 0) (joined : J → List D → D → Type 0) where
  beside_worked : (vs ws : Works P D J) → HasWorked promise joined vs → HasWorked promise joined ws → HasWorked promise joined (beside vs ws)
  beside_worked NoneRan ws h k = k
  beside_worked (Gave p d others) ws h k = (h.0, beside_worked others ws h.1 k)
  beside_worked (Joined p join d parts others) ws h k = (h.0, h.1, h.2, beside_worked others ws h.3 k)

  -- the work of all these pieces
  record AreWorks (ps : List P) (cs : List (Counted D)) : Type 0 where
    works : Works P D J
    pieces : pieces_in works ≡ ps
    results : results_in works ≡ map (λ c. c.result) cs
    counts : how_many_pieces works ≡ sum_by (λ c. c.pieces) cs
    worked : HasWorked promise joined works

  are_works : (ps : List P) (cs : List (Counted D)) → AllKept (Came promise joined) ps cs → AreWorks ps cs
  are_works [] cs k =
      subst (λ l. AreWorks [] l) (sym k) (record { works = NoneRan; pieces = refl; results = refl; counts = refl; worked = tt })
  are_works (p ∷ ps) cs k =
      let one : IsWorkOf promise joined p k.0.pieces k.0.result = k.3 in
      let more = are_works ps k.1 k.4 in
      let counts = beside_count one.works more.works in
      subst (λ l. AreWorks (p ∷ ps) l) (sym k.2) (record {
        works = beside one.works more.works;
        pieces = beside_pieces one.works more.works ∙ (ap (λ l. l ++ pieces_in more.works) one.pieces ∙ ap (λ l. p ∷ l) more.pieces);
        results = beside_results one.works more.works
            ∙ (ap (λ l. l ++ results_in more.works) one.results ∙ ap (λ l. k.0.result ∷ l) more.results);
        counts = counts
            ∙ (ap (λ n. n + how_many_pieces more.works) one.counts
            ∙ (ap (λ n. k.0.pieces + n) more.counts ∙ sym (sum_by-cons (λ c. c.pieces) k.0 k.1)));
        worked = beside_worked one.works more.works one.worked more.worked;
      })

  -- a piece that gave a result that it promises
  gave : (p : P) (d : D) → promise p d → IsWorkOf promise joined p 1 d
  gave p d h = record { works = Gave p d NoneRan; pieces = refl; results = refl; counts = refl; worked = (h, tt) }

  -- a piece whose parts have run
  joins : (p : P) (parts : List P) (join : J) (cs : List (Counted D)) (ds : List D) (d : D) (n : ℕ) → JoinsTo promise joined p parts join
      → AllKept (Came promise joined) parts cs → ds ≡ map (λ c. c.result) cs → n ≡ suc (sum_by (λ c. c.pieces) cs) → joined join ds d
      → IsWorkOf promise joined p n d
  joins p parts join cs ds d n to all are many gives =
      let w = are_works parts cs all in
      let counts = w.counts in
      record {
        works = Joined p join d w.works NoneRan;
        pieces = refl;
        results = refl;
        counts = omega (arith, counts, many);
        worked = (
          subst (λ l. JoinsTo promise joined p l join) (sym w.pieces) to,
          subst (λ l. joined join l d) (are ∙ sym w.results) gives,
          w.worked,
          tt,
        );
      }

  all_keep : (ws : Works P D J) → HasWorked promise joined ws → AllKept promise (pieces_in ws) (results_in ws)
  all_keep NoneRan h = refl
  all_keep (Gave p d others) h = (d, results_in others, refl, h.0, all_keep others h.1)
  all_keep (Joined p join d parts others) h =
      (d, results_in others, refl, h.0 (results_in parts) d (all_keep parts h.2) h.1, all_keep others h.3)

  -- the result of a work keeps what its piece promises
  pub work_keeps : (p : P) (n : ℕ) (d : D) → IsWorkOf promise joined p n d → promise p d
  work_keeps p n d w =
      let all : AllKept promise (p ∷ []) (d ∷ []) =
      subst (λ l. AllKept promise l (d ∷ [])) w.pieces (subst (λ l. AllKept promise (pieces_in w.works) l) w.results (all_keep w.works w.worked)) in
      subst (λ x. promise p x) (sym (same_head d all.0 [] all.1 all.2)) all.3

  -- the result of the piece that stands here
  pub came_of : (ps : List P) (i : ℕ) (p : P) (d : D) → slice_get ps i ≡ Some p → promise p d
      → ∥ IsKeptAt (Came promise joined) ps i (record { result = d; pieces = 1 }) ∥₁
  came_of ps i p d is here = ∣ (λ q at. gave q d (subst (λ x. promise x d) (same_Some p q (sym is ∙ at)) here)) ∣₁

  -- what the join gives, where each part has a result
  pub came_joined : (above : List P) (i : ℕ) (parts : List P) (join : J) (xs : List (Option (Counted D))) (cs : List (Counted D)) (ds : List D) (d : D) (n : ℕ)
      → ∥ JoinsAt promise joined above i parts join ∥₁ → ∥ AreKept (Came promise joined) parts xs ∥₁ → length xs ≡ length parts
      → map Some cs ≡ xs → length cs ≡ length xs → ds ≡ map (λ c. c.result) cs → n ≡ suc (sum_by (λ c. c.pieces) cs) → joined join ds d
      → ∥ IsKeptAt (Came promise joined) above i (record { result = d; pieces = n }) ∥₁
  came_joined above i parts join xs cs ds d n to kept places are many results counts gives =
      ∥∥₁_map₂ to kept (λ j k p at.
      joins p parts join cs ds d n (j p at)
      (kept_at (Came promise joined) (λ q. q) parts parts cs (all_alike parts) (many ∙ places) (subst (λ l. AreKept (Came promise joined) parts l) (sym are) k))
      results counts gives)

  -- the root's, which is the only piece of its list
  pub root_came : (ps : List P) (i : ℕ) (root : P) (c : Counted D) (n : ℕ) (d : D) → ps ≡ root ∷ [] → i ≡ 0 → IsKeptAt (Came promise joined) ps i c
      → n ≡ c.pieces → d ≡ c.result → IsWorkOf promise joined root n d
  root_came ps i root c n d alone first kept count result =
      let came : Came promise joined root c = kept root (subst (λ (k : ℕ). slice_get ps k ≡ Some root) (sym first)
      (subst (λ (l : List P). slice_get l 0 ≡ Some root) (sym alone) refl)) in
      subst (λ (k : ℕ). IsWorkOf promise joined root k d) (sym count) (subst (λ (x : D). IsWorkOf promise joined root c.pieces x) (sym result) came)

-- where a run gave a result, it keeps what the root promises
pub ok_keeps : {P D J N E : Type 0} (promise : P → D → Type 0) (joined : J → List D → D → Type 0) (root : P) (count : N → ℕ) (result : N → D) (r : Result N E)
    → IfOk r (λ n. IsWorkOf promise joined root (count n) (result n)) → IfOk r (λ n. promise root (result n))
ok_keeps promise joined root count result r w =
    IfOk-weaker r (λ n. IsWorkOf promise joined root (count n) (result n)) (λ n. promise root (result n))
    (λ n x. work_keeps promise joined root (count n) (result n) x) w
