-- A renaming that has just what was issued has just that after an op that makes nothing.
use Rattle.mtapi_renaming.proofs.Names.{◌≡◌, ℕ, ◌≤◌, None, sym, subst, listed, Op, Reply, State, Sort, all_of, moves_of, after_row, row, row_made, of_sort, moves_keep, Renaming, HasOtherName, FitsState, Only, Follows, made_kind}
use Rattle.mtapi_renaming.proofs.Handles.{listed-same}
use Rattle.mtapi_renaming.proofs.CountMoves.{move_same, by_none}

pub sort-only : (g : Renaming) (t : Sort) (s : State) → Only g s → (h : ℕ) → HasOtherName g (all_of t).kind h → 1 ≤ listed h ((all_of t).list s)
sort-only g t s o = of_sort (λ T p. ((h : ℕ) → HasOtherName g (all_of t).kind h → 1 ≤ listed h (p.list s)) → (h : ℕ) → HasOtherName g (all_of t).kind h
    → 1 ≤ listed h ((all_of t).list s)) t (λ v. v) (o (all_of t).kind)

pub follows_after : (g : Renaming) (s : State) (who : ℕ) (o : Op) (r : Reply) → made_kind o ≡ None → Follows g s → FitsState g (after_row s (row s who o r))
    → Follows g (after_row s (row s who o r))
follows_after g s who o r e n f = record {
  fits = f;
  only = moves_keep o (λ t. Only g t) (λ t m i v k h has. subst (λ (c : ℕ). 1
      ≤ c) (sym (listed-same h _ _ (move_same t o m i (by_none t o m e i) k))) (v k h has)) (moves_of (row s who o r)) s (row_made s who o r) n.only;
}
