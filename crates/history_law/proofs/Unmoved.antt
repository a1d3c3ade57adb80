-- What an op leaves that alters and removes no object of a kind.
use Rattle.history_law.proofs.Names.{◌≡◌, ℕ, ◌≤◌, List, Option, refl, ◌∙◌, Listed, live_object, listed, State, Sort, Fields, all_of, NodeEntry, next, AltersObject, RemovesObject, by_moves}
use Rattle.history_law.proofs.lists.AtHandles.{at_issue_other}
use Rattle.history_law.proofs.Reuse.{apart_if, listed_issue_some}
use Rattle.history_law.proofs.Sorts.{sort_move}

abbrev Alike : {T : Type 0} → ℕ → Option T → List (Listed T) → Type 0
Alike h p l = (1 ≤ listed h l) × (live_object l h ≡ p)

-- what is live under a handle that was issued stays as it is
pub live_stays : (k : Sort) (s : State) (e : NodeEntry) (h : ℕ) → ((j : ℕ) (f : Fields k → Fields k) → AltersObject k j f e.op → ⊥)
    → ((j : ℕ) → RemovesObject k j e.op → ⊥) → 1 ≤ listed h ((all_of k).list s)
    → live_object ((all_of k).list (next s e)) h ≡ live_object ((all_of k).list s) h
live_stays k s e h alter remove l =
    (by_moves (λ t. Alike h (live_object ((all_of k).list s) h) ((all_of k).list t)) s e
    (λ t m y w. sort_move k t e.op (Alike h (live_object ((all_of k).list s) h))
    (λ j x z u. (listed_issue_some h j x ((all_of k).list t) u.0, at_issue_other j h x ((all_of k).list t) (apart_if (all_of k) t h j u.0 z.may) ∙ u.1))
    (λ j f z u. absurd (alter j f z)) (λ j z u. absurd (remove j z)) m y w) (l, refl)).1
