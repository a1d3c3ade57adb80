-- No two objects of a kind are issued under one handle, and what was issued stays listed.
use Rattle.history_law.proofs.Names.{ℕ, ◌≤◌, [], sym, subst, arith, ObjectKind, Op, listed, State, objects_of, Move, apply, NodeEntry, next, IsMade, by_moves, times}
use Rattle.history_law.proofs.Reuse.{fresh_unlisted, listed_issue_some}
use Rattle.history_law.proofs.lists.Handles.{OnceIn, once_same, once_more}
use Rattle.history_law.proofs.Ages.{SameFields, kind_move, listed_ages}

pub once_none : (T : Type 0) (h : ℕ) → listed {T = T} h [] ≤ 1
unfolding listed
once_none T h = omega arith

pub once_move : (k : ObjectKind) (o : Op) (t : State) (x : Move) → IsMade t o x → OnceIn ((objects_of k).list t) → OnceIn ((objects_of k).list (apply x t))
once_move k o t x y w =
    kind_move k t o OnceIn (λ h v b i u. once_more h v ((objects_of k).list t) (fresh_unlisted k t h i) u)
    (λ l a u. once_same ((objects_of k).list t) l (λ j. listed_ages (SameFields k) j ((objects_of k).list t) l a) u) x y w

pub once_next : (k : ObjectKind) (s : State) (e : NodeEntry) → OnceIn ((objects_of k).list s) → OnceIn ((objects_of k).list (next s e))
once_next k s e v = by_moves (λ t. OnceIn ((objects_of k).list t)) s e (once_move k e.op) v

pub listed_next : (k : ObjectKind) (s : State) (e : NodeEntry) (h : ℕ) → 1 ≤ times k h s → 1 ≤ times k h (next s e)
listed_next k s e h v =
    by_moves (λ t. 1 ≤ times k h t) s e (λ t x y w. kind_move k t e.op (λ l. 1 ≤ listed h l)
    (λ j z b i u. listed_issue_some h j z ((objects_of k).list t) u)
    (λ l a u. subst (λ (n : ℕ). 1 ≤ n) (sym (listed_ages (SameFields k) h ((objects_of k).list t) l a)) u) x y w) v
