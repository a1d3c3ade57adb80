-- What holds of one kind and of all others holds of each kind; and what a renaming and other limits leave of each kind.
use Rattle.journal_check.proofs.Names.{◌≡◌, ℕ, Bool, true, false, cond, List, [], ◌∷◌, length, refl, sym, ◌∙◌, ap, subst, arith, eqb-true, eq-eqb, ◌==◌, ObjectKind, object_number, Listed, Terms, State, Renaming, Room, renamed, made_in, most_of, room_of, nat_tests}
use Rattle.mtapi_values.specs.declared.handles.ObjectKind.TheVariants as kind
use Rattle.handle_pool.specs.Inside.{inside}

-- a kind is told by its number
abbrev object_of : ℕ → ObjectKind
object_of m = cond (m == 1) kind.Action
    (cond (m == 2) kind.Task (cond (m == 3) kind.Group
    (cond (m == 4) kind.Queue (cond (m == 5) kind.Mutex (cond (m == 6) kind.Sem (cond (m == 7) kind.Rwl kind.Shmem))))))

object-number : (k : ObjectKind) → object_of (object_number k) ≡ k
object-number k = grind (arith, nat_tests)

same_kind : (j k : ObjectKind) → object_number j ≡ object_number k → j ≡ k
same_kind j k e = sym (object-number j) ∙ ap object_of e ∙ object-number k

pub by_kind : (P : ObjectKind → Type 0) (k : ObjectKind) → P k → ((i : ObjectKind) → (i ≡ k → ⊥) → P i) → (i : ObjectKind) → P i
by_kind P k here others i = by_test (object_number i == object_number k) refl
  where
    by_test : (b : Bool) → (object_number i == object_number k) ≡ b → P i
    by_test true e = subst P (sym (same_kind i k (eqb-true (object_number i) (object_number k) e))) here
    by_test false e = others i (λ same. let t : (object_number i == object_number k) ≡ true =
        eq-eqb (object_number i) (object_number k) (ap object_number same) in absurd (cc))

length-inside : {M T : Type 0} (g : ℕ → ℕ) (f : ℕ → M → T) (l : List (Listed M)) → length (inside g f l) ≡ length l
unfolding inside
length-inside g f [] = refl
length-inside g f (r ∷ rs) = let e : length (inside g f rs) ≡ length rs = length-inside g f rs in omega (arith, e)

-- as many were made in the renamed state
pub made-renamed : (k : ObjectKind) (g : Renaming) (x : Room) (s : State) → made_in k (renamed g x s) ≡ made_in k s
made-renamed kind.Action g x s = length-inside _ _ s.actions
made-renamed kind.Task g x s = length-inside _ _ s.tasks
made-renamed kind.Group g x s = length-inside _ _ s.groups
made-renamed kind.Queue g x s = length-inside _ _ s.queues
made-renamed kind.Mutex g x s = length-inside _ _ s.mutexes
made-renamed kind.Sem g x s = length-inside _ _ s.sems
made-renamed kind.Rwl g x s = length-inside _ _ s.rwls
made-renamed kind.Shmem g x s = length-inside _ _ s.segments

-- and there may be as many
pub most-renamed : (k : ObjectKind) (g : Renaming) (terms : Terms) (s : State) → s.terms ≡ terms → most_of k (renamed g (room_of terms) s) ≡ most_of k s
most-renamed k g terms s e = grind (arith, nat_tests)
