-- The laws of one step and of the start.
use Rattle.mtapi_renaming.proofs.Names.{nat_tests, ◌≡◌, ◌↔◌, ℕ, false, List, [], ◌∷◌, length, Some, None, refl, sym, ap, subst, arith, is_some, ObjectKind, Listed, live_of, inside, Terms, Op, Reply, State, Row, Allows, row, Renaming, Room, renamed_list, renamed, Follows, renamed_op, renamed_reply, made_kind, live_in, is_live_of, takes_task, row_in, StepRenames, CreateRenames, LiveAlike, StartRenames}
use Rattle.mtapi_machine.specs.declared.ops.Op.TheVariants as op
use Rattle.mtapi_renaming.proofs.Lists.{found-renamed}
use Rattle.mtapi_renaming.proofs.TaskRows.{is_some-map}
use Rattle.mtapi_renaming.proofs.Table.{row_alike}
use Rattle.mtapi_renaming.proofs.Fits.{follows_after}
use Rattle.mtapi_renaming.proofs.Comes.{not_read, allowed_one, still, pick_not_read, takes_still}
use Rattle.mtapi_renaming.proofs.CreateTable.{create_alike}

pub step_renames : (g : Renaming) (x : Room) (s : State) (who : ℕ) (o : Op) (r : Reply) → Follows g s → made_kind o ≡ None → StepRenames g x s who o r
step_renames g x s who o r n i = let a = row_alike n.fits x who o r i in
    record { allowed = a.allowed; leads = λ b. a.leads; follows = λ b. follows_after g s who o r i n a.fits }

pub create_renames : (g : Renaming) (x : Room) (s : State) (who : ℕ) (o : Op) (k : ObjectKind) (h other : ℕ) → Follows g s → made_kind o ≡ Some k
    → CreateRenames g x s who o k h other
create_renames g x s who o k h other n i =
    let a = create_alike n x h other who k o i in
    record {
      refused = a.refused;
      refuses = a.refuses;
      makes = a.answers;
      allowed = a.made;
      leads = λ b c. (a.makes b c).same;
      follows = λ b c. (a.makes b c).follows;
    }

-- what is decided, where the row reads nothing of the two replies
decides : (g : Renaming) (x : Room) (s : State) (who : ℕ) (o : Op) (given r : Reply) → Follows g s → made_kind o ≡ None
    → row_in g x s who o (renamed_reply g o r) ≡ row_in g x s who o given →
    Allows (row_in g x s who o given) given → Allows (row s who o r) r ↔ (renamed_reply g o r ≡ given)
decides g x s who o given r n i same a =
    let w = row_alike n.fits x who o r i in (
      λ b. allowed_one (row_in g x s who o given) given (renamed_reply g o r) a (subst (λ (v : Row). Allows v (renamed_reply g o r)) same (w.allowed.0 b)),
      λ e. w.allowed.1 (subst (λ (q : Reply). Allows (row_in g x s who o q) q) (sym e) a),
    )

pub answers_decide : (g : Renaming) (x : Room) (s : State) (who : ℕ) (o : Op) (given r : Reply) → Follows g s → made_kind o ≡ None → takes_task o given ≡ false
    → takes_task o r ≡ false →
    Allows (row_in g x s who o given) given → Allows (row s who o r) r ↔ (renamed_reply g o r ≡ given)
answers_decide g x s who op.Pick given r n i p q a =
    decides g x s who op.Pick given r n i (pick_not_read (renamed g x s) who (renamed_reply g op.Pick r) given (takes_still g r q) p) a
answers_decide g x s who o given r n i p q a =
    decides g x s who o given r n i (not_read (renamed g x s) who (renamed_op g o) (renamed_reply g o r) given (still g o (ap is_some i))) a

-- as many objects are live
pub same_length : {T : Type 0} (f : ℕ → ℕ) (c : T → T) (l : List (Listed T)) → length (live_of (renamed_list f c l)) ≡ length (live_of l)
unfolding live_of inside
same_length f c [] = refl
same_length f c (r ∷ rs) = grind (arith, same_length f c rs)

as_many_live : (g : Renaming) (x : Room) (s : State) (k : ObjectKind) → live_in k (renamed g x s) ≡ live_in k s
as_many_live g x s k = grind (arith, nat_tests, same_length)

same_live : (g : Renaming) (x : Room) (s : State) (k : ObjectKind) → Follows g s → (h : ℕ) → is_live_of k (renamed g x s) (g k h) ≡ is_live_of k s h
same_live g x s k i h = grind (arith, nat_tests, found-renamed, is_some-map)

pub lives_alike : (g : Renaming) (x : Room) (s : State) (k : ObjectKind) → Follows g s → LiveAlike g x s k
lives_alike g x s k n = record { same = same_live g x s k n; count = as_many_live g x s k }

pub start_renames : (x : Room) (terms : Terms) → StartRenames x terms
unfolding inside
start_renames x terms = grind (arith, nat_tests)
