-- The handles of the last generation of a state, over its moves and over entries.
use Rattle.mtapi_renaming.proofs.Names.{nat_tests, ◌≡◌, ℕ, ◌+◌, List, [], None, Some, refl, ◌∙◌, ap, arith, ◌==◌, ObjectKind, Listed, listed, new_task, Terms, Op, Reply, Handle, State, objects_of, opening, Move, Sort, Fields, all_of, makes, apply, Allows, moves_of, after_row, row, NodeEntry, after, IsMade, snd_true, row_made, moves_keep, along, rest_keeps, made_kind, live_in, is_full_of, most_of, lasts_in, lasts_of, gone_of, with_last_handle, MakesLast, at_opening, of_sort, sort_at, released, is_full, is_some, live_object, how_many, not, sym}
use Rattle.mtapi_values.specs.declared.handles.ObjectKind.TheVariants as kind
use Rattle.mtapi_renaming.proofs.CountMoves.{SameIn, each_move, move_same, by_none, live_is, most_is}
use Rattle.mtapi_renaming.proofs.CountRows.{other_actions, other_tasks, other_sorts}
use Rattle.mtapi_renaming.proofs.Handles.{SameHandles}
use Rattle.mtapi_renaming.proofs.CreateRows.{after_create}
use Rattle.mtapi_renaming.proofs.Lasts.{OnceEach, lasts-same, lasts-issue, once-same, once-issue, full-told}

-- of a kind no handle stands twice
abbrev pub OnceIn : ObjectKind → State → Type 0
OnceIn k s = OnceEach ((objects_of k).list s)

-- of each kind
abbrev pub OnceAll : State → Type 0
OnceAll s = (k : ObjectKind) → OnceIn k s

once_kept : (o : Op) (s : State) (m : Move) → IsMade s o m → OnceAll s → OnceAll (apply m s)
once_kept o s m i w k = each_move (λ T o l m. OnceEach l
    → OnceEach m) s o m i (λ T o h v j. once-issue s.terms.settings.generations h v (o.list s) (snd_true _ _ j)) (λ T o l m. once-same l m) k (w k)

none_once : (T : Type 0) → OnceEach {T = T} []
unfolding listed
none_once T h = omega arith

pub once_after : (terms : Terms) (L : List NodeEntry) → OnceAll (after terms L)
once_after terms L = along OnceAll (λ o s m i w. once_kept o s m i w) (opening terms) L (at_opening (λ T l. OnceEach l) none_once terms)

-- those that aren't live, by the objects of the kind
pub gone_is : (k : ObjectKind) (s : State) (hs : List ℕ) → gone_of k s hs ≡ how_many (λ h. not (is_some (live_object ((objects_of k).list s) h))) hs
gone_is kind.Action s hs = refl
gone_is k s hs = refl

pub full_told : (terms : Terms) (L : List NodeEntry) (k : ObjectKind)
    → is_full_of k (after terms L) ≡ (live_in k (after terms L) + gone_of k (after terms L) (lasts_of k (after terms L)) == most_of k (after terms L))
full_told terms L k =
    let s = after terms L in
    ap (λ (m : ℕ). is_full s.terms.settings.generations m ((objects_of k).list s)) (sym (most_is k s))
    ∙ full-told s.terms.settings.generations (most_of k s) ((objects_of k).list s) (once_after terms L k)
    ∙ (λ i. sym (live_is k s) i + sym (gone_is k s (lasts_of k s)) i == most_of k s)

-- an op that makes nothing

pub terms_stay : (s : State) (m : Move) → (apply m s).terms ≡ s.terms
terms_stay s released = refl
terms_stay s m = rest_keeps (λ u. u.terms ≡ s.terms) (λ u g q m c r y p. p) m s refl

pub terms_after : (terms : Terms) (L : List NodeEntry) → (after terms L).terms ≡ terms
terms_after terms L = along (λ s. s.terms ≡ terms) (λ o s m i e. terms_stay s m ∙ e) (opening terms) L refl

-- the last generation and the same handles
lasts_in_same : {T : Type 0} (u v : Terms) (l m : List (Listed T)) → v ≡ u → SameHandles l m
    → lasts_in v.settings.generations m ≡ lasts_in u.settings.generations l
lasts_in_same u v l m e w = ap (λ (x : Terms). lasts_in x.settings.generations m) e ∙ lasts-same u.settings.generations l m w

lasts_same : (k : ObjectKind) (s t : State) → t.terms ≡ s.terms → SameIn k s t → lasts_of k t ≡ lasts_of k s
lasts_same k s t e v = lasts_in_same s.terms t.terms ((objects_of k).list s) ((objects_of k).list t) e v

pub others_keep_lasts : (s : State) (who : ℕ) (o : Op) (r : Reply) (k : ObjectKind) → made_kind o ≡ None
    → lasts_of k (after_row s (row s who o r)) ≡ lasts_of k s
others_keep_lasts s who o r k e =
    moves_keep o (λ t. lasts_of k t ≡ lasts_of k s) (λ t m i v. lasts_same k t (apply m t) (terms_stay t m) (move_same t o m i (by_none t o m e i) k)
    ∙ v) (moves_of (row s who o r)) s (row_made s who o r) refl

-- an op that answers the handle of a new object

module _ (s : State) (h : ℕ) where
  last_so : (k : ObjectKind) (t : State) → t.terms ≡ s.terms
      → lasts_in s.terms.settings.generations ((objects_of k).list t) ≡ with_last_handle s.terms.settings.generations h (lasts_of k s) →
      ((i : ObjectKind) → (i ≡ k → ⊥) → (objects_of i).list t ≡ (objects_of i).list s) → MakesLast s t k h
  last_so k t i j l = grind (arith, nat_tests)

  last_sort : (t : Sort) (v : Fields t) → MakesLast s (apply (makes t h v) s) (all_of t).kind h
  last_sort t v =
      let u = apply (makes t h v) s in
      let last = s.terms.settings.generations in
      last_so (all_of t).kind u (terms_stay s (makes t h v)) (of_sort (λ T o. lasts_in last (o.list u) ≡ with_last_handle last h (lasts_in last (o.list s))) t
      (ap (λ (l : List (Listed (Fields t))). lasts_in last l) (sort_at t _ s) ∙ lasts-issue last h v ((all_of t).list s))) (other_sorts s h t v)

pub creates_make_last : (s : State) (who h : ℕ) (o : Op) (k : ObjectKind) → made_kind o ≡ Some k → Allows (row s who o (Handle h)) (Handle h)
    → MakesLast s (after_row s (row s who o (Handle h))) k h
creates_make_last s who h o k i a = after_create {Q = λ j t. MakesLast s t j h} (record {
  action = λ b. last_so s h kind.Action _ refl (lasts-issue s.terms.settings.generations h b s.actions) (other_actions s h b);
  task = λ t. last_so s h kind.Task _ refl (lasts-issue s.terms.settings.generations h (new_task t s.starts) s.tasks) (other_tasks s h t);
  sort = last_sort s h;
}) who k o i a
