-- What an entry of the follower's node says, and how a follower comes one entry further.
use Rattle.journal_check.proofs.Names.{◌≡◌, ℕ, ◌+◌, ◌≤◌, List, [], ◌∷◌, ◌++◌, length, sym, ◌∙◌, ap, subst, arith, length-append, ObjectKind, entry, Terms, Op, Reply, State, opening, Allows, after_row, row, NodeEntry, LegalFrom, next, after, Legal-rest, after-one, PoolNode, PoolNodeStands, Renaming, terms_in, renamed, Follows, made_in, renaming_of, OtherHandles, Made, TellsState, room_of, Mirrors, HasFollowed, nat_tests, eqb-true, eq-eqb}
use Rattle.node_steps.specs.Stands.{terms_of}

module _ (n m : PoolNode) (own : List NodeEntry) (who : ℕ) (o : Op) (given : Reply) (t : terms_of m ≡ terms_of n) where
  -- the node's row allows what it answered
  pub node_allows : PoolNodeStands m (own ++ entry who o given ∷ []) → Allows (row (after (terms_of n) own) who o given) given
  unfolding LegalFrom
  node_allows a =
      subst (λ (u : Terms). Allows (row (after u own) who o given) given) t
      ((Legal-rest (opening (terms_of m)) own (entry who o given ∷ []) a.legal.from).0.allowed)

  -- and its state is the one after it
  pub node_leads : after (terms_of m) (own ++ entry who o given ∷ []) ≡ after_row (after (terms_of n) own) (row (after (terms_of n) own) who o given)
  node_leads = after-one (opening (terms_of m)) own (entry who o given) ∙ ap (λ (u : Terms). after_row (after u own) (row (after u own) who o given)) t

-- the node's own entry is behind those before it
pub mirrors_on : {n m : PoolNode} {g h : Renaming} {terms : Terms} {s t : State} {count : ℕ} (a : Mirrors n g terms s count) (who : ℕ) (o : Op) (given : Reply)
    → terms_of m ≡ terms_of n →
    PoolNodeStands m (a.own ++ entry who o given ∷ [])
    → after_row (renamed g (room_of terms) s) (row (renamed g (room_of terms) s) who o given) ≡ renamed h (room_of terms) t
    → Mirrors m h terms t (count + 1)
mirrors_on {n} {m} {g} {h} {terms} {s} {t} {count} a who o given e stands leads = record {
  own = a.own ++ entry who o given ∷ [];
  stands = stands;
  renames = node_leads n m a.own who o given e ∙ ap (λ (u : State). after_row u (row u who o given)) a.renames ∙ leads;
  few = let l : length (a.own ++ entry who o given ∷ []) ≡ length a.own + 1 = length-append a.own (entry who o given ∷ []) in let b : length a.own ≤ count =
      a.few in omega (arith, l, b);
}

-- the follower with these parts has come one entry further
pub followed_on : (terms : Terms) (n : PoolNode) (names : OtherHandles) (made : Made) (L : List NodeEntry) (e : NodeEntry) →
    Mirrors n (renaming_of names) terms (next (after terms L) e) (length L + 1) → terms_of n ≡ terms_in (room_of terms) terms
    → Follows (renaming_of names) (next (after terms L) e) →
    TellsState made (next (after terms L) e) → ((k : ObjectKind) → made_in k (next (after terms L) e) ≤ length L + 1) →
    HasFollowed (record { terms = terms; node = n; names = names; made = made }) (L ++ e ∷ [])
followed_on terms n names made L e node own follows tells few =
    let a : next (after terms L) e ≡ after terms (L ++ e ∷ []) = sym (after-one (opening terms) L e) in
    let l : length L + 1 ≡ length (L ++ e ∷ []) = sym (length-append L (e ∷ [])) in
    record {
      node = subst (λ (s : State). Mirrors n (renaming_of names) terms s (length (L ++ e ∷ []))) a
          (subst (λ (c : ℕ). Mirrors n (renaming_of names) terms (next (after terms L) e) c) l node);
      terms = own;
      follows = subst (λ (s : State). Follows (renaming_of names) s) a follows;
      made = subst (λ (s : State). TellsState made s) a tells;
      few = λ k. subst (λ (s : State). made_in k s ≤ length (L ++ e ∷ [])) a (subst (λ (c : ℕ). made_in k (next (after terms L) e) ≤ c) l (few k));
    }
