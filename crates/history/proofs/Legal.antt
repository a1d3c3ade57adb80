-- Laws of every list of entries of a machine.
use Rattle.std.proofs.Common.{◌≡◌, List, [], ◌∷◌, ◌++◌, refl}
use Rattle.history.specs.declared.entries.Entry.{Entry}
use Rattle.history.specs.Legal.{Machine, state_after, EachMayCome, after_entries}

module _ {State Op Reply Move : Type 0} (m : Machine State Op Reply Move) where
  -- a prefix of a legal list is legal
  pub Legal-front : (s : State) (L M : List (Entry Op Reply)) → EachMayCome m s (L ++ M) → EachMayCome m s L
  unfolding EachMayCome
  Legal-front s [] M h = tt
  Legal-front s (e ∷ L) M h = (h.0, Legal-front (state_after m s e) L M h.1)

  -- the state after a list and then another
  pub after-append : (s : State) (L M : List (Entry Op Reply)) → after_entries m s (L ++ M) ≡ after_entries m (after_entries m s L) M
  unfolding after_entries
  after-append s [] M = refl
  after-append s (x ∷ L) M = after-append (state_after m s x) L M

  -- what may follow a legal list
  pub Legal-append : (s : State) (L M : List (Entry Op Reply)) → EachMayCome m s L → EachMayCome m (after_entries m s L) M → EachMayCome m s (L ++ M)
  unfolding EachMayCome after_entries
  Legal-append s [] M h k = k
  Legal-append s (x ∷ L) M h k = (h.0, Legal-append (state_after m s x) L M h.1 k)

  -- what follows a prefix is legal from its state on
  pub Legal-rest : (s : State) (L M : List (Entry Op Reply)) → EachMayCome m s (L ++ M) → EachMayCome m (after_entries m s L) M
  unfolding EachMayCome after_entries
  Legal-rest s [] M h = h
  Legal-rest s (x ∷ L) M h = Legal-rest (state_after m s x) L M h.1
