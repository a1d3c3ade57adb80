-- Laws of every list of entries.
use Rattle.history.proofs.Legal as of
use Rattle.mtapi_machine.proofs.Names.{◌≡◌, List, ◌∷◌, ◌++◌, State, Terms, NodeEntry, node, IsNext, next, LegalFrom, Legal, after_from, []}

-- a prefix of a legal list is legal
pub Legal-front : (s : State) (L M : List NodeEntry) → LegalFrom s (L ++ M) → LegalFrom s L
unfolding LegalFrom
Legal-front = of.Legal-front node

-- the state after a list and then another
pub after-append : (s : State) (L M : List NodeEntry) → after_from s (L ++ M) ≡ after_from (after_from s L) M
unfolding after_from
after-append = of.after-append node

pub after-one : (s : State) (L : List NodeEntry) (e : NodeEntry) → after_from s (L ++ e ∷ []) ≡ next (after_from s L) e
unfolding after_from
after-one s L e = of.after-append node s L (e ∷ [])

-- what may follow a legal list
pub Legal-append : (s : State) (L M : List NodeEntry) → LegalFrom s L → LegalFrom (after_from s L) M → LegalFrom s (L ++ M)
unfolding LegalFrom after_from
Legal-append = of.Legal-append node

pub Legal-one : (s : State) (e : NodeEntry) → IsNext s e → LegalFrom s (e ∷ [])
unfolding LegalFrom
Legal-one s e h = (h, tt)

-- what follows a prefix is legal from its state on
pub Legal-rest : (s : State) (L M : List NodeEntry) → LegalFrom s (L ++ M) → LegalFrom (after_from s L) M
unfolding LegalFrom after_from
Legal-rest = of.Legal-rest node

pub Legal-prefix : (terms : Terms) (L M : List NodeEntry) → Legal terms (L ++ M) → Legal terms L
Legal-prefix terms L M h = record { fits = h.fits; from = Legal-front _ L M h.from }
