-- What holds of each reply with the moves that come with it, for a row and for the families of rows.
use Rattle.history_law.proofs.Names.{◌≡◌, Bool, true, false, List, [], refl, sym, subst, Reply, Move, Row, unless, gives, never, Allows, only, moves_of, nat_tests, arith}

-- Q of each refusal with no move, and of what the row gives where the conditions before it aren't met
abbrev pub OfEachReply : (Reply → List Move → Type 0) → Row → Type 0
OfEachReply Q (unless b x w) = Q x [] × (b ≡ false → OfEachReply Q w)
OfEachReply Q (gives x ms) = Q x ms
OfEachReply Q never = Unit {0}

pub said : (Q : Reply → List Move → Type 0) (w : Row) (r : Reply) → OfEachReply Q w → Allows w r → Q r (moves_of w)
said Q (unless true x w) r g a = subst (λ (y : Reply). Q y []) (sym a) g.0
said Q (unless false x w) r g a = said Q w r (g.1 refl) a
said Q (gives x ms) r g a = subst (λ (y : Reply). Q y ms) (sym a) g
said Q never r g a = absurd a

module _ (Q : Reply → List Move → Type 0) where
  pub says_only : (b : Bool) (x : Reply) (ms : List Move) → (b ≡ true → Q x ms) → OfEachReply Q (only b (gives x ms))
  says_only b x ms e1 = grind (arith, nat_tests)
