-- What holds of every reply that a row may give holds of the one that it allows.
use Rattle.std.proofs.Common.{◌≡◌, Bool, true, false, List, [], Option, Some, None, refl, sym, ap, subst}
use Rattle.history.specs.Row.{RowOfMachine, unless, gives, never, Allows, moves_of, only, live}
use Rattle.history.specs.Replay.{answer_of_row}

module _ {Reply Move : Type 0} where
  -- Q of each reply that the row may give, with the moves that it then makes
  abbrev pub AllDeeds : (Reply → List Move → Type 0) → RowOfMachine Reply Move → Type 0
  AllDeeds Q (unless c x w) = Q x [] × AllDeeds Q w
  AllDeeds Q (gives x ms) = Q x ms
  AllDeeds Q never = Unit {0}

  -- so Q of the reply that is allowed
  pub deeds : (Q : Reply → List Move → Type 0) (w : RowOfMachine Reply Move) (r : Reply) → AllDeeds Q w → Allows w r → Q r (moves_of w)
  deeds Q (unless true x w) r g a = subst (λ (y : Reply). Q y []) (sym a) g.0
  deeds Q (unless false x w) r g a = deeds Q w r g.1 a
  deeds Q (gives x ms) r g a = subst (λ (y : Reply). Q y ms) (sym a) g
  deeds Q never r g a = absurd a

  pub on_only : (Q : Reply → List Move → Type 0) (b : Bool) (w : RowOfMachine Reply Move) → (b ≡ true → AllDeeds Q w) → AllDeeds Q (only b w)
  on_only Q true w q = q refl
  on_only Q false w q = tt

  pub on_live : (Q : Reply → List Move → Type 0) {T : Type 0} (o : Option T) (v : RowOfMachine Reply Move) (w : T → RowOfMachine Reply Move) → AllDeeds Q v
      → ((t : T) → o ≡ Some t → AllDeeds Q (w t))
      → AllDeeds Q (live o v w)
  on_live Q None v w g h = g
  on_live Q (Some t) v w g h = h t refl

  -- the reply that a row gives is the one that it allows
  pub Allows-answer : (w : RowOfMachine Reply Move) (r : Reply) → answer_of_row w ≡ Some r → Allows w r
  Allows-answer (unless true x w) r h = cc
  Allows-answer (unless false x w) r h = Allows-answer w r h
  Allows-answer (gives x s) r h = cc
  Allows-answer never r h = cc

  pub answer-allowed : (w : RowOfMachine Reply Move) (r : Reply) → Allows w r → answer_of_row w ≡ Some r
  answer-allowed (unless true x w) r h = ap Some (sym h)
  answer-allowed (unless false x w) r h = answer-allowed w r h
  answer-allowed (gives x s) r h = ap Some (sym h)
  answer-allowed never r h = absurd h
