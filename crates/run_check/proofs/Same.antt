-- A call takes the same front of the lines, and comes to the same reply, however it is read.
use Rattle.std.proofs.lemmas.Bool.Decides.{nat_tests}
use Rattle.run_check.proofs.Names.{◌≡◌, ℕ, Bool, false, List, [], ◌∷◌, ◌++◌, Option, None, sym, ◌∙◌, ap, Op, Reply, is_pending, Call, Once, Looking, Line, line_with, before_it, Takes}
use Rattle.std.proofs.Common.{arith, Some}

-- the same is left, and the reply is the same
abbrev pub Agree : List Line → Reply → List Line → Reply → Type 0
Agree rest r other q = (rest ≡ other) × (r ≡ q)

looked_same : (o : Bool → Op) (lines rest other : List Line) (r q : Reply) (first second : Option ℕ) (m n : ℕ) (a b : Bool)
    → lines ≡ (before_it (o false) first ++ line_with (o a) r m ∷ []) ++ rest → lines ≡ (before_it (o false) second ++ line_with (o b) q n ∷ []) ++ other
    → is_pending r ≡ false → is_pending q ≡ false → Agree rest r other q
looked_same o lines rest other r q None None m n a b x y none nor = grind (arith, nat_tests)
looked_same o lines rest other r q None (Some k) m n a b x y none nor = grind (arith, nat_tests, is_pending)
looked_same o lines rest other r q (Some k) None m n a b x y none nor = grind (arith, nat_tests, is_pending)
looked_same o lines rest other r q (Some k) (Some j) m n a b x y none nor = grind (arith, nat_tests)

pub takes_same : (c : Call) (lines rest other : List Line) (r q : Reply) → Takes c lines rest r → Takes c lines other q → Agree rest r other q
takes_same (Once o) lines rest other r q s t =
    let e : line_with o r 0 ∷ rest ≡ line_with o q 0 ∷ other = ap (λ f. f ++ rest) (sym s.made.0) ∙ (sym s.is ∙ (t.is ∙ ap (λ f. f ++ other) t.made.0)) in
    let here : line_with o r 0 ≡ line_with o q 0 = cc in
    (cc, ap (λ l. l.reply) here)
takes_same (Looking waits o timeout) lines rest other r q s t =
    looked_same o lines rest other r q s.made.first t.made.first s.made.beside t.made.beside s.made.last t.made.last
    (s.is ∙ ap (λ f. f ++ rest) s.made.is) (t.is ∙ ap (λ f. f ++ other) t.made.is) s.made.decides t.made.decides
