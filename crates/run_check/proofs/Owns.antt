-- The lines of a seat, one more entry on.
use Rattle.std.proofs.lemmas.Bool.Decides.{nat_tests}
use Rattle.run_check.proofs.Names.{◌≡◌, ℕ, ◌+◌, ◌<◌, cond, List, [], ◌∷◌, ◌++◌, refl, ◌∙◌, length, get_or, take, arith, ◌==◌, length-take-le, take_at_read, NodeEntry, Line, line_with, lines_of}

pub own_none : (who : ℕ) → [] ≡ lines_of who [] []
unfolding lines_of
own_none who = refl

-- the line of an entry, where it is one of this seat
abbrev pub own : ℕ → NodeEntry → ℕ → List Line
own who e n = cond (e.who == who) (line_with e.op e.reply n ∷ []) []

pub own_more : (who : ℕ) (L : List NodeEntry) (ns : List ℕ) (e : NodeEntry) (n : ℕ) → length L ≡ length ns
    → lines_of who (L ++ e ∷ []) (ns ++ n ∷ []) ≡ lines_of who L ns ++ own who e n
unfolding lines_of
own_more who [] [] e n same = refl
own_more who [] (m ∷ ns) e n same = absurd cc
own_more who (x ∷ L) [] e n same = absurd cc
own_more who (x ∷ L) (m ∷ ns) e n same = grind (arith, nat_tests, own_more who L ns e n)

pub own_next : (who i : ℕ) (L : List NodeEntry) (ns : List ℕ) (e : NodeEntry) (old new : List Line)
    → length ns ≡ length L → i < length L → e ≡ get_or L i e
    → old ≡ lines_of who (take i L) (take i ns) → new ≡ old ++ own who e (get_or ns i 0)
    → new ≡ lines_of who (take (i + 1) L) (take (i + 1) ns)
own_next who i L ns e old new e1 e2 e3 e4 e5 = grind (arith, nat_tests, get_or, take_at_read, length-take-le, own_more, lines_of)
