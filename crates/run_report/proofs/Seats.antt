-- The replies of a seat, one more entry on.
use Rattle.run_report.proofs.Names.{map, map-append, entry_of, ShortEntry, arith, nat_tests, ◌≡◌, ℕ, ◌+◌, ◌<◌, cond, List, [], ◌∷◌, ◌++◌, refl, length, get_or, take, take_at_read, Reply, NodeEntry, decides, decided}

pub decided_none : (who : ℕ) → [] ≡ decided who []
unfolding decided
decided_none who = refl

decided_more : (who : ℕ) (L : List NodeEntry) (e : NodeEntry) → decided who (L ++ e ∷ []) ≡ decided who L ++ cond (decides who e) (e.reply ∷ []) []
unfolding decided
decided_more who [] e = refl
decided_more who (x ∷ L) e = grind (arith, nat_tests, decided_more who L e)

pub decided_next : (who i : ℕ) (xs : List ShortEntry) (x : ShortEntry) (old new : List Reply) → i < length xs → x ≡ get_or xs i x
    → old ≡ decided who (map entry_of (take i xs))
    → new ≡ old ++ cond (decides who (entry_of x)) ((entry_of x).reply ∷ []) [] → new ≡ decided who (map entry_of (take (i + 1) xs))
decided_next who i xs x old new e1 e2 e3 e4 = grind (arith, nat_tests, take_at_read, map-append, decided_more)
