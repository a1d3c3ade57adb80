-- Entries that are allowed in place of another one.
use Rattle.std.proofs.Common.{◌≡◌, ℕ, suc, ◌-◌, ◌≤◌, zero, List, [], ◌∷◌, ◌++◌, length, map, take, drop, get_or, refl, sym, ap, arith}
use Rattle.std.specs.List.{AllByRecursion}
use Rattle.mtapi_machine.specs.declared.terms.Terms.{Terms}
use Rattle.mtapi_machine.specs.Legal.{NodeEntry, Legal}
use Rattle.journal_reasons.specs.Judged.{IsInstead, AreInstead}

-- the first so many and one more, of what a list stands for
take_one_more : {X Y : Type 0} (f : X → Y) (xs : List X) (d : X) (k : ℕ) → 1 ≤ length (drop k xs) → d ≡ get_or (drop k xs) 0 d
    → take (suc k) (map f xs) ≡ map f (take k xs) ++ f d ∷ []
take_one_more f [] d zero some same = absurd (omega (arith, some))
take_one_more f [] d (suc k) some same = absurd (omega (arith, some))
take_one_more f (x ∷ xs) d zero some same = ap (λ y. f y ∷ []) (sym same)
take_one_more f (x ∷ xs) d (suc k) some same = ap (λ ys. f x ∷ ys) (take_one_more f xs d k some same)

pub cut_entries : {X Y : Type 0} (f : X → Y) (xs front back : List X) (d : X) (n : ℕ) → (n ≡ 0 → ⊥) → front ≡ take (n - 1) xs
    → back ≡ drop (n - 1) xs → 1 ≤ length back → d ≡ get_or back 0 d → take n (map f xs) ≡ map f front ++ f d ∷ []
cut_entries f xs front back d zero some before behind more same = absurd (some refl)
cut_entries f xs front back d (suc k) some before behind more same =
    let one : suc k - 1 ≡ k = omega arith in
    rw (before, one) (take_one_more f xs d k (rw (behind, one) at more) (rw (behind, one) at same))

push_each : {X : Type 0} (P : X → Type 0) (xs : List X) (y : X) → AllByRecursion P xs → P y → AllByRecursion P (xs ++ y ∷ [])
push_each P [] y all last = (last, tt)
push_each P (x ∷ xs) y all last = (all.0, push_each P xs y all.1 last)

pub one_more : (terms : Terms) (L : List NodeEntry) (n : ℕ) (before : List NodeEntry) (given e : NodeEntry) (es : List NodeEntry)
    → take (n - 1) L ≡ before → take n L ≡ before ++ given ∷ [] → e.who ≡ given.who → e.op ≡ given.op
    → Legal terms (before ++ e ∷ []) → AreInstead terms L n es → AreInstead terms L n (es ++ e ∷ [])
one_more terms L n before given e es front with_it who op legal all =
    push_each (IsInstead terms L n) es e all (record {
      given = given.reply;
      same_call = rw (front, who, op) with_it;
      allowed = rw front legal;
    })
