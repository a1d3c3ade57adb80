-- What a search by name finds in a list that has each value, with a name of its own.
use Rattle.std.proofs.Common.{◌≡◌, ◌≢◌, ◌↔◌, ℕ, Bool, true, false, List, [], ◌∷◌, Option, Some, None, IsNone, refl, sym, ap, ◌∙◌, rules}
use Rattle.std.specs.Prelude.{find, if◌then◌else◌}
use Rattle.std.specs.Str.{bytes_eq}
use Rattle.std.proofs.lemmas.Slice.Eq.{bytes_eq-Decides}

-- the value that a search for a name finds
abbrev pub found_by : {X : Type 0} → (X → List ℕ) → List X → List ℕ → Option X
found_by named all text = find (λ x. bytes_eq (named x) text) all

-- each value is found by its own name
pub record FindsEach {X : Type 0} (named : X → List ℕ) (all : List X) : Type 0 where
  pub own : (x : X) → found_by named all (named x) ≡ Some x

found_passes : {X : Type 0} (p : X → Bool) (all : List X) (x : X) → find p all ≡ Some x → p x ≡ true
found_passes p [] x e = cc
found_passes p (y ∷ ys) x e =
    elim (p y) as (λ b. p y ≡ b → (if b then Some y else find p ys) ≡ Some x → p x ≡ true) [
      | true ↦ λ is f. cc
      | false ↦ λ is f. found_passes p ys x f
    ] refl e

-- what is found has the name
found_named : {X : Type 0} (named : X → List ℕ) (all : List X) (text : List ℕ) (x : X) → found_by named all text ≡ Some x → text ≡ named x
found_named named all text x e = sym ((bytes_eq-Decides (named x) text).0 (found_passes (λ y. bytes_eq (named y) text) all x e))

-- the value with a name is what is found
named_found : {X : Type 0} {named : X → List ℕ} {all : List X} (each : FindsEach named all) (text : List ℕ) (x : X) → text ≡ named x
    → found_by named all text ≡ Some x
named_found {named = named} {all = all} each text x e = rw e (each.own x)

pub known_by_name : {X : Type 0} {named : X → List ℕ} {all : List X} (each : FindsEach named all) (text : List ℕ) (r : Option X) → r ≡ found_by named all text
    → (x : X) → (r ≡ Some x) ↔ (text ≡ named x)
known_by_name {named = named} {all = all} each text r e x = (λ f. found_named named all text x (sym e ∙ f), λ f. e ∙ named_found each text x f)

none_named : {X : Type 0} {named : X → List ℕ} {all : List X} (each : FindsEach named all) (text : List ℕ) (r : Option X) → r ≡ found_by named all text
    → ((x : X) → text ≢ named x) → IsNone r
none_named each text None e nowhere = search rules
none_named {named = named} {all = all} each text (Some x) e nowhere = absurd (nowhere x (found_named named all text x (sym e)))

named_contradicts : {X : Type 0} {named : X → List ℕ} {all : List X} (each : FindsEach named all) (text : List ℕ) (r : Option X) → r ≡ found_by named all text
    → IsNone r → (x : X) → text ≡ named x → ⊥
named_contradicts {X = X} each text None e none x f = let h : ◌≡◌ {A = Option X} None (Some x) = e ∙ named_found each text x f in cc
named_contradicts each text (Some y) e none x f = absurd (search rules)

pub unknown_by_name : {X : Type 0} {named : X → List ℕ} {all : List X} (each : FindsEach named all) (text : List ℕ) (r : Option X) → r ≡ found_by named all text
    → IsNone r ↔ ((x : X) → text ≢ named x)
unknown_by_name each text r e = (λ none x f. named_contradicts each text r e none x f, none_named each text r e)

-- two values of one name are one
pub one_name : {X : Type 0} {named : X → List ℕ} {all : List X} (each : FindsEach named all) (x y : X) → named x ≡ named y → x ≡ y
one_name {X = X} {named = named} {all = all} each x y e = let f : ◌≡◌ {A = Option X} (Some x) (Some y) =
    sym (each.own x) ∙ ap (found_by named all) e ∙ each.own y in cc
