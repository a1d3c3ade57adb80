-- What a derived `==` of an enum says, where `==` of each field decides whether the two are equal.
use Rattle.mtapi_machine.proofs.Names.{arith, nat_tests, ◌≡◌, Bool, true, false, ◌&&◌, List, ◌∷◌, Option, refl, ap, Decides, inl, inr, Bare, sameb, same_true, true_same, Record, Declared, Choice, values_one, []}
use Rattle.std.specs.Option.{option_eq}
use denote.Struct.Field.{Field}
use denote.Struct.Values.{Values}
use denote.Enum.Compared.{Each, by}

-- a test of one fact is a test of another that says the same
pub decides_so : {P Q : Type 0} (a : Bool) → (P → Q) → (Q → P) → Decides a P → Decides a Q
decides_so a to back d = (λ i. to (d.0 i), λ q. d.1 (back q))

-- both of two tests
pub both_decide : {P Q : Type 0} (a b : Bool) → Decides a P → Decides b Q → Decides (a && b) (P × Q)
both_decide a b e1 e2 = grind (arith, nat_tests)

-- the test of an optional value
pub option_decides : {A : Type 0} {E : A → A → Bool} → ((a b : A) → Decides (E a b) (a ≡ b)) → (a b : Option A) → Decides (option_eq E a b) (a ≡ b)
option_decides e1 a b = grind (arith, nat_tests)

-- the test of an enum with no fields
pub bare_decides : (D : Declared) → Bare D.parts → (a b : D.D) → Decides (sameb D a b) (a ≡ b)
bare_decides D bare a b = (same_true D bare a b, true_same D a b)

-- the tests of the fields of a variant: of none, of one, and of one more
pub none_decide : (x y : Unit {0}) → Decides true (x ≡ y)
none_decide x y = (λ i. refl, λ i. refl)

pub one_decides : {A : Type 0} {E : A → A → Bool} → ((a b : A) → Decides (E a b) (a ≡ b)) → (x y : A × Unit {0}) → Decides (E x.0 y.0) (x ≡ y)
one_decides {A = A} {E = E} d x y = decides_so (E x.0 y.0) (λ e i. (e i, tt)) (λ e. ap (λ (z : A × Unit {0}). z.0) e) (d x.0 y.0)

pub more_decide : {A B : Type 0} {E : A → A → Bool} {F : B → B → Bool} → ((a b : A) → Decides (E a b) (a ≡ b)) → ((a b : B) → Decides (F a b) (a ≡ b))
    → (x y : A × B) → Decides (E x.0 y.0 && F x.1 y.1) (x ≡ y)
more_decide e1 e2 x y = grind (arith, nat_tests)

-- the tests of each variant decide, where the second value is one of these
abbrev pub EachDecides : (Fss : List (List Field)) → (Choice Fss → Type 0) → Each Bool Fss → Type 0
EachDecides [] Q each = Unit {0}
EachDecides (Fs ∷ Fss) Q each = ((x y : Values Fs) → Q (inl y) → Decides (each.0 x y) (x ≡ y)) × EachDecides Fss (λ c. Q (inr c)) each.1

-- the test of a variant, whatever the second value is, and those of the next variants
infixr 30 ◌⊕◌
pub ◌⊕◌ : {A B : Type 0} {E : A → A → Bool} {Q : A → Type 0} → ((x y : A) → Decides (E x y) (x ≡ y)) → B
    → ((x y : A) → Q y → Decides (E x y) (x ≡ y)) × B
d ⊕ rest = (λ x y q. d x y, rest)

by_decides : (Fss : List (List Field)) (Q : Choice Fss → Type 0) (each : Each Bool Fss) → EachDecides Fss Q each → (c d : Choice Fss) → Q d
    → Decides (by false false Fss each c d) (c ≡ d)
by_decides [] Q each all c d q = absurd c
by_decides (Fs ∷ Fss) Q each all (inl x) (inl y) q = decides_so (each.0 x y) (λ e. ap inl e) (λ e. cc) (all.0 x y q)
by_decides (Fs ∷ Fss) Q each all (inl x) (inr y) q = (λ i. absurd (cc), λ i. absurd (cc))
by_decides (Fs ∷ Fss) Q each all (inr x) (inl y) q = (λ i. absurd (cc), λ i. absurd (cc))
by_decides (Fs ∷ Fss) Q each all (inr x) (inr y) q =
    decides_so (by false false Fss each.1 x y) (λ e. ap inr e) (λ e. cc) (by_decides Fss (λ c. Q (inr c)) each.1 all.1 x y q)

pub derived_decides : (N : Record) (Q : Choice N.parts → Type 0) (each : Each Bool N.parts) → EachDecides N.parts Q each → (x y : N.D) → Q (N.as_values y)
    → Decides (by false false N.parts each (N.as_values x) (N.as_values y)) (x ≡ y)
derived_decides N Q each all x y q = decides_so (by false false N.parts each (N.as_values x) (N.as_values y)) (values_one N x y) (λ e. ap N.as_values e)
    (by_decides N.parts Q each all (N.as_values x) (N.as_values y) q)
