-- The first unended task of a queue is the one that was started first.
use Rattle.std.proofs.Common.{◌≡◌, ℕ, ◌<◌, Bool, true, false, not, cond, List, [], ◌∷◌, Some, refl, sym, ◌∙◌, ap, arith, lt-ltb}
use Rattle.std.proofs.lemmas.Option.{same_Some}
use Rattle.std.proofs.lemmas.Bool.{and_right}
use Rattle.std.specs.Prelude.{◌&&◌, ◌||◌, ◌==◌, nat_lt}
use Rattle.std.proofs.lemmas.Bool.Decides.{nat_tests}
use Rattle.handle_pool.specs.Issued.{lookup, any_live}
use Rattle.mtapi_objects.specs.Tasks.{Task}
use Rattle.mtapi_objects.specs.Queues.{is_unended_in, is_head}
use Rattle.handle_pool.specs.Issued.{handles_of}
use Rattle.queue_ready.specs.Ready.{StartsInOrder, is_first, QueueReady}

not-less : (n : ℕ) → nat_lt n n ≡ false
not-less n = grind (arith, nat_tests)

not-after : (m n : ℕ) → n < m → nat_lt m n ≡ false
not-after m n l = grind (arith, nat_tests)

-- no task behind was started earlier
none-before : (q : ℕ) (start : ℕ) (es : List (ℕ × Task)) → ((h : ℕ) (t : Task) → lookup es h ≡ Some t → start < t.start) → StartsInOrder es
    → any_live (λ u. is_unended_in q u && nat_lt u.start start) es ≡ false
unfolding StartsInOrder
none-before q start [] after order = refl
none-before q start (e ∷ es) after order =
    let here : start < e.1.start = after e.0 e.1 (ap (λ (b : Bool). cond b (Some e.1) (lookup es e.0)) (self e.0)) in
    ap (λ (b : Bool). cond b true (any_live (λ u. is_unended_in q u && nat_lt u.start start) es))
    (and_right (is_unended_in q e.1) _ (not-after e.1.start start here))
    ∙ none-before q start es (λ h t found. later h t found here (e.0 == h) refl) order.1
  where
    self : (n : ℕ) → (n == n) ≡ true
    self n = grind (arith, nat_tests)

    later : (h : ℕ) (t : Task) → lookup es h ≡ Some t → start < e.1.start → (b : Bool) → (e.0 == h) ≡ b → start < t.start
    later h t found here b is = let x = order.0 h t found in omega (arith, here, x)

-- the two tests of the head agree
head-first : (q h : ℕ) (t : Task) (es : List (ℕ × Task)) → StartsInOrder es → lookup es h ≡ Some t → is_unended_in q t ≡ true
    → is_head q t es ≡ is_first h (handles_of (is_unended_in q) es)
unfolding StartsInOrder
head-first q h t [] order found in_queue = absurd (cc)
head-first q h t (e ∷ es) order found in_queue =
    by_handle (e.0 == h) refl found (none-before q e.1.start es order.0 order.1) (λ f. head-first q h t es order.1 f in_queue)
  where
    by_handle : (b : Bool) → (e.0 == h) ≡ b → cond b (Some e.1) (lookup es h) ≡ Some t
        → any_live (λ u. is_unended_in q u && nat_lt u.start e.1.start) es ≡ false
        → (lookup es h ≡ Some t → is_head q t es ≡ is_first h (handles_of (is_unended_in q) es))
        → is_head q t (e ∷ es) ≡ is_first h (handles_of (is_unended_in q) (e ∷ es))
    by_handle true is f none rest =
        let same : e.1 ≡ t = same_Some _ _ f in
        let passes : is_unended_in q e.1 ≡ true = ap (is_unended_in q) same ∙ in_queue in
        let head : is_head q t (e ∷ es) ≡ true =
        ap (λ (u : Task). is_head q u (e ∷ es)) (sym same)
        ∙ (ap (λ (b : Bool). not (cond b true (any_live (λ u. is_unended_in q u && nat_lt u.start e.1.start) es)))
        (and_right (is_unended_in q e.1) _ (not-less e.1.start)) ∙ ap not none) in
        head ∙ sym (ap (λ (b : Bool). is_first h (cond b (e.0 ∷ handles_of (is_unended_in q) es) (handles_of (is_unended_in q) es))) passes ∙ is)
    by_handle false is f none rest = by_queue (is_unended_in q e.1) refl
      where
        less : nat_lt e.1.start t.start ≡ true
        less = lt-ltb e.1.start t.start (order.0 h t f)

        by_queue : (b : Bool) → is_unended_in q e.1 ≡ b → is_head q t (e ∷ es) ≡ is_first h (handles_of (is_unended_in q) (e ∷ es))
        by_queue true p =
            let earlier : (is_unended_in q e.1 && nat_lt e.1.start t.start) ≡ true = (λ i. p i && less i) in
            ap (λ (b : Bool). not (cond b true (any_live (λ u. is_unended_in q u && nat_lt u.start t.start) es))) earlier
            ∙ sym (ap (λ (b : Bool). is_first h (cond b (e.0 ∷ handles_of (is_unended_in q) es) (handles_of (is_unended_in q) es))) p ∙ is)
        by_queue false p =
            ap (λ (b : Bool). not (cond (b && nat_lt e.1.start t.start) true (any_live (λ u. is_unended_in q u && nat_lt u.start t.start) es))) p
            ∙ rest f
            ∙ sym (ap (λ (b : Bool). is_first h (cond b (e.0 ∷ handles_of (is_unended_in q) es) (handles_of (is_unended_in q) es))) p)

pub queue-ready : QueueReady
queue-ready q r h t tasks order found in_queue = ap (λ (b : Bool). r.enabled && (not r.ordered || b)) (head-first q h t tasks order found in_queue)
