-- A head line that was written is read as the same.
use Rattle.std.proofs.lemmas.Bool.Decides.{nat_tests}
use Rattle.journal_text.proofs.Names.{◌≡◌, ℕ, ◌<◌, ◌≤◌, ◌^◌, List, [], ◌∷◌, ◌++◌, map, Bool, true, false, cond, ◌&&◌, eqb, Some, None, refl, sym, ap, ◌∙◌, arith, codes, nat_lt, unwrap_or, list_all, after_first, bytes_eq, decimal, and_from, le-leb, NodeSettings, AreNodeSettings, Layout, number, number_within, within_written, Head, version, setting_text, first_texts, last_texts, head_text, number_behind, numbers_behind, with_setting, settings_from, head_from, has_callers, head_in, or_else, head_of, HeadFits}
use Rattle.journal_text.proofs.Plain.{is_plain, is_above, between_words, joined_above, decimal_plain, all_append}
use Rattle.journal_text.proofs.LinesAgain.{bytes_same}

-- ---- the numbers behind the words

keyed : (word : List ℕ) (n : ℕ) → after_first (λ b. eqb b 61) word ≡ decimal n → n < 2 ^ 32 → number_behind word ≡ n
unfolding number_behind
keyed word n e f = ap (λ t. unwrap_or (number_within 0 4294967295 t) 0) e
    ∙ ap (λ o. unwrap_or o 0) (within_written 0 4294967295 n (omega arith) (omega arith) (omega arith))

title_none : number_behind (codes "mtapi-journal") ≡ 0
unfolding number_behind number number_within
title_none = refl

version_none : (l : Layout) → number_behind (version l) ≡ 0
unfolding number_behind number number_within
version_none l = grind (arith, nat_tests)

-- the words of the head line
abbrev head_words : Head → List (List ℕ)
head_words h = codes "mtapi-journal" ∷ version h.layout ∷ (first_texts h ++ last_texts h)

abbrev setting_numbers : NodeSettings → ℕ → List ℕ
setting_numbers s callers = 0 ∷ 0 ∷ s.workers ∷ callers ∷ s.tasks ∷ s.actions ∷ s.groups ∷ s.queues ∷ s.objects ∷ s.priorities ∷ s.generations ∷ []

cons : {x y : ℕ} {xs ys : List ℕ} → x ≡ y → xs ≡ ys → x ∷ xs ≡ y ∷ ys
cons {y = y} {xs = xs} a b = ap (λ t. t ∷ xs) a ∙ ap (λ t. y ∷ t) b

numbers_again : (h : Head) → HeadFits h → map number_behind (head_words h) ≡ setting_numbers h.settings h.callers
numbers_again h e1 = grind (arith, nat_tests, keyed, setting_text, cons, title_none, version_none)

settings_again : (s : NodeSettings) (callers : ℕ) → AreNodeSettings s → settings_from (setting_numbers s callers) ≡ s
unfolding settings_from with_setting
settings_again s callers f = grind (arith, nat_tests)

-- ---- the line

setting_plain : (key : List ℕ) (n : ℕ) → is_plain key ≡ true → n < 2 ^ 32 → is_plain (setting_text key n) ≡ true
setting_plain key n k f = all_append (λ b. nat_lt 32 b) key (decimal n) k (decimal_plain n (omega arith))

version_plain : (l : Layout) → is_plain (version l) ≡ true
version_plain l = grind (arith, nat_tests)

words_plain : (h : Head) → HeadFits h → list_all is_plain (head_words h) ≡ true
words_plain h f =
    let s = h.settings in
    and_from _ _ refl (and_from _ _ (version_plain h.layout)
    (and_from _ _ (setting_plain (codes "workers=") s.workers refl (omega (arith, f.settings.workers.1)))
    (and_from _ _ (setting_plain (codes "callers=") h.callers refl (omega (arith, f.few)))
    (and_from _ _ (setting_plain (codes "tasks=") s.tasks refl (omega (arith, f.settings.tasks.1)))
    (and_from _ _ (setting_plain (codes "actions=") s.actions refl (omega (arith, f.settings.actions.1)))
    (and_from _ _ (setting_plain (codes "groups=") s.groups refl (omega (arith, f.settings.groups.1)))
    (and_from _ _ (setting_plain (codes "queues=") s.queues refl (omega (arith, f.settings.queues.1)))
    (and_from _ _ (setting_plain (codes "objects=") s.objects refl (omega (arith, f.settings.objects.1)))
    (and_from _ _ (setting_plain (codes "priorities=") s.priorities refl (omega (arith, f.settings.priorities.1)))
    (and_from _ _ (setting_plain (codes "generations=") s.generations refl (omega (arith, f.settings.generations.1))) refl))))))))))

pub head_above : (h : Head) → HeadFits h → is_above 10 (head_text h) ≡ true
unfolding head_text
head_above h f = joined_above (head_words h) (words_plain h f)

behind_again : (h : Head) → HeadFits h → numbers_behind (head_text h) ≡ setting_numbers h.settings h.callers
unfolding numbers_behind head_text
behind_again h f = ap (map number_behind) (between_words (codes "mtapi-journal") (version h.layout ∷ (first_texts h ++ last_texts h)) (words_plain h f))
    ∙ numbers_again h f

from_again : (h : Head) → HeadFits h → head_from h.layout (numbers_behind (head_text h)) ≡ h
unfolding head_from
from_again h f =
    ap (λ ns. head_from h.layout ns) (behind_again h f)
    ∙ ap (λ s. record { layout = h.layout; settings = s; callers = h.callers }) (settings_again h.settings h.callers f.settings)

if_head : (x : Head) (line : List ℕ) → HeadFits x → head_text x ≡ line → cond (has_callers x && bytes_eq (head_text x) line) (Some x) None ≡ Some x
if_head x line f e = rw (le-leb 1 x.callers f.some, le-leb x.callers 9 f.few, e, bytes_same line) refl

in_again : (h : Head) → HeadFits h → head_in h.layout (head_text h) ≡ Some h
unfolding head_in
in_again h f = ap (λ x. cond (has_callers x && bytes_eq (head_text x) (head_text h)) (Some x) None) (from_again h f) ∙ if_head h (head_text h) f refl

and_false : (a b : Bool) → b ≡ false → (a && b) ≡ false
and_false a b e1 = grind (arith, nat_tests)

other_text : (x h : Head) → x.layout ≡ Layout.One → h.layout ≡ Layout.Two → bytes_eq (head_text x) (head_text h) ≡ false
unfolding head_text
other_text x h a b = rw (a, b) refl

not_one : (h : Head) → h.layout ≡ Layout.Two → head_in Layout.One (head_text h) ≡ None
unfolding head_in head_from
not_one h e1 = grind (arith, nat_tests, head_from, numbers_behind, head_text, and_false, has_callers, bytes_eq, other_text)

layout_again : (h : Head) (l : Layout) → h.layout ≡ l → HeadFits h → head_of (head_text h) ≡ Some h
unfolding head_of
layout_again h Layout.One e f = ap (λ o. or_else o (head_in Layout.Two (head_text h))) (ap (λ l. head_in l (head_text h)) (sym e) ∙ in_again h f)
layout_again h Layout.Two e f = ap (λ o. or_else o (head_in Layout.Two (head_text h))) (not_one h e) ∙ ap (λ l. head_in l (head_text h)) (sym e) ∙ in_again h f

pub head_again : (h : Head) → HeadFits h → head_of (head_text h) ≡ Some h
head_again h f = layout_again h h.layout refl f
