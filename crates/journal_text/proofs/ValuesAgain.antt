-- A value that was written is read as the same.
use Rattle.std.proofs.lemmas.Bool.Decides.{nat_tests}
use Rattle.journal_text.proofs.Names.{◌≡◌, ℕ, ℤ, ◌<◌, ◌^◌, List, [], ◌∷◌, ◌++◌, map, true, false, Option, Some, None, refl, sym, ap, ◌∙◌, arith, append_assoc, codes, option_map, AllByRecursion, bytes_eq, append-nil, TaskEnd, Layout, MrapiStatus, kind_named, mtapi_name, mrapi_name, kind_finds_each, mtapi_finds_each, mrapi_finds_each, whole_number, list_of, list_text, number_written, within_written, whole_written, list_written, Status, Shape, Value, handle_text, handle_of_word, value_words, values_words, args_text, args_of, group_of, status_of_word, status_from, mtapi_of, mrapi_of, completed_of, failed_of, end_of_words, end_value, word_value, value_of_words, values_onto, one, ValueFits, AreArgs}
use Rattle.number_text.specs.Lists.{◌>>=◌}
use Rattle.number_text.specs.Lists as lists
use Rattle.journal_text.proofs.HandlesAgain.{handle_again, dash_no_handle}
use Rattle.journal_text.proofs.Reading.{bytes_are}

-- the shape of a value
abbrev pub shape_of : Value → Shape
shape_of (Value.Number n) = Shape.Number
shape_of (Value.Whole z) = Shape.Whole
shape_of (Value.Flag b) = Shape.Flag
shape_of (Value.Kind k) = Shape.Kind
shape_of (Value.Cores mask) = Shape.Cores
shape_of (Value.Args zs) = Shape.Args
shape_of (Value.Handle h) = Shape.Handle
shape_of (Value.Group g) = Shape.Group
shape_of (Value.End e) = Shape.End
shape_of (Value.Status s) = Shape.Status

dash_no_list : list_of (codes "-") ≡ None
unfolding list_of lists.wholes whole_number
dash_no_list = refl

pub args_again : (zs : List ℤ) → AreArgs zs → args_of (args_text zs) ≡ Some zs
unfolding args_of
args_again zs e1 = grind (arith, nat_tests, list_written, bytes_eq, list_text, bytes_are, list_of, dash_no_list)

group_again : (l : Layout) (h : ℕ) → h < 2 ^ 64 → group_of (handle_text l h) ≡ Some (Some h)
unfolding group_of
group_again l h e1 = grind (arith, nat_tests, handle_again, bytes_eq, handle_text, bytes_are, handle_of_word, dash_no_handle)

no_mtapi : (s : MrapiStatus) → mtapi_of (mrapi_name s) ≡ None
unfolding mtapi_of
no_mtapi s = grind (arith, nat_tests)

status_again : (s : _) → status_of_word (mrapi_name s) ≡ Some (Status.Mrapi s)
unfolding status_of_word mrapi_of
status_again s = ap (λ o. status_from o (mrapi_of (mrapi_name s))) (no_mtapi s) ∙ ap (option_map Status.Mrapi) (mrapi_finds_each.own s)

abbrev alone : List (List ℕ) → Option Value → Option (Value × List (List ℕ))
alone ws o = one (λ v. v) ws o

pub value_again : (l : Layout) (v : Value) (ws : List (List ℕ)) → ValueFits v → value_of_words (shape_of v) (value_words l v ++ ws) ≡ Some (v, ws)
unfolding value_of_words value_words word_value end_of_words completed_of failed_of status_of_word mtapi_of group_of kind_named
value_again l (Value.Number n) ws f = ap (λ o. alone ws (option_map Value.Number o)) (within_written 0 4294967295 n (omega arith) (omega arith) (omega arith))
value_again l (Value.Whole z) ws f = ap (λ o. alone ws (option_map Value.Whole o)) (whole_written z f)
value_again l (Value.Flag true) ws f = refl
value_again l (Value.Flag false) ws f = refl
value_again l (Value.Kind k) ws f = ap (λ o. alone ws (option_map Value.Kind o)) (kind_finds_each.own k)
value_again l (Value.Cores mask) ws f = ap (λ o. alone ws (option_map (λ n. Value.Cores (record { 0 = n })) o)) (number_written mask.0 f)
value_again l (Value.Args zs) ws f = ap (λ o. alone ws (option_map Value.Args o)) (args_again zs f)
value_again l (Value.Handle h) ws f = ap (λ o. alone ws (option_map Value.Handle o)) (handle_again l h f)
value_again l (Value.Group None) ws f = refl
value_again l (Value.Group (Some h)) ws f = ap (λ o. alone ws (option_map Value.Group o)) (group_again l h f)
value_again l (Value.End (TaskEnd.Completed zs)) ws f = ap (λ o. end_value (one TaskEnd.Completed ws o)) (args_again zs f)
value_again l (Value.End TaskEnd.Cancelled) ws f = refl
value_again l (Value.End (TaskEnd.Failed s)) ws f = ap (λ o. end_value (one TaskEnd.Failed ws o)) (mtapi_finds_each.own s)
value_again l (Value.Status (Status.Mtapi s)) ws f =
    ap (λ o. alone ws (option_map Value.Status (status_from o (mrapi_of (mtapi_name s))))) (mtapi_finds_each.own s)
value_again l (Value.Status (Status.Mrapi s)) ws f = ap (λ o. alone ws (option_map Value.Status o)) (status_again s)

-- the first of the values, and the others behind it
first_again : (l : Layout) (prefix : List Value) (v : Value) (vs : List Value) (ws : List (List ℕ)) → ValueFits v
    → values_onto prefix (shape_of v ∷ map shape_of vs) (values_words l (v ∷ vs) ++ ws)
    ≡ values_onto (prefix ++ v ∷ []) (map shape_of vs) (values_words l vs ++ ws)
unfolding values_onto
first_again l prefix v vs ws e1 = grind (arith, nat_tests, append_assoc, value_words, values_words, value_of_words, values_onto, value_again)

pub values_again : (l : Layout) (prefix vs : List Value) (ws : List (List ℕ)) → AllByRecursion ValueFits vs
    → values_onto prefix (map shape_of vs) (values_words l vs ++ ws) ≡ Some (prefix ++ vs, ws)
unfolding values_onto
values_again l prefix [] ws f = ap (λ t. Some (t, ws)) (sym (append-nil prefix))
values_again l prefix (v ∷ vs) ws f = grind (arith, nat_tests, values_again l (prefix ++ v ∷ []) vs ws f.1, first_again, append_assoc)
