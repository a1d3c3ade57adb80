use Rattle.workload_file.proofs.Cited.{◌≡◌, ◌∙◌, ◌-◌, [], length, inl, inr, sym, refl, arith, is_known, fields}
use Rattle.std.proofs.Common.{vec_len, rules}
use Rattle.workload_file.proofs.Placed.{place_low, none_twice, given_more, twice_more, known_more, unknown_at, no_words}
use Rattle.workload_file.proofs.options.place_each.Goals.{then-is_some, else-is_some}
use Rattle.workload_file.proofs.options.place_each.Goals as goal

pub words-init : goal.words-init
words-init c = let none = no_words c.args.words.now in (rw none c.requires, rw none (none_twice [] (omega arith)), rw none refl)

pub returns-in_default-clause-known : goal.returns-in_default-clause-known
returns-in_default-clause-known c = unknown_at (is_known (fields c.args.word)) c.args.words.now (c.words.at - 1) _
    (omega (arith, c.words-test.true, c.words.auto.at)) (rw c.fields-fields.ensures at (sym c.in_default.ensures.known))

pub index-requires : goal.index-requires
index-requires c =
    let len : vec_len c.words.given ≡ length c.words.given.items = search rules in
    place_low c.words.given.items _ _ _ c.args.word c.in-Some.place len c.words.invariant.0 (rw c.fields-fields.ensures at c.in-Some.ensures.place)

pub index_mut-requires : goal.index_mut-requires
index_mut-requires c =
    let len : vec_len c.words.given ≡ length c.words.given.items = search rules in
    place_low c.words.given.items _ _ _ c.args.word c.in-Some.place len c.words.invariant.0 (rw c.fields-fields.ensures at c.in-Some.ensures.place)

pub words-preserved : goal.words-preserved
words-preserved c =
    let option = rw c.fields-fields.ensures at c.in-Some.ensures.place in
    let known = rw c.fields-fields.ensures at (sym c.in-Some.ensures.known) in (
      given_more c.words.given.items c.args.words.now c.words.at _ c.in-Some.value c.args.word c.in-Some.place c.words-test.true c.words.auto.at
          c.words.invariant.0 option c.in-Some.ensures.value,
      elim c.if-is_some.branch [
        | then-is_some w ↦ twice_more c.words.given.items c.args.words.now c.words.at _ c.args.word c.in-Some.place c.index.result.now c.is_some.result
            c.if-is_some.twice _ c.words-test.true c.words.auto.at c.words.invariant.0 option c.words.invariant.1 c.index.ensures c.is_some.ensures
            (inl (w.if-is_some.true, w.twice-is ∙ w.if-is_some.true))
        | else-is_some w ↦ twice_more c.words.given.items c.args.words.now c.words.at _ c.args.word c.in-Some.place c.index.result.now c.is_some.result
            c.if-is_some.twice _ c.words-test.true c.words.auto.at c.words.invariant.0 option c.words.invariant.1 c.index.ensures c.is_some.ensures
            (inr (w.if-is_some.false, w.twice-is))
      ],
      known_more (is_known (fields c.args.word)) c.args.words.now c.words.at _ c.words-test.true c.words.auto.at c.words.invariant.2 known,
    )
