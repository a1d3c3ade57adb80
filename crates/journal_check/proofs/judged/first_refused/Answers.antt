use Rattle.journal_check.proofs.Names.{◌≡◌, ◌+◌, ◌<◌, ℕ, true, false, [], ◌∷◌, ◌++◌, take, length, refl, sym, subst, ap, arith, ◌∙◌, Terms, IsNext, Legal, after, HasFollowed, IsFirstIllegal}
use Rattle.journal_check.proofs.Prefixes.{take_next, legal_more, first_here, short_take}
use Rattle.journal_check.proofs.Shorts.{full_room, full_at, few_in_full}
use Rattle.std.proofs.Common.{map}
use Rattle.node_journals.specs.Shorts.{entry_of}
use Rattle.journal_check.proofs.judged.first_refused.Goals as goal

pub loop-short-init : goal.loop-short-init
loop-short-init c = record { terms = refl; legal = c.requires.legal; followed = c.requires.begins; judged = refl }

pub overflow_add-judged : goal.overflow_add-judged
overflow_add-judged c = omega (arith, c.loop-short.invariant.judged, c.loop-short-test.true, c.requires.few)

pub judge-requires : goal.judge-requires
judge-requires c = record {
  room = (
    take c.loop-short.short-index (map entry_of c.args.shorts.now),
    c.loop-short.invariant.followed,
    omega (arith, short_take (map entry_of c.args.shorts.now) c.loop-short.short-index, few_in_full c.args.shorts.now c.requires.few),
  );
}

pub returns-then-not-branch : goal.returns-then-not-branch
returns-then-not-branch c =
    let es = map entry_of c.args.shorts.now in
    let i = c.loop-short.short-index in
    let f = c.loop-short.follower in
    let e = c.full.result in
    let short : length (take i es) < 4294967295 = omega (arith, short_take es i, few_in_full c.args.shorts.now c.requires.few) in
    let never : IsNext (after f.terms (take i es)) e → ⊥ =
    λ n. let a : c.in_ok-judge.field-0 ≡ true = (c.in_ok-judge.ensures.exact (take i es) c.loop-short.invariant.followed short).1 n in
    let b : c.in_ok-judge.field-0 ≡ false = c.if-not-branch.true in absurd (cc) in
    let first : IsFirstIllegal f.terms es (i + 1) = first_here f.terms es i e (full_room c.args.shorts.now i c.loop-short-test.true)
    (full_at c.args.shorts.now i c.short-item.result e c.loop-short-test.true c.short-item.is c.full.ensures) c.loop-short.invariant.legal never in
    subst (λ (n : ℕ). IsFirstIllegal c.args.follower.now.terms es (n + 1)) (sym c.loop-short.invariant.judged)
    (subst (λ (t : Terms). IsFirstIllegal t es (i + 1)) c.loop-short.invariant.terms first)

pub loop-short-preserved : goal.loop-short-preserved
loop-short-preserved c =
    let es = map entry_of c.args.shorts.now in
    let i = c.loop-short.short-index in
    let f = c.loop-short.follower in
    let e = c.full.result in
    let short : length (take i es) < 4294967295 = omega (arith, short_take es i, few_in_full c.args.shorts.now c.requires.few) in
    let j = c.in_ok-judge.ensures in
    let passed : c.in_ok-judge.field-0 ≡ true = c.if-not-branch.false in
    let list : take (i + 1) es ≡ take i es ++ e ∷ [] = take_next es i e (full_room c.args.shorts.now i c.loop-short-test.true)
    (full_at c.args.shorts.now i c.short-item.result e c.loop-short-test.true c.short-item.is c.full.ensures) in
    record {
      terms = j.terms ∙ c.loop-short.invariant.terms;
      legal = subst (λ (t : Terms). Legal t (take (i + 1) es)) (sym j.terms)
          (subst (Legal f.terms) (sym list) (legal_more f.terms (take i es) e c.loop-short.invariant.legal
          ((j.exact (take i es) c.loop-short.invariant.followed short).0 passed)));
      followed = subst (HasFollowed c.judge.new.self) (sym list) (j.goes_on (take i es) c.loop-short.invariant.followed short passed);
      judged = ap (λ (n : ℕ). n + 1) c.loop-short.invariant.judged;
    }
