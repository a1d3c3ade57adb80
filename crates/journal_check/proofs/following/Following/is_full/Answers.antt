use Rattle.journal_check.proofs.Names.{◌≡◌, ◌+◌, ◌≤◌, ℕ, List, length, sym, ap, subst, ◌∙◌, arith, ◌==◌, ◌-◌, after, gone_of, of_kind, last_handles, made_count, gone_count, EndsObjects}
use Rattle.journal_check.proofs.Rooms.{alive_here, full_here, all_taken, all_made, same_gone}
use Rattle.journal_check.proofs.following.Following.is_full.Goals as goal

pub returns-then-live-known-clause-full : goal.returns-then-live-known-clause-full
returns-then-live-known-clause-full c L h =
    let f = c.args.self.now in
    let live : c.live.result ≡ c.from-live.result = cc in
    let most : c.most_of.result ≡ c.from-most.result = cc in
    let known : c.gone-known.result ≡ gone_count (of_kind f.made c.args.kind) = cc in
    all_taken c.laws.ensures f c.args.kind c.from-most.result (λ s e. c.most_of.ensures s e ∙ most) L h c.from-live.result
    (alive_here c.laws.ensures f c.args.kind c.from-live.result c.from-most.result (λ K a. c.live.ensures K a ∙ live) (λ s e. c.most_of.ensures s e ∙ most) L h)
    (subst (λ (n : ℕ). c.from-live.result + n ≡ c.from-most.result) known c.if-live-known.true)

pub overflow_sub-made-3 : goal.overflow_sub-made-3
overflow_sub-made-3 c =
    let f = c.args.self.now in
    let live : c.live.result ≡ c.from-live.result = cc in
    let most : c.most_of.result ≡ c.from-most.result = cc in
    let made : c.made-made.result ≡ made_count (of_kind f.made c.args.kind) = cc in
    let lasts : c.lasts-lasts.result.now ≡ last_handles (of_kind f.made c.args.kind) = cc in
    let all : c.from-live.result + c.gone_of-gone.result ≤ made_count (of_kind f.made c.args.kind) =
    all_made c.laws.ensures f c.args.kind c.from-live.result c.from-most.result (λ K a. c.live.ensures K a ∙ live) (λ s e. c.most_of.ensures s e
    ∙ most) c.gone_of-gone.result
    (λ L h. ap (gone_of c.args.kind (after f.terms L)) (sym lasts)
    ∙ c.gone_of-gone.ensures.told f.terms (after f.terms L) (length L) h.node h.follows) c.requires.followed.0 c.requires.followed.1 in
    omega (arith, all, made)

pub returns-clause-full : goal.returns-clause-full
returns-clause-full c L h =
    let f = c.args.self.now in
    let live : c.live.result ≡ c.from-live.result = cc in
    let most : c.most_of.result ≡ c.from-most.result = cc in
    let lasts : c.lasts-lasts.result.now ≡ last_handles (of_kind f.made c.args.kind) = cc in
    let gone : gone_of c.args.kind (after f.terms L) c.lasts-lasts.result.now ≡ c.gone_of-gone.result =
    c.gone_of-gone.ensures.told f.terms (after f.terms L) (length L) h.node h.follows in
    full_here c.laws.ensures f c.args.kind c.from-live.result c.from-most.result
    (λ K a. c.live.ensures K a ∙ live) (λ s e. c.most_of.ensures s e ∙ most) L h
    ∙ ap (λ (hs : List ℕ). c.from-live.result + gone_of c.args.kind (after f.terms L) hs == c.from-most.result) (sym lasts)
    ∙ ap (λ (n : ℕ). c.from-live.result + n == c.from-most.result) gone

pub returns-clause-same : goal.returns-clause-same
returns-clause-same c =
    let f = c.args.self.now in
    let live : c.live.result ≡ c.from-live.result = cc in
    let most : c.most_of.result ≡ c.from-most.result = cc in
    let made : c.made-made.result ≡ made_count (of_kind f.made c.args.kind) = cc in
    let lasts : c.lasts-lasts.result.now ≡ last_handles (of_kind f.made c.args.kind) = cc in
    let ends : EndsObjects c.args.kind c.gone_of-gone.result
    (made_count (of_kind f.made c.args.kind) - c.from-live.result - c.gone_of-gone.result) f.made c.end.new.self =
    subst (λ (n : ℕ). EndsObjects c.args.kind c.gone_of-gone.result
    (n - c.from-live.result - c.gone_of-gone.result) f.made c.end.new.self) made c.end.ensures in
    same_gone c.laws.ensures f c.args.kind c.from-live.result c.from-most.result (λ K a. c.live.ensures K a ∙ live) (λ s e. c.most_of.ensures s e
    ∙ most) c.gone_of-gone.result
    (λ L h. ap (gone_of c.args.kind (after f.terms L)) (sym lasts)
    ∙ c.gone_of-gone.ensures.told f.terms (after f.terms L) (length L) h.node h.follows) c.requires.followed.0 c.requires.followed.1 c.end.new.self ends
