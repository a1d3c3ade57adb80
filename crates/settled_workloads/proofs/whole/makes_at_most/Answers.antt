use Rattle.std.proofs.Common.{◌≡◌, ◌+◌, List, take, ap, ◌∙◌, arith}
use Rattle.std.specs.List.{flat_map}
use Rattle.std.proofs.lemmas.Bool.Decides.{nat_tests}
use Rattle.handle_pool.specs.Issued.{how_many}
use Rattle.workload_file.specs.declared.workload.Part.{Part}
use Rattle.settled_workloads.specs.Made.{makes_made}
use Rattle.settled_workloads.proofs.Loops.{many_more, many_in_front, whole}
use Rattle.settled_workloads.proofs.whole.makes_at_most.Goals as goal

pub returns-then-left-count : goal.returns-then-left-count
returns-then-left-count c =
    let e = many_more (λ s. makes_made c.args.made s.deed) c.args.parts.now c.loop-part.part-index c.part-item.result (omega arith) c.part-item.is in
    let g : c.count_made-count.result ≡ how_many (λ s. makes_made c.args.made s.deed) c.part-item.result.statements
    = c.count_made-count.ensures ∙ ap (how_many (λ s. makes_made c.args.made s.deed)) c.as_slice.ensures in
    let f = many_in_front (λ s. makes_made c.args.made s.deed) c.args.parts.now (c.loop-part.part-index + 1) in
    grind (arith, nat_tests, e, f, g, c.loop-part.invariant)

pub loop-part-preserved : goal.loop-part-preserved
loop-part-preserved c =
    let e = many_more (λ s. makes_made c.args.made s.deed) c.args.parts.now c.loop-part.part-index c.part-item.result (omega arith) c.part-item.is in
    let g : c.count_made-count.result ≡ how_many (λ s. makes_made c.args.made s.deed) c.part-item.result.statements
    = c.count_made-count.ensures ∙ ap (how_many (λ s. makes_made c.args.made s.deed)) c.as_slice.ensures in
    omega (arith, e, g, c.loop-part.invariant)

pub returns : goal.returns
returns c =
    let e : how_many (λ s. makes_made c.args.made s.deed) (flat_map (λ p. p.statements) (take c.loop-part.part-index c.args.parts.now))
    ≡ how_many (λ s. makes_made c.args.made s.deed) (flat_map (λ p. p.statements) c.args.parts.now)
    = ap (λ (u : List Part). how_many (λ s. makes_made c.args.made s.deed) (flat_map (λ p. p.statements) u))
    (whole c.args.parts.now c.loop-part.part-index (omega arith)) in
    grind (arith, nat_tests, e, c.loop-part.invariant)
