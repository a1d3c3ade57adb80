use Rattle.std.proofs.Common.{rules, ◌≡◌, Some, subst, ap, sym, ◌∙◌}
use Rattle.std.specs.Prelude.{Option}
use Rattle.node_handle.specs.declared.counted.CountedNode.{CountedNode}
use Rattle.node_handle.specs.declared.held.Held.{Held}
use Rattle.node_handle.specs.declared.held.Held.TheVariants as held
use Rattle.node_handle.specs.Texts.{EndsWith}
use Rattle.node_handle.proofs.journals.end_in_text.Goals as goal

-- the node that is held, or another
node_or : CountedNode → Option Held → CountedNode
node_or other (Some (held.Node n)) = n
node_or other _ = other

-- the node that was taken is the one that was held
pub returns : goal.returns
unfolding node_or
returns c n e =
    let there : c.take-boxed.result.value ≡ held.Node c.take_node.result = let at = c.deref_mut.ensures.value in let was = c.take_node.ensures
    in search rules in
    let first : c.args.node.now.held ≡ Some (held.Node c.take_node.result) = c.take-boxed.ensures.taken ∙ ap Some there in
    let same : c.take_node.result ≡ n = ap (node_or n) (sym first ∙ e) in
    record {
      text = c.ended-text.result.0;
      holds = search rules;
      ends = subst (λ (m : CountedNode). EndsWith m c.ended-text.result.0 c.ended-text.result.1) same c.ended-text.ensures;
    }
