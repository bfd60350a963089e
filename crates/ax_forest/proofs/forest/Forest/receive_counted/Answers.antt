use Rattle.std.proofs.Common.{◌∙◌, ap}
use Rattle.ax_tree.specs.declared.packet.HEntry.TheVariants.{Got}
use Rattle.ax_forest.specs.Shown.{ids_of}
use Rattle.ax_forest.proofs.Pasts.{past_again, past_shown, past_same, and_then}
use Rattle.ax_forest.proofs.Results.{on_both, either}
use Rattle.ax_forest.proofs.forest.Forest.receive_counted.Goals as goal

pub returns-clause-ok : goal.returns-clause-ok
returns-clause-ok g c =
    let new = c.receive_in.new in
    let ts = ids_of c.self.inside.trees in
    on_both c.receive_in.result
    (λ p h. past_shown new.trees new.tallies ts _ new.history (p ts c.self.invariant) h ∙ ap (and_then (Got c.args.packet)) c.self.view_is)
    c.receive_in.ensures.past c.receive_in.ensures.history

pub invariant_of-self : goal.invariant_of-self
invariant_of-self g c =
    let new = c.receive_in.new in
    let old = c.self.inside in
    let ts = ids_of old.trees in
    either c.receive_in.result
    (λ p h. past_again new.trees new.tallies ts _ new.history (p ts c.self.invariant) h)
    (λ u. past_same old.trees new.trees old.tallies new.tallies old.history new.history u c.self.invariant)
    c.receive_in.ensures.past c.receive_in.ensures.history c.receive_in.ensures.unchanged
