use Rattle.std.proofs.Common.{◌∙◌, ap}
use Rattle.ax_tree.specs.declared.packet.HEntry.TheVariants.{Ended}
use Rattle.ax_forest.specs.Shown.{ids_of}
use Rattle.ax_forest.specs.Entries.{past_after}
use Rattle.ax_forest.proofs.Pasts.{past_again, past_shown}
use Rattle.ax_forest.proofs.forest.Forest.destroy.Goals as goal

pub invariant_of-self : goal.invariant_of-self
invariant_of-self c =
    let ts = ids_of c.self.inside.trees in
    past_again c.destroy_in.new.trees c.self.inside.tallies ts _ c.destroy_in.new.history (c.destroy_in.ensures.past ts c.self.invariant) c.destroy_in.ensures.history

pub returns-clause-entry : goal.returns-clause-entry
returns-clause-entry c =
    let ts = ids_of c.self.inside.trees in
    past_shown c.destroy_in.new.trees c.self.inside.tallies ts _ c.destroy_in.new.history (c.destroy_in.ensures.past ts c.self.invariant) c.destroy_in.ensures.history
    ∙ ap (past_after c.destroy_in.result (Ended c.args.t)) c.self.view_is
