use Rattle.std.proofs.Common.{◌∙◌}
use Rattle.ax_client.proofs.Knowing.{client_as}
use Rattle.ax_client.proofs.Changing.{listed_is, none_listed}
use Rattle.ax_client.proofs.client_tree.ClientTree.children.Goals as goal

pub returns-in-Some : goal.returns-in-Some
returns-in-Some c =
    let k = client_as c.self.inside.held c.self.inside.root _ c.args.self.now c.self.view_is c.self.invariant in
    c.as_slice.ensures ∙ listed_is c.args.self.now.tree c.args.id _ _ c.in-Some.ensures.value (k.at c.args.id)

pub returns-in-None : goal.returns-in-None
returns-in-None c =
    let k = client_as c.self.inside.held c.self.inside.root _ c.args.self.now c.self.view_is c.self.invariant in
    none_listed c.args.self.now.tree c.args.id _ c.in-None.ensures.value (k.at c.args.id)
