use Rattle.std.proofs.Common.{ap, ◌∙◌, option_map}
use Rattle.serde_json.proofs.Views.{view-lookup}
use Rattle.serde_json.specs.View.{view, members_view}
use Rattle.ax_json.proofs.Takes.{removed_view}
use Rattle.ax_json.proofs.object.taken.Goals as goal

pub returns-clause-value : goal.returns-clause-value
returns-clause-value c = ap (option_map view) c.remove.ensures.value ∙ view-lookup c.args.name.now c.args.members.now.entries

pub returns-clause-rest : goal.returns-clause-rest
returns-clause-rest c = ap members_view c.remove.ensures.entries ∙ removed_view c.args.name.now c.args.members.now.entries c.len.ensures.ordered
