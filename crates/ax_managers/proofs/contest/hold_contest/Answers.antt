use Rattle.std.proofs.Common.{◌∙◌, nat_eq, ap, rules}
use Rattle.std.specs.Prelude.{filter}
use Rattle.std.specs.HashMap.{get}
use Rattle.ax_trees.specs.Lists.{first_that}
use Rattle.ax_managers.specs.Naming.{is_id}
use Rattle.ax_managers.specs.Contests.{is_rival}
use Rattle.ax_managers.proofs.contest.hold_contest.Goals as goal

pub returns : goal.returns
returns g c = record {
  nodes = c.in_ok-nodes.nodes;
  trees = c.in_ok-trees.ensures;
  are = λ z. search rules;
  names = λ z. search rules;
  hosts = λ u. c.in_ok-hosts.ensures u ∙ ap (first_that (λ z. is_id (get nat_eq c.in_ok-names.names z) u)) (search rules);
  rivals = c.in_ok-rivals.ensures ∙ ap (filter (λ z. is_rival (get nat_eq c.in_ok-hosts.hosts) (get nat_eq c.in_ok-names.names z) z)) c.as_slice-5.ensures.ids;
  marking = c.in_ok-watched.ensures.marking;
  watched = λ z h. c.in_ok-watched.ensures.watched z (search rules);
}
