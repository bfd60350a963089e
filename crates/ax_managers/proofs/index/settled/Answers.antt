use Rattle.std.proofs.Common.{◌∙◌, cond, nat_eq, refl, ap}
use Rattle.std.specs.HashMap.{get}
use Rattle.std.specs.FinMap as fin
use Rattle.ax_trees.specs.Lists.{contains}
use Rattle.ax_managers.proofs.index.settled.Goals as goal

pub returns : goal.returns
returns c =
    let asked = c.args.contest in
    record {
      names = λ z. c.in_ok-rename.ensures z ∙ ap (λ m. cond (contains c.args.renamed.now z) (get nat_eq asked.names z) (fin.get m z)) c.in_ok-named.ensures;
      firsts = λ u. c.in_ok-rehost.ensures u
          ∙ (ap (λ ts. cond (contains ts u) (get nat_eq asked.hosts u) (fin.get c.in_ok-hosts.hosts u)) c.as_slice.ensures
          ∙ ap (λ m. cond (contains asked.trees u) (get nat_eq asked.hosts u) (fin.get m u)) c.in_ok-hosts.ensures);
      rivals = refl;
      watched = refl;
    }
