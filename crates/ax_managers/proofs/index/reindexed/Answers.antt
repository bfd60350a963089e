use Rattle.ax_managers.proofs.Indexes.{settled_of, settled_sound}
use Rattle.ax_managers.proofs.Results.{if_ok}
use Rattle.ax_managers.proofs.index.reindexed.Goals as goal

pub returns-clause-of : goal.returns-clause-of
returns-clause-of g c = if_ok c.settled.result (λ next settles n touched o s h same.
    settled_of c.args.index.now (g.T.TreeView.tree c.args.t.now) c.args.renamed.now c.in_ok-contest.contest c.in_ok-contest.ensures s next settles n touched o h c.root.ensures.well_formed same)
    c.settled.ensures

pub returns-clause-sound : goal.returns-clause-sound
returns-clause-sound g c = if_ok c.settled.result (λ next settles s.
    settled_sound c.args.index.now (g.T.TreeView.tree c.args.t.now) c.args.renamed.now c.in_ok-contest.contest c.in_ok-contest.ensures s next settles)
    c.settled.ensures
