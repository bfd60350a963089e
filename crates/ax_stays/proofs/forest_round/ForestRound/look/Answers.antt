use Rattle.ax_stays.proofs.forest_round.ForestRound.look.Goals as goal

pub at-requires : goal.at-requires
at-requires c = c.self.invariant
