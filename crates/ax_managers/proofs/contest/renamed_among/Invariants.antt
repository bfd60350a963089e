use Rattle.std.proofs.Common.{◌≡◌, ℕ, true, false, take}
use Rattle.std.specs.FinMap as fin
use Rattle.ax_trees.specs.Lists.{contains}
use Rattle.ax_managers.specs.Naming.{named_at}
use Rattle.ax_managers.proofs.contest.renamed_among.Given as goal

abbrev pub invariant-loop-id : goal.invariant-loop-id
invariant-loop-id g l = (z : ℕ) → contains (take l.id-index l.touched) z ≡ true → contains l.renamed z ≡ false → fin.get l.known z ≡ named_at (g.T.TreeView.tree l.t) z
