use Rattle.std.proofs.Common.{◌≡◌, map, take}
use Rattle.ax_actions.specs.Acting.{share_of}
use Rattle.ax_actions.proofs.sharing.shares_of.Given as goal

abbrev pub invariant-loop-action : goal.invariant-loop-action
invariant-loop-action l = l.shares.items ≡ map (share_of (take l.action-index l.list)) l.fn.frames.items
