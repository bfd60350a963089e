use Rattle.std.proofs.Common.{◌≡◌, ◌≤◌, ℕ, length, nat_eq}
use Rattle.std.specs.HashMap.{get}
use Rattle.ax_actions.specs.Acting.{trees_in}
use Rattle.ax_actions.proofs.SharingLemmas.{place_since}
use Rattle.ax_actions.proofs.sharing.places_of.Given as goal

abbrev pub invariant-loop-left : goal.invariant-loop-left
invariant-loop-left l = record {
  within : l.left ≤ length l.shares;
  since : (t : ℕ) → get nat_eq l.places t ≡ place_since (trees_in l.shares) l.left t;
}

abbrev pub decreases-loop-left : goal.decreases-loop-left
decreases-loop-left l = l.left
