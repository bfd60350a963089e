-- What the calls of the browser's seat answer, and what it may receive.
use Rattle.std.specs.Prelude.{ℕ, List, Option, Some, None, Result, Ok, Err}
use Rattle.ax_tree.specs.declared.packet.HEntry.{HEntry}
use Rattle.ax_tree.specs.declared.packet.Packet.{Packet}
use Rattle.ax_forest.specs.declared.answers.ForestErr.{ForestErr}
use Rattle.ax_forest.specs.declared.answers.ForestErr.TheVariants as forest
use Rattle.ax_hub.specs.declared.answers.HubErr.{HubErr}
use Rattle.ax_hub.specs.declared.answers.HubErr.TheVariants as hub
use Rattle.ax_stays.specs.Received.{CanBeReceived}

-- the refusal by the forest's names
abbrev pub forest_err : HubErr → ForestErr
forest_err (hub.NoTree t) = forest.NoTree t
forest_err (hub.AlreadyGone t) = forest.AlreadyGone t
forest_err hub.NoMemory = forest.NoMemory

abbrev pub in_forest : {A : Type 0} → Result A HubErr → Result A ForestErr
in_forest (Ok a) = Ok a
in_forest (Err e) = Err (forest_err e)

-- what is held comes next of its tree, which is one of these
abbrev pub HeldCanBeReceived : List ℕ → List HEntry → Option Packet → Type 0
HeldCanBeReceived trees h None = Unit {0}
HeldCanBeReceived trees h (Some p) = CanBeReceived trees h p
