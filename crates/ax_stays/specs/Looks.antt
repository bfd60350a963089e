-- What a look keeps.
use Rattle.std.specs.Prelude.{◌≡◌, ℕ, length}
use Rattle.ax_tree.specs.Forest.{Forest}
use Rattle.ax_forest.specs.Past.{Past, forest_of}
use Rattle.ax_stays.specs.Received.{KeepsReceipts}

-- The view has the trees of this past, whose entries and receipts are counted. What was received of each tree is good.
pub record IsLook (past : Past) (view : Forest) (length_seen receipts_seen : ℕ) : Type 0 where
  pub shown : view ≡ forest_of past
  pub entries : length_seen ≡ length past.history
  pub receipts : KeepsReceipts past.history receipts_seen
