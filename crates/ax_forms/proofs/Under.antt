-- An error of a part, seen from the whole, and how many items a list stands for.
pub use Rattle.ax_json.proofs.Walks.{under_gives}
use Rattle.std.proofs.Common.{◌≡◌, List, length}
use Rattle.serde_json.proofs.Views.{items_len-items_view}
use Rattle.serde_json.specs.Events.{items_len}
use Rattle.serde_json.specs.View.{items_view}
use Rattle.serde_json.specs.declared.value.Value.{Value}

pub items_len_view : (vs : List Value) → items_len (items_view vs) ≡ length vs
items_len_view vs = items_len-items_view vs
