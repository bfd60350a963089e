-- Each query of the order taken stands where the entries that its snapshot counted stand before it.
use Rattle.std.proofs.Common.{ℕ, zero, suc, ◌≡◌, List, [], ◌∷◌, ◌++◌, subst, Some}
use Rattle.ax_tree.specs.declared.packet.Packet.{Packet}
use Rattle.ax_ask.specs.declared.op.Item.{Item}
use Rattle.ax_ask.specs.declared.op.Item.TheVariants.{Reader}
use Rattle.ax_run_rules.specs.Fair.{is_reader}
use Rattle.ax_run_rules.specs.Taken.{Closed, order_taken}
use Rattle.ax_order_laws.specs.Parts.{IsClosedHub}
use Rattle.ax_order_laws.specs.Told.{is_entry}
use Rattle.ax_order_laws.specs.Laws.{look_at}
use Rattle.ax_order_laws.proofs.Lists.{count}
use Rattle.ax_order_laws.proofs.Places.{EachPlaced, Placed, placed_at}
use Rattle.ax_order_laws.proofs.Standing.{order_done}

look_placed : (c : Closed) (looks : List (List ℕ)) (front : List Item) (k : ℕ) → Placed c looks front (Reader k) → look_at looks k (count (is_reader k) front) ≡ Some (count is_entry front)
look_placed c looks front zero h = absurd h
look_placed c looks front (suc k) h = h

pub query_stands : (c : Closed) (waiting : List Packet) (looks : List (List ℕ)) → IsClosedHub c waiting looks → (front back : List Item) (k : ℕ) → order_taken c looks ≡ front ++ Reader k ∷ back
    → look_at looks k (count (is_reader k) front) ≡ Some (count is_entry front)
query_stands c waiting looks closed front back k e =
    look_placed c looks front k (placed_at c looks [] front (Reader k) back (subst (EachPlaced c looks []) e (order_done c waiting looks closed).placed))
