-- The order that a closed hub took: made of its journals, its history, and the number of entries that the snapshot of each query counted.
use Rattle.std.specs.Prelude.{ℕ, suc, ◌==◌, nat_le, if◌then◌else◌, ◌-◌, List, [], ◌∷◌, ◌++◌, length, take, drop, replicate, filter, flat_map}
use Rattle.std.specs.List.{enumerate_from}
use Rattle.ax_tree.specs.declared.packet.Packet.{Packet}
use Rattle.ax_tree.specs.declared.packet.JEntry.{JEntry}
use Rattle.ax_tree.specs.declared.packet.JEntry.TheVariants as entries
use Rattle.ax_tree.specs.declared.packet.HEntry.{HEntry}
use Rattle.ax_tree.specs.declared.packet.HEntry.TheVariants as events
use Rattle.ax_tree.specs.Journals.{frame_of}
use Rattle.ax_ask.specs.declared.op.Item.{Item}
use Rattle.ax_ask.specs.declared.op.Item.TheVariants.{Frame, Receive, Browser, Deliver, Reader}
use Rattle.ax_rules.specs.Histories.{got}

pub record ClosedFrame : Type 0 where
  pub tree : ℕ
  pub journal : List JEntry

pub record Closed : Type 0 where
  pub frames : List ClosedFrame
  pub history : List HEntry

-- touches, edits and passes are the frame's items; that memory was short is none
abbrev pub journal_items : ℕ → JEntry → List Item
journal_items t (entries.Edited e) = Frame t ∷ []
journal_items t (entries.Marked z) = Frame t ∷ []
journal_items t (entries.MarkedBelow z) = Frame t ∷ []
journal_items t entries.Passed = Frame t ∷ []
journal_items t entries.Short = []
journal_items t (entries.Delivered n) = Deliver t n ∷ []

-- how many entries stand up to and with the k-th pass that made a packet, where the entries `before` stand before them
abbrev pub made_from : ℕ → ℕ → List JEntry → List JEntry → ℕ
made_from t k before [] = 0
made_from t k before (e ∷ j) = if nat_le k (frame_of t before).passes then 0 else suc (made_from t k (before ++ e ∷ []) j)

unfoldable pub made_by : ClosedFrame → ℕ → ℕ
made_by f k = made_from f.tree k [] f.journal

-- the entries after the pass k - 1 up to and with the pass k
unfoldable pub entries_of_pass : ClosedFrame → ℕ → List JEntry
entries_of_pass f k = drop (made_by f (k - 1)) (take (made_by f k) f.journal)

-- before a packet's receipt stand the entries of its frame that don't stand yet, up to and with the pass that made it
unfoldable pub packet_items : Closed → Packet → List Item
packet_items c p =
    flat_map (λ (f : ClosedFrame). flat_map (journal_items f.tree) (entries_of_pass f p.pass.0)) (filter (λ (f : ClosedFrame). f.tree == p.tree) c.frames)
    ++ Receive p.tree ∷ []

abbrev pub history_items : Closed → HEntry → List Item
history_items c (events.Got p) = packet_items c p
history_items c (events.Asked t) = Browser ∷ []
history_items c (events.Ended t) = Browser ∷ []
history_items c (events.Probed t u) = Browser ∷ []

-- the queries whose snapshot counted n entries, in the readers' order
unfoldable pub queries_at : List (List ℕ) → ℕ → List Item
queries_at looks n = flat_map (λ (r : ℕ × List ℕ). replicate (length (filter (λ m. m == n) r.1)) (Reader r.0)) (enumerate_from 1 looks)

-- the entries after the last pass whose packet was received
unfoldable pub entries_left : Closed → ClosedFrame → List JEntry
entries_left c f = drop (made_by f (length (got c.history f.tree))) f.journal

unfoldable pub order_taken : Closed → List (List ℕ) → List Item
order_taken c looks =
    queries_at looks 0
    ++ flat_map (λ (e : ℕ × HEntry). history_items c e.1 ++ queries_at looks e.0) (enumerate_from 1 c.history)
    ++ flat_map (λ (f : ClosedFrame). flat_map (journal_items f.tree) (entries_left c f)) c.frames
