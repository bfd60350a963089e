-- The rule of a lane: for each tree, what was taken and then what the lane holds is what its sender has sent, and it is good.
use Rattle.std.specs.Prelude.{◌≡◌, ℕ, true, false, List, [], ◌∷◌, ◌++◌, ◌⊎◌}
use mathlib.Core.Option.{some}
use lib.ListN.{get_elem?}
use Rattle.ax_tree.specs.declared.packet.Packet.{Packet}
use Rattle.ax_tree.specs.Packets.{IsGood}
use Rattle.ax_lane.specs.declared.holding.Holding.{Holding}
use Rattle.ax_lane.specs.Packets.{of_tree, places_of, Includes, AllOf}

-- its tree, what it has sent, and where among all that was ever sent
abbrev pub sender : ℕ → List Packet → List ℕ → Holding
sender tree sent places = record { sends = true; tree = tree; sent = sent; places = places; takes = false; got = []; trees = []; back = [] }

-- a sender that was taken back: its tree, what it has sent, and where
abbrev pub Back : Type 0
Back = ℕ × List Packet × List ℕ

-- it has made senders for these trees, and taken back those that sent these lists
abbrev pub taker : List Packet → List ℕ → List Back → Holding
taker got trees back = record { sends = false; tree = 0; sent = []; places = []; takes = true; got = got; trees = trees; back = back }

-- what is left of a sender that was taken back
abbrev pub nobody : Holding
nobody = record { sends = false; tree = 0; sent = []; places = []; takes = false; got = []; trees = []; back = [] }

-- the tree's sender was taken back
abbrev pub IsBack : List Back → ℕ → Type 0
IsBack [] t = ⊥
IsBack (b ∷ bs) t = (b.0 ≡ t) ⊎ IsBack bs t

-- of the tree the log has these packets, at these places
abbrev pub IsInLog : List Packet → ℕ → List Packet → List ℕ → Type 0
IsInLog log tree sent places = (of_tree tree log ≡ sent) × (places_of tree 0 log ≡ places)

-- of each tree that was taken back, the log has what its sender sent, where it was sent
abbrev pub Backs : List Packet → List ℕ → List Back → Type 0
Backs log trees [] = Unit {0}
Backs log trees (b ∷ bs) = IsInLog log b.0 b.1 b.2 × Includes trees b.0 × Backs log trees bs

-- what the rule says of one end: a sender has sent what the log has of its tree, and one end alone takes
pub record EndFits (log got : List Packet) (trees : List ℕ) (seat port : ℕ) (v : Holding) : Type 0 where
  pub sends : v.sends ≡ true → IsInLog log v.tree v.sent v.places × Includes trees v.tree × (v.takes ≡ false)
  pub takes : v.takes ≡ true → (port ≡ seat) × (v.got ≡ got) × (v.trees ≡ trees) × Backs log trees v.back

-- one sender for each tree, and none for a tree that was taken back
abbrev pub EndsApart : Holding → Holding → Type 0
EndsApart v w =
    (v.sends ≡ true → w.sends ≡ true → ¬ (v.tree ≡ w.tree))
    × (v.takes ≡ true → w.sends ≡ true → ¬ (IsBack v.back w.tree))
    × (w.takes ≡ true → v.sends ≡ true → ¬ (IsBack w.back v.tree))

-- The rule. The log has all packets that were ever sent: those taken, and then those in the lane. Of each tree they are
-- good, each is of a known tree, and each end fits.
pub record Lined (items : List Packet) (views : List Holding) : Type 0 where
  pub log : List Packet
  pub got : List Packet
  pub trees : List ℕ
  pub seat : ℕ
  pub whole : log ≡ got ++ items
  pub good : (t : ℕ) → IsGood t (of_tree t log)
  pub known : AllOf trees log
  pub each : (port : ℕ) (v : Holding) → get_elem? views port ≡ some v → EndFits log got trees seat port v
  pub apart : (i j : ℕ) (v w : Holding) → ¬ (i ≡ j) → get_elem? views i ≡ some v → get_elem? views j ≡ some w → EndsApart v w

-- the packet was sent, and stands at a place
abbrev pub Sent : Holding → Packet → Holding → Type 0
Sent v p w = (place : ℕ) × (w ≡ sender v.tree (v.sent ++ p ∷ []) (v.places ++ place ∷ []))

-- the packet was taken, its tree is known, and what was taken of its tree is good
abbrev pub Taken : Holding → Packet → Holding → Type 0
Taken v p w = (w ≡ taker (v.got ++ p ∷ []) v.trees v.back) × Includes v.trees p.tree × IsGood p.tree (of_tree p.tree (v.got ++ p ∷ []))

-- all that the senders that were taken back have sent was taken or is in the lane, of known trees, and of each tree good
abbrev pub Left : Holding → List Packet → Type 0
Left v items =
    Backs (v.got ++ items) v.trees v.back
    × AllOf v.trees (v.got ++ items)
    × ((t : ℕ) → IsGood t (of_tree t (v.got ++ items)))

-- the taker that has made one more sender
abbrev pub hired : ℕ → Holding → Holding
hired tree v = taker v.got (v.trees ++ tree ∷ []) v.back

-- the taker that has taken one sender back
abbrev pub returned : Holding → Holding → Holding
returned v w = taker v.got v.trees (v.back ++ (w.tree, w.sent, w.places) ∷ [])
