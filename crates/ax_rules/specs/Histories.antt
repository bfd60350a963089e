-- What a history of the browser says of a tree: whether it has ended, its token, its packets, its last applied pass; and the verdict rule.
use Rattle.std.specs.Prelude.{ℕ, Bool, true, false, ◌==◌, ◌||◌, not, if◌then◌else◌, List, [], ◌∷◌, ◌++◌, length, filter, filter_map, Option, Some, None}
use Rattle.std.specs.List.{list_any}
use Rattle.ax_tree.specs.declared.packet.HEntry.{HEntry}
use Rattle.ax_tree.specs.declared.packet.HEntry.TheVariants.{Got, Asked, Ended}
use Rattle.ax_tree.specs.declared.packet.Packet.{Packet}
use Rattle.ax_tree.specs.declared.verdict.Event.{Event}
use Rattle.ax_tree.specs.declared.verdict.Verdict.{Verdict}
use Rattle.ax_tree.specs.declared.verdict.Verdict.TheVariants.{Applied, Stale, Gap, Gone}
use Rattle.ax_rules.specs.Sequences.{until}

abbrev pub ends : ℕ → HEntry → Bool
ends t (Ended u) = u == t
ends t e = false

abbrev pub asks : ℕ → HEntry → Bool
asks t (Asked u) = u == t
asks t e = false

unfoldable pub is_gone : List HEntry → ℕ → Bool
is_gone h t = list_any (ends t) h

-- how often the tree was asked for before it ended
unfoldable pub token_of : List HEntry → ℕ → ℕ
token_of h t = length (filter (asks t) (until (ends t) h))

-- the tree's packets
abbrev pub packet_in : ℕ → HEntry → Option Packet
packet_in t (Got p) = if p.tree == t then Some p else None
packet_in t e = None

unfoldable pub got : List HEntry → ℕ → List Packet
got h t = filter_map (packet_in t) h

-- The verdict on a packet after a history, where `at` is the tree's last applied pass and `told` the events of an applied packet.
unfoldable pub verdict_at : List HEntry → ℕ → Packet → List Event → Verdict
verdict_at h at p told =
    if is_gone h p.tree then Gone else
    if not (p.token.0 == token_of h p.tree) then Stale p.token (record { 0 = token_of h p.tree }) else
    if not (p.base.0 == 0 || p.base.0 == at) then Gap p.base (record { 0 = at }) else Applied p.pass told

-- the last applied pass after a verdict
abbrev pub pass_after : ℕ → Verdict → ℕ
pass_after at (Applied n es) = n.0
pass_after at v = at

-- the last applied pass of t after one more entry
abbrev pub at_after : ℕ → List HEntry → ℕ → HEntry → ℕ
at_after t before at (Got p) = if p.tree == t then pass_after at (verdict_at before at p []) else at
at_after t before at e = at

abbrev pub at_from : ℕ → List HEntry → ℕ → List HEntry → ℕ
at_from t before at [] = at
at_from t before at (e ∷ es) = at_from t (before ++ e ∷ []) (at_after t before at e) es

-- the pass of the last applied packet of t, 0 before the first
unfoldable pub applied_pass : List HEntry → ℕ → ℕ
applied_pass h t = at_from t [] 0 h

-- the packet would be applied
unfoldable pub is_applied : Verdict → Bool
is_applied (Applied n es) = true
is_applied v = false
