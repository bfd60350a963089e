-- Where the tokens of a state were asked for, no receipt is a gap, through orders and through the finale.
use Rattle.std.specs.Prelude.{ℕ, ◌≡◌, ◌≤◌, false, List, [], ◌∷◌, Option, Some, None}
use Rattle.std.specs.List.{list_any}
use Rattle.ax_tree.specs.declared.packet.Packet.{Packet}
use Rattle.ax_tree.specs.declared.packet.JEntry.{JEntry}
use Rattle.ax_tree.specs.declared.packet.JEntry.TheVariants as entries
use Rattle.ax_tree.specs.declared.packet.HEntry.{HEntry}
use Rattle.ax_ask.specs.declared.op.Item.{Item}
use Rattle.ax_rules.specs.Histories.{is_gone, token_of, got, applied_pass}
use Rattle.ax_run_rules.specs.Scripts.{Script}
use Rattle.ax_run_rules.specs.States.{FrameRun, State, Run, start, find_frame, without_lines}
use Rattle.ax_run_rules.specs.Steps.{run}
use Rattle.ax_run_rules.specs.Finale.{finale_of}
use Rattle.ax_run_laws.specs.Laws.{TokensAsked, is_gap}
use Rattle.ax_finale_laws.specs.Resumed.{PacketsFit}

-- a delivered token is at most n
abbrev pub IsUpTo : ℕ → JEntry → Type 0
IsUpTo n (entries.Edited e) = Unit {0}
IsUpTo n (entries.Marked z) = Unit {0}
IsUpTo n (entries.MarkedBelow z) = Unit {0}
IsUpTo n entries.Passed = Unit {0}
IsUpTo n entries.Short = Unit {0}
IsUpTo n (entries.Delivered k) = k.0 ≤ n

abbrev pub AllUpTo : ℕ → List JEntry → Type 0
AllUpTo n [] = Unit {0}
AllUpTo n (e ∷ es) = IsUpTo n e × AllUpTo n es

-- the last packet, or q where there is none
abbrev pub last_after : Option Packet → List Packet → Option Packet
last_after q [] = q
last_after q (p ∷ ps) = last_after (Some p) ps

-- where the tree is live and the last packet has its token, that packet was applied
abbrev pub IsLastApplied : List HEntry → ℕ → Option Packet → Type 0
IsLastApplied h t None = Unit {0}
IsLastApplied h t (Some q) = is_gone h t ≡ false → q.token.0 ≡ token_of h t → applied_pass h t ≡ q.pass.0

pub record TokensFit (h : List HEntry) (t : ℕ) (f : FrameRun) : Type 0 where
  pub asked : AllUpTo (token_of h t) f.journal
  pub last : IsLastApplied h t (last_after None (got h t))

-- the packets are those of the journals, and the tokens were asked for
pub record IsInOrder (s : State) : Type 0 where
  pub packets : PacketsFit s
  pub tokens : (t : ℕ) (f : FrameRun) → find_frame s t ≡ Some f → TokensFit s.history t f

-- no line of the orders whose tokens were asked for, and none of the finale, tells of a gap
pub record NoneIsAGap (r : Run) : Type 0 where
  pub orders : (o : List Item) (q : Run) → TokensAsked o r → run o r ≡ Some q → list_any is_gap q.lines ≡ false
  pub finale : (o : List Item) (q e : Run) → TokensAsked o r → run o r ≡ Some q → finale_of (without_lines q) ≡ Some e → list_any is_gap e.lines ≡ false

abbrev pub NoGapFromAState : Type 0
NoGapFromAState = (r : Run) → IsInOrder r.state → list_any is_gap r.lines ≡ false → NoneIsAGap r

-- The start of each script is such a state.
abbrev pub EachScriptStartsInOrder : Type 0
EachScriptStartsInOrder = (s : Script) → IsInOrder (start s)
