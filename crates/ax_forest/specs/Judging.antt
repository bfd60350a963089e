-- What is kept of a live tree, and what it says of a packet.
use Rattle.std.specs.Prelude.{ℕ, ◌≡◌, false, List}
use Rattle.ax_tree.specs.declared.packet.HEntry.{HEntry}
use Rattle.ax_tree.specs.declared.packet.Packet.{Packet}
use Rattle.ax_tree.specs.declared.verdict.Event.{Event}
use Rattle.ax_tree.specs.declared.verdict.Verdict.{Verdict}
use Rattle.ax_tree.specs.declared.verdict.Verdict.TheVariants as verdict
use Rattle.ax_tree.specs.Tree.{Tree}
use Rattle.ax_rules.specs.Histories.{is_gone}
use Rattle.ax_rules.specs.Mirrors.{built_of}
use Rattle.ax_forest.specs.declared.tally.Tally.{Tally}
use Rattle.ax_forest.specs.declared.judging.Judgement.{Judgement}
use Rattle.ax_forest.specs.declared.judging.Judgement.TheVariants.{Stale, Gap, Applies}
use Rattle.ax_forest.specs.Tallied.{IsTallyOf}

-- after the history h the tree t is live, and these are its mirror and its tally
pub record IsKept (h : List HEntry) (t : ℕ) (m : Tree) (y : Tally) : Type 0 where
  pub live : is_gone h t ≡ false
  pub mirror : m ≡ built_of h t
  pub tally : IsTallyOf h t y

-- the verdict, where these events are told if the packet is applied
abbrev pub verdict_by : Judgement → Packet → List Event → Verdict
verdict_by (Stale had want) p told = verdict.Stale had want
verdict_by (Gap base at) p told = verdict.Gap base at
verdict_by Applies p told = verdict.Applied p.pass told
