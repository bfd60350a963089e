-- What a frame is seen as, and what it holds of its journal.
use Rattle.std.specs.Prelude.{ℕ, ◌≡◌, ◌⊎◌, Bool, true, false, ◌&&◌, is_none, is_some, List, [], ◌∷◌, ◌++◌, map, Option, option_to_list, Result, Ok, Err, refl}
use Rattle.std.specs.Coded.{Coded, code_by, coded×, coded_ℕ, coded_list}
use Rattle.ax_node.specs.Look.{Look, blank_look}
use Rattle.ax_trees.specs.Trees.{Trees, is_bare}
use Rattle.ax_trees.specs.Shape.{shape}
use Rattle.ax_tree.specs.declared.edit.Edit.{Edit}
use Rattle.ax_tree.specs.declared.edit.EditErr.{EditErr}
use Rattle.ax_tree.specs.declared.edit.EditErr.TheVariants as edits
use Rattle.ax_tree.specs.declared.edit.MarkErr.{MarkErr}
use Rattle.ax_tree.specs.declared.edit.MarkErr.TheVariants as marks
use Rattle.ax_tree.specs.declared.packet.JEntry.{JEntry}
use Rattle.ax_tree.specs.declared.packet.JEntry.TheVariants as entries
use Rattle.ax_tree.specs.contracts.packet.JEntry.{the_row}
use Rattle.ax_tree.specs.declared.packet.Packet.{Packet}
use Rattle.ax_tree.specs.declared.update.TreeUpdate.{TreeUpdate}
use Rattle.ax_tree.specs.InStep.{TreesInStep}
use Rattle.ax_tree.specs.Bundles.{Client, trees_after_all}
use Rattle.ax_tree.specs.Updates.{nodes_part}
use Rattle.ax_tree.specs.UpdateRule.{Update}
use Rattle.ax_tree.specs.Journals.{Frame, pending}
use Rattle.ax_tree.specs.Packets.{Fits}
use Rattle.ax_source.specs.Source.{Source}

-- a tree, and what its frame has answered, in order
pub record Journaled : Type 0 where
  pub tree : ℕ
  pub journal : List JEntry

abbrev pub coded_journaled : Coded Journaled
coded_journaled = code_by (ℕ × List JEntry) (coded× coded_ℕ (coded_list the_row.coded)) (λ j. (j.tree, j.journal)) (λ p. record { tree = p.0; journal = p.1 }) (λ _. refl)

abbrev pub with_entry : JEntry → Journaled → Journaled
with_entry e j = record { tree = j.tree; journal = j.journal ++ e ∷ [] }

-- Each answered operation is an entry, also where it was refused by name. One that found no memory isn't.
abbrev pub edit_answered : Edit → Result (Unit {0}) EditErr → Journaled → Journaled
edit_answered e (Ok done) j = with_entry (entries.Edited e) j
edit_answered e (Err edits.NoMemory) j = j
edit_answered e (Err refusal) j = with_entry (entries.Edited e) j

abbrev pub is_no_memory : EditErr → Bool
is_no_memory edits.NoMemory = true
is_no_memory refusal = false

abbrev pub lacks_memory : MarkErr → Bool
lacks_memory marks.NoMemory = true
lacks_memory (marks.UnknownNode z) = false

abbrev pub mark_answered : JEntry → Result (Unit {0}) MarkErr → Journaled → Journaled
mark_answered e (Ok done) j = with_entry e j
mark_answered e (Err marks.NoMemory) j = j
mark_answered e (Err (marks.UnknownNode z)) j = with_entry e j

-- each list of packets that fits the journal still fits it
abbrev pub KeepsFitting : Journaled → Journaled → Type 0
KeepsFitting old new = (packets : List Packet) → Fits old.tree old.journal packets → Fits new.tree new.journal packets

-- the updates that are kept, with one that came back for want of memory
abbrev pub all_kept : List TreeUpdate → Option TreeUpdate → List TreeUpdate
all_kept kept back = kept ++ option_to_list back

-- the updates begin from an empty receiver: the first one names a root and clears nothing
abbrev pub begins_fresh : List (Update Look) → Bool
begins_fresh [] = false
begins_fresh (u ∷ us) = is_some u.root && is_none u.clear

-- The kept updates bring what was sent to a receiver that the client knows, and that is in step with the source. Where none is kept, nothing was done since the last packet.
pub record IsSending (f : Frame) (m : List ℕ) (c : Client) (kept : List TreeUpdate) : Type 0 where
  pub receiver : Trees Look
  pub known : c ≡ shape receiver
  pub reached : trees_after_all blank_look (map nodes_part kept) f.sent.trees ≡ Ok receiver
  pub step : TreesInStep receiver f.source.trees m
  pub none : kept ≡ [] → (m ≡ f.marks) ⊎ (is_bare f.sent.trees ≡ true)
  pub some : (kept ≡ [] → ⊥) → pending f ≡ true
  pub whole : f.short ≡ false → kept ≡ []
  pub fresh : (kept ≡ [] → ⊥) → begins_fresh (map nodes_part kept) ≡ is_bare f.sent.trees

-- what a frame's fields hold of the frame f of its journal
pub record HoldsFrame (f : Frame) (s : Source) (c : Client) (kept : List TreeUpdate) (slip : List Edit) (passes token : ℕ) (short : Bool) : Type 0 where
  pub source : s.tree ≡ f.source
  pub flag : s.changed ≡ f.flag
  pub slips : slip ≡ f.slip
  pub passed : passes ≡ f.passes
  pub tokens : token ≡ f.token
  pub shorts : short ≡ f.short
  pub sending : IsSending f s.marks c kept
