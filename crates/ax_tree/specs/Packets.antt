-- Good packets of a frame, and packets that fit its journal.
use Rattle.std.specs.Prelude.{ℕ, suc, ◌≡◌, ◌⊎◌, ◌==◌, if◌then◌else◌, List, [], ◌∷◌, take, length, map, slice_get, Some, Ok}
use Rattle.std.specs.List.{flat_map}
use Rattle.ax_tree.specs.declared.edit.Edit.{Edit}
use Rattle.ax_tree.specs.declared.packet.Packet.{Packet}
use Rattle.ax_tree.specs.declared.packet.JEntry.{JEntry}
use Rattle.ax_tree.specs.Tree.{Tree, empty}
use Rattle.ax_tree.specs.Updates.{applied_all}
use Rattle.ax_tree.specs.Journals.{edit_taken, frame_of, packets_of}

-- the edits one after the other; a refused one changes nothing
abbrev pub edited_all : List Edit → Tree → Tree
edited_all [] s = s
edited_all (e ∷ es) s = edited_all es (edit_taken e s)

-- the source at the pass k: the joined slips of the first k packets upon the empty tree
abbrev pub source_at : ℕ → List Packet → ℕ → Tree
source_at t packets k = edited_all (flat_map (λ (p : Packet). p.slip) (take k packets)) (empty t)

-- The packet p at the place k, from 0: its pass is one more, its base is the pass before or 0, and its bundle brings the source at its base to that at its pass.
pub record GoodAt (t : ℕ) (packets : List Packet) (k : ℕ) (p : Packet) : Type 0 where
  pub of_tree : p.tree ≡ t
  pub pass : p.pass.0 ≡ suc k
  pub base : (p.base.0 ≡ 0) ⊎ (p.base.0 ≡ k)
  pub gives : applied_all p.bundle (if p.base.0 == 0 then empty t else source_at t packets k) ≡ Ok (source_at t packets (suc k))

pub record IsGood (t : ℕ) (packets : List Packet) : Type 0 where
  pub at : (k : ℕ) (p : Packet) → slice_get packets k ≡ Some p → GoodAt t packets k p

-- a packet without its bundle
pub record Head : Type 0 where
  pub tree : ℕ
  pub pass : ℕ
  pub base : ℕ
  pub token : ℕ
  pub slip : List Edit

abbrev pub head_of : Packet → Head
head_of p = record {
  tree = p.tree;
  pass = p.pass.0;
  base = p.base.0;
  token = p.token.0;
  slip = p.slip;
}

-- The packets are good, and they are those of the journal's passes but for their bundles.
pub record Fits (t : ℕ) (journal : List JEntry) (packets : List Packet) : Type 0 where
  pub good : IsGood t packets
  pub count : length packets ≡ (frame_of t journal).passes
  pub heads : map head_of packets ≡ map head_of (packets_of t journal)
