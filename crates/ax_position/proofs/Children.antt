-- The children of a place, by its node and what hangs there.
use Rattle.std.proofs.Common.{ℕ, ◌≡◌, true, List, ◌++◌, map, option_to_list, Option, Some, refl}
use Rattle.ax_base.specs.declared.position.Place.{Place}
use Rattle.ax_trees.specs.Nodes.{children}
use Rattle.ax_tree.specs.Tree.{Tree}
use Rattle.ax_tree.specs.Forest.{Forest, IsSound, live_tree}
use Rattle.ax_rules.specs.Stitched.{place_at, stitched, has_place, children_of}
use Rattle.ax_stitch.specs.Levels.{levels_below, hung_root}
use Rattle.ax_stitch.proofs.Kids as kids
use Rattle.ax_stitch.proofs.Sound.{sound_formed, sound_hung}

pub kids_told : (f : Forest) (p : Place) (m : Tree) (n : ℕ) (xs : List ℕ) (root : Option Place) → IsSound f → Some n ≡ levels_below 8 f p.tree → has_place (stitched f) p ≡ true
    → Some m ≡ live_tree f p.tree → xs ≡ children m.trees p.node → root ≡ hung_root n f p → map (place_at p.tree) xs ++ option_to_list root ≡ children_of (stitched f) p
kids_told f p m n xs root s e h l x r = kids.kids_told f p m n xs (map (place_at p.tree) xs) root e (sound_formed 8 f p.tree s) h l (sound_hung f p s) x refl r
