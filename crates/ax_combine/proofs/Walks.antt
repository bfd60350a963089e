-- The walk that lists all places.
use Rattle.std.proofs.Common.{ℕ, zero, suc, ◌+◌, ◌-◌, ◌≡◌, true, flat_map, List, [], ◌∷◌, ◌++◌, Bor, Option, Some, None, refl, sym, ap, ◌∙◌, arith, append_assoc, option_map}
use Rattle.ax_base.specs.declared.position.Place.{Place}
use Rattle.ax_node.specs.Look.{Look}
use Rattle.ax_trees.specs.Trees.{Trees, bare, tree, root_of, ids}
use Rattle.ax_trees.specs.Nodes.{children, pre}
use Rattle.ax_tree.specs.Tree.{Tree}
use Rattle.ax_tree.specs.Forest.{Forest, IsSound, first_tree, live_tree}
use Rattle.ax_rules.specs.Stitched.{places, stitched, place_at}
use Rattle.ax_stitch.specs.Levels.{at_hung, shown_from, hung_to, spread_of}
use Rattle.ax_stitch.proofs.Blocks.{stitched_places, shown_blocks}
use Rattle.ax_stitch.proofs.Orders.{whole_pre}
use Rattle.ax_stitch.proofs.Sound.{sound_tree}
use Rattle.ax_combine.specs.Runs.{run, run_at}

first_places : (f : Forest) (t : ℕ) → first_tree f ≡ Some t → places (stitched f) ≡ shown_from 8 f t
first_places f t e = stitched_places f ∙ ap (at_hung (shown_from 8 f)) e

pub all_from : (f : Forest) (t : ℕ) (m : Tree) (r : ℕ) → IsSound f → first_tree f ≡ Some t → Some m ≡ live_tree f t → root_of m.trees ≡ Some r → places (stitched f) ≡ run_at 7 f t m.trees r
all_from f t m r s e l h =
    first_places f t e
    ∙ (shown_blocks 7 f t m (sym l) (sound_tree f t m s (sym l)).distinct
    ∙ ap (run 7 f t) (sym (whole_pre m.trees r (sound_tree f t m s (sym l)).one_root h)))

pub gone_live : {V : Type 0} (tree_of : V → Tree) (o : Option (Bor V)) (l : Option Tree) → o ≡ None → option_map (λ (r : Bor V). tree_of r.now) o ≡ l → None ≡ l
gone_live tree_of o l s e = sym (ap (option_map (λ (r : Bor _). tree_of r.now)) s) ∙ e

pub none_live : (f : Forest) (t : ℕ) → first_tree f ≡ Some t → None ≡ live_tree f t → places (stitched f) ≡ []
none_live f t e l = first_places f t e ∙ ap (spread_of (hung_to 7 f) t) (sym l)

pub none_rooted : (f : Forest) (t : ℕ) (m : Tree) → IsSound f → first_tree f ≡ Some t → Some m ≡ live_tree f t → root_of m.trees ≡ None → places (stitched f) ≡ []
none_rooted f t m s e l h = first_places f t e ∙ (shown_blocks 7 f t m (sym l) (sound_tree f t m s (sym l)).distinct ∙ ap (run 7 f t) (go m.trees h))
  where
    go : (w : Trees Look) → root_of w ≡ None → ids w ≡ []
    go bare h = refl
    go (tree i x k r) h = absurd (cc)

-- a turn of the walk: the place stands first
pub first_then : (from now : List Place) (p : Place) (rest : List Place) → now ≡ from ++ p ∷ [] → now ++ rest ≡ from ++ p ∷ rest
first_then from now p rest e = ap (λ l. l ++ rest) e ∙ append_assoc from (p ∷ []) rest
