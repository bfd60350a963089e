-- A place stands once in the list. Belongs in ax_stitch.
use Rattle.std.proofs.Common.{suc, ◌≡◌, true, false, List, ◌∷◌, ◌++◌, None, sym, ap, ◌∙◌, arith}
use Rattle.ax_base.specs.declared.position.Place.{Place}
use Rattle.ax_trees.specs.Trees.{ids, IsDistinct}
use Rattle.ax_trees.specs.Lists.{contains}
use Rattle.ax_tree.specs.Forest.{Forest, live_tree, host_of}
use Rattle.ax_rules.specs.Looks.{same_place}
use Rattle.ax_rules.specs.Stitched.{places, stitched, has_place}
use Rattle.ax_stitch.specs.Orders.{ahead, past}
use Rattle.ax_stitch.specs.Levels.{AreFormed, ids_of, tree_ids, hung_to}
use Rattle.ax_stitch.proofs.Hosts.{AllOf, all_append, all_weaker, first_hangs_nowhere}
use Rattle.ax_stitch.proofs.Blocks.{stitched_places, blocks}
use Rattle.ax_stitch.proofs.Around.{ahead_of, behind_of, formed_distinct, Avoids, avoids_other, own_block, own_hung, all_blocks}
use Rattle.ax_stitch.proofs.Places.{stands, cut, formed_less}
use Rattle.ax_stitch.proofs.Kids.{behind_avoids, past_other}

-- the places of the list around p
pub record Once (p : Place) (l : List Place) : Type 0 where
  pub front : List Place
  pub rest : List Place
  pub whole : l ≡ front ++ (p ∷ rest)
  pub none_ahead : AllOf (λ q. same_place q p ≡ false) front
  pub none_behind : AllOf (λ q. same_place q p ≡ false) rest

pub once : (f : Forest) (p : Place) → has_place (stitched f) p ≡ true → AreFormed 8 f p.tree → Once p (places (stitched f))
once f p h w =
    let s = stands f p h in
    let level = s.level in
    let n = s.below in
    let j = level.steps in
    let c = cut f p n s.tree level s.live s.there w in
    let stop : host_of f level.first ≡ None = first_hangs_nowhere f level.first level.is_first in
    let formed : AreFormed (suc j) f p.tree = formed_less (suc j) 8 f p.tree (let a = level.sum in omega arith) w in
    let d : IsDistinct s.tree.trees = formed_distinct s.tree (live_tree f p.tree) s.live w.0 in
    let listed : tree_ids f p.tree ≡ ids s.tree.trees = ap ids_of s.live in
    let xs = past (tree_ids f p.tree) p.node in
    let back = behind_of j n f p.tree in
    record {
      front = ahead_of j n f p.tree ++ blocks (hung_to n f) p.tree (ahead (tree_ids f p.tree) p.node);
      rest = hung_to n f p ++ (blocks (hung_to n f) p.tree xs ++ back);
      whole = stitched_places f ∙ c.whole;
      none_ahead = c.clear;
      none_behind =
          all_append (λ q. same_place q p ≡ false) (hung_to n f p) (blocks (hung_to n f) p.tree xs ++ back) (own_hung f j n level.first p stop level.climbs p.node)
          (all_append (λ q. same_place q p ≡ false) (blocks (hung_to n f) p.tree xs) back
          (all_blocks (λ q. same_place q p ≡ false) (hung_to n f) p.tree xs
          (λ i b. own_block f j n level.first p stop level.climbs i (past_other s.tree.trees p.node i d s.there (sym (ap (λ l. contains (past l p.node) i) listed) ∙ b))))
          (all_weaker (Avoids f p.tree) (λ q. same_place q p ≡ false) back (avoids_other f p) (behind_avoids j n f p.tree level.first stop level.climbs formed)));
    }
