-- The first shown place of a run, and the next shown place of the list.
use Rattle.std.proofs.Common.{ℕ, zero, suc, ◌+◌, ◌-◌, ◌<◌, ◌≤◌, ◌≡◌, Bool, true, false, find, filter, flat_map, List, [], ◌∷◌, ◌++◌, Option, Some, None, refl, sym, ap, ◌∙◌, arith, append_assoc, option_and_then}
use Rattle.std.proofs.lemmas.List.Elements.{filter-append}
use Rattle.ax_base.specs.declared.position.Place.{Place}
use Rattle.ax_trees.specs.Trees.{has, IsTree}
use Rattle.ax_trees.specs.Nodes.{children, parent, pre}
use Rattle.ax_trees.specs.Spots.{or_else}
use Rattle.ax_trees.proofs.Trees.{by_go}
use Rattle.ax_tree.specs.Tree.{Tree}
use Rattle.ax_tree.specs.Forest.{Forest, IsSound, live_tree, host_of}
use Rattle.ax_rules.specs.Looks.{same_place}
use Rattle.ax_rules.specs.Stitched.{places, stitched, has_place}
use Rattle.ax_rules.specs.Unignored.{unignored, is_shown_place, shown_next}
use Rattle.ax_stitch.specs.Orders.{ahead, past, behind}
use Rattle.ax_stitch.specs.Levels.{ids_of, tree_ids, levels_below, hung_to, hung_root}
use Rattle.ax_stitch.proofs.Hosts.{AllOf, first_hangs_nowhere}
use Rattle.ax_stitch.proofs.Climbs.{up}
use Rattle.ax_stitch.proofs.Blocks.{blocks, stitched_places}
use Rattle.ax_stitch.proofs.Around.{ahead_of, behind_under, behind_of}
use Rattle.ax_stitch.proofs.Places.{level_is, stands, cut, next_place}
use Rattle.ax_stitch.proofs.Orders.{past_ids, behind_top}
use Rattle.ax_stitch.proofs.Parts.{child_step}
use Rattle.ax_stitch.proofs.Sound.{sound_formed, sound_tree}
use Rattle.ax_unignored.specs.Shows.{shows}
use Rattle.ax_unignored.specs.Runs.{run, run_at, ids_below, ids_behind, below_place, first_behind}
use Rattle.ax_unignored.proofs.Found.{find_append, find_first}
use Rattle.ax_unignored.proofs.Lit.{shown_places, shown_is}
use Rattle.ax_unignored.proofs.Runs.{run-append, flat_runs, run_is, below_lone, below_own, host_past}

-- ---- at a node and below it

pub first_self : (n : ℕ) (f : Forest) (p : Place) (m : Tree) → Some m ≡ live_tree f p.tree → has m.trees p.node ≡ true → shows f p ≡ true → Some p ≡ find (shows f) (run_at n f p.tree m.trees p.node)
first_self n f p m l h e = sym (ap (find (shows f)) (run_is n f p m l h) ∙ (rw e refl))

first_on : (n : ℕ) (f : Forest) (p : Place) (m : Tree) → Some m ≡ live_tree f p.tree → has m.trees p.node ≡ true → shows f p ≡ false → find (shows f) (run_at n f p.tree m.trees p.node) ≡ find (shows f) (below_place n f p)
first_on n f p m l h e = ap (find (shows f)) (run_is n f p m l h) ∙ (rw e refl)

pub first_lone : (n : ℕ) (f : Forest) (p q : Place) (m h : Tree) (found : Option Place) → IsSound f → Some m ≡ live_tree f p.tree → has m.trees p.node ≡ true → shows f p ≡ false → Some q ≡ hung_root n f p
    → Some h ≡ live_tree f q.tree → found ≡ find (shows f) (run_at (n - 1) f q.tree h.trees q.node) → found ≡ find (shows f) (run_at n f p.tree m.trees p.node)
first_lone n f p q m h found s l g e r k v = v ∙ sym (first_on n f p m l g e ∙ ap (find (shows f)) (below_lone n f p q m h s l r k))

pub first_own : (n : ℕ) (f : Forest) (p : Place) (m : Tree) (found : Option Place) → IsSound f → Some m ≡ live_tree f p.tree → has m.trees p.node ≡ true → shows f p ≡ false → None ≡ hung_root n f p
    → found ≡ find (shows f) (flat_map (run_at n f p.tree m.trees) (children m.trees p.node)) → found ≡ find (shows f) (run_at n f p.tree m.trees p.node)
first_own n f p m found s l g e r v = v ∙ sym (first_on n f p m l g e ∙ ap (find (shows f)) (below_own n f p m s l r))

-- ---- behind a node in its tree

pub behind_step : (n : ℕ) (f : Forest) (t : ℕ) (m : Tree) (z y : ℕ) (ys : List ℕ) (found : Option Place) → IsTree m.trees → parent m.trees z ≡ Some y → ys ≡ past (children m.trees y) z
    → found ≡ find (shows f) (flat_map (run_at n f t m.trees) ys) → find (shows f) (run n f t (behind m.trees z)) ≡ or_else found (find (shows f) (run n f t (behind m.trees y)))
behind_step n f t m z y ys found d e p v =
    let own = flat_map (pre m.trees) (past (children m.trees y) z) in
    ap (λ l. find (shows f) (run n f t l)) (child_step m.trees z y d.distinct e).after
    ∙ (ap (find (shows f)) (run-append n f t own (behind m.trees y))
    ∙ (find_append (shows f) (run n f t own) (run n f t (behind m.trees y))
    ∙ ap (λ o. or_else o (find (shows f) (run n f t (behind m.trees y)))) (ap (find (shows f)) (flat_runs n f t m.trees (past (children m.trees y) z)) ∙ (ap (λ l. find (shows f) (flat_map (run_at n f t m.trees) l)) (sym p) ∙ sym v))))

pub behind_none : (n : ℕ) (f : Forest) (t : ℕ) (m : Tree) (z : ℕ) → IsTree m.trees → parent m.trees z ≡ None → None ≡ find (shows f) (run n f t (behind m.trees z))
behind_none n f t m z d e = ap (λ l. find (shows f) (run n f t l)) (sym (behind_top m.trees z d.distinct d.one_root e))

-- ---- through the trees above

pub climb_step : (levels : ℕ) (f : Forest) (p : Place) (m : Tree) (found : Option Place) → levels < 8 → Some m ≡ live_tree f p.tree → found ≡ find (shows f) (run levels f p.tree (behind m.trees p.node))
    → or_else found (option_and_then (first_behind (8 - (levels + 1)) (levels + 1) f) (host_of f p.tree)) ≡ first_behind (8 - levels) levels f p
climb_step levels f p m found l k v =
    let less : 8 - levels ≡ suc (8 - (levels + 1)) = omega (arith, l) in
    let more : levels + 1 ≡ suc levels = omega arith in
    ap (λ o. or_else o (option_and_then (first_behind (8 - (levels + 1)) (levels + 1) f) (host_of f p.tree))) (v ∙ ap (λ o. find (shows f) (run levels f p.tree (ids_behind o p.node))) k)
    ∙ (ap (λ j. or_else (find (shows f) (run levels f p.tree (ids_behind (live_tree f p.tree) p.node))) (option_and_then (first_behind (8 - (levels + 1)) j f) (host_of f p.tree))) more
    ∙ ap (λ j. first_behind j levels f p) (sym less))

pub climb_end : (levels : ℕ) (f : Forest) (p : Place) → 8 ≤ levels → None ≡ first_behind (8 - levels) levels f p
climb_end levels f p l = let z : 8 - levels ≡ 0 = omega (arith, l) in ap (λ j. first_behind j levels f p) (sym z)

behind_climbs : (j k n : ℕ) (f : Forest) (p : Place) (first : ℕ) → IsSound f → host_of f first ≡ None → up j f p.tree ≡ Some first → j < k
    → find (shows f) (run n f p.tree (ids_behind (live_tree f p.tree) p.node) ++ behind_of j n f p.tree) ≡ first_behind k n f p
behind_climbs j zero n f p first s stop h l = absurd (omega (arith, l))
behind_climbs zero (suc k) n f p first s stop h l =
    let same : p.tree ≡ first = cc in
    let none : host_of f p.tree ≡ None = ap (host_of f) same ∙ stop in
    let own = run n f p.tree (ids_behind (live_tree f p.tree) p.node) in
    find_append (shows f) own [] ∙ ap (λ o. or_else (find (shows f) own) (option_and_then (first_behind k (suc n) f) o)) (sym none)
behind_climbs (suc j) (suc k) n f p first s stop h l =
    let own = run n f p.tree (ids_behind (live_tree f p.tree) p.node) in
    find_append (shows f) own (behind_of (suc j) n f p.tree)
    ∙ ap (or_else (find (shows f) own)) (go (λ q u. behind_climbs j k (suc n) f q first s stop u (omega (arith, l))) (host_of f p.tree) refl h)
  where
    go : ((q : Place) → up j f q.tree ≡ Some first → find (shows f) (run (suc n) f q.tree (ids_behind (live_tree f q.tree) q.node) ++ behind_of j (suc n) f q.tree) ≡ first_behind k (suc n) f q)
        → (o : Option Place) → host_of f p.tree ≡ o → option_and_then (λ (host : Place). up j f host.tree) o ≡ Some first
        → find (shows f) (behind_under (behind_of j (suc n) f) n f o) ≡ option_and_then (first_behind k (suc n) f) o
    go ih None e u = absurd (cc)
    go ih (Some q) e u = ap (λ l. find (shows f) (run (suc n) f q.tree l ++ behind_of j (suc n) f q.tree)) (host_past f p.tree q s e) ∙ ih q u

-- ---- the shown list, cut at a shown place

pub filter_clear : (p : Place) (r : Place → Bool) (xs : List Place) → AllOf (λ q. same_place q p ≡ false) xs → AllOf (λ q. same_place q p ≡ false) (filter r xs)
filter_clear p r [] a = tt
filter_clear p r (x ∷ xs) a = by_go (r x) (λ q. rw q (a.0, filter_clear p r xs a.1)) (λ q. rw q (filter_clear p r xs a.1))

pub filter_cut : (r : Place → Bool) (xs : List Place) (p : Place) (ys : List Place) → r p ≡ true → filter r (xs ++ (p ∷ ys)) ≡ filter r xs ++ (p ∷ filter r ys)
filter_cut r xs p ys e = filter-append r xs (p ∷ ys) ∙ ap (λ l. filter r xs ++ l) (rw e refl)

split_past : (n : ℕ) (f : Forest) (p : Place) (m : Tree) (back : List Place) → IsSound f → Some m ≡ live_tree f p.tree → has m.trees p.node ≡ true
    → hung_to n f p ++ (run n f p.tree (past (tree_ids f p.tree) p.node) ++ back) ≡ below_place n f p ++ (run n f p.tree (ids_behind (live_tree f p.tree) p.node) ++ back)
split_past n f p m back s l h =
    let d = (sound_tree f p.tree m s (sym l)).distinct in
    let below_it = ids_below (live_tree f p.tree) p.node in
    let behind_it = ids_behind (live_tree f p.tree) p.node in
    let parted : past (tree_ids f p.tree) p.node ≡ below_it ++ behind_it =
    ap (λ o. past (ids_of o) p.node) (sym l) ∙ (past_ids m.trees p.node d h ∙ ap (λ o. ids_below o p.node ++ ids_behind o p.node) l) in
    ap (λ xs. hung_to n f p ++ (run n f p.tree xs ++ back)) parted
    ∙ (ap (λ xs. hung_to n f p ++ (xs ++ back)) (run-append n f p.tree below_it behind_it)
    ∙ regroup (hung_to n f p) (run n f p.tree below_it) (run n f p.tree behind_it) back)
  where
    regroup : (a b c d : List Place) → a ++ ((b ++ c) ++ d) ≡ (a ++ b) ++ (c ++ d)
    regroup a b c d = simp append_assoc

pub next_is : (f : Forest) (p : Place) (n : ℕ) (inner more : Option Place) → IsSound f → Some n ≡ levels_below 8 f p.tree → has_place (stitched f) p ≡ true → is_shown_place (stitched f) p ≡ true
    → inner ≡ find (shows f) (below_place n f p) → more ≡ first_behind (8 - n) n f p → shown_next (stitched f) p ≡ or_else inner more
unfolding shown_next
next_is f p n inner more s l h v a b =
    let st = stands f p h in
    let level = level_is 8 n f p.tree (sym l) in
    let c = cut f p n st.tree level st.live st.there (sound_formed 8 f p.tree s) in
    let lit : shows f p ≡ true = sym (shown_is f p s h) ∙ v in
    let front = ahead_of level.steps n f p.tree ++ blocks (hung_to n f) p.tree (ahead (tree_ids f p.tree) p.node) in
    let back = behind_of level.steps n f p.tree in
    let rest = hung_to n f p ++ (blocks (hung_to n f) p.tree (past (tree_ids f p.tree) p.node) ++ back) in
    let whole = shown_places f s ∙ (ap (filter (shows f)) (stitched_places f ∙ c.whole) ∙ filter_cut (shows f) front p rest lit) in
    next_place p (places (unignored (stitched f))) (filter (shows f) front) (filter (shows f) rest) whole (filter_clear p (shows f) front c.clear)
    ∙ (find_first (shows f) rest
    ∙ (ap (find (shows f)) (split_past n f p st.tree back s (sym st.live) st.there)
    ∙ (find_append (shows f) (below_place n f p) (run n f p.tree (ids_behind (live_tree f p.tree) p.node) ++ back)
    ∙ (λ i. or_else (sym a i) ((behind_climbs level.steps (8 - n) n f p level.first s (first_hangs_nowhere f level.first level.is_first) level.climbs (let k = level.sum in omega (arith, k)) ∙ sym b) i)))))
