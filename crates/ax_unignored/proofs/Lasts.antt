-- The last shown place of a run, and the shown place before a shown place of the list.
use Rattle.std.proofs.Common.{ℕ, zero, suc, ◌+◌, ◌-◌, ◌<◌, ◌≤◌, ◌≡◌, true, false, filter, flat_map, List, [], ◌∷◌, ◌++◌, Option, Some, None, refl, sym, ap, ◌∙◌, arith, append_assoc, option_and_then}
use Rattle.std.specs.Prelude.{if◌then◌else◌}
use Rattle.std.proofs.lemmas.Bool.{false≢true}
use Rattle.ax_base.specs.declared.position.Place.{Place}
use Rattle.ax_node.specs.Look.{Look}
use Rattle.ax_trees.specs.Trees.{Trees, bare, tree, ids, roots, has, has_root, IsTree}
use Rattle.ax_trees.specs.Nodes.{below, children, parent, pre}
use Rattle.ax_trees.specs.Lists.{is_nil}
use Rattle.ax_trees.proofs.Parents.{child_of_parent}
use Rattle.ax_trees.specs.Spots.{or_else}
use Rattle.ax_trees.proofs.Trees.{by_go}
use Rattle.ax_tree.specs.Tree.{Tree}
use Rattle.ax_tree.specs.Forest.{Forest, IsSound, live_tree, host_of}
use Rattle.ax_rules.specs.Stitched.{place_at, places, stitched, has_place}
use Rattle.ax_rules.specs.Unignored.{unignored, is_shown_place, shown_prev}
use Rattle.ax_stitch.specs.Orders.{ahead, past}
use Rattle.ax_stitch.specs.Levels.{ids_of, tree_ids, levels_below, hung_to, hung_root}
use Rattle.ax_stitch.proofs.Hosts.{first_hangs_nowhere}
use Rattle.ax_stitch.proofs.Climbs.{up}
use Rattle.ax_stitch.proofs.Blocks.{blocks, stitched_places, hosts_lone}
use Rattle.ax_stitch.proofs.Around.{ahead_under, ahead_of, behind_of}
use Rattle.ax_stitch.proofs.Places.{level_is, stands, cut, prev_place}
use Rattle.ax_stitch.proofs.Orders.{ahead_top}
use Rattle.ax_stitch.proofs.Parts.{child_step}
use Rattle.ax_stitch.proofs.Sound.{sound_formed}
use Rattle.ax_unignored.specs.Shows.{shows}
use Rattle.ax_unignored.specs.Runs.{find_last, run, run_at, below_place, last_ahead}
use Rattle.ax_unignored.proofs.Found.{last_append}
use Rattle.ax_unignored.proofs.Lit.{shown_places, shown_is}
use Rattle.ax_unignored.proofs.Runs.{run-append, run_is, flat_runs, below_lone, below_own}
use Rattle.ax_unignored.proofs.Firsts.{filter_clear, filter_cut}

-- ---- at a node and below it

last_one : (f : Forest) (p : Place) → find_last (shows f) (p ∷ []) ≡ (if shows f p then Some p else None)
last_one f p = by_go (shows f p) (λ q. rw q refl) (λ q. rw q refl)

last_at : (n : ℕ) (f : Forest) (p : Place) (m : Tree) → Some m ≡ live_tree f p.tree → has m.trees p.node ≡ true
    → find_last (shows f) (run_at n f p.tree m.trees p.node) ≡ or_else (find_last (shows f) (below_place n f p)) (if shows f p then Some p else None)
last_at n f p m l h =
    ap (find_last (shows f)) (run_is n f p m l h)
    ∙ (last_append (shows f) (p ∷ []) (below_place n f p) ∙ ap (or_else (find_last (shows f) (below_place n f p))) (last_one f p))

last_below : (n : ℕ) (f : Forest) (p : Place) (m : Tree) (found : Option Place) → Some m ≡ live_tree f p.tree → has m.trees p.node ≡ true → found ≡ find_last (shows f) (below_place n f p)
    → or_else found (if shows f p then Some p else None) ≡ find_last (shows f) (run_at n f p.tree m.trees p.node)
last_below n f p m found l h v = ap (λ o. or_else o (if shows f p then Some p else None)) v ∙ sym (last_at n f p m l h)

-- where a tree hangs
pub last_lone : (n : ℕ) (f : Forest) (p q : Place) (m h : Tree) (found : Option Place) → IsSound f → Some m ≡ live_tree f p.tree → has m.trees p.node ≡ true → Some q ≡ hung_root n f p → Some h ≡ live_tree f q.tree
    → found ≡ find_last (shows f) (run_at (n - 1) f q.tree h.trees q.node) → or_else found (if shows f p then Some p else None) ≡ find_last (shows f) (run_at n f p.tree m.trees p.node)
last_lone n f p q m h found s l g r k v = last_below n f p m found l g (v ∙ ap (find_last (shows f)) (sym (below_lone n f p q m h s l r k)))

pub last_own : (n : ℕ) (f : Forest) (p : Place) (m : Tree) (found : Option Place) → IsSound f → Some m ≡ live_tree f p.tree → has m.trees p.node ≡ true → None ≡ hung_root n f p
    → found ≡ find_last (shows f) (flat_map (run_at n f p.tree m.trees) (children m.trees p.node)) → or_else found (if shows f p then Some p else None) ≡ find_last (shows f) (run_at n f p.tree m.trees p.node)
last_own n f p m found s l g r v = last_below n f p m found l g (v ∙ ap (find_last (shows f)) (sym (below_own n f p m s l r)))

-- ---- before a node in its tree

a_child : (m : Tree) (z y : ℕ) → IsTree m.trees → parent m.trees z ≡ Some y → is_nil (children m.trees y) ≡ false
a_child m z y d e = go (below m.trees y) (child_of_parent m.trees y z d.distinct e)
  where
    go : (w : Trees Look) → has_root w z ≡ true → is_nil (roots w) ≡ false
    go bare h = absurd (false≢true h)
    go (tree i x a b) h = refl

pub ahead_step : (n : ℕ) (f : Forest) (t : ℕ) (m : Tree) (z y : ℕ) (xs : List ℕ) (found : Option Place) → Some m ≡ live_tree f t → IsTree m.trees → parent m.trees z ≡ Some y → xs ≡ ahead (children m.trees y) z
    → found ≡ find_last (shows f) (flat_map (run_at n f t m.trees) xs)
    → find_last (shows f) (run n f t (ahead (ids m.trees) z)) ≡ or_else found (or_else (if shows f (place_at t y) then Some (place_at t y) else None) (find_last (shows f) (run n f t (ahead (ids m.trees) y))))
ahead_step n f t m z y xs found l d e p v =
    let own = flat_map (pre m.trees) (ahead (children m.trees y) z) in
    let front = ahead (ids m.trees) y in
    ap (λ l. find_last (shows f) (run n f t l)) (child_step m.trees z y d.distinct e).before
    ∙ (ap (find_last (shows f)) (run-append n f t front (y ∷ own) ∙ ap (λ l. run n f t front ++ (place_at t y ∷ (l ++ run n f t own))) (hosts_lone n f t m (sym l) d.distinct y (a_child m z y d e)))
    ∙ (last_append (shows f) (run n f t front) (place_at t y ∷ run n f t own)
    ∙ (ap (λ o. or_else o (find_last (shows f) (run n f t front))) (last_append (shows f) (place_at t y ∷ []) (run n f t own)
    ∙ ((λ i. or_else (mine i) (last_one f (place_at t y) i))))
    ∙ assoc found (if shows f (place_at t y) then Some (place_at t y) else None) (find_last (shows f) (run n f t front)))))
  where
    mine : find_last (shows f) (run n f t (flat_map (pre m.trees) (ahead (children m.trees y) z))) ≡ found
    mine = ap (find_last (shows f)) (flat_runs n f t m.trees (ahead (children m.trees y) z)) ∙ (ap (λ l. find_last (shows f) (flat_map (run_at n f t m.trees) l)) (sym p) ∙ sym v)

    assoc : (a b c : Option Place) → or_else (or_else a b) c ≡ or_else a (or_else b c)
    assoc None b c = refl
    assoc (Some x) b c = refl

pub ahead_none : (n : ℕ) (f : Forest) (t : ℕ) (m : Tree) (z : ℕ) → IsTree m.trees → has m.trees z ≡ true → parent m.trees z ≡ None → None ≡ find_last (shows f) (run n f t (ahead (ids m.trees) z))
ahead_none n f t m z d h e = ap (λ l. find_last (shows f) (run n f t l)) (sym (ahead_top m.trees z d.distinct d.one_root h e))

-- ---- through the trees above

abbrev pub host_or : ℕ → ℕ → Forest → Place → Option Place
host_or k n f host = if shows f host then Some host else last_ahead k n f host

pub climb_step : (levels : ℕ) (f : Forest) (p : Place) (m : Tree) (found : Option Place) → levels < 8 → Some m ≡ live_tree f p.tree → found ≡ find_last (shows f) (run levels f p.tree (ahead (ids m.trees) p.node))
    → or_else found (option_and_then (host_or (8 - (levels + 1)) (levels + 1) f) (host_of f p.tree)) ≡ last_ahead (8 - levels) levels f p
climb_step levels f p m found l k v =
    let less : 8 - levels ≡ suc (8 - (levels + 1)) = omega (arith, l) in
    let more : levels + 1 ≡ suc levels = omega arith in
    ap (λ o. or_else o (option_and_then (host_or (8 - (levels + 1)) (levels + 1) f) (host_of f p.tree))) (v ∙ ap (λ o. find_last (shows f) (run levels f p.tree (ahead (ids_of o) p.node))) k)
    ∙ (ap (λ j. or_else (find_last (shows f) (run levels f p.tree (ahead (tree_ids f p.tree) p.node))) (option_and_then (host_or (8 - (levels + 1)) j f) (host_of f p.tree))) more
    ∙ ap (λ j. last_ahead j levels f p) (sym less))

pub climb_end : (levels : ℕ) (f : Forest) (p : Place) → 8 ≤ levels → None ≡ last_ahead (8 - levels) levels f p
climb_end levels f p l = let z : 8 - levels ≡ 0 = omega (arith, l) in ap (λ j. last_ahead j levels f p) (sym z)

ahead_climbs : (j k n : ℕ) (f : Forest) (p : Place) (first : ℕ) → host_of f first ≡ None → up j f p.tree ≡ Some first → j < k
    → find_last (shows f) (ahead_of j n f p.tree ++ run n f p.tree (ahead (tree_ids f p.tree) p.node)) ≡ last_ahead k n f p
ahead_climbs j zero n f p first stop h l = absurd (omega (arith, l))
ahead_climbs zero (suc k) n f p first stop h l =
    let same : p.tree ≡ first = cc in
    let none : host_of f p.tree ≡ None = ap (host_of f) same ∙ stop in
    let own = run n f p.tree (ahead (tree_ids f p.tree) p.node) in
    or_none (find_last (shows f) own) ∙ ap (λ o. or_else (find_last (shows f) own) (option_and_then (host_or k (suc n) f) o)) (sym none)
  where
    or_none : (o : Option Place) → o ≡ or_else o None
    or_none None = refl
    or_none (Some x) = refl
ahead_climbs (suc j) (suc k) n f p first stop h l =
    let own = run n f p.tree (ahead (tree_ids f p.tree) p.node) in
    last_append (shows f) (ahead_of (suc j) n f p.tree) own
    ∙ ap (or_else (find_last (shows f) own)) (go (λ q u. ahead_climbs j k (suc n) f q first stop u (omega (arith, l))) (host_of f p.tree) h)
  where
    go : ((q : Place) → up j f q.tree ≡ Some first → find_last (shows f) (ahead_of j (suc n) f q.tree ++ run (suc n) f q.tree (ahead (tree_ids f q.tree) q.node)) ≡ last_ahead k (suc n) f q)
        → (o : Option Place) → option_and_then (λ (host : Place). up j f host.tree) o ≡ Some first
        → find_last (shows f) (ahead_under (ahead_of j (suc n) f) n f o) ≡ option_and_then (host_or k (suc n) f) o
    go ih None u = absurd (cc)
    go ih (Some q) u =
        let front = ahead_of j (suc n) f q.tree in
        let own = run (suc n) f q.tree (ahead (tree_ids f q.tree) q.node) in
        ap (find_last (shows f)) (sym (append_assoc front own (q ∷ [])))
        ∙ (last_append (shows f) (front ++ own) (q ∷ [])
        ∙ ((λ i. or_else (last_one f q i) (ih q u i)) ∙ by_go (shows f q) (λ b. rw b refl) (λ b. rw b refl)))

-- ---- the shown list, cut at a shown place

pub prev_is : (f : Forest) (p : Place) (n : ℕ) (found : Option Place) → IsSound f → Some n ≡ levels_below 8 f p.tree → has_place (stitched f) p ≡ true → is_shown_place (stitched f) p ≡ true
    → found ≡ last_ahead (8 - n) n f p → found ≡ shown_prev (stitched f) p
unfolding shown_prev
prev_is f p n found s l h v a =
    let st = stands f p h in
    let level = level_is 8 n f p.tree (sym l) in
    let c = cut f p n st.tree level st.live st.there (sound_formed 8 f p.tree s) in
    let lit : shows f p ≡ true = sym (shown_is f p s h) ∙ v in
    let front = ahead_of level.steps n f p.tree ++ blocks (hung_to n f) p.tree (ahead (tree_ids f p.tree) p.node) in
    let rest = hung_to n f p ++ (blocks (hung_to n f) p.tree (past (tree_ids f p.tree) p.node) ++ behind_of level.steps n f p.tree) in
    let whole = shown_places f s ∙ (ap (filter (shows f)) (stitched_places f ∙ c.whole) ∙ filter_cut (shows f) front p rest lit) in
    a
    ∙ sym (prev_place p (places (unignored (stitched f))) (filter (shows f) front) (filter (shows f) rest) whole (filter_clear p (shows f) front c.clear)
    ∙ ahead_climbs level.steps (8 - n) n f p level.first (first_hangs_nowhere f level.first level.is_first) level.climbs (let k = level.sum in omega (arith, k)))
