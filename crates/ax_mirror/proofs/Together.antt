-- What the parts of one node's data make together.
use Rattle.std.proofs.Common.{◌≡◌, ℕ, suc, Bool, true, false, cond, not, ◌&&◌, ◌||◌, eqb, List, [], ◌∷◌, reverse, Option, Some, None, Ok, Err, refl, sym, ap, subst, ◌∙◌, arith}
use Rattle.std.specs.Prelude.{is_some, option_map}
use Rattle.std.specs.FinMap as map
use Rattle.std.proofs.lemmas.Bool.{eqb-true, false_from_ne_true, false≢true}
use Rattle.std.proofs.lemmas.Bool.Decides.{eqb_tells}
use Rattle.ax_node.specs.Look.{Look, look_of}
use Rattle.ax_node.specs.declared.node.NodeData.{NodeData}
use Rattle.ax_trees.specs.Trees.{Trees, bare, tree, has, has_root, roots, IsDistinct}
use Rattle.ax_trees.specs.Nodes.{Node, node_at, below, root_below, root_known}
use Rattle.ax_trees.specs.Changes.{with_node}
use Rattle.ax_trees.specs.Lists.{contains, first_that}
use Rattle.ax_trees.specs.Spots.{Stands}
use Rattle.ax_trees.proofs.Trees.{by_go, contains_roots, distinct_below, below_in, root_in}
use Rattle.ax_trees.proofs.Nodes.{node_below}
use Rattle.ax_trees.proofs.Changed.{outside, has_with_node, with_node_from, distinct_with_node, has_with_node_more, has_with_node_in, has_with_node_cases, roots-with_node}
use Rattle.ax_trees.proofs.Grown.{node_none, node_some}
use Rattle.ax_trees.proofs.Lists.{first_that_ext}
use Rattle.ax_tree.specs.UpdateRule.{only, arranged, first_repeated, bad_child, draft_node}
use Rattle.ax_tree.specs.Tree.{as_node}
use Rattle.ax_tree.specs.declared.update.Refusal.TheVariants.{NotInTree, DuplicateChild, Reparented}
use Rattle.ax_tree.proofs.Arranged.{arranged_from, only_in, distinct_arranged}
use Rattle.ax_tree.proofs.NodeSteps.{stands_step, only_below, only_root}
use Rattle.ax_mirror.specs.declared.entries.Entry.{Entry}
use Rattle.ax_mirror.specs.Placed.{Nodes, look, place, told_node, told_place, pending_entry}
use Rattle.ax_mirror.specs.Kept.{Hung, KeepsDraft}
use Rattle.ax_mirror.specs.Steps.{unlisted, TellsNodes, is_elsewhere, taken}
use Rattle.ax_mirror.proofs.Looks.{map_cond, is_some-map}
use Rattle.ax_mirror.proofs.Hangs.{hung_below, hung_with, hung_arranged}
use Rattle.ax_tree.proofs.Taken.{twice_apart, none_that, not_seen}
use Rattle.ax_pages.proofs.TableLemmas.{none_anyway}

abbrev Drafted : Type 0
Drafted = Trees (Option Look)

-- the trees whose roots aren't listed
abbrev pub leave : Drafted → List ℕ → Drafted
leave bare cs = bare
leave (tree i e k r) cs = cond (contains cs i) (leave r cs) (tree i e k (leave r cs))

roots-leave : (k : Drafted) (cs : List ℕ) → roots (leave k cs) ≡ unlisted (contains cs) (roots k)
roots-leave bare cs = refl
roots-leave (tree i e k r) cs =
    by_go (contains cs i)
    (λ q. rw q (roots-leave r cs))
    (λ q. rw q (ap (λ js. i ∷ js) (roots-leave r cs)))

leave_in : (k : Drafted) (cs : List ℕ) (z : ℕ) → has (leave k cs) z ≡ true → has k z ≡ true
leave_in bare cs z h = h
leave_in (tree i e k r) cs z h = grind (arith, h, leave_in r cs z)

leave_only : (k : Drafted) (cs : List ℕ) (z : ℕ) → IsDistinct k → has (leave k cs) z ≡ true → has (only k cs) z ≡ false
leave_only bare cs z d h = refl
leave_only (tree i e k r) cs z d h =
    grind (arith, h, eqb_tells i z, d.0, d.1, d.2.apart z, leave_in r cs z, only_in r cs z, leave_only r cs z d.4)

leave_or_only : (k : Drafted) (cs : List ℕ) (z : ℕ) → has k z ≡ true → (has (leave k cs) z || has (only k cs) z) ≡ true
leave_or_only bare cs z h = h
leave_or_only (tree i e k r) cs z h = grind (arith, h, leave_or_only r cs z)

distinct_leave : (k : Drafted) (cs : List ℕ) → IsDistinct k → IsDistinct (leave k cs)
distinct_leave bare cs d = tt
distinct_leave (tree i e k r) cs d =
    by_go (contains cs i)
    (λ q. rw q (distinct_leave r cs d.4))
    (λ q. rw q (
      d.0,
      false_from_ne_true (has (leave r cs) i) (λ g. grind (arith, leave_in r cs i g, d.1)),
      record { apart = λ z t. false_from_ne_true (has (leave r cs) z) (λ g. grind (arith, leave_in r cs z g, d.2.apart z t)) },
      d.3,
      distinct_leave r cs d.4,
    ))

node_leave : (k : Drafted) (cs : List ℕ) (z : ℕ) → IsDistinct k → has (leave k cs) z ≡ true → node_at (leave k cs) z ≡ node_at k z
node_leave bare cs z d h = refl
node_leave (tree i e k r) cs z d h =
    by_go (contains cs i)
    (λ q. let h' : has (leave r cs) z ≡ true = rw q at h in
    let a : has r z ≡ true = leave_in r cs z h' in
    let no : eqb i z ≡ false = grind (arith, eqb_tells i z, d.1, a) in
    let no' : has k z ≡ false = false_from_ne_true (has k z) (λ g. grind (arith, d.2.apart z g, a)) in
    rw (q, no, no') (node_leave r cs z d.4 h'))
    (λ q. rw q (by_go (eqb i z)
    (λ a. rw a refl)
    (λ a. by_go (has k z)
    (λ b. rw (a, b) refl)
    (λ b. rw (a, b) (node_leave r cs z d.4 (let h' : (eqb i z || (has k z || has (leave r cs) z)) ≡ true = rw q at h in grind (arith, h', a, b)))))))

pub stays : (w : Drafted) (y z : ℕ) (e : Option Look) → has w z ≡ true → has (below w y) z ≡ false → has (with_node w y e bare) z ≡ true
stays bare y z e h n = h
stays (tree i a k r) y z e h n = grind (arith, h, n, stays k y z e, stays r y z e)

-- what stays is what isn't taken out
kept_is : (w : Drafted) (y : ℕ) (e : Option Look) (cs : List ℕ) (z : ℕ) → IsDistinct w → has w y ≡ true → has w z ≡ true → has (with_node w y e (only (below w y) cs)) z ≡ not (has (leave (below w y) cs) z)
kept_is w y e cs z d h t =
    by_go (has (leave (below w y) cs) z)
    (λ q. let under : has (below w y) z ≡ true = leave_in (below w y) cs z q in
    let no : has (only (below w y) cs) z ≡ false = leave_only (below w y) cs z (distinct_below w y d) q in
    let no' : has (with_node w y e bare) z ≡ false = outside w y e z d h under in
    rw q (false_from_ne_true (has (with_node w y e (only (below w y) cs)) z) (λ g. grind (arith, has_with_node_cases w y e (only (below w y) cs) z g, no, no'))))
    (λ q. rw q (by_go (has (below w y) z)
    (λ b. has_with_node_in w y e (only (below w y) cs) z h (grind (arith, leave_or_only (below w y) cs z b, q)))
    (λ b. has_with_node_more w y e (only (below w y) cs) z (stays w y z e t b))))

kept_there : (w : Drafted) (y : ℕ) (e : Option Look) (cs : List ℕ) (z : ℕ) → has (with_node w y e (only (below w y) cs)) z ≡ true → has w z ≡ true
kept_there w y e cs z h = grind (arith, with_node_from w y e (only (below w y) cs) z h, only_in (below w y) cs z, below_in w y z)

turned : {X : Type 0} (b : Bool) (o : Option X) → cond b None o ≡ cond (not b) o None
turned true o = refl
turned false o = refl

pub node_children : (w : Drafted) (y : ℕ) → has w y ≡ true → option_map (λ d. d.children) (node_at w y) ≡ Some (roots (below w y))
node_children bare y h = absurd (false≢true h)
node_children (tree i e k r) y h =
    by_go (eqb i y)
    (λ q. rw q refl)
    (λ q. by_go (has k y)
    (λ b. rw (q, b) (node_children k y b))
    (λ b. rw (q, b) (node_children r y (grind (arith, h, q, b)))))

root_known_only : (f : Option Look) (k : Drafted) (all : List ℕ) (c : ℕ) → contains all c ≡ true → root_known f (only k all) c ≡ root_known f k c
root_known_only f bare all c h = refl
root_known_only f (tree i e k r) all c h =
    by_go (contains all i)
    (λ q. rw q (ap (cond (eqb i c) e) (root_known_only f r all c h)))
    (λ q. let no : eqb i c ≡ false = false_from_ne_true (eqb i c) (λ g. let t : contains all i ≡ true = subst (λ j. contains all j ≡ true) (sym (eqb-true i c g)) h in false≢true (sym q ∙ t)) in
    rw (q, no) (root_known_only f r all c h))

root_below_only : (k : Drafted) (all : List ℕ) (c : ℕ) → contains all c ≡ true → root_below (only k all) c ≡ root_below k c
root_below_only bare all c h = refl
root_below_only (tree i e k r) all c h =
    by_go (contains all i)
    (λ q. rw q (ap (cond (eqb i c) k) (root_below_only r all c h)))
    (λ q. let no : eqb i c ≡ false = false_from_ne_true (eqb i c) (λ g. let t : contains all i ≡ true = subst (λ j. contains all j ≡ true) (sym (eqb-true i c g)) h in false≢true (sym q ∙ t)) in
    rw (q, no) (root_below_only r all c h))

arranged_only : (f : Option Look) (cs all : List ℕ) (k : Drafted) → ((z : ℕ) → contains cs z ≡ true → contains all z ≡ true) → arranged f cs (only k all) ≡ arranged f cs k
arranged_only f [] all k h = refl
arranged_only f (c ∷ cs) all k h =
    let c' : contains all c ≡ true = h c (grind (arith, eqb_tells c c)) in
    rw (root_known_only f k all c c', root_below_only k all c c', arranged_only f cs all k (λ z t. h z (grind (arith, t)))) refl

distinct_only : (k : Drafted) (cs : List ℕ) → IsDistinct k → IsDistinct (only k cs)
distinct_only bare cs d = tt
distinct_only (tree i e k r) cs d =
    by_go (contains cs i)
    (λ q. rw q (
      d.0,
      false_from_ne_true (has (only r cs) i) (λ g. grind (arith, only_in r cs i g, d.1)),
      record { apart = λ z t. false_from_ne_true (has (only r cs) z) (λ g. grind (arith, only_in r cs z g, d.2.apart z t)) },
      d.3,
      distinct_only r cs d.4,
    ))
    (λ q. rw q (distinct_only r cs d.4))

root_of_only : (k : Drafted) (cs : List ℕ) (z : ℕ) → contains cs z ≡ true → has_root k z ≡ true → has_root (only k cs) z ≡ true
root_of_only bare cs z c h = h
root_of_only (tree i e k r) cs z c h =
    by_go (eqb i z)
    (λ q. let c' : contains cs i ≡ true = subst (λ y. contains cs y ≡ true) (sym (eqb-true i z q)) c in grind (arith, q, c'))
    (λ q. grind (arith, h, q, root_of_only r cs z c))

-- a leaf for each id
abbrev leaves : List ℕ → Drafted
leaves [] = bare
leaves (c ∷ cs) = tree c None bare (leaves cs)

has_leaves : (cs : List ℕ) (z : ℕ) → has (leaves cs) z ≡ contains cs z
has_leaves [] z = refl
has_leaves (c ∷ cs) z = grind (arith, has_leaves cs z)

root_leaves : (cs : List ℕ) (z : ℕ) → has_root (leaves cs) z ≡ contains cs z
root_leaves [] z = refl
root_leaves (c ∷ cs) z = grind (arith, root_leaves cs z)

roots-leaves : (cs : List ℕ) → roots (leaves cs) ≡ cs
roots-leaves [] = refl
roots-leaves (c ∷ cs) = ap (λ js. c ∷ js) (roots-leaves cs)

distinct_leaves : (seen cs : List ℕ) → first_repeated seen cs ≡ None → IsDistinct (leaves cs)
distinct_leaves seen [] h = tt
distinct_leaves seen (c ∷ cs) h =
    let n = not_seen _ _ _ h in (
      refl,
      has_leaves cs c ∙ twice_apart (c ∷ seen) cs c n.1 (grind (arith, eqb_tells c c)),
      record { apart = λ z t. absurd (false≢true t) },
      tt,
      distinct_leaves (c ∷ seen) cs n.1,
    )

pub not_there : (m : Nodes) (y : ℕ) (w : Drafted) → None ≡ map.get m y → Stands (look m) w → has w y ≡ false
not_there m y w h st = false_from_ne_true (has w y) (λ t. let s = node_some w y t in let e : look m y ≡ None = ap (option_map told_node) (sym h) in let f : look m y ≡ Some s.0 = st.at y ∙ s.1 in absurd (cc))

pub is_there : (m : Nodes) (y : ℕ) (e : Entry) (w : Drafted) → Some e ≡ map.get m y → Stands (look m) w → has w y ≡ true
is_there m y e w h st =
    by_go (has w y) (λ q. q) (λ q. let n : look m y ≡ None = st.at y ∙ node_none w y q in absurd (let t : look m y ≡ Some (told_node e) = ap (option_map told_node) (sym h) in cc))

pub refused_absent : (m : Nodes) (u : NodeData) (w : Drafted) → None ≡ map.get m u.id → Stands (look m) w → taken w u ≡ Err (NotInTree u.id)
refused_absent m u w h st = let n = not_there m u.id w h st in rw n refl

abbrev given : NodeData → Option Look
given u = Some (look_of u)

-- what an accepted node's data make
abbrev pub with_next : Drafted → NodeData → Drafted
with_next w u = with_node w u.id (given u) (arranged None u.children (below w u.id))

module _ (m : Nodes) (u : NodeData) (e : Entry) (there : Some e ≡ map.get m u.id) (root : Option ℕ) (w : Drafted) (kp : KeepsDraft m root w) where
  d : IsDistinct w
  d = kp.distinct

  st : Stands (look m) w
  st = kp.stands

  there_at : look m u.id ≡ Some (told_node e)
  there_at = ap (option_map told_node) (sym there)

  has_y : has w u.id ≡ true
  has_y = is_there m u.id e w there kp.stands

  below_are : e.node.children ≡ roots (below w u.id)
  below_are =
      let a : ◌≡◌ {A = Option (List ℕ)} (Some e.node.children) (Some (roots (below w u.id))) =
      ap (option_map (λ (x : Node (Option Look)). x.children)) (sym there_at ∙ st.at u.id) ∙ node_children w u.id has_y in
      cc

  pub refused_twice : (c : ℕ) → first_repeated [] u.children ≡ Some c → taken w u ≡ Err (DuplicateChild c)
  refused_twice c h = rw (has_y, h) refl

  pub tells_leave : TellsNodes m (leave (below w u.id) u.children)
  tells_leave = record {
    apart = distinct_leave (below w u.id) u.children (distinct_below w u.id d);
    told = λ z h.
        let under = leave_in (below w u.id) u.children z h in
        st.at z ∙ sym (node_below w u.id z d under) ∙ sym (node_leave (below w u.id) u.children z (distinct_below w u.id d) h);
  }

  pub tops_leave : (gone : List ℕ) → reverse gone ≡ unlisted (contains u.children) e.node.children → roots (leave (below w u.id) u.children) ≡ reverse gone
  tops_leave gone t = roots-leave (below w u.id) u.children ∙ ap (unlisted (contains u.children)) (sym below_are) ∙ sym t

  module _ (old : ℕ → Bool) (olds : (z : ℕ) → old z ≡ contains e.node.children z) (n : Nodes) (out : (z : ℕ) → map.get n z ≡ cond (has (leave (below w u.id) u.children) z) None (map.get m z)) where
    old_root : (z : ℕ) → old z ≡ has_root (below w u.id) z
    old_root z = olds z ∙ ap (λ js. contains js z) below_are ∙ contains_roots (below w u.id) z

    stays_at : (z : ℕ) → map.get n z ≡ cond (has (with_node w u.id (given u) (only (below w u.id) u.children)) z) (map.get m z) None
    stays_at z = out z ∙ by_go (has w z)
        (λ q. turned (has (leave (below w u.id) u.children) z) (map.get m z) ∙ ap (λ b. cond b (map.get m z) None) (sym (kept_is w u.id (given u) u.children z d has_y q)))
        (λ q. let none : map.get m z ≡ None = absent z q in rw none (none_anyway (has (leave (below w u.id) u.children) z) ∙ sym (none_anyway (has (with_node w u.id (given u) (only (below w u.id) u.children)) z))))
      where
        no_entry : (o : Option Entry) → ◌≡◌ {A = Option (Node (Option Look))} (option_map told_node o) None → ◌≡◌ {A = Option Entry} o None
        no_entry None h = refl
        no_entry (Some x) h = absurd (cc)

        absent : (z : ℕ) → has w z ≡ false → map.get m z ≡ None
        absent z q = no_entry (map.get m z) (st.at z ∙ node_none w z q)

    look_stays : (z : ℕ) → look n z ≡ cond (has (with_node w u.id (given u) (only (below w u.id) u.children)) z) (look m z) None
    look_stays z = ap (option_map told_node) (stays_at z) ∙ map_cond told_node (has (with_node w u.id (given u) (only (below w u.id) u.children)) z) (map.get m z) None

    is_kept : (z : ℕ) → is_some (map.get n z) ≡ has (with_node w u.id (given u) (only (below w u.id) u.children)) z
    is_kept z = sym (is_some-map told_node (map.get n z)) ∙ ap is_some (look_stays z) ∙ by_go (has (with_node w u.id (given u) (only (below w u.id) u.children)) z)
        (λ q. let s = node_some w z (kept_there w u.id (given u) u.children z q) in rw q (ap is_some (st.at z ∙ s.1)))
        (λ q. rw q refl)

    same_bad : (z : ℕ) → is_elsewhere n old z ≡ bad_child (λ z. false) w (draft_node (as_node u)) z
    same_bad z = ap (λ b. not b && is_some (map.get n z)) (old_root z) ∙ ap (λ b. not (has_root (below w u.id) z) && b) (is_kept z)

    pub is_refused : (c : ℕ) → first_repeated [] u.children ≡ None → Some c ≡ first_that (is_elsewhere n old) u.children → taken w u ≡ Err (Reparented c)
    is_refused c once bad =
        let b : first_that (bad_child (λ z. false) w (draft_node (as_node u))) u.children ≡ Some c = sym (first_that_ext _ _ u.children same_bad) ∙ sym bad in
        rw (has_y, once, b) refl

    pub is_accepted : first_repeated [] u.children ≡ None → None ≡ first_that (is_elsewhere n old) u.children → taken w u ≡ Ok (with_node w u.id (given u) (arranged None u.children (below w u.id)))
    is_accepted once bad =
        let b : first_that (bad_child (λ z. false) w (draft_node (as_node u))) u.children ≡ None = sym (first_that_ext _ _ u.children same_bad) ∙ sym bad in
        rw (has_y, once, b) refl

    module _ (once : first_repeated [] u.children ≡ None) (bad : None ≡ first_that (is_elsewhere n old) u.children) where
      good : (z : ℕ) → contains u.children z ≡ true → has_root (below w u.id) z ≡ false → has (with_node w u.id (given u) (only (below w u.id) u.children)) z ≡ false
      good z c t =
          let b : bad_child (λ z. false) w (draft_node (as_node u)) z ≡ false = none_that _ u.children z (sym (first_that_ext _ _ u.children same_bad) ∙ sym bad) c in
          rw t at b

      pub is_apart : IsDistinct (with_node w u.id (given u) (arranged None u.children (below w u.id)))
      is_apart =
          let kk : Drafted = only (below w u.id) u.children in
          let dp : IsDistinct (arranged None (roots (leaves u.children)) kk) = distinct_arranged None (leaves u.children) kk (distinct_leaves [] u.children once) (distinct_only (below w u.id) u.children (distinct_below w u.id d))
          (λ z t h. let c : contains u.children z ≡ true = sym (root_leaves u.children z) ∙ t in
          by_go (has_root (below w u.id) z)
          (λ q. root_of_only (below w u.id) u.children z c q)
          (λ q. absurd (false≢true (sym (good z c q) ∙ has_with_node_in w u.id (given u) kk z has_y h)))) in
          let dq : IsDistinct (arranged None u.children (below w u.id)) = subst (λ v. IsDistinct v) (ap (λ js. arranged None js kk) (roots-leaves u.children) ∙ arranged_only None u.children u.children (below w u.id) (λ z c. c)) dp in
          distinct_with_node w u.id (given u) (arranged None u.children (below w u.id)) d has_y dq
          (λ z h. by_go (has (below w u.id) z)
          (λ q. outside w u.id (given u) z d has_y q)
          (λ q. let c : contains u.children z ≡ true = grind (arith, arranged_from None u.children (below w u.id) z h, q) in
          let t : has_root (below w u.id) z ≡ false = false_from_ne_true (has_root (below w u.id) z) (λ g. false≢true (sym q ∙ root_in (below w u.id) z g)) in
          false_from_ne_true (has (with_node w u.id (given u) bare) z) (λ g. false≢true (sym (good z c t) ∙ has_with_node_more w u.id (given u) kk z g))))

      module _ (n2 n3 : Nodes) (to : Entry)
          (placed : (z : ℕ) → map.get n2 z ≡ cond (contains u.children z && not (old z)) (Some (pending_entry (Some u.id) (suc e.level) z)) (map.get n z))
          (written : (z : ℕ) → map.get n3 z ≡ cond (eqb u.id z) (Some to) (map.get n2 z))
          (told : told_node to ≡ draft_node (as_node u)) (stood : told_place to ≡ told_place e) where
        datum : ℕ → Node (Option Look)
        datum j = record { id = j; known = given u; children = u.children }

        fresh_node : ℕ → Option (Node (Option Look))
        fresh_node z = Some (record { id = z; known = None; children = [] })

        placed_at : (z : ℕ) → map.get n2 z ≡ cond (contains u.children z && not (has_root (below w u.id) z)) (Some (pending_entry (Some u.id) (suc e.level) z)) (cond (has (with_node w u.id (given u) (only (below w u.id) u.children)) z) (map.get m z) None)
        placed_at z = placed z ∙ ap (λ b. cond (contains u.children z && not b) (Some (pending_entry (Some u.id) (suc e.level) z)) (map.get n z)) (old_root z) ∙ ap (cond (contains u.children z && not (has_root (below w u.id) z)) (Some (pending_entry (Some u.id) (suc e.level) z))) (stays_at z)

        look_placed : (z : ℕ) → look n2 z ≡ cond (contains u.children z && not (has_root (below w u.id) z)) (fresh_node z) (cond (has (with_node w u.id (given u) (only (below w u.id) u.children)) z) (look m z) None)
        unfolding fresh_node
        look_placed z = ap (option_map told_node) (placed_at z) ∙ map_cond told_node (contains u.children z && not (has_root (below w u.id) z)) (Some (pending_entry (Some u.id) (suc e.level) z)) (cond (has (with_node w u.id (given u) (only (below w u.id) u.children)) z) (map.get m z) None)
            ∙ ap (cond (contains u.children z && not (has_root (below w u.id) z)) (fresh_node z)) (map_cond told_node (has (with_node w u.id (given u) (only (below w u.id) u.children)) z) (map.get m z) None)

        look_written : (z : ℕ) → look n3 z ≡ cond (eqb u.id z) (Some (datum u.id)) (look n2 z)
        unfolding datum
        look_written z = ap (option_map told_node) (written z) ∙ map_cond told_node (eqb u.id z) (Some to) (map.get n2 z) ∙ ap (λ (x : Node (Option Look)). cond (eqb u.id z) (Some x) (look n2 z)) told

        is_standing : Stands (look n3) (with_node w u.id (given u) (arranged None u.children (below w u.id)))
        unfolding datum fresh_node
        is_standing = record {
          at = λ z. look_written z ∙ ap (cond (eqb u.id z) (Some (datum u.id))) (look_placed z) ∙ (stands_step None (look m) w (draft_node (as_node u)) d st has_y good).at z;
        }

        -- what is kept has its place still
        place_kept : (z : ℕ) → has (with_node w u.id (given u) (only (below w u.id) u.children)) z ≡ true → place n3 z ≡ place m z
        place_kept z h = by_go (eqb u.id z)
            (λ q. ap (option_map told_place) (written z ∙ ap (λ b. cond b (Some to) (map.get n2 z)) q) ∙ ap (λ x. Some x) stood ∙ ap (option_map told_place) (there ∙ ap (map.get m) (eqb-true u.id z q)))
            (λ q. ap (option_map told_place) (written z ∙ ap (λ b. cond b (Some to) (map.get n2 z)) q ∙ placed_at z ∙ by_go (contains u.children z && not (has_root (below w u.id) z))
            (λ b. let p : (contains u.children z ≡ true) × (has_root (below w u.id) z ≡ false) = grind (arith, b) in absurd (false≢true (sym (good z p.0 p.1) ∙ h)))
            (λ b. rw (b, h) refl)))

        here : place m u.id ≡ Some (e.above, e.level)
        here = ap (option_map told_place) (sym there)

        place_new : (z : ℕ) → contains u.children z ≡ true → has_root (below w u.id) z ≡ false → place n3 z ≡ Some (Some u.id, suc e.level)
        place_new z c t =
            let no : eqb u.id z ≡ false = false_from_ne_true (eqb u.id z) (λ q. false≢true (sym (good z c t) ∙ subst (λ y. has (with_node w u.id (given u) (only (below w u.id) u.children)) y ≡ true) (eqb-true u.id z q) (has_with_node w u.id (given u) (only (below w u.id) u.children) has_y))) in
            ap (option_map told_place) (written z ∙ ap (λ b. cond b (Some to) (map.get n2 z)) no ∙ placed_at z) ∙ rw (c, t) refl

        is_hung : Hung (place n3) None 1 (with_node w u.id (given u) (arranged None u.children (below w u.id)))
        is_hung =
            hung_with (place m) (place n3) None 1 w u.id e.above e.level (given u) (arranged None u.children (below w u.id)) kp.hung has_y here
            (λ z o. place_kept z (has_with_node_more w u.id (given u) (only (below w u.id) u.children) z o))
            (hung_arranged (place m) (place n3) (Some u.id) (suc e.level) None u.children (below w u.id)
            (hung_below (place m) None 1 w u.id e.above e.level kp.hung has_y here)
            place_new
            (λ z c t. place_kept z (has_with_node_in w u.id (given u) (only (below w u.id) u.children) z has_y (only_root (below w u.id) u.children z c t)))
            (λ x z c h. place_kept z (has_with_node_in w u.id (given u) (only (below w u.id) u.children) z has_y (only_below (below w u.id) u.children x z c h))))

        pub keeps_on : KeepsDraft n3 root (with_node w u.id (given u) (arranged None u.children (below w u.id)))
        keeps_on = record {
          distinct = is_apart;
          tops = roots-with_node w u.id (given u) (arranged None u.children (below w u.id)) ∙ kp.tops;
          stands = is_standing;
          hung = is_hung;
        }
