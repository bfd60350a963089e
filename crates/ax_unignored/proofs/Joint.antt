-- A node's joined tree: its place, and what stands below it.
use Rattle.std.proofs.Common.{ℕ, zero, suc, ◌+◌, ◌-◌, ◌<◌, ◌≤◌, ◌≡◌, Bor, Bool, true, false, not, ◌||◌, ◌&&◌, flat_map, List, [], ◌∷◌, ◌++◌, length, take, get_or, Option, Some, None, refl, sym, ap, ◌∙◌, subst, arith, append_assoc, append-nil, option_map, option_and_then}
use Rattle.std.specs.Prelude.{if◌then◌else◌}
use Rattle.std.specs.Option.{option_copied}
use Rattle.ax_base.specs.declared.position.Place.{Place}
use Rattle.ax_node.specs.Look.{Look, look_of}
use Rattle.ax_node.specs.declared.node.NodeData.{NodeData}
use Rattle.ax_trees.specs.Trees.{Trees, bare, tree, has, roots, root_of}
use Rattle.ax_trees.specs.Nodes.{Node, node_at, below, children}
use Rattle.ax_trees.specs.Lists.{is_nil}
use Rattle.ax_trees.proofs.Trees.{by_go}
use Rattle.ax_trees.proofs.Nodes.{tree_at_is}
use Rattle.ax_tree.specs.Tree.{Tree, node, as_node}
use Rattle.ax_tree.specs.Forest.{Forest, IsSound, live_tree, hosted_by}
use Rattle.ax_rules.specs.Looks.{name_text}
use Rattle.ax_rules.specs.Stitched.{place_at, stitched, has_place}
use Rattle.ax_rules.specs.StitchedTree.{PlacedLook, place_number, beside, joined_in, joined_of, joined_at, joined_from}
use Rattle.ax_rules.specs.Unignored.{is_shown_place, shown_children, shown_text}
use Rattle.ax_stitch.specs.Levels.{levels_below, root_at, hung_root}
use Rattle.ax_stitch.proofs.Sound.{sound_tree}
use Rattle.ax_stitch.proofs.Parts.{child_parts, whole_tree}
use Rattle.ax_stitch.proofs.Hung.{hung_is, hung_rooted, hung_lone}
use Rattle.ax_stitch.proofs.Places.{node_in}
use Rattle.ax_stitch.proofs.Corners.{node_of_told}
use Rattle.ax_unignored.specs.Shows.{is_lit}
use Rattle.ax_unignored.specs.Tops.{tops, texts, hung_tree, joint, tops_at, texts_at, has_shown_at, joint_in, joint_below, tops_below}
use Rattle.ax_unignored.proofs.Found.{flat_more, flat_all}
use Rattle.ax_unignored.proofs.Subs.{sub_is}
use Rattle.ax_unignored.proofs.Tops.{inner_of, children_are}
use Rattle.ax_unignored.proofs.Leaves.{text_is}

-- the node that a body has read
pub record IsJoint (n : ℕ) (f : Forest) (p : Place) (m : Tree) (x : Look) : Type 0 where
  pub form : joint n f p.tree m.trees p.node ≡ tree (place_number p) (record { place = p; look = x }) (joint_below n f p) bare

joint_look : (n : ℕ) (f : Forest) (p : Place) (m : Tree) → Some m ≡ live_tree f p.tree → has m.trees p.node ≡ true
    → (x : Look) × IsJoint n f p m x × (node_at m.trees p.node ≡ Some (record { id = p.node; known = x; children = roots (below m.trees p.node) }))
joint_look n f p m l h =
    let a = tree_at_is m.trees p.node h in (
      a.0,
      record { form = ap (joined_in (hung_tree n f) p.tree) a.1 ∙ ap (λ o. tree (place_number p) (record { place = p; look = a.0 }) (joint_in n f p o) bare) l },
      a.2,
    )

pub joint_is : (n : ℕ) (f : Forest) (p : Place) (m : Tree) (r : Option (Bor NodeData)) (b : Bor NodeData) → Some m ≡ live_tree f p.tree → has m.trees p.node ≡ true → option_copied r ≡ node m p.node → r ≡ Some b
    → IsJoint n f p m (look_of b.now)
joint_is n f p m r b l h e s =
    let j = joint_look n f p m l h in
    let both : ◌≡◌ {A = Option (Node Look)} (Some (record { id = p.node; known = j.0; children = roots (below m.trees p.node) })) (Some (as_node b.now)) = sym j.2 ∙ node_of_told m p.node r b e s in
    let same : ◌≡◌ {A = Node Look} (record { id = p.node; known = j.0; children = roots (below m.trees p.node) }) (as_node b.now) = cc in
    subst (IsJoint n f p m) (ap (λ (v : Node Look). v.known) same) j.1

-- ---- what stands below

beside-bare : (a : Trees PlacedLook) → beside a bare ≡ a
beside-bare bare = refl
beside-bare (tree i x k r) = ap (tree i x k) (beside-bare r)

none_hangs : (n : ℕ) (f : Forest) (p : Place) → None ≡ hung_root n f p → hung_tree n f p ≡ bare
none_hangs zero f p h = go (hosted_by f p)
  where
    go : (o : Option ℕ) → joined_at (joined_from zero f) o ≡ bare
    go None = refl
    go (Some c) = refl
none_hangs (suc n) f p h = go (hosted_by f p) h
  where
    root : (c : ℕ) (w : Trees Look) → None ≡ option_map (place_at c) (root_of w) → joined_in (hung_tree n f) c w ≡ bare
    root c bare k = refl
    root c (tree i x a b) k = absurd (cc)

    live : (c : ℕ) (o : Option Tree) → None ≡ option_and_then (λ (m : Tree). option_map (place_at c) (root_of m.trees)) o → joined_of (hung_tree n f) c o ≡ bare
    live c None k = refl
    live c (Some m) k = root c m.trees k

    go : (o : Option ℕ) → None ≡ option_and_then (root_at f) o → joined_at (joined_from (suc n) f) o ≡ bare
    go None k = refl
    go (Some c) k = live c (live_tree f c) k

one_hangs : (n : ℕ) (f : Forest) (p q : Place) (h : Tree) → IsSound f → Some q ≡ hung_root n f p → Some h ≡ live_tree f q.tree → hung_tree n f p ≡ joint (n - 1) f q.tree h.trees q.node
one_hangs n f p q h s e l =
    let i = hung_is n f p q e in
    let t = sound_tree f q.tree h s (sym l) in
    let less : i.less ≡ n - 1 = let a = i.levels in omega (arith, a) in
    ap (λ k. hung_tree k f p) i.levels
    ∙ (ap (joined_at (joined_from (suc i.less) f)) i.hosted
    ∙ (ap (joined_of (hung_tree i.less f) q.tree) (sym l)
    ∙ (ap (λ k. joined_in (hung_tree k f) q.tree h.trees) less ∙ ap (joined_in (hung_tree (n - 1) f) q.tree) (sym (whole_tree h.trees q.node t.one_root (hung_rooted n f p q h e l))))))

below_live : (n : ℕ) (f : Forest) (p : Place) (m : Tree) → Some m ≡ live_tree f p.tree → joint_below n f p ≡ beside (joined_in (hung_tree n f) p.tree (below m.trees p.node)) (hung_tree n f p)
below_live n f p m l = ap (joint_in n f p) (sym l)

no_roots : {X : Type 0} (w : Trees X) → roots w ≡ [] → w ≡ bare
no_roots bare e = refl
no_roots (tree i x a b) e = absurd (cc)

-- where a tree hangs, that tree
pub joint_lone : (n : ℕ) (f : Forest) (p q : Place) (m h : Tree) → IsSound f → Some m ≡ live_tree f p.tree → Some q ≡ hung_root n f p → Some h ≡ live_tree f q.tree → joint_below n f p ≡ joint (n - 1) f q.tree h.trees q.node
joint_lone n f p q m h s l e k =
    below_live n f p m l
    ∙ (ap (λ w. beside (joined_in (hung_tree n f) p.tree w) (hung_tree n f p)) (no_roots (below m.trees p.node) (hung_lone n f p q m s e l)) ∙ one_hangs n f p q h s e k)

-- elsewhere those of the children
pub joint_own : (n : ℕ) (f : Forest) (p : Place) (m : Tree) → Some m ≡ live_tree f p.tree → None ≡ hung_root n f p → joint_below n f p ≡ joined_in (hung_tree n f) p.tree (below m.trees p.node)
joint_own n f p m l e =
    below_live n f p m l ∙ (ap (beside (joined_in (hung_tree n f) p.tree (below m.trees p.node))) (none_hangs n f p e) ∙ beside-bare (joined_in (hung_tree n f) p.tree (below m.trees p.node)))

tops_parts : (n : ℕ) (f : Forest) (p : Place) (m : Tree) → IsSound f → Some m ≡ live_tree f p.tree → flat_map (tops_at n f p.tree m.trees) (children m.trees p.node) ≡ tops (joined_in (hung_tree n f) p.tree (below m.trees p.node))
tops_parts n f p m s l =
    child_parts (λ u. tops (joined_in (hung_tree n f) p.tree u)) refl (λ i x a b. ap (λ v. v ++ tops (joined_in (hung_tree n f) p.tree b)) (sym (append-nil _))) m.trees p.node (sound_tree f p.tree m s (sym l)).distinct

texts_parts : (n : ℕ) (f : Forest) (p : Place) (m : Tree) → IsSound f → Some m ≡ live_tree f p.tree → flat_map (texts_at n f p.tree m.trees) (children m.trees p.node) ≡ texts (joined_in (hung_tree n f) p.tree (below m.trees p.node))
texts_parts n f p m s l =
    child_parts (λ u. texts (joined_in (hung_tree n f) p.tree u)) refl (λ i x a b. regroup _ _ (texts (joined_in (hung_tree n f) p.tree b))) m.trees p.node (sound_tree f p.tree m s (sym l)).distinct
  where
    regroup : (a b c : List ℕ) → a ++ (b ++ c) ≡ (a ++ (b ++ [])) ++ c
    regroup a b c = ap (λ v. a ++ (v ++ c)) (sym (append-nil b)) ∙ sym (append_assoc a (b ++ []) c)

pub tops_lone : (n : ℕ) (f : Forest) (p q : Place) (m h : Tree) → IsSound f → Some m ≡ live_tree f p.tree → Some q ≡ hung_root n f p → Some h ≡ live_tree f q.tree → tops_below n f p ≡ tops_at (n - 1) f q.tree h.trees q.node
tops_lone n f p q m h s l e k = ap tops (joint_lone n f p q m h s l e k)

pub tops_own : (n : ℕ) (f : Forest) (p : Place) (m : Tree) → IsSound f → Some m ≡ live_tree f p.tree → None ≡ hung_root n f p → tops_below n f p ≡ flat_map (tops_at n f p.tree m.trees) (children m.trees p.node)
tops_own n f p m s l e = ap tops (joint_own n f p m l e) ∙ sym (tops_parts n f p m s l)

-- ---- the nearest shown places

pub tops_lit : (n : ℕ) (f : Forest) (p : Place) (m : Tree) (x : Look) → IsJoint n f p m x → is_lit x ≡ true → tops_at n f p.tree m.trees p.node ≡ p ∷ []
tops_lit n f p m x j e = ap tops j.form ∙ (rw e refl)

pub tops_dark : (n : ℕ) (f : Forest) (p : Place) (m : Tree) (x : Look) → IsJoint n f p m x → is_lit x ≡ false → tops_at n f p.tree m.trees p.node ≡ tops_below n f p
tops_dark n f p m x j e = ap tops j.form ∙ (rw e (append-nil (tops_below n f p)))

pub added_more : {A : Type 0} (s : ℕ → List A) (from now later : List A) (xs : List ℕ) (i c : ℕ) → i < length xs → c ≡ get_or xs i c → now ≡ from ++ flat_map s (take i xs) → later ≡ now ++ s c
    → later ≡ from ++ flat_map s (take (i + 1) xs)
added_more s from now later xs i c l g h k =
    k ∙ (ap (λ v. v ++ s c) h ∙ (append_assoc from (flat_map s (take i xs)) (s c) ∙ ap (λ v. from ++ v) (sym (flat_more s xs i c l g))))

pub added_all : {A : Type 0} (s : ℕ → List A) (from now : List A) (xs : List ℕ) (i : ℕ) → length xs ≤ i → now ≡ from ++ flat_map s (take i xs) → now ≡ from ++ flat_map s xs
added_all s from now xs i l h = h ∙ ap (λ v. from ++ v) (flat_all s xs i l)

pub kids_are : (f : Forest) (p : Place) (n : ℕ) (m : Tree) (found : List Place) → IsSound f → Some n ≡ levels_below 8 f p.tree → Some m ≡ live_tree f p.tree → has_place (stitched f) p ≡ true → is_shown_place (stitched f) p ≡ true
    → found ≡ tops_below n f p → found ≡ shown_children (stitched f) p
kids_are f p n m found s e l h v k =
    let there = node_in f p m h l in
    let j = joint_look n f p m l there in
    k ∙ sym (children_are f p s v ∙ (ap (λ u. tops (inner_of u)) (sub_is f p n m s e l there) ∙ ap (λ u. tops (inner_of u)) j.1.form))

-- ---- texts

no_texts : (t : Trees PlacedLook) → is_nil (tops t) ≡ true → texts t ≡ []
no_texts bare h = refl
no_texts (tree i x a b) h = by_go (is_lit x.look)
    (λ q. absurd (let e : false ≡ true = rw q at h in cc))
    (λ q. let parts = halves (tops a) (tops b) (rw q at h) in
    let inner = no_texts a parts.0 in
    let later = no_texts b parts.1 in
    rw q (rw (inner, later) refl))
  where
    halves : (xs ys : List Place) → is_nil (xs ++ ys) ≡ true → (is_nil xs ≡ true) × (is_nil ys ≡ true)
    halves [] ys e = (refl, e)
    halves (z ∷ xs) ys e = absurd (cc)

own_text : (t : Trees PlacedLook) (name : List ℕ) (lit : Bool) → (if lit && is_nil (tops t) then name else []) ++ texts t ≡ texts t ++ (if lit && is_nil (tops t) then name else [])
own_text t name lit = by_go (is_nil (tops t))
    (λ q. let n = no_texts t q in rw n (append-nil (if lit && is_nil (tops t) then name else [])))
    (λ q. rw q (never lit))
  where
    never : (lit : Bool) → (if lit && false then name else []) ++ texts t ≡ texts t ++ (if lit && false then name else [])
    never true = sym (append-nil (texts t))
    never false = sym (append-nil (texts t))

-- what a body has appended: the texts below, and then the node's own
pub texts_done : (n : ℕ) (f : Forest) (p : Place) (m : Tree) (x : Look) (from now later : List ℕ) (below : Bool) → IsJoint n f p m x → now ≡ from ++ texts (joint_below n f p) → below ≡ not (is_nil (tops (joint_below n f p)))
    → later ≡ now ++ (if is_lit x && not below then name_text x else []) → later ≡ from ++ texts_at n f p.tree m.trees p.node
texts_done n f p m x from now later below j h b k =
    let t = joint_below n f p in
    k ∙ (ap (λ v. v ++ (if is_lit x && not below then name_text x else [])) h
    ∙ (append_assoc from (texts t) (if is_lit x && not below then name_text x else [])
    ∙ ap (λ v. from ++ v) (ap (λ c. texts t ++ (if is_lit x && c then name_text x else [])) (ap not b ∙ twice (is_nil (tops t)))
    ∙ (sym (own_text t (name_text x) (is_lit x)) ∙ (ap (λ v. (if is_lit x && is_nil (tops t) then name_text x else []) ++ v) (sym (append-nil (texts t))) ∙ sym (ap texts j.form))))))
  where
    twice : (b : Bool) → not (not b) ≡ b
    twice true = refl
    twice false = refl

pub shown_done : (n : ℕ) (f : Forest) (p : Place) (m : Tree) (x : Look) (below shown : Bool) → IsJoint n f p m x → below ≡ not (is_nil (tops (joint_below n f p))) → shown ≡ (is_lit x || below)
    → shown ≡ has_shown_at n f p.tree m.trees p.node
shown_done n f p m x below shown j b k = k ∙ (ap (λ c. is_lit x || c) b ∙ sym (ap (λ t. not (is_nil (tops t))) j.form ∙ by_go (is_lit x) (λ q. rw q refl) (λ q. rw q (ap (λ v. not (is_nil v)) (append-nil (tops (joint_below n f p)))))))

pub texts_lone : (n : ℕ) (f : Forest) (p q : Place) (m h : Tree) → IsSound f → Some m ≡ live_tree f p.tree → Some q ≡ hung_root n f p → Some h ≡ live_tree f q.tree → texts (joint_below n f p) ≡ texts_at (n - 1) f q.tree h.trees q.node
texts_lone n f p q m h s l e k = ap texts (joint_lone n f p q m h s l e k)

pub texts_own : (n : ℕ) (f : Forest) (p : Place) (m : Tree) → IsSound f → Some m ≡ live_tree f p.tree → None ≡ hung_root n f p → texts (joint_below n f p) ≡ flat_map (texts_at n f p.tree m.trees) (children m.trees p.node)
texts_own n f p m s l e = ap texts (joint_own n f p m l e) ∙ sym (texts_parts n f p m s l)

-- whether any of the children's trees has a shown place
pub any_more : (s : ℕ → List Place) (now shown : Bool) (xs : List ℕ) (i c : ℕ) → i < length xs → c ≡ get_or xs i c → now ≡ not (is_nil (flat_map s (take i xs))) → shown ≡ not (is_nil (s c))
    → (now || shown) ≡ not (is_nil (flat_map s (take (i + 1) xs)))
any_more s now shown xs i c l g h k =
    (λ j. h j || k j) ∙ (join (flat_map s (take i xs)) (s c) ∙ ap (λ v. not (is_nil v)) (sym (flat_more s xs i c l g)))
  where
    join : (a b : List Place) → (not (is_nil a) || not (is_nil b)) ≡ not (is_nil (a ++ b))
    join [] b = refl
    join (x ∷ a) b = refl

pub text_of_place : (f : Forest) (p : Place) (n : ℕ) (m : Tree) (text : List ℕ) → IsSound f → Some n ≡ levels_below 8 f p.tree → Some m ≡ live_tree f p.tree → has_place (stitched f) p ≡ true
    → text ≡ texts_at n f p.tree m.trees p.node → text ≡ shown_text (stitched f) p
text_of_place f p n m text s e l h k = k ∙ sym (text_is f p s ∙ ap texts (sub_is f p n m s e l (node_in f p m h l)))
