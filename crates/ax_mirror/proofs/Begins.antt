-- What a cleared id and a new root leave.
use Rattle.std.proofs.Common.{◌≡◌, ◌⊎◌, ℕ, ◌≤◌, Bool, true, false, cond, ◌||◌, eqb, List, [], ◌∷◌, ◌++◌, length, reverse, Option, Some, None, refl, sym, ap, subst, ◌∙◌, arith}
use Rattle.std.specs.Prelude.{option_map, option_to_list}
use Rattle.std.specs.FinMap as map
use Rattle.std.specs.Ordering.{nat_cmp}
use Rattle.std.proofs.lemmas.Bool.{eqb-true, false_from_ne_true, false≢true}
use Rattle.std.proofs.lemmas.Bool.Decides.{eqb_tells}
use Rattle.std.proofs.lemmas.List.{reverse-append, reverse-reverse}
use Rattle.ax_node.specs.Look.{Look}
use Rattle.ax_trees.specs.Trees.{Trees, bare, tree, has, roots, is_root}
use Rattle.ax_trees.specs.Nodes.{Node, node_at, below}
use Rattle.ax_trees.specs.Changes.{with_node}
use Rattle.ax_trees.specs.Lists.{contains}
use Rattle.ax_trees.specs.Spots.{Stands}
use Rattle.ax_trees.proofs.Trees.{by_go, distinct_below}
use Rattle.ax_trees.proofs.Nodes.{node_below}
use Rattle.ax_trees.proofs.Changed.{outside, with_node_other, distinct_with_node, roots-with_node, node_with_node_same, node_with_node_outside}
use Rattle.ax_trees.proofs.Grown.{node_none}
use Rattle.ax_tree.specs.UpdateRule.{started, cleared}
use Rattle.ax_mirror.specs.declared.entries.Entry.{Entry}
use Rattle.ax_mirror.specs.declared.draft.Draft.{Draft}
use Rattle.ax_tree.specs.Touching.{with_id}
use Rattle.ax_mirror.specs.Placed.{Nodes, look, place, told_node, told_place, pending_entry}
use Rattle.ax_mirror.specs.Kept.{KeepsDraft}
use Rattle.ax_mirror.specs.Steps.{TellsNodes, Tracked, Makes, Unmade, TakesOut, PutsPending}
use Rattle.ax_mirror.specs.Begins.{root_is, anew_of, TouchesAll}
use Rattle.ax_mirror.proofs.Looks.{get_insert}
use Rattle.ax_mirror.proofs.Lists.{contains_with, length_new, length_old}
use Rattle.ax_mirror.proofs.Hangs.{hung_with}
use Rattle.ax_mirror.proofs.Tracks.{unmade_less}
use Rattle.ax_mirror.proofs.Walks.{beside, has_beside, roots-beside, distinct_beside, node_beside, reverse-push, same_children}
use Rattle.ax_mirror.proofs.Together.{is_there, not_there, node_children, stays}

abbrev Drafted : Type 0
Drafted = Trees (Option Look)

-- ---- a cleared id

module _ (m n e : Nodes) (z : ℕ) (x : Entry) (root : Option ℕ) (w : Drafted) (kp : KeepsDraft m root w) (there : Some x ≡ map.get m z) where
  has_z : has w z ≡ true
  has_z = is_there m z x w there kp.stands

  there_at : look m z ≡ Some (told_node x)
  there_at = ap (option_map told_node) (sym there)

  pub below_is : x.node.children ≡ roots (below w z)
  below_is =
      let a : ◌≡◌ {A = Option (List ℕ)} (Some x.node.children) (Some (roots (below w z))) =
      ap (option_map (λ (y : Node (Option Look)). y.children)) (sym there_at ∙ kp.stands.at z) ∙ node_children w z has_z in
      cc

  pub tells_below : TellsNodes m (below w z)
  tells_below = record { apart = distinct_below w z kp.distinct; told = λ y h. kp.stands.at y ∙ sym (node_below w z y kp.distinct h) }

  module _ (out : (y : ℕ) → map.get n y ≡ cond (has (below w z) y) None (map.get m y)) (put : e ≡ map.insert n z (pending_entry x.above x.level z)) where
    get_e : (y : ℕ) → map.get e y ≡ cond (eqb z y) (Some (pending_entry x.above x.level z)) (cond (has (below w z) y) None (map.get m y))
    get_e y = ap (λ k. map.get k y) put ∙ get_insert n z (pending_entry x.above x.level z) y ∙ ap (cond (eqb z y) (Some (pending_entry x.above x.level z))) (out y)

    get_other : (y : ℕ) → eqb z y ≡ false → has (below w z) y ≡ false → map.get e y ≡ map.get m y
    get_other y q b = get_e y ∙ rw (q, b) refl

    get_here : (y : ℕ) → eqb z y ≡ true → map.get e y ≡ Some (pending_entry x.above x.level z)
    get_here y q = get_e y ∙ rw q refl

    get_under : (y : ℕ) → eqb z y ≡ false → has (below w z) y ≡ true → map.get e y ≡ None
    get_under y q b = get_e y ∙ rw (q, b) refl

    stands_cleared : Stands (look e) (with_node w z None bare)
    stands_cleared = record {
      at = λ y. by_go (eqb z y)
          (λ q. let s : z ≡ y = eqb-true z y q in
          ap (option_map told_node) (get_here y q) ∙ subst (λ v. ◌≡◌ {A = Option (Node (Option Look))} (Some (record { id = z; known = None; children = [] })) (node_at (with_node w z None bare) v)) s (sym (node_with_node_same w z None bare has_z)))
          (λ q. by_go (has (with_node w z None bare) y)
          (λ o. let b : has (below w z) y ≡ false = false_from_ne_true (has (below w z) y) (λ h. false≢true (sym (outside w z None y kp.distinct has_z h) ∙ o)) in
          ap (option_map told_node) (get_other y q b) ∙ kp.stands.at y ∙ sym (node_with_node_outside w z None bare y kp.distinct has_z q o refl))
          (λ o. by_go (has (below w z) y)
          (λ b. ap (option_map told_node) (get_under y q b) ∙ sym (node_none (with_node w z None bare) y o))
          (λ b. let gone : has w y ≡ false = false_from_ne_true (has w y) (λ h. false≢true (sym o ∙ stays w z y None h b)) in
          ap (option_map told_node) (get_other y q b) ∙ kp.stands.at y ∙ node_none w y gone ∙ sym (node_none (with_node w z None bare) y o))));
    }

    place_outside : (y : ℕ) → has (with_node w z None bare) y ≡ true → place e y ≡ place m y
    place_outside y o = by_go (eqb z y)
        (λ q. ap (option_map told_place) (get_here y q) ∙ ap (option_map told_place) (there ∙ ap (map.get m) (eqb-true z y q)))
        (λ q. let b : has (below w z) y ≡ false = false_from_ne_true (has (below w z) y) (λ h. false≢true (sym (outside w z None y kp.distinct has_z h) ∙ o)) in
        ap (option_map told_place) (get_other y q b))

    pub keeps_cleared : KeepsDraft e root (with_node w z None bare)
    keeps_cleared = record {
      distinct = distinct_with_node w z None bare kp.distinct has_z tt (λ y h. absurd (false≢true h));
      tops = roots-with_node w z None bare ∙ kp.tops;
      stands = stands_cleared;
      hung = hung_with (place m) (place e) None 1 w z x.above x.level None bare kp.hung has_z (ap (option_map told_place) (sym there)) place_outside tt;
    }

pub keeps_absent : (m : Nodes) (z : ℕ) (root : Option ℕ) (w : Drafted) → None ≡ map.get m z → KeepsDraft m root w → KeepsDraft m root (with_node w z None bare)
keeps_absent m z root w h k = subst (λ v. KeepsDraft m root v) (sym (with_node_other w z None bare (not_there m z w h k.stands))) k

-- entries out, and one pending
pub made_put : (d n e : Draft) (stack : List ℕ) (z : ℕ) (above : Option ℕ) (level : ℕ) → TakesOut d n stack → PutsPending n e z above level → Makes d e
made_put d n e stack z above level out put = record {
  unmade = λ y h. by_go (eqb z y)
      (λ q. absurd (false≢true (sym h ∙ subst (λ v. contains e.made v ≡ true) (eqb-true z y q) put.made)))
      (λ q. unmade_less (map.get d.nodes y) (map.get e.nodes y) (subst (λ o. (o ≡ None) ⊎ (o ≡ map.get d.nodes y)) (sym (ap (λ m. map.get m y) put.nodes ∙ get_insert n.nodes z (pending_entry above level z) y ∙ ap (λ b. cond b (Some (pending_entry above level z)) (map.get n.nodes y)) q)) (out.less y)));
  grows = λ y h. put.grows y (ap (λ js. contains js y) out.made ∙ h);
}

-- ---- a new root

abbrev lone : ℕ → Drafted
lone r = tree r None bare bare

lone_get : (e : Nodes) (r : ℕ) → e ≡ map.insert map.empty r (pending_entry None 1 r) → (y : ℕ) → map.get e y ≡ cond (eqb r y) (Some (pending_entry None 1 r)) None
lone_get e r h y = ap (λ m. map.get m y) h ∙ get_insert map.empty r (pending_entry None 1 r) y ∙ ap (cond (eqb r y) (Some (pending_entry None 1 r))) (map.get-empty nat_cmp y)

pub keeps_lone : (e : Nodes) (r : ℕ) → e ≡ map.insert map.empty r (pending_entry None 1 r) → KeepsDraft e (Some r) (lone r)
keeps_lone e r h = record {
  distinct = (refl, refl, record { apart = λ z t. refl }, tt, tt);
  tops = refl;
  stands = record { at = λ y. ap (option_map told_node) (lone_get e r h y) ∙ both y (eqb r y) refl };
  hung = (ap (option_map told_place) (lone_get e r h r) ∙ here, tt, tt);
}
  where
    here : option_map told_place (cond (eqb r r) (Some (pending_entry None 1 r)) None) ≡ Some (None, 1)
    here = let self : eqb r r ≡ true = grind (arith, eqb_tells r r) in rw self refl

    both : (y : ℕ) (b : Bool) → eqb r y ≡ b → option_map told_node (cond b (Some (pending_entry None 1 r)) None) ≡ cond b (Some (record { id = r; known = None; children = [] })) None
    both y true q = refl
    both y false q = refl

pub made_lone : (d e f : Draft) (r : ℕ) → e.nodes ≡ map.empty → PutsPending e f r None 1 → e.made ≡ d.made → Makes d f
made_lone d e f r none put same = record {
  unmade = λ y h. by_go (eqb r y)
      (λ q. absurd (false≢true (sym h ∙ subst (λ v. contains f.made v ≡ true) (eqb-true r y q) put.made)))
      (λ q. subst (λ o. Unmade (map.get d.nodes y) o) (sym (lone_get f.nodes r (put.nodes ∙ ap (λ m. map.insert m r (pending_entry None 1 r)) none) y ∙ ap (λ b. cond b (Some (pending_entry None 1 r)) None) q)) tt);
  grows = λ y h. put.grows y (ap (λ js. contains js y) same ∙ h);
}

absent_entry : (o : Option Entry) → ◌≡◌ {A = Option (Node (Option Look))} (option_map told_node o) None → ◌≡◌ {A = Option Entry} o None
absent_entry None h = refl
absent_entry (Some x) h = absurd (cc)

-- all old ids are touched, and so is the root
pub track_lone : (d t e f : Draft) (r : ℕ) (w : Drafted) → TouchesAll d t → e.touched ≡ t.touched → e.nodes ≡ map.empty → Tracked e f → KeepsDraft d.nodes d.root w → Tracked d f
track_lone d t e f r w all same none tr k = record {
  same = λ z h.
      let old : contains e.touched z ≡ false = false_from_ne_true (contains e.touched z) (λ g. false≢true (sym h ∙ tr.grows z g)) in
      let gone : has w z ≡ false = false_from_ne_true (has w z) (λ g. false≢true (sym old ∙ (ap (λ js. contains js z) same ∙ all.all w k z g))) in
      let was : map.get d.nodes z ≡ None = absent_entry (map.get d.nodes z) (k.stands.at z ∙ node_none w z gone) in
      tr.same z h ∙ ap (λ m. map.get m z) none ∙ map.get-empty nat_cmp z ∙ sym was;
  grows = λ z h. tr.grows z (ap (λ js. contains js z) same ∙ all.grows z h);
}

-- ---- the walk that touches all

pub record Unseen (w : Drafted) (m : Nodes) (t stack : List ℕ) : Type 0 where
  pub left : Drafted
  pub tells : TellsNodes m left
  pub tops : roots left ≡ reverse stack
  pub seen : (z : ℕ) → has w z ≡ true → (has left z || contains t z) ≡ true

pub unseen_begins : (w : Drafted) (m : Nodes) (r : ℕ) (t stack : List ℕ) → KeepsDraft m (Some r) w → stack ≡ [] ++ r ∷ [] → Unseen w m t stack
unseen_begins w m r t stack k s = record {
  left = w;
  tells = record { apart = k.distinct; told = λ z h. k.stands.at z };
  tops = k.tops ∙ sym (ap reverse s);
  seen = λ z h. rw h refl;
}

pub unseen_next : (w : Drafted) (m : Nodes) (t t' stack popped stack' : List ℕ) (id : ℕ) (e : Entry) → Unseen w m t stack → stack ≡ popped ++ id ∷ [] → Some e ≡ map.get m id
    → t' ≡ with_id t id → stack' ≡ popped ++ reverse e.node.children → Unseen w m t' stack'
unseen_next w m t t' stack popped stack' id e l sp at tn sn = go l.left l.tells (l.tops ∙ ap reverse sp ∙ reverse-push popped id) l.seen
  where
    go : (f : Drafted) → TellsNodes m f → roots f ≡ id ∷ reverse popped → ((z : ℕ) → has w z ≡ true → (has f z || contains t z) ≡ true) → Unseen w m t' stack'
    go bare tl h g = absurd (cc)
    go (tree i a c r) tl h g =
        let same : i ≡ id = cc in
        let rest : roots r ≡ reverse popped = cc in
        let self : eqb i i ≡ true = grind (arith, eqb_tells i i) in
        let here : look m i ≡ Some (record { id = i; known = a; children = roots c }) = tl.told i (rw self refl) ∙ rw self refl in
        let here' : look m id ≡ Some (record { id = i; known = a; children = roots c }) = subst (λ j. look m j ≡ Some (record { id = i; known = a; children = roots c })) same here in
        let there : look m id ≡ Some (told_node e) = ap (option_map told_node) (sym at) in
        let inner : roots c ≡ e.node.children = same_children _ _ (sym here' ∙ there) in
        record {
          left = beside c r;
          tells = record {
            apart = distinct_beside c r tl.apart.3 tl.apart.4 tl.apart.2.apart;
            told = λ z q.
                let q' : (has c z || has r z) ≡ true = sym (has_beside c r z) ∙ q in
                let no : eqb i z ≡ false = grind (arith, q', tl.apart.0, tl.apart.1, eqb_tells i z) in
                tl.told z (rw no q') ∙ rw no (sym (node_beside c r z));
          };
          tops = roots-beside c r ∙ sym (ap reverse sn ∙ reverse-append popped (reverse e.node.children) ∙ ap (λ js. js ++ reverse popped) (reverse-reverse e.node.children) ∙ ap (λ js. js ++ reverse popped) (sym inner) ∙ ap (λ js. roots c ++ js) (sym rest));
          seen = λ z q. by z (eqb id z) refl same (g z q);
        }
      where
        by : (z : ℕ) (b : Bool) → eqb id z ≡ b → i ≡ id → ((eqb i z || (has c z || has r z)) || contains t z) ≡ true → (has (beside c r) z || contains t' z) ≡ true
        by z true q s h = let n : contains t' z ≡ true = ap (λ js. contains js z) tn ∙ contains_with t id z ∙ rw q refl in rw n (or_true (has (beside c r) z))
          where
            or_true : (b : Bool) → (b || true) ≡ true
            or_true true = refl
            or_true false = refl
        by z false q s h =
            let n : contains t' z ≡ contains t z = ap (λ js. contains js z) tn ∙ contains_with t id z ∙ rw q refl in
            let no : eqb i z ≡ false = subst (λ j. eqb j z ≡ false) (sym s) q in
            rw (n, has_beside c r z) (rw no at h)

pub all_seen : (w : Drafted) (m : Nodes) (t stack : List ℕ) → Unseen w m t stack → stack ≡ [] → (z : ℕ) → has w z ≡ true → contains t z ≡ true
all_seen w m t stack l e z h = go l.left (l.tops ∙ ap reverse e) (l.seen z h)
  where
    go : (f : Drafted) → roots f ≡ [] → (has f z || contains t z) ≡ true → contains t z ≡ true
    go bare r g = g
    go (tree i a c r) q g = absurd (cc)

pub none_there : (w : Drafted) (z : ℕ) → roots w ≡ [] → has w z ≡ false
none_there bare z h = refl
none_there (tree i a c r) z h = absurd (cc)

pub longer_with : (xs ys : List ℕ) (x n : ℕ) → ys ≡ with_id xs x → n ≤ length xs → n ≤ length ys
longer_with xs ys x n e h =
    let l : length ys ≡ length (with_id xs x) = ap length e in
    by_go (contains xs x) (λ q. let k = length_old xs x q in omega arith) (λ q. let k = length_new xs x q in omega arith)

pub grows_with : (xs ys : List ℕ) (x z : ℕ) → ys ≡ with_id xs x → contains xs z ≡ true → contains ys z ≡ true
grows_with xs ys x z e h = ap (λ js. contains js z) e ∙ contains_with xs x z ∙ or_more (eqb x z) (contains xs z) h
  where
    or_more : (b c : Bool) → c ≡ true → cond b true c ≡ true
    or_more true c h = refl
    or_more false c h = h

-- ---- which of them

pub root_tells : (w : Drafted) (o : Option ℕ) (r : ℕ) → roots w ≡ option_to_list o → is_root w r ≡ root_is o r
root_tells bare None r h = refl
root_tells bare (Some x) r h = absurd (cc)
root_tells (tree i a c k) None r h = absurd (cc)
root_tells (tree i a c k) (Some x) r h = let s : i ≡ x = cc in ap (λ y. eqb y r) s

pub started_anew : (w : Drafted) (o root clear : Option ℕ) (r : ℕ) → roots w ≡ option_to_list o → anew_of o root ≡ Some r → started root clear w ≡ tree r None bare bare
started_anew w o None clear r h e = absurd (cc)
started_anew w o (Some x) clear r h e = go (root_is o x) refl e
  where
    go : (b : Bool) → root_is o x ≡ b → cond b None (Some x) ≡ Some r → started (Some x) clear w ≡ tree r None bare bare
    go true q e = absurd (cc)
    go false q e =
        let s : is_root w x ≡ false = root_tells w o x h ∙ q in
        let same : x ≡ r = cc in
        rw s (ap (λ y. tree y None bare bare) same)

pub started_same : (w : Drafted) (o root clear : Option ℕ) → roots w ≡ option_to_list o → anew_of o root ≡ None → started root clear w ≡ cleared clear w
started_same w o None clear h e = refl
started_same w o (Some x) clear h e = go (root_is o x) refl e
  where
    go : (b : Bool) → root_is o x ≡ b → cond b None (Some x) ≡ None → started (Some x) clear w ≡ cleared clear w
    go true q e = let s : is_root w x ≡ true = root_tells w o x h ∙ q in rw s refl
    go false q e = absurd (cc)
