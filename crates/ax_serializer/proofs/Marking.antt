-- The marks that an update leaves, and the updates of a bundle.
use Rattle.std.proofs.Common.{ℕ, ◌≡◌, ◌<◌, ◌≤◌, ◌+◌, Bool, true, false, not, ◌||◌, ◌&&◌, eqb, List, [], ◌∷◌, ◌++◌, map, take, drop, length, set, get_or, zero, suc, Option, Some, None, refl, sym, ap, ◌∙◌, arith}
use Rattle.std.specs.Prelude.{filter, nat_eq}
use Rattle.std.proofs.lemmas.List.{drop_more, drop_all, length-map}
use Rattle.std.proofs.lemmas.Bool.Decides.{eqb_tells}
use Rattle.ax_node.specs.Look.{Look}
use Rattle.ax_node.specs.declared.node.NodeData.{NodeData}
use Rattle.ax_node.specs.declared.tree_data.TreeData.{TreeData}
use Rattle.ax_trees.proofs.Trees.{by_go}
use Rattle.ax_marks.specs.MarkList.{without}
use Rattle.ax_source.specs.Source.{Source}
use Rattle.ax_tree.specs.InStep.{lists}
use Rattle.ax_tree.specs.UpdateRule.{Update}
use Rattle.ax_tree.specs.Tree.{as_node, data_of}
use Rattle.ax_tree.specs.declared.update.TreeUpdate.{TreeUpdate}
use Rattle.ax_tree.specs.Updates.{nodes_part, with_data}
use Rattle.ax_tree.specs.Serialised.{alone, riding, marks_after_update}
use Rattle.ax_tree.specs.Bundles.{Client}
use Rattle.ax_serializer.specs.Sending.{Sending, bare_of_data, left_after}

filter_twice : (p q r : ℕ → Bool) (m : List ℕ) → ((z : ℕ) → r z ≡ (q z && p z)) → filter p (filter q m) ≡ filter r m
filter_twice p q r [] h = refl
filter_twice p q r (x ∷ m) h =
    by_go (q x)
    (λ a. by_go (p x)
    (λ b. let both : r x ≡ true = h x ∙ rw (a, b) refl in rw (a, b, both) (ap (λ ys. x ∷ ys) (filter_twice p q r m h)))
    (λ b. let none : r x ≡ false = h x ∙ rw (a, b) refl in rw (a, b, none) (filter_twice p q r m h)))
    (λ a. let none : r x ≡ false = h x ∙ rw a refl in rw (a, none) (filter_twice p q r m h))

filter_all : (m : List ℕ) → filter (λ z. true) m ≡ m
filter_all [] = refl
filter_all (x ∷ m) = ap (λ ys. x ∷ ys) (filter_all m)

left_is : (ns : List NodeData) (m : List ℕ) → left_after ns m ≡ filter (λ z. not (lists (map as_node ns) z)) m
left_is [] m = sym (filter_all m)
left_is (n ∷ ns) m =
    left_is ns (without m n.id)
    ∙ filter_twice (λ z. not (lists (map as_node ns) z)) (λ z. not (nat_eq z n.id)) (λ z. not (eqb n.id z || lists (map as_node ns) z)) m (λ z. grind (arith, eqb_tells n.id z, eqb_tells z n.id))

-- the marks without those of the listed nodes and of d
pub marks_are : (u : TreeUpdate) (d : ℕ) (m : List ℕ) → without (left_after u.nodes m) d ≡ marks_after_update u d m
marks_are u d m =
    ap (λ ys. without ys d) (left_is u.nodes m)
    ∙ filter_twice (λ z. not (nat_eq z d)) (λ z. not (lists (map as_node u.nodes) z)) (λ z. not (lists (map as_node u.nodes) z || eqb z d)) m (λ z. grind (arith))

-- ---- the loop

pub marks_next : (ns : List NodeData) (i : ℕ) (n : NodeData) (m all : List ℕ) → i < length ns → n ≡ get_or ns i n → left_after (drop i ns) m ≡ all → left_after (drop (i + 1) ns) (without m n.id) ≡ all
marks_next ns i n m all h e g = sym (ap (λ ks. left_after ks m) (drop_more ns i n h ∙ ap (λ k. k ∷ drop (i + 1) ns) (sym e))) ∙ g

pub marks_end : (ns : List NodeData) (i : ℕ) (m all : List ℕ) → length ns ≤ i → left_after (drop i ns) m ≡ all → m ≡ all
marks_end ns i m all h g = sym (ap (λ ks. left_after ks m) (drop_all i ns h)) ∙ g

-- ---- a source with other marks

pub marked_as : (a b : Source) (m n : List ℕ) → a ≡ record b { marks = m } → m ≡ n → a ≡ record b { marks = n }
marked_as a b m n e h = e ∙ ap (λ (v : List ℕ). record { tree = b.tree; marks = v; changed = b.changed }) h

pub unmarked : (a b s : Source) (z : ℕ) → a ≡ record b { marks = without b.marks z } → b ≡ record s { marks = b.marks } → a ≡ record s { marks = a.marks }
unmarked a b s z e h =
    e ∙ ap (λ (v : Source). record { tree = v.tree; marks = without b.marks z; changed = v.changed }) h
    ∙ ap (λ (v : List ℕ). record { tree = s.tree; marks = v; changed = s.changed }) (sym (ap (λ (v : Source). v.marks) e))

pub all_unmarked : (a b s : Source) (u v : TreeUpdate) (d : ℕ) → b ≡ record s { marks = left_after u.nodes s.marks } → a ≡ record b { marks = without b.marks d } → u ≡ v → a ≡ record s { marks = marks_after_update v d s.marks }
all_unmarked a b s u v d e h same =
    h ∙ ap (λ (w : Source). record { tree = w.tree; marks = without w.marks d; changed = w.changed }) e
    ∙ ap (λ (ms : List ℕ). record { tree = s.tree; marks = ms; changed = s.changed }) (marks_are u d s.marks ∙ ap (λ w. marks_after_update w d s.marks) same)

pub same_sending : (a b : Client) (k l : List TreeUpdate) → a ≡ b → k ≡ l → ◌≡◌ {A = Sending} (record { client = a; kept = k }) (record { client = b; kept = l })
same_sending a b k l p q = λ z. record { client = p z; kept = q z }

-- ---- bundles

nodes_back : (ns : List NodeData) → map data_of (map as_node ns) ≡ ns
nodes_back [] = refl
nodes_back (n ∷ ns) = ap (λ ms. n ∷ ms) (nodes_back ns)

pub part_with : (u : TreeUpdate) (a : Option TreeData) → with_data (nodes_part u) a ≡ record u { tree_data = a }
part_with u a = ap (λ ns. record { clear = u.clear; root = u.root; nodes = ns; tree_data = a }) (nodes_back u.nodes)

pub alone_is : (us : List TreeUpdate) → map bare_of_data us ≡ alone (map nodes_part us)
alone_is [] = refl
alone_is (u ∷ us) = ap (λ vs. bare_of_data u ∷ vs) (alone_is us) ∙ ap (λ v. v ∷ alone (map nodes_part us)) (sym (part_with u None))

pub alone_of : (vs ws us : List TreeUpdate) → vs ≡ map bare_of_data ws → ws ≡ us → vs ≡ alone (map nodes_part us)
alone_of vs ws us e h = e ∙ ap (map bare_of_data) h ∙ alone_is us

pub taken_whole : {X : Type 0} (n : ℕ) (xs rest : List X) → n ≡ length xs → take n (xs ++ rest) ≡ xs
taken_whole zero [] rest e = refl
taken_whole zero (x ∷ xs) rest e = absurd (omega (arith, e))
taken_whole (suc n) [] rest e = absurd (omega (arith, e))
taken_whole (suc n) (x ∷ xs) rest e = ap (λ ys. x ∷ ys) (taken_whole n xs rest (omega (arith, e)))

-- the last update takes the tree data
riding_set : (us : List TreeUpdate) (a : TreeData) (i : ℕ) → suc i ≡ length us → (d : TreeUpdate) → set (map bare_of_data us) i (record (get_or (map bare_of_data us) i d) { tree_data = Some a }) ≡ riding a (map nodes_part us)
riding_set [] a i e d = absurd (omega (arith, e))
riding_set (u ∷ []) a zero e d = ap (λ v. v ∷ []) (sym (part_with u (Some a)))
riding_set (u ∷ []) a (suc i) e d = absurd (omega (arith, e))
riding_set (u ∷ (v ∷ us)) a zero e d = absurd (omega (arith, e))
riding_set (u ∷ (v ∷ us)) a (suc i) e d = ap (λ ws. bare_of_data u ∷ ws) (riding_set (v ∷ us) a i (omega (arith, e)) d) ∙ ap (λ w. w ∷ riding a (map nodes_part (v ∷ us))) (sym (part_with u None))

pub ridden : (us vs : List TreeUpdate) (a : TreeData) (i : ℕ) (d : TreeUpdate) → vs ≡ map bare_of_data us → suc i ≡ length us → set vs i (record (get_or vs i d) { tree_data = Some a }) ≡ riding a (map nodes_part us)
ridden us vs a i d e h = ap (λ ws. set ws i (record (get_or ws i d) { tree_data = Some a })) e ∙ riding_set us a i h d

pub some_length : {X : Type 0} (xs : List X) → (xs ≡ [] → ⊥) → 1 ≤ length xs
some_length [] h = absurd (h refl)
some_length (x ∷ xs) h = omega arith

length-riding : (a : TreeData) (us : List (Update Look)) → (us ≡ [] → ⊥) → length (riding a us) ≡ length us
length-riding a [] h = absurd (h refl)
length-riding a (u ∷ []) h = refl
length-riding a (u ∷ (v ∷ us)) h = ap suc (length-riding a (v ∷ us) (λ e. absurd (cc)))

pub length-ridden : (us : List TreeUpdate) (a : TreeData) → (us ≡ [] → ⊥) → length (riding a (map nodes_part us)) ≡ length us
length-ridden [] a h = absurd (h refl)
length-ridden (u ∷ us) a h = length-riding a (map nodes_part (u ∷ us)) (λ e. absurd (cc)) ∙ length-map (u ∷ us) nodes_part
