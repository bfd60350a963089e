-- What a walk that takes nodes out has left.
use Rattle.std.proofs.Common.{◌≡◌, ◌⊎◌, inl, inr, ⊎_elim, ℕ, Bool, true, false, cond, not, ◌&&◌, ◌||◌, eqb, List, [], ◌∷◌, ◌++◌, reverse, Option, Some, None, refl, sym, ap, subst, ◌∙◌, arith}
use Rattle.std.specs.Prelude.{option_map}
use Rattle.std.specs.FinMap as map
use Rattle.std.proofs.lemmas.Bool.{eqb-true}
use Rattle.std.proofs.lemmas.Bool.Decides.{eqb_tells}
use Rattle.std.proofs.lemmas.List.{reverse-append, reverse-reverse}
use Rattle.ax_node.specs.Look.{Look}
use Rattle.ax_trees.specs.Trees.{Trees, bare, tree, has, roots, IsDistinct}
use Rattle.ax_trees.specs.Nodes.{Node, node_at}
use Rattle.ax_mirror.specs.declared.entries.Entry.{Entry}
use Rattle.ax_mirror.specs.Placed.{Nodes, look, told_node}
use Rattle.ax_mirror.specs.Steps.{TellsNodes}
use Rattle.ax_mirror.proofs.Looks.{map_cond}

-- these trees are left of the trees k; the rest of k is out
pub record Left (k : Trees (Option Look)) (m n : Nodes) (stack : List ℕ) : Type 0 where
  pub left : Trees (Option Look)
  pub tells : TellsNodes n left
  pub tops : roots left ≡ reverse stack
  pub within : (z : ℕ) → has left z ≡ true → has k z ≡ true
  pub gone : (z : ℕ) → map.get n z ≡ cond (has k z && not (has left z)) None (map.get m z)

-- trees, one list after the other
abbrev pub beside : {D : Type 0} → Trees D → Trees D → Trees D
beside bare b = b
beside (tree i e k r) b = tree i e k (beside r b)

module _ {D : Type 0} where
  pub has_beside : (a b : Trees D) (z : ℕ) → has (beside a b) z ≡ (has a z || has b z)
  has_beside bare b z = refl
  has_beside (tree i e k r) b z = grind (arith, has_beside r b z)

  pub roots-beside : (a b : Trees D) → roots (beside a b) ≡ roots a ++ roots b
  roots-beside bare b = refl
  roots-beside (tree i e k r) b = ap (λ js. i ∷ js) (roots-beside r b)

  pub distinct_beside : (a b : Trees D) → IsDistinct a → IsDistinct b → ((z : ℕ) → has a z ≡ true → has b z ≡ false) → IsDistinct (beside a b)
  distinct_beside bare b d e h = e
  distinct_beside (tree i a k r) b d e h = (
    d.0,
    grind (arith, has_beside r b i, d.1, h i, eqb_tells i i),
    record { apart = λ z t. grind (arith, has_beside r b z, d.2.apart z t, h z, t) },
    d.3,
    distinct_beside r b d.4 e (λ z t. h z (grind (arith, t))),
  )

  pub node_beside : (a b : Trees D) (z : ℕ) → node_at (beside a b) z ≡ cond (has a z) (node_at a z) (node_at b z)
  node_beside bare b z = refl
  node_beside (tree i e k r) b z = grind (arith, node_beside r b z)

pub left_begins : (k : Trees (Option Look)) (m : Nodes) (stack : List ℕ) → TellsNodes m k → roots k ≡ reverse stack → Left k m m stack
left_begins k m stack t h = record { left = k; tells = t; tops = h; within = λ z w. w; gone = λ z. go z (has k z) }
  where
    go : (z : ℕ) (b : Bool) → map.get m z ≡ cond (b && not b) None (map.get m z)
    go z true = refl
    go z false = refl

pub reverse-push : (js : List ℕ) (i : ℕ) → reverse (js ++ i ∷ []) ≡ i ∷ reverse js
reverse-push js i = reverse-append js (i ∷ [])

pub same_children : (x y : Node (Option Look)) → ◌≡◌ {A = Option (Node (Option Look))} (Some x) (Some y) → x.children ≡ y.children
same_children x y h = let s : x ≡ y = cc in ap (λ (d : Node (Option Look)). d.children) s

pub left_next : (k : Trees (Option Look)) (m n n' : Nodes) (stack popped stack' : List ℕ) (id : ℕ) (e : Entry) → Left k m n stack → stack ≡ popped ++ id ∷ [] → Some e ≡ map.get n id
    → ((z : ℕ) → map.get n' z ≡ cond (eqb id z) None (map.get n z)) → stack' ≡ popped ++ reverse e.node.children → Left k m n' stack'
left_next k m n n' stack popped stack' id e l sp at w sn = go l.left l.tells (l.tops ∙ ap reverse sp ∙ reverse-push popped id) l.within l.gone
  where
    w' : (z : ℕ) → look n' z ≡ cond (eqb id z) None (look n z)
    w' z = ap (option_map told_node) (w z) ∙ map_cond told_node (eqb id z) None (map.get n z)

    go : (f : Trees (Option Look)) → TellsNodes n f → roots f ≡ id ∷ reverse popped → ((z : ℕ) → has f z ≡ true → has k z ≡ true) → ((z : ℕ) → map.get n z ≡ cond (has k z && not (has f z)) None (map.get m z)) → Left k m n' stack'
    go bare t h i g = absurd (cc)
    go (tree i a c r) t h inn g =
        let same : i ≡ id = cc in
        let rest : roots r ≡ reverse popped = cc in
        let self : eqb i i ≡ true = grind (arith, eqb_tells i i) in
        let here : look n i ≡ Some (record { id = i; known = a; children = roots c }) = t.told i (rw self refl) ∙ rw self refl in
        let here' : look n id ≡ Some (record { id = i; known = a; children = roots c }) = subst (λ j. look n j ≡ Some (record { id = i; known = a; children = roots c })) same here in
        let there : look n id ≡ Some (told_node e) = ap (option_map told_node) (sym at) in
        let inner : roots c ≡ e.node.children = same_children _ _ (sym here' ∙ there) in
        record {
          left = beside c r;
          tells = record {
            apart = distinct_beside c r t.apart.3 t.apart.4 t.apart.2.apart;
            told = λ z q.
                let q' : (has c z || has r z) ≡ true = sym (has_beside c r z) ∙ q in
                let no : eqb i z ≡ false = grind (arith, q', t.apart.0, t.apart.1, eqb_tells i z) in
                let no' : eqb id z ≡ false = subst (λ j. eqb j z ≡ false) same no in
                w' z ∙ rw no' (t.told z (rw no q') ∙ rw no (sym (node_beside c r z)));
          };
          tops = roots-beside c r ∙ sym (ap reverse sn ∙ reverse-append popped (reverse e.node.children) ∙ ap (λ js. js ++ reverse popped) (reverse-reverse e.node.children) ∙ ap (λ js. js ++ reverse popped) (sym inner) ∙ ap (λ js. roots c ++ js) (sym rest));
          within = λ z q. let q' : (has c z || has r z) ≡ true = sym (has_beside c r z) ∙ q in inn z (grind (arith, q'));
          gone = λ z. w z ∙ by z (eqb id z) refl same (g z) (inn z) (has_beside c r z) t.apart.0 t.apart.1;
        }
      where
        by : (z : ℕ) (b : Bool) → eqb id z ≡ b → i ≡ id → map.get n z ≡ cond (has k z && not (eqb i z || (has c z || has r z))) None (map.get m z) → ((eqb i z || (has c z || has r z)) ≡ true → has k z ≡ true)
            → has (beside c r) z ≡ (has c z || has r z) → has c i ≡ false → has r i ≡ false
            → cond b None (map.get n z) ≡ cond (has k z && not (has (beside c r) z)) None (map.get m z)
        by z true q s g inn hb nc nr =
            let e : i ≡ z = s ∙ eqb-true id z q in
            let e' : eqb i z ≡ true = grind (arith, eqb_tells i z, e) in
            let kz : has k z ≡ true = inn (rw e' refl) in
            let cz : has c z ≡ false = subst (λ j. has c j ≡ false) e nc in
            let rz : has r z ≡ false = subst (λ j. has r j ≡ false) e nr in
            rw (hb, kz, cz, rz) refl
        by z false q s g inn hb nc nr =
            let e' : eqb i z ≡ false = subst (λ j. eqb j z ≡ false) (sym s) q in
            rw hb (rw e' at g)

pub left_ends : (k : Trees (Option Look)) (m n : Nodes) (stack : List ℕ) → Left k m n stack → stack ≡ [] → (z : ℕ) → map.get n z ≡ cond (has k z) None (map.get m z)
left_ends k m n stack l e z = go l.left (l.tops ∙ ap reverse e) (l.gone z)
  where
    go : (f : Trees (Option Look)) → roots f ≡ [] → map.get n z ≡ cond (has k z && not (has f z)) None (map.get m z) → map.get n z ≡ cond (has k z) None (map.get m z)
    go bare h g = g ∙ ap (λ b. cond b None (map.get m z)) (and_true (has k z))
      where
        and_true : (b : Bool) → (b && true) ≡ b
        and_true true = refl
        and_true false = refl
    go (tree i a c r) h g = absurd (cc)

pub less_next : (o p q : Option Entry) (b : Bool) → (p ≡ None) ⊎ (p ≡ o) → q ≡ cond b None p → (q ≡ None) ⊎ (q ≡ o)
less_next o p q true h e = inl e
less_next o p q false h e = ⊎_elim (λ x. inl (e ∙ x)) (λ x. inr (e ∙ x)) h
