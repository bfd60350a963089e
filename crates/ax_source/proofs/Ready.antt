-- A node whose new parts are ready.
use Rattle.std.proofs.Common.{ℕ, suc, ◌≡◌, ◌≤◌, ◌+◌, ◌<◌, Bool, true, false, cond, ◌||◌, eqb, drop, drop-cons, arith, List, [], ◌∷◌, ◌++◌, length, take, get_or, Option, Some, None, refl, sym, ap, ◌∙◌, subst}
use Rattle.std.specs.Prelude.{option_map, IfSome, unwrap_or}
use Rattle.std.proofs.lemmas.List.{take_more, drop_all}
use Rattle.ax_node.specs.Look.{Look, look_of, node_of}
use Rattle.ax_node.specs.declared.value.Value.{Value}
use Rattle.ax_trees.specs.Trees.{Trees}
use Rattle.ax_trees.specs.Lists.{contains}
use Rattle.ax_trees.specs.Nodes.{Node, node_at, parent}
use Rattle.ax_trees.specs.Spots.{Spot, spot}
use Rattle.ax_tree.specs.Tree.{data_of}
use Rattle.ax_tree.specs.Edits.{look_set, attr_set, attrs_set, bad_change, bad_value}
use Rattle.ax_tree.specs.declared.edit.AttrChange.{AttrChange}
use Rattle.ax_tree.specs.declared.edit.SetNode.{SetNode}
use Rattle.ax_views.proofs.Spotting.{spot_known}
use Rattle.ax_source.specs.declared.attributes.Parts.{Parts}
use Rattle.ax_source.specs.Kept.{entry_of}
use Rattle.ax_source.specs.Parts.{has_key, look_with, parts_put}

pub ready_spot : (f : Trees Look) (s : SetNode) (parts : Parts) → IfSome (option_map data_of (node_at f s.node)) (λ n. look_with s parts (look_of n) ≡ look_set s (look_of n))
    → (x : Spot Look) → spot f s.node ≡ Some x → parts_put s parts (entry_of s.node x) ≡ entry_of s.node (spot_known (look_set s) x)
ready_spot f s parts h x e = go (node_at f s.node) h e
  where
    go : (o : Option (Node Look)) → IfSome (option_map data_of o) (λ n. look_with s parts (look_of n) ≡ look_set s (look_of n))
        → ◌≡◌ {A = Option (Spot Look)} (option_map (λ (u : Node Look). record { above = parent f s.node; known = u.known; children = u.children }) o) (Some x)
        → parts_put s parts (entry_of s.node x) ≡ entry_of s.node (spot_known (look_set s) x)
    go None h e = absurd (cc)
    go (Some u) h e =
        let same : ◌≡◌ {A = Spot Look} (record { above = parent f s.node; known = u.known; children = u.children }) x = cc in
        let known : u.known ≡ x.known = ap (λ (v : Spot Look). v.known) same in
        let look : look_with s parts x.known ≡ look_set s x.known = subst (λ y. look_with s parts y ≡ look_set s y) known h in
        ap (λ y. record { node = node_of s.node y x.children; above = x.above }) look

pub ready_look : (s : SetNode) (parts : Parts) (x : Look) → parts.states ≡ s.states → unwrap_or parts.attrs x.attrs ≡ attrs_set s.attrs x.attrs → look_with s parts x ≡ look_set s x
ready_look s parts x p q = λ z. record { role = unwrap_or s.role x.role; states = unwrap_or (p z) x.states; attrs = q z; rect = unwrap_or s.rect x.rect }

pub attrs_more : (cs : List AttrChange) (i : ℕ) (c : AttrChange) (attrs : List (ℕ × Value)) → i < length cs → c ≡ get_or cs i c → attrs_set (take (i + 1) cs) attrs ≡ attr_set c.key c.value (attrs_set (take i cs) attrs)
attrs_more cs i c attrs h e = ap (λ l. attrs_set l attrs) (take_more cs i c h ∙ ap (λ y. take i cs ++ y ∷ []) (sym e)) ∙ joined (take i cs) attrs
  where
    joined : (l : List AttrChange) (attrs : List (ℕ × Value)) → attrs_set (l ++ c ∷ []) attrs ≡ attr_set c.key c.value (attrs_set l attrs)
    joined [] attrs = refl
    joined (d ∷ l) attrs = joined l (attr_set d.key d.value attrs)

-- ---- the first bad change

-- the first i changes aren't bad, and these are their keys
pub record IsAhead (cs : List AttrChange) (i : ℕ) : Type 0 where
  pub seen : List ℕ
  pub same : (k : ℕ) → contains seen k ≡ has_key k (take i cs)
  pub rest : bad_change [] cs ≡ bad_change seen (drop i cs)

pub ahead_begins : (cs : List AttrChange) → IsAhead cs 0
ahead_begins cs = record { seen = []; same = λ k. refl; rest = refl }

drop_at : (cs : List AttrChange) (i : ℕ) (c : AttrChange) → i < length cs → c ≡ get_or cs i c → drop i cs ≡ c ∷ drop (suc i) cs
drop_at cs i c h e = drop-cons cs i c h ∙ ap (λ y. y ∷ drop (suc i) cs) (sym e)

pub ahead_bad : (cs : List AttrChange) (i : ℕ) (c : AttrChange) → IsAhead cs i → i < length cs → c ≡ get_or cs i c → (has_key c.key (take i cs) || bad_value c.key c.value) ≡ true → Some c.key ≡ bad_change [] cs
ahead_bad cs i c a h e b =
    let test : (contains a.seen c.key || bad_value c.key c.value) ≡ true = ap (λ t. t || bad_value c.key c.value) (a.same c.key) ∙ b in
    sym (a.rest ∙ (ap (bad_change a.seen) (drop_at cs i c h e) ∙ ap (λ t. cond t (Some c.key) (bad_change (c.key ∷ a.seen) (drop (suc i) cs))) test))

pub ahead_next : (cs : List AttrChange) (i : ℕ) (c : AttrChange) → IsAhead cs i → i < length cs → c ≡ get_or cs i c → (has_key c.key (take i cs) || bad_value c.key c.value) ≡ false → IsAhead cs (i + 1)
ahead_next cs i c a h e b =
    let test : (contains a.seen c.key || bad_value c.key c.value) ≡ false = ap (λ t. t || bad_value c.key c.value) (a.same c.key) ∙ b in
    let one : i + 1 ≡ suc i = omega arith in
    record {
      seen = c.key ∷ a.seen;
      same = λ k. ap (λ t. eqb c.key k || t) (a.same k) ∙ (turned (eqb c.key k) (has_key k (take i cs)) ∙ sym (ap (has_key k) (take_more cs i c h ∙ ap (λ y. take i cs ++ y ∷ []) (sym e)) ∙ joined k (take i cs)));
      rest = a.rest ∙ (ap (bad_change a.seen) (drop_at cs i c h e) ∙ (ap (λ t. cond t (Some c.key) (bad_change (c.key ∷ a.seen) (drop (suc i) cs))) test
          ∙ ap (λ n. bad_change (c.key ∷ a.seen) (drop n cs)) (sym one)));
    }
  where
    turned : (s t : Bool) → (s || t) ≡ (t || s)
    turned true true = refl
    turned true false = refl
    turned false true = refl
    turned false false = refl

    joined : (k : ℕ) (l : List AttrChange) → has_key k (l ++ c ∷ []) ≡ (has_key k l || eqb c.key k)
    joined k [] = only (eqb c.key k)
      where
        only : (s : Bool) → (s || false) ≡ s
        only true = refl
        only false = refl
    joined k (d ∷ l) = ap (λ t. eqb d.key k || t) (joined k l) ∙ sym (grouped (eqb d.key k) (has_key k l) (eqb c.key k))
      where
        grouped : (s t u : Bool) → ((s || t) || u) ≡ (s || (t || u))
        grouped true t u = refl
        grouped false t u = refl

pub ahead_ends : (cs : List AttrChange) (i : ℕ) → IsAhead cs i → length cs ≤ i → None ≡ bad_change [] cs
ahead_ends cs i a h = sym (a.rest ∙ ap (bad_change a.seen) (drop_all i cs h))

pub or_first : (a b : Bool) → a ≡ true → (a || b) ≡ true
or_first a b h = ap (λ t. t || b) h

pub or_second : (a b : Bool) → b ≡ true → (a || b) ≡ true
or_second true b h = refl
or_second false b h = h

pub or_neither : (a b : Bool) → a ≡ false → b ≡ false → (a || b) ≡ false
or_neither a b h g = ap (λ t. t || b) h ∙ g
