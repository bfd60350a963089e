-- The code by which a proof tells trees apart. A model whose value has trees in it wants it.
use Rattle.std.specs.Prelude.{ℕ, ◌≡◌, refl}
use Rattle.std.specs.Coded.{Coded}
use base.Stored.{Gv}
use base.Stored.Gv.{gcons, gnil, gnum}
use Rattle.ax_trees.specs.Trees.{Trees, bare, tree}

abbrev trees_code : {X : Type 0} → Coded X → Trees X → Gv
trees_code c bare = gnil
trees_code c (tree i x inner others) = gcons (gcons (gnum i) (c.code x)) (gcons (trees_code c inner) (trees_code c others))

same_parts : {X : Type 0} (i j : ℕ) (x y : X) (k l r q : Trees X) → i ≡ j → x ≡ y → k ≡ l → r ≡ q → tree i x k r ≡ tree j y l q
same_parts i j x y k l r q p s t u = λ z. tree (p z) (s z) (t z) (u z)

pub same_code : {X : Type 0} (c : Coded X) (f g : Trees X) → trees_code c f ≡ trees_code c g → f ≡ g
same_code c bare bare p = refl
same_code c bare (tree j y l q) p = absurd (cc)
same_code c (tree i x k r) bare p = absurd (cc)
same_code c (tree i x k r) (tree j y l q) p = same_parts i j x y k l r q (cc) (c.inj x y (cc)) (same_code c k l (cc)) (same_code c r q (cc))

abbrev pub coded_trees : {X : Type 0} → Coded X → Coded (Trees X)
coded_trees c = record { code = trees_code c; inj = same_code c }
