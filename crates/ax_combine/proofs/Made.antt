-- How the row of a place is made.
use Rattle.std.proofs.Common.{ℕ, zero, suc, ◌+◌, ◌<◌, ◌≤◌, ◌≡◌, true, false, List, [], ◌∷◌, ◌++◌, map, length, take, filter_map, find, subst, Bor, Option, Some, None, refl, sym, ap, ◌∙◌, arith, add-one, slice_get, option_map, option_and_then}
use Rattle.std.specs.Prelude.{is_some}
use Rattle.std.specs.List.{enumerate_from, list_any}
use Rattle.std.specs.Option.{option_copied}
use Rattle.ax_base.specs.Area.{Area}
use Rattle.ax_base.specs.declared.position.Place.{Place}
use Rattle.ax_node.specs.Look.{Look, look_of}
use Rattle.ax_node.specs.declared.node.NodeData.{NodeData}
use Rattle.ax_node.specs.declared.value.Value.{Value}
use Rattle.ax_trees.specs.Nodes.{Node, node_at}
use Rattle.ax_trees.specs.Trees.{has}
use Rattle.ax_trees.proofs.Trees.{by_go}
use Rattle.ax_tree.specs.Forest.{Forest, IsSound, live_tree}
use Rattle.ax_tree.specs.Tree.{Tree, node, as_node}
use Rattle.ax_rules.specs.Looks.{same_place}
use Rattle.ax_rules.specs.Stitched.{Placed, stitched, places, stands_at, find_placed, has_place, children_of, parent_of}
use Rattle.ax_rules.specs.Combined.{number_of, numbered_attr, numbered_look, combined_node}
use Rattle.ax_stitch.proofs.Corners.{node_of_told}
use Rattle.ax_stitch.proofs.Places.{same_self}
use Rattle.ax_stitch.proofs.Sound.{sound_formed}
use Rattle.ax_stitch.proofs.Under.{placed}
use Rattle.ax_place_laws.specs.Lists.{EachOf, NoPlaceTwice}
use Rattle.ax_place_laws.proofs.Starts.{list_once}
use Rattle.ax_combine.specs.declared.nodes.Row.{Row}
use Rattle.ax_report.specs.Combining.{place_of_number}
use Rattle.ax_combine.specs.Kept.{row_of}
use Rattle.ax_combine.proofs.Rows.{got_there, places_length}

each_at : {A : Type 0} (P : A → Type 0) (l : List A) (k : ℕ) (s : A) → EachOf P l → slice_get l k ≡ Some s → P s
each_at P [] k s h e = absurd (cc)
each_at {A} P (x ∷ l) zero s h e = let same : x ≡ s = cc in subst P same h.0
each_at P (x ∷ l) (suc k) s h e = each_at P l k s h.1 e

found_at : (l : List Placed) (k : ℕ) (s : Placed) → NoPlaceTwice l → slice_get l k ≡ Some s → find (stands_at s.place) l ≡ Some s
found_at [] k s d e = absurd (cc)
found_at (x ∷ l) zero s d e =
    let same : x ≡ s = cc in
    let self : stands_at s.place x ≡ true = ap (λ (y : Placed). same_place y.place s.place) same ∙ same_self s.place in
    rw self (ap Some same)
found_at (x ∷ l) (suc k) s d e =
    let other : stands_at s.place x ≡ false = each_at (λ (y : Placed). same_place x.place y.place ≡ false) l k s d.0 e in
    rw other (found_at l k s d.1 e)

listed_at : (l : List Placed) (k : ℕ) (s : Placed) → slice_get l k ≡ Some s → list_any (stands_at s.place) l ≡ true
listed_at [] k s e = absurd (cc)
listed_at (x ∷ l) zero s e =
    let same : x ≡ s = cc in
    let self : stands_at s.place x ≡ true = ap (λ (y : Placed). same_place y.place s.place) same ∙ same_self s.place in
    rw self refl
listed_at (x ∷ l) (suc k) s e = let h = listed_at l k s e in by_go (stands_at s.place x) (λ q. rw q refl) (λ q. rw q h)

got_place : (l : List Placed) (k : ℕ) → slice_get (places l) k ≡ option_map (λ (s : Placed). s.place) (slice_get l k)
got_place [] k = refl
got_place (s ∷ l) zero = refl
got_place (s ∷ l) (suc k) = got_place l k

-- an element of the list by its place
record Element (f : Forest) (k : ℕ) (p : Place) : Type 0 where
  element : Placed
  got : slice_get (stitched f) k ≡ Some element
  at : element.place ≡ p

some_same : {A : Type 0} (x y : A) → Some x ≡ Some y → x ≡ y
some_same x y e = cc

element_at : (f : Forest) (ps : List Place) (k id : ℕ) (p : Place) → ps ≡ places (stitched f) → k < length ps → id ≡ k + 1 → Some p ≡ place_of_number ps id → Element f k p
element_at f ps k id p e l i h =
    let n : length ps ≡ length (stitched f) = ap length e ∙ places_length (stitched f) in
    let s = got_there (stitched f) k (omega (arith, l, n)) in
    let got : slice_get ps k ≡ Some s.0.place = ap (λ q. slice_get q k) e ∙ (got_place (stitched f) k ∙ ap (option_map (λ (t : Placed). t.place)) s.1) in
    record { element = s.0; got = s.1; at = some_same s.0.place p (sym (h ∙ (ap (place_of_number ps) (i ∙ add-one k) ∙ got))) }

element_there : (f : Forest) (k : ℕ) (p : Place) → Element f k p → has_place (stitched f) p ≡ true
unfolding has_place
element_there f k p e = ap (λ q. list_any (stands_at q) (stitched f)) (sym e.at) ∙ listed_at (stitched f) k e.element e.got

element_found : (f : Forest) (k : ℕ) (p : Place) → IsSound f → (e : Element f k p) → find_placed (stitched f) p ≡ Some e.element
unfolding find_placed
element_found f k p s e = ap (λ q. find (stands_at q) (stitched f)) (sym e.at) ∙ found_at (stitched f) k e.element (list_once f s) e.got

element_look : (f : Forest) (k : ℕ) (p : Place) (m : Tree) (r : Option (Bor NodeData)) (b : Bor NodeData) → IsSound f → (e : Element f k p) → Some m ≡ live_tree f p.tree → option_copied r ≡ node m p.node → r ≡ Some b
    → look_of b.now ≡ e.element.look
element_look f k p m r b s e l h g =
    let u = placed f p (element_there f k p e) (sound_formed 8 f p.tree s) in
    let same : u.0 ≡ e.element = some_same u.0 e.element (sym u.1.found ∙ element_found f k p s e) in
    let tree : u.1.tree ≡ m = some_same u.1.tree m (sym (l ∙ u.1.live)) in
    let told = node_of_told m p.node r b h g in
    let both = some_same (as_node b.now) _ (sym told ∙ (ap (λ (t : Tree). node_at t.trees p.node) (sym tree) ∙ u.1.look)) in
    ap (λ (n : Node Look). n.known) both ∙ ap (λ (y : Placed). y.look) same

pub there_at : (ps : List Place) (k id : ℕ) (o : Option Place) → k < length ps → id ≡ k + 1 → o ≡ place_of_number ps id → is_some o ≡ true
there_at ps k id o l i h = let s = got_there ps k l in ap is_some (h ∙ (ap (place_of_number ps) (i ∙ add-one k) ∙ s.1))

-- the place of a number stands in the list
pub listed_row : (f : Forest) (ps : List Place) (k id : ℕ) (p : Place) → ps ≡ places (stitched f) → k < length ps → id ≡ k + 1 → Some p ≡ place_of_number ps id → has_place (stitched f) p ≡ true
listed_row f ps k id p e l i h = element_there f k p (element_at f ps k id p e l i h)

-- rows of the same parts
same_row : {i j : ℕ} {a b : ℕ} {c d : List ℕ} {e f : List (ℕ × Value)} {g h : Area} {p q : List ℕ} {u v : Option ℕ} → i ≡ j → a ≡ b → c ≡ d → e ≡ f → g ≡ h → p ≡ q → u ≡ v
    → ◌≡◌ {A = Option Row} (Some (record { node = record { id = i; role = a; states = c; attrs = e; rect = g; children = p }; above = u }))
    (Some (record { node = record { id = j; role = b; states = d; attrs = f; rect = h; children = q }; above = v }))
same_row x y z s t m n = rw (x, y, z, s, t, m, n) refl

pub row_done : (f : Forest) (ps : List Place) (k id : ℕ) (p : Place) (m : Tree) (r : Option (Bor NodeData)) (b : Bor NodeData) (states : List ℕ) (attrs : List (ℕ × Value)) (children : List ℕ) (above : Option ℕ) → IsSound f
    → ps ≡ places (stitched f) → k < length ps → id ≡ k + 1 → Some p ≡ place_of_number ps id → Some m ≡ live_tree f p.tree → option_copied r ≡ node m p.node → r ≡ Some b → states ≡ b.now.states
    → attrs ≡ filter_map (numbered_attr ps p.tree) b.now.attrs → children ≡ filter_map (number_of ps) (children_of (stitched f) p)
    → above ≡ option_and_then (number_of ps) (option_and_then parent_of (find_placed (stitched f) p))
    → Some (record { node = record { id = id; role = b.now.role; states = states; attrs = attrs; rect = b.now.rect; children = children }; above = above })
    ≡ option_map (λ s. row_of (stitched f) (k + 1, s)) (slice_get (stitched f) k)
unfolding combined_node numbered_look
row_done f ps k id p m r b states attrs children above s e l i h v n g st at ch ab =
    let x = element_at f ps k id p e l i h in
    let look = element_look f k p m r b s x v n g in
    let role = ap (λ (y : Look). y.role) look in
    let rect = ap (λ (y : Look). y.rect) look in
    let own_states : states ≡ x.element.look.states = st ∙ ap (λ (y : Look). y.states) look in
    let own_attrs : attrs ≡ filter_map (numbered_attr (places (stitched f)) x.element.place.tree) x.element.look.attrs =
    at ∙ (ap (λ q. filter_map (numbered_attr q p.tree) b.now.attrs) e
    ∙ (ap (λ (q : Place). filter_map (numbered_attr (places (stitched f)) q.tree) b.now.attrs) (sym x.at)
    ∙ ap (λ (y : Look). filter_map (numbered_attr (places (stitched f)) x.element.place.tree) y.attrs) look)) in
    let own_children : children ≡ filter_map (number_of (places (stitched f))) (children_of (stitched f) x.element.place) =
    ch ∙ (ap (λ q. filter_map (number_of q) (children_of (stitched f) p)) e ∙ ap (λ q. filter_map (number_of (places (stitched f))) (children_of (stitched f) q)) (sym x.at)) in
    let own_above : above ≡ option_and_then (number_of (places (stitched f))) (parent_of x.element) =
    ab ∙ (ap (λ q. option_and_then (number_of q) (option_and_then parent_of (find_placed (stitched f) p))) e ∙ ap (λ o. option_and_then (number_of (places (stitched f))) (option_and_then parent_of o)) (element_found f k p s x)) in
    same_row i role own_states own_attrs rect own_children own_above ∙ sym (ap (option_map (λ (s : Placed). row_of (stitched f) (k + 1, s))) x.got)
