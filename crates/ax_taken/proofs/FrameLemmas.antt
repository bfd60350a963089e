-- The frames of a closed hub by their places, and what is put of them.
use Rattle.std.proofs.Common.{ℕ, zero, suc, ◌+◌, ◌-◌, ◌≡◌, ◌≤◌, ◌<◌, ◌==◌, true, false, List, [], ◌∷◌, ◌++◌, length, get_or, set, take, drop, flat_map, slice_get, refl, sym, ap, ◌∙◌, subst, Some, arith, append_assoc, append-nil}
use Rattle.std.proofs.lemmas.Bool.{eqb-true}
use Rattle.std.proofs.lemmas.Bool.Decides.{eqb_tells}
use Rattle.std.proofs.lemmas.List.{take_all}
use Rattle.std.proofs.lemmas.Option.{get_or_from_slice_get}
use Rattle.ax_trees.specs.Lists.{NoneTwice, contains}
use Rattle.ax_trees.proofs.Trees.{by_go}
use Rattle.ax_tree.specs.declared.packet.Packet.{Packet}
use Rattle.ax_tree.specs.declared.packet.JEntry.{JEntry}
use Rattle.ax_ask.specs.declared.op.Item.{Item}
use Rattle.ax_ask.specs.declared.op.Item.TheVariants.{Receive}
use Rattle.ax_run_rules.specs.Taken.{journal_items}
use Rattle.ax_run_laws.proofs.Found.{same_number}
use Rattle.ax_taken.specs.declared.closed.ClosedFrame.{ClosedFrame}
use Rattle.ax_taken.specs.Taking.{trees_of, IsNext, received_items, StandWithin, rest_items}
use Rattle.ax_taken.proofs.QueryLemmas.{there_of}

-- ---- a packet

module _ (frames : List ClosedFrame) (places stand : List ℕ) (p : Packet) (n : IsNext frames places stand p) where
  pub at_is : (tree : ℕ) → tree ≡ p.tree → get_or places tree 0 ≡ n.at
  at_is tree e = ap (λ t. get_or places t 0) e ∙ get_or_from_slice_get places p.tree n.at 0 n.place

  frame_is : (at : ℕ) (f : ClosedFrame) → at ≡ n.at → f ≡ get_or frames at f → f ≡ n.frame
  frame_is at f a h = h ∙ (ap (λ i. get_or frames i f) a ∙ get_or_from_slice_get frames n.at n.frame f n.framed)

  to_is : (f : ClosedFrame) (made : List ℕ) → f ≡ n.frame → made ≡ f.made → get_or made (p.pass.0 - 1) 0 ≡ n.to
  to_is f made e m = ap (λ l. get_or l (p.pass.0 - 1) 0) (m ∙ ap (λ (g : ClosedFrame). g.made) e) ∙ get_or_from_slice_get n.frame.made (p.pass.0 - 1) n.to 0 n.cut

  from_is : (at : ℕ) → at ≡ n.at → get_or stand at 0 ≡ n.from
  from_is at a = ap (λ i. get_or stand i 0) a ∙ get_or_from_slice_get stand n.at n.from 0 n.begun

  pub packet_put : (at : ℕ) (f : ClosedFrame) (made : List ℕ) (journal : List JEntry) (old now new : List Item) → at ≡ n.at → f ≡ get_or frames at f → made ≡ f.made → journal ≡ f.journal
      → now ≡ old ++ flat_map (journal_items f.tree) (drop (get_or stand at 0) (take (get_or made (p.pass.0 - 1) 0) journal)) → new ≡ now ++ Receive f.tree ∷ []
      → new ≡ old ++ received_items n.frame n.from n.to
  packet_put at f made journal old now new a h m j e g =
      let s : f ≡ n.frame = frame_is at f a h in
      let same : flat_map (journal_items f.tree) (drop (get_or stand at 0) (take (get_or made (p.pass.0 - 1) 0) journal)) ++ Receive f.tree ∷ [] ≡ received_items n.frame n.from n.to =
      ap (λ i. flat_map (journal_items f.tree) (drop i (take (get_or made (p.pass.0 - 1) 0) journal)) ++ Receive f.tree ∷ []) (from_is at a)
      ∙ (ap (λ i. flat_map (journal_items f.tree) (drop n.from (take i journal)) ++ Receive f.tree ∷ []) (to_is f made s m)
      ∙ (ap (λ l. flat_map (journal_items f.tree) (drop n.from (take n.to l)) ++ Receive f.tree ∷ []) j
      ∙ ap (λ (x : ClosedFrame). received_items x n.from n.to) s)) in
      g ∙ (ap (λ o. o ++ Receive f.tree ∷ []) e
      ∙ (append_assoc old (flat_map (journal_items f.tree) (drop (get_or stand at 0) (take (get_or made (p.pass.0 - 1) 0) journal))) (Receive f.tree ∷ [])
      ∙ ap (λ l. old ++ l) same))

  pub stand_put : (at : ℕ) (f : ClosedFrame) (made : List ℕ) → at ≡ n.at → f ≡ get_or frames at f → made ≡ f.made
      → set stand at (get_or made (p.pass.0 - 1) 0) ≡ set stand n.at n.to
  stand_put at f made a h m = ap (λ i. set stand i (get_or made (p.pass.0 - 1) 0)) a ∙ ap (set stand n.at) (to_is f made (frame_is at f a h) m)

-- ---- the rest

pub stand_size : (fs : List ClosedFrame) (ns : List ℕ) → StandWithin fs ns → length ns ≡ length fs
stand_size [] [] w = refl
stand_size [] (n ∷ ns) w = absurd w
stand_size (f ∷ fs) [] w = absurd w
stand_size (f ∷ fs) (n ∷ ns) w = ap suc (stand_size fs ns w.1)

pub stand_within : (fs : List ClosedFrame) (ns : List ℕ) (i : ℕ) (f : ClosedFrame) → StandWithin fs ns → slice_get fs i ≡ Some f → get_or ns i 0 ≤ length f.journal
stand_within [] ns i f w h = absurd (cc)
stand_within (g ∷ fs) [] i f w h = absurd w
stand_within (g ∷ fs) (n ∷ ns) zero f w h = let e : g ≡ f = cc in subst (λ (x : ClosedFrame). n ≤ length x.journal) e w.0
stand_within (g ∷ fs) (n ∷ ns) (suc i) f w h = stand_within fs ns i f w.1 h

rest_next : (fs : List ClosedFrame) (ns : List ℕ) (i : ℕ) (f : ClosedFrame) → StandWithin fs ns → slice_get fs i ≡ Some f
    → rest_items (take (suc i) fs) (take (suc i) ns) ≡ rest_items (take i fs) (take i ns) ++ flat_map (journal_items f.tree) (drop (get_or ns i 0) f.journal)
rest_next [] ns i f w h = absurd (cc)
rest_next (g ∷ fs) [] i f w h = absurd w
rest_next (g ∷ fs) (n ∷ ns) zero f w h = let e : g ≡ f = cc in append-nil (flat_map (journal_items g.tree) (drop n g.journal)) ∙ ap (λ (x : ClosedFrame). flat_map (journal_items x.tree) (drop n x.journal)) e
rest_next (g ∷ fs) (n ∷ ns) (suc i) f w h =
    ap (λ l. flat_map (journal_items g.tree) (drop n g.journal) ++ l) (rest_next fs ns i f w.1 h)
    ∙ sym (append_assoc (flat_map (journal_items g.tree) (drop n g.journal)) (rest_items (take i fs) (take i ns)) (flat_map (journal_items f.tree) (drop (get_or ns i 0) f.journal)))

pub rest_more : (fs : List ClosedFrame) (ns : List ℕ) (i : ℕ) (f : ClosedFrame) (journal : List JEntry) (old now new : List Item) → StandWithin fs ns → i < length fs → f ≡ get_or fs i f → journal ≡ f.journal
    → now ≡ old ++ rest_items (take i fs) (take i ns) → new ≡ now ++ flat_map (journal_items f.tree) (drop (get_or ns i 0) (take (length journal) journal))
    → new ≡ old ++ rest_items (take (i + 1) fs) (take (i + 1) ns)
rest_more fs ns i f journal old now new w l h j e g =
    g ∙ (ap (λ o. o ++ flat_map (journal_items f.tree) (drop (get_or ns i 0) (take (length journal) journal))) e
    ∙ (append_assoc old (rest_items (take i fs) (take i ns)) (flat_map (journal_items f.tree) (drop (get_or ns i 0) (take (length journal) journal)))
    ∙ (ap (λ y. old ++ (rest_items (take i fs) (take i ns) ++ flat_map (journal_items f.tree) (drop (get_or ns i 0) y))) (take_all (length journal) journal (omega arith) ∙ j)
    ∙ (ap (λ y. old ++ y) (sym (rest_next fs ns i f w (there_of fs i f l h)))
    ∙ ap (λ k. old ++ rest_items (take k fs) (take k ns)) (let z : suc i ≡ i + 1 = omega arith in z)))))

pub rest_done : (fs : List ClosedFrame) (ns : List ℕ) (i : ℕ) (old now : List Item) → StandWithin fs ns → length fs ≤ i → now ≡ old ++ rest_items (take i fs) (take i ns) → now ≡ old ++ rest_items fs ns
rest_done fs ns i old now w l e =
    let s = stand_size fs ns w in
    e ∙ (ap (λ x. old ++ rest_items x (take i ns)) (take_all i fs l) ∙ ap (λ x. old ++ rest_items fs x) (take_all i ns (omega (arith, s, l))))

-- ---- places by trees

pub set_here : {X : Type 0} (xs : List X) (i : ℕ) (x : X) → i < length xs → slice_get (set xs i x) i ≡ Some x
set_here [] i x h = absurd (omega arith)
set_here (y ∷ xs) zero x h = refl
set_here (y ∷ xs) (suc i) x h = set_here xs i x (omega arith)

pub set_there : {X : Type 0} (xs : List X) (i j : ℕ) (x : X) → (i ≡ j → ⊥) → slice_get (set xs i x) j ≡ slice_get xs j
set_there [] i j x h = refl
set_there (y ∷ xs) zero zero x h = absurd (h refl)
set_there (y ∷ xs) zero (suc j) x h = refl
set_there (y ∷ xs) (suc i) zero x h = refl
set_there (y ∷ xs) (suc i) (suc j) x h = set_there xs i j x (λ e. h (ap suc e))

tree_in : (fs : List ClosedFrame) (i : ℕ) (f : ClosedFrame) → slice_get fs i ≡ Some f → contains (trees_of fs) f.tree ≡ true
tree_in [] i f h = absurd (cc)
tree_in (g ∷ fs) zero f h = let e : g ≡ f = cc in let q : (g.tree == f.tree) ≡ true = ap (λ (x : ClosedFrame). x.tree == f.tree) e ∙ same_number f.tree in rw q refl
tree_in (g ∷ fs) (suc i) f h = let k = tree_in fs i f h in by_go (g.tree == f.tree) (λ q. rw q refl) (λ q. rw q k)

-- frames at two places have two trees
pub same_place : (fs : List ClosedFrame) (i j : ℕ) (f g : ClosedFrame) → NoneTwice (trees_of fs) → slice_get fs i ≡ Some f → slice_get fs j ≡ Some g → f.tree ≡ g.tree → i ≡ j
same_place [] i j f g once h k e = absurd (cc)
same_place (x ∷ fs) zero zero f g once h k e = refl
same_place (x ∷ fs) zero (suc j) f g once h k e =
    let s : x ≡ f = cc in
    let bad : false ≡ true = sym once.0 ∙ (ap (contains (trees_of fs)) (ap (λ (y : ClosedFrame). y.tree) s ∙ e) ∙ tree_in fs j g k) in absurd (cc)
same_place (x ∷ fs) (suc i) zero f g once h k e =
    let s : x ≡ g = cc in
    let bad : false ≡ true = sym once.0 ∙ (ap (contains (trees_of fs)) (ap (λ (y : ClosedFrame). y.tree) s ∙ sym e) ∙ tree_in fs i f h) in absurd (cc)
same_place (x ∷ fs) (suc i) (suc j) f g once h k e = ap suc (same_place fs i j f g once.1 h k e)

abbrev pub PlacedTo : List ClosedFrame → List ℕ → ℕ → Type 0
PlacedTo fs places i = (j : ℕ) (f : ClosedFrame) → j < i → slice_get fs j ≡ Some f → slice_get places f.tree ≡ Some j

pub place_more : (fs : List ClosedFrame) (places : List ℕ) (i tree : ℕ) (g : ClosedFrame) → NoneTwice (trees_of fs) → i < length fs → g ≡ get_or fs i g → tree ≡ g.tree → tree < length places
    → PlacedTo fs places i → PlacedTo fs (set places tree i) (i + 1)
place_more fs places i tree g once l h t w old j f k e =
    by_go (j == i)
    (λ q. let s : j ≡ i = eqb-true j i q in
    let same : Some f ≡ Some g = sym e ∙ (ap (slice_get fs) s ∙ there_of fs i g l h) in
    let frame : f ≡ g = cc in
    ap (slice_get (set places tree i)) (ap (λ (x : ClosedFrame). x.tree) frame ∙ sym t) ∙ (set_here places tree i w ∙ ap Some (sym s)))
    (λ q. let apart : j ≡ i → ⊥ = λ s. (let r : (j == i) ≡ true = ap (λ x. x == i) s ∙ same_number i in let bad : false ≡ true = sym q ∙ r in absurd (cc)) in
    let other : tree ≡ f.tree → ⊥ = λ s. apart (same_place fs j i f g once e (there_of fs i g l h) (sym s ∙ t)) in
    let before : j < i = grind (arith, eqb_tells j i) in
    set_there places tree f.tree i other ∙ old j f before e)
