-- A forest in which all premises of the laws hold, computed: one tree with a text, an empty leaf, and a node at which another tree hangs.
use Rattle.std.proofs.Common.{◌≡◌, true, eqb, [], ◌∷◌, refl, subst, arith, Option, Some, None}
use Rattle.std.specs.Prelude.{Ok}
use Rattle.std.proofs.lemmas.Bool.{false≢true, eqb-true}
use Rattle.std.proofs.lemmas.Option.{same_Some}
use Rattle.unicode_segmentation.proofs.Computing.{unicode_segmentation}
use Rattle.ax_base.specs.declared.position.Affinity.TheVariants.{Up, Down}
use Rattle.ax_base.specs.declared.position.Pos.TheVariants as positions
use Rattle.ax_base.specs.declared.position.Unit.TheVariants.{Char, Word, Leaf}
use Rattle.ax_base.specs.declared.position.Way.TheVariants.{Next, Prev}
use Rattle.ax_node.specs.declared.value.Value.TheVariants as values
use Rattle.ax_node.specs.Look.{blank_look}
use Rattle.ax_trees.specs.Trees.{bare, tree}
use Rattle.ax_trees.proofs.Trees.{by_go}
use Rattle.ax_tree.specs.Tree.{Tree, blank_data}
use Rattle.ax_tree.specs.Forest.{Forest, IsSound, IsSoundTree}
use Rattle.ax_rules.specs.Stitched as Stitched
use Rattle.ax_rules.specs.Stitched.{place_at, places, stitched, has_place}
use Rattle.ax_rules.specs.Texts as Texts
use Rattle.ax_rules.specs.Texts.{text_len, document}
use Rattle.ax_rules.specs.Positions as Positions
use Rattle.ax_rules.specs.Positions.{mark, checked, global_offset, leaf_form}
use Rattle.ax_rules.specs.Moves as Moves
use Rattle.ax_rules.specs.Moves.{bounds_of, bound_of, move_of}
use Rattle.ax_place_laws.specs.Lists.{NamesAreText}

-- 1 over 2 with the text "ab c", 3 without a name, and 4 at which the other tree hangs
upper : Tree
upper = record {
  about = blank_data 1;
  trees = tree 1 blank_look
      (tree 2 (record blank_look { attrs = (1, values.Text (97 ∷ 98 ∷ 32 ∷ 99 ∷ [])) ∷ [] }) bare
      (tree 3 blank_look bare
      (tree 4 (record blank_look { attrs = (6, values.Tree 2) ∷ [] }) bare bare))) bare;
}

-- its root has "e" with an accent of its own, which are one character of two scalars
lower : Tree
lower = record {
  about = record (blank_data 2) { parent = Some 1 };
  trees = tree 1 (record blank_look { attrs = (1, values.Text (101 ∷ 769 ∷ [])) ∷ [] }) bare bare;
}

forest : Forest
forest = record { id = 1; tree = Some upper } ∷ record { id = 2; tree = Some lower } ∷ []

-- ---- it is sound

none_some : {A : Type 0} {a : A} → ◌≡◌ {A = Option A} None (Some a) → ⊥
none_some e = absurd (cc)

upper_is_sound : IsSoundTree 1 upper
unfolding upper
upper_is_sound = record {
  well_formed = record {
    one_root = refl;
    distinct = (
      refl,
      refl,
      record { apart = λ z h. refl },
      (
        refl,
        refl,
        record { apart = λ z h. absurd (false≢true h) },
        tt,
        (
          refl,
          refl,
          record { apart = λ z h. absurd (false≢true h) },
          tt,
          (refl, refl, record { apart = λ z h. refl }, tt, tt),
        ),
      ),
      tt,
    );
  };
  low = omega arith;
  named = refl;
}

lower_is_sound : IsSoundTree 2 lower
unfolding lower
lower_is_sound = record { well_formed = record { one_root = refl; distinct = (refl, refl, record { apart = λ z h. refl }, tt, tt) }; low = omega arith; named = refl }

is_sound : IsSound forest
unfolding forest
is_sound = record {
  once = (refl, (refl, tt));
  live = λ t m e.
      by_go (eqb 1 t)
      (λ q. let own : upper ≡ m = same_Some upper m (rw q at e) in
      let id : 1 ≡ t = eqb-true 1 t q in
      subst (λ (k : Tree). IsSoundTree t k) own (subst (λ i. IsSoundTree i upper) id upper_is_sound))
      (λ q. by_go (eqb 2 t)
      (λ r. let own : lower ≡ m = same_Some lower m (rw (q, r) at e) in
      let id : 2 ≡ t = eqb-true 2 t r in
      subst (λ (k : Tree). IsSoundTree t k) own (subst (λ i. IsSoundTree i lower) id lower_is_sound))
      (λ r. absurd (none_some (rw (q, r) at e))));
}

-- ---- its places, their names, and its text

-- what is unfolded so that `refl` computes
unfoldable computing : Unit {0}
unfolding unicode_segmentation forest upper lower Stitched.stitched Stitched.find_placed Stitched.has_place Stitched.children_of Stitched.is_within Stitched.before Stitched.is_leaf Stitched.leaves Texts.joined Texts.leaves_in Texts.text_of Texts.text_len Texts.start_of Texts.document Positions.is_live Positions.child_mark Positions.text_mark Positions.mark_in Positions.checked Positions.global_offset Positions.leaf_at Positions.leaf_form Moves.bounds_of Moves.bound_after Moves.bound_before Moves.move_of
computing = tt

its_places : places (stitched forest) ≡ place_at 1 1 ∷ place_at 1 2 ∷ place_at 1 3 ∷ place_at 1 4 ∷ place_at 2 1 ∷ []
unfolding computing
its_places = refl

its_names : NamesAreText (stitched forest)
unfolding computing
its_names = (refl, (refl, (refl, (refl, (refl, tt)))))

its_document : document (stitched forest) ≡ 97 ∷ 98 ∷ 32 ∷ 99 ∷ 101 ∷ 769 ∷ []
unfolding computing
its_document = refl

-- ---- a place with its offsets, and a position before a child

there : has_place (stitched forest) (place_at 1 4) ≡ true
unfolding computing
there = refl

its_length : text_len (stitched forest) (place_at 1 4) ≡ 2
unfolding computing
its_length = refl

before_the_empty_leaf : checked forest (positions.Tree 1 1 1) ≡ Ok (mark (place_at 1 1) 4 Down)
unfolding computing
before_the_empty_leaf = refl

its_form : leaf_form (stitched forest) (place_at 1 1) 4 Down ≡ Some (positions.Text 2 1 0 Down)
unfolding computing
its_form = refl

-- ---- bounds, and moves that reach one

characters : bounds_of (stitched forest) Char ≡ 0 ∷ 1 ∷ 2 ∷ 3 ∷ 4 ∷ 4 ∷ 4 ∷ 6 ∷ []
unfolding computing
characters = refl

words : bounds_of (stitched forest) Word ≡ 0 ∷ 3 ∷ 4 ∷ []
unfolding computing
words = refl

leaves_of_it : bounds_of (stitched forest) Leaf ≡ 0 ∷ 4 ∷ 4 ∷ []
unfolding computing
leaves_of_it = refl

next_word : bound_of (stitched forest) Word Next (global_offset (stitched forest) (mark (place_at 1 2) 1 Down)) ≡ Some 3
unfolding computing
next_word = refl

previous_character : move_of (stitched forest) Char Prev (mark (place_at 2 1) 2 Up) ≡ Some (positions.Text 2 1 0 Down)
unfolding computing
previous_character = refl
