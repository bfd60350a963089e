-- Replies at a place: each refusal of a place is the rule's, and where there is none, the place stands in the list.
use Rattle.std.proofs.Common.{◌≡◌, Bool, true, false, not, cond, List, [], ◌∷◌, Option, Some, None, refl, sym, ap, ◌∙◌, option_and_then}
use Rattle.std.specs.Prelude.{ℤ, find, is_some}
use Rattle.std.specs.List.{list_any}
use Rattle.ax_base.specs.Area.{Area}
use Rattle.ax_base.specs.declared.position.Place.{Place}
use Rattle.ax_ask.specs.declared.reply.Reply.{Reply}
use Rattle.ax_ask.specs.declared.reply.Reply.TheVariants as replies
use Rattle.ax_ask.specs.declared.query.Query.TheVariants as queries
use Rattle.ax_trees.proofs.Trees.{by_go}
use Rattle.ax_tree.specs.Forest.{Forest}
use Rattle.ax_rules.specs.Stitched.{Placed, stitched, places, stands_at, find_placed, has_place, parent_of, children_of, next_in, prev_in}
use Rattle.ax_rules.specs.Extents.{place_extent}
use Rattle.ax_rules.specs.Positions.{is_live}
use Rattle.ax_run_rules.specs.Replies.{answer_of, of_place, placed_reply, place_or, bounds_or}
use Rattle.ax_query.specs.Refusals.{refusal_at}

any_found : (p : Place) (l : List Placed) → list_any (stands_at p) l ≡ is_some (find (stands_at p) l)
any_found p [] = refl
any_found p (s ∷ l) = by_go (stands_at p s) (λ q. rw q refl) (λ q. rw q (any_found p l))

has_found : (l : List Placed) (p : Place) → has_place l p ≡ is_some (find_placed l p)
unfolding has_place find_placed
has_found l p = any_found p l

none_found : {A : Type 0} (o : Option A) → false ≡ is_some o → o ≡ None
none_found None e = refl
none_found (Some x) e = absurd (cc)

some_found : {A : Type 0} (o : Option A) → true ≡ is_some o → (x : A) × (o ≡ Some x)
some_found None e = absurd (cc)
some_found (Some x) e = (x, refl)

-- what a place is refused with, by whether its tree is live and whether it is in the list
refused_by : (live there : Bool) (found : Option Placed) (reply : Placed → Reply) (r : Reply) → there ≡ is_some found
    → Some r ≡ cond (not live) (Some replies.NoTree) (cond there None (Some replies.NoNode)) → r ≡ cond live (placed_reply found reply) replies.NoTree
refused_by false there found reply r h e = cc
refused_by true true found reply r h e = absurd (cc)
refused_by true false found reply r h e = let n : found ≡ None = none_found found h in let s : r ≡ replies.NoNode = cc in s ∙ ap (λ o. placed_reply o reply) (sym n)

pub refused : (f : Forest) (p : Place) (reply : List Placed → Placed → Reply) (r : Reply) → Some r ≡ refusal_at f p → r ≡ of_place f p reply
unfolding of_place refusal_at
refused f p reply r e = refused_by (is_live f p.tree) (has_place (stitched f) p) (find_placed (stitched f) p) (reply (stitched f)) r (has_found (stitched f) p) e

allowed_by : (live there : Bool) → None ≡ cond (not live) (Some replies.NoTree) (cond there None (Some replies.NoNode)) → (live ≡ true) × (there ≡ true)
allowed_by false there e = absurd (cc)
allowed_by true false e = absurd (cc)
allowed_by true true e = (refl, refl)

allowed : (f : Forest) (p : Place) → None ≡ refusal_at f p → (is_live f p.tree ≡ true) × (has_place (stitched f) p ≡ true)
unfolding refusal_at
allowed f p e = allowed_by (is_live f p.tree) (has_place (stitched f) p) e

pub listed : (f : Forest) (p : Place) → None ≡ refusal_at f p → has_place (stitched f) p ≡ true
listed f p e = let a = allowed f p e in a.1

pub found_in : (f : Forest) (p : Place) → has_place (stitched f) p ≡ true → (s : Placed) × (find_placed (stitched f) p ≡ Some s)
found_in f p h = some_found (find_placed (stitched f) p) (sym h ∙ has_found (stitched f) p)

-- a place that isn't refused has the reply that is made of it
pub replied : (f : Forest) (p : Place) (reply : List Placed → Placed → Reply) (s : Placed) → None ≡ refusal_at f p → find_placed (stitched f) p ≡ Some s → reply (stitched f) s ≡ of_place f p reply
unfolding of_place
replied f p reply s e h = let a = allowed f p e in sym (ap (λ b. cond b (placed_reply (find_placed (stitched f) p) (reply (stitched f))) replies.NoTree) a.0 ∙ ap (λ o. placed_reply o (reply (stitched f))) h)

-- or, where it isn't made of what was found, that reply
pub replied_alike : (f : Forest) (p : Place) (reply : List Placed → Reply) → None ≡ refusal_at f p → reply (stitched f) ≡ of_place f p (λ l s. reply l)
replied_alike f p reply e = let s = found_in f p (listed f p e) in replied f p (λ l s. reply l) s.0 e s.1

-- ---- the queries

pub parent_reply : (f : Forest) (p : Place) (o : Option Place) → None ≡ refusal_at f p → o ≡ option_and_then parent_of (find_placed (stitched f) p) → place_or replies.NoParent o ≡ answer_of f (queries.Parent p)
unfolding answer_of
parent_reply f p o e h =
    let s = found_in f p (listed f p e) in
    ap (place_or replies.NoParent) (h ∙ ap (option_and_then parent_of) s.1) ∙ replied f p (λ l s. place_or replies.NoParent (parent_of s)) s.0 e s.1

pub children_reply : (f : Forest) (p : Place) (ps : List Place) → None ≡ refusal_at f p → ps ≡ children_of (stitched f) p → replies.Places ps ≡ answer_of f (queries.Children p)
unfolding answer_of
children_reply f p ps e h = ap replies.Places h ∙ replied_alike f p (λ l. replies.Places (children_of l p)) e

pub next_reply : (f : Forest) (p : Place) (o : Option Place) → None ≡ refusal_at f p → o ≡ next_in (places (stitched f)) p → place_or replies.AtEnd o ≡ answer_of f (queries.Next p)
unfolding answer_of
next_reply f p o e h = ap (place_or replies.AtEnd) h ∙ replied_alike f p (λ l. place_or replies.AtEnd (next_in (places l) p)) e

pub prev_reply : (f : Forest) (p : Place) (o : Option Place) → None ≡ refusal_at f p → o ≡ prev_in (places (stitched f)) p → place_or replies.AtStart o ≡ answer_of f (queries.Prev p)
unfolding answer_of
prev_reply f p o e h = ap (place_or replies.AtStart) h ∙ replied_alike f p (λ l. place_or replies.AtStart (prev_in (places l) p)) e

pub bounds_reply : (f : Forest) (p : Place) (a : Area) (x y w h : ℤ) → None ≡ refusal_at f p → place_extent f p ≡ Some a → x ≡ a.x → y ≡ a.y → w ≡ a.w → h ≡ a.h → replies.Bounds x y w h ≡ answer_of f (queries.Bounds p)
unfolding answer_of
bounds_reply f p a x y w h none e i j k l =
    let told : replies.Bounds x y w h ≡ bounds_or replies.NoNode (Some a) = cc in
    told ∙ (ap (bounds_or replies.NoNode) (sym e) ∙ replied_alike f p (λ q. bounds_or replies.NoNode (place_extent f p)) none)
