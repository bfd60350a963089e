-- Replies on the shown list: a place of the list is shown where what was found of it is.
use Rattle.std.proofs.Common.{ℕ, ◌≡◌, true, false, cond, List, Option, Some, None, refl, sym, ap, ◌∙◌, option_and_then}
use Rattle.ax_base.specs.declared.position.Place.{Place}
use Rattle.ax_ask.specs.declared.reply.Reply.{Reply}
use Rattle.ax_ask.specs.declared.reply.Reply.TheVariants as replies
use Rattle.ax_ask.specs.declared.query.Query.TheVariants as queries
use Rattle.ax_trees.proofs.Trees.{by_go}
use Rattle.ax_tree.specs.Forest.{Forest, IsSound}
use Rattle.ax_rules.specs.Stitched.{Placed, stitched, stands_at, find_placed, has_place}
use Rattle.ax_rules.specs.Unignored.{is_unignored, is_shown_place, shown_parent, shown_children, shown_next, shown_prev, shown_text}
use Rattle.ax_run_rules.specs.Replies.{answer_of, of_place, place_or, if_shown}
use Rattle.ax_stitch.proofs.Hosts.{found_holds, found_passes}
use Rattle.ax_stitch.proofs.Places.{same_is}
use Rattle.ax_unignored.specs.Shows.{shows}
use Rattle.ax_unignored.proofs.Lit.{lit_placed, shown_is}
use Rattle.ax_query.specs.Refusals.{refusal_at, unless_shown, shown_refusal_at}
use Rattle.ax_query.proofs.Places.{refused, listed, found_in, replied}

-- ---- a place that is found

-- the place is shown exactly where what was found of it is
pub shown_found : (f : Forest) (p : Place) (s : Placed) → IsSound f → has_place (stitched f) p ≡ true → find_placed (stitched f) p ≡ Some s → is_shown_place (stitched f) p ≡ is_unignored s
unfolding find_placed
shown_found f p s sound h e =
    let at : s.place ≡ p = same_is s.place p (found_passes (stands_at p) (stitched f) s e) in
    let lit : is_unignored s ≡ shows f s.place = found_holds (λ (q : Placed). is_unignored q ≡ shows f q.place) (stands_at p) (stitched f) s (lit_placed f sound) e in
    shown_is f p sound h ∙ sym (lit ∙ ap (shows f) at)

-- ---- what is refused

record Allowed (f : Forest) (p : Place) (o : Option Reply) : Type 0 where
  there : None ≡ o
  shown : is_shown_place (stitched f) p ≡ true

allowed_by : (f : Forest) (p : Place) (o : Option Reply) → None ≡ unless_shown f p o → Allowed f p o
allowed_by f p (Some r) e = absurd (cc)
allowed_by f p None e = by_go (is_shown_place (stitched f) p)
    (λ q. record { there = refl; shown = q })
    (λ q. let n : ◌≡◌ {A = Option Reply} None (Some replies.Ignored) = rw q at e in absurd (cc n))

allowed : (f : Forest) (p : Place) → None ≡ shown_refusal_at f p → Allowed f p (refusal_at f p)
unfolding shown_refusal_at
allowed f p e = allowed_by f p (refusal_at f p) e

pub shown_listed : (f : Forest) (p : Place) → None ≡ shown_refusal_at f p → has_place (stitched f) p ≡ true
shown_listed f p e = let a = allowed f p e in listed f p a.there

pub shown_there : (f : Forest) (p : Place) → None ≡ shown_refusal_at f p → is_shown_place (stitched f) p ≡ true
shown_there f p e = let a = allowed f p e in a.shown

-- what the function tells of a place that is there
pub told_shown : (f : Forest) (p : Place) → refusal_at f p ≡ None → is_shown_place (stitched f) p ≡ true → None ≡ shown_refusal_at f p
unfolding shown_refusal_at
told_shown f p none e = sym (ap (unless_shown f p) none ∙ ap (λ b. cond b None (Some replies.Ignored)) e)

pub told_ignored : (f : Forest) (p : Place) → refusal_at f p ≡ None → is_shown_place (stitched f) p ≡ false → Some replies.Ignored ≡ shown_refusal_at f p
unfolding shown_refusal_at
told_ignored f p none e = sym (ap (unless_shown f p) none ∙ ap (λ b. cond b None (Some replies.Ignored)) e)

pub told_refused : (f : Forest) (p : Place) (r : Reply) → Some r ≡ refusal_at f p → Some r ≡ shown_refusal_at f p
unfolding shown_refusal_at
told_refused f p r e = ap (unless_shown f p) e

refused_by : (f : Forest) (p : Place) (o : Option Reply) (reply : List Placed → Placed → Reply) (r : Reply) → IsSound f → refusal_at f p ≡ o → Some r ≡ unless_shown f p o
    → r ≡ of_place f p (λ l s. if_shown s (reply l s))
refused_by f p (Some q) reply r sound e h = let same : Some r ≡ refusal_at f p = h ∙ sym e in refused f p (λ l s. if_shown s (reply l s)) r same
refused_by f p None reply r sound e h =
    let there : has_place (stitched f) p ≡ true = listed f p (sym e) in
    let s = found_in f p there in
    by_go (is_shown_place (stitched f) p)
    (λ q. let n : ◌≡◌ {A = Option Reply} (Some r) None = rw q at h in absurd (cc n))
    (λ q.
    let n : ◌≡◌ {A = Option Reply} (Some r) (Some replies.Ignored) = rw q at h in
    let is : r ≡ replies.Ignored = cc n in
    let u : is_unignored s.0 ≡ false = sym (shown_found f p s.0 sound there s.1) ∙ q in
    is ∙ (sym (ap (λ b. cond b (reply (stitched f) s.0) replies.Ignored) u) ∙ replied f p (λ l t. if_shown t (reply l t)) s.0 (sym e) s.1))

pub shown_refused : (f : Forest) (p : Place) (reply : List Placed → Placed → Reply) (r : Reply) → IsSound f → Some r ≡ shown_refusal_at f p → r ≡ of_place f p (λ l s. if_shown s (reply l s))
unfolding shown_refusal_at
shown_refused f p reply r sound e = refused_by f p (refusal_at f p) reply r sound refl e

-- a shown place has the reply that is made of it
pub shown_replied : (f : Forest) (p : Place) (reply : List Placed → Placed → Reply) (s : Placed) → IsSound f → None ≡ shown_refusal_at f p → find_placed (stitched f) p ≡ Some s
    → reply (stitched f) s ≡ of_place f p (λ l t. if_shown t (reply l t))
shown_replied f p reply s sound e h =
    let a = allowed f p e in
    let u : is_unignored s ≡ true = sym (shown_found f p s sound (listed f p a.there) h) ∙ a.shown in
    sym (ap (λ b. cond b (reply (stitched f) s) replies.Ignored) u) ∙ replied f p (λ l t. if_shown t (reply l t)) s a.there h

shown_alike : (f : Forest) (p : Place) (reply : List Placed → Reply) → IsSound f → None ≡ shown_refusal_at f p → reply (stitched f) ≡ of_place f p (λ l t. if_shown t (reply l))
shown_alike f p reply sound e = let s = found_in f p (shown_listed f p e) in shown_replied f p (λ l t. reply l) s.0 sound e s.1

-- ---- the queries

pub parent_reply : (f : Forest) (p : Place) (o : Option Place) → IsSound f → None ≡ shown_refusal_at f p → o ≡ option_and_then (shown_parent (stitched f)) (find_placed (stitched f) p)
    → place_or replies.NoParent o ≡ answer_of f (queries.UParent p)
unfolding answer_of
parent_reply f p o sound e h =
    let s = found_in f p (shown_listed f p e) in
    ap (place_or replies.NoParent) (h ∙ ap (option_and_then (shown_parent (stitched f))) s.1) ∙ shown_replied f p (λ l t. place_or replies.NoParent (shown_parent l t)) s.0 sound e s.1

pub children_reply : (f : Forest) (p : Place) (ps : List Place) → IsSound f → None ≡ shown_refusal_at f p → ps ≡ shown_children (stitched f) p → replies.Places ps ≡ answer_of f (queries.UChildren p)
unfolding answer_of
children_reply f p ps sound e h = ap replies.Places h ∙ shown_alike f p (λ l. replies.Places (shown_children l p)) sound e

pub next_reply : (f : Forest) (p : Place) (o : Option Place) → IsSound f → None ≡ shown_refusal_at f p → o ≡ shown_next (stitched f) p → place_or replies.AtEnd o ≡ answer_of f (queries.UNext p)
unfolding answer_of
next_reply f p o sound e h = ap (place_or replies.AtEnd) h ∙ shown_alike f p (λ l. place_or replies.AtEnd (shown_next l p)) sound e

pub prev_reply : (f : Forest) (p : Place) (o : Option Place) → IsSound f → None ≡ shown_refusal_at f p → o ≡ shown_prev (stitched f) p → place_or replies.AtStart o ≡ answer_of f (queries.UPrev p)
unfolding answer_of
prev_reply f p o sound e h = ap (place_or replies.AtStart) h ∙ shown_alike f p (λ l. place_or replies.AtStart (shown_prev l p)) sound e

pub text_reply : (f : Forest) (p : Place) (t : List ℕ) → IsSound f → None ≡ shown_refusal_at f p → t ≡ shown_text (stitched f) p → replies.Text t ≡ answer_of f (queries.UText p)
unfolding answer_of
text_reply f p t sound e h = ap replies.Text h ∙ shown_alike f p (λ l. replies.Text (shown_text l p)) sound e
