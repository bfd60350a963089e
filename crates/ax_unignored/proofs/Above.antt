-- The nearest shown place above a place, step by step.
use Rattle.std.proofs.Common.{◌<◌, ◌≡◌, true, false, find, ◌∷◌, length, Some, None, refl, sym, ap, ◌∙◌, arith, option_and_then}
use Rattle.ax_base.specs.declared.position.Place.{Place}
use Rattle.ax_tree.specs.Forest.{Forest, IsSound}
use Rattle.ax_rules.specs.Stitched.{stitched, has_place, find_placed, parent_of}
use Rattle.ax_rules.specs.Unignored.{is_shown_place, shown_parent}
use Rattle.ax_stitch.specs.Levels.{line}
use Rattle.ax_stitch.proofs.Under.{placed}
use Rattle.ax_stitch.proofs.Sound.{sound_formed}
use Rattle.ax_unignored.proofs.Lines.{IsStep, step_up, step_top}

-- the nearest shown place above p is that above at
pub record Upwards (f : Forest) (p at : Place) : Type 0 where
  pub there : has_place (stitched f) at ≡ true
  pub same : option_and_then (shown_parent (stitched f)) (find_placed (stitched f) p) ≡ find (is_shown_place (stitched f)) (line 8 f at)

pub upwards_begin : (f : Forest) (p : Place) → IsSound f → has_place (stitched f) p ≡ true → Upwards f p p
unfolding shown_parent
upwards_begin f p s h =
    let r = placed f p h (sound_formed 8 f p.tree s) in
    record { there = h; same = ap (option_and_then (shown_parent (stitched f))) r.1.found ∙ ap (find (is_shown_place (stitched f))) r.1.above }

step : (f : Forest) (p at q : Place) → IsSound f → Upwards f p at → Some q ≡ option_and_then parent_of (find_placed (stitched f) at) → IsStep f at q
step f p at q s i e = step_up f at q i.there (sound_formed 8 f at.tree s) e

pub upwards_there : (f : Forest) (p at q : Place) → IsSound f → Upwards f p at → Some q ≡ option_and_then parent_of (find_placed (stitched f) at) → has_place (stitched f) q ≡ true
upwards_there f p at q s i e = (step f p at q s i e).there

pub upwards_found : (f : Forest) (p at q : Place) → IsSound f → Upwards f p at → Some q ≡ option_and_then parent_of (find_placed (stitched f) at) → is_shown_place (stitched f) q ≡ true
    → Some q ≡ option_and_then (shown_parent (stitched f)) (find_placed (stitched f) p)
upwards_found f p at q s i e v =
    let first : find (is_shown_place (stitched f)) (q ∷ line 8 f q) ≡ Some q = rw v refl in
    sym (i.same ∙ (ap (find (is_shown_place (stitched f))) (step f p at q s i e).line ∙ first))

pub upwards_on : (f : Forest) (p at q : Place) → IsSound f → Upwards f p at → Some q ≡ option_and_then parent_of (find_placed (stitched f) at) → is_shown_place (stitched f) q ≡ false → Upwards f p q
upwards_on f p at q s i e v =
    let u = step f p at q s i e in
    let first : find (is_shown_place (stitched f)) (q ∷ line 8 f q) ≡ find (is_shown_place (stitched f)) (line 8 f q) = rw v refl in
    record { there = u.there; same = i.same ∙ (ap (find (is_shown_place (stitched f))) u.line ∙ first) }

pub upwards_end : (f : Forest) (p at : Place) → IsSound f → Upwards f p at → None ≡ option_and_then parent_of (find_placed (stitched f) at) → None ≡ option_and_then (shown_parent (stitched f)) (find_placed (stitched f) p)
upwards_end f p at s i e = sym (i.same ∙ ap (find (is_shown_place (stitched f))) (step_top f at i.there (sound_formed 8 f at.tree s) e))

pub upwards_less : (f : Forest) (p at q : Place) → IsSound f → Upwards f p at → Some q ≡ option_and_then parent_of (find_placed (stitched f) at) → length (line 8 f q) < length (line 8 f at)
upwards_less f p at q s i e = let a = ap length (step f p at q s i e).line in omega (arith, a)
